-- What is told of a list, one more after another.
use Rattle.std.proofs.Common.{◌≡◌, ℕ, ◌+◌, ◌<◌, List, [], ◌∷◌, ◌++◌, length, take, get_or, bytes_eq, sym, ap, ◌∙◌, arith, append_assoc, Bor}
use Rattle.std.specs.List.{flat_map, filter, range_with_len}
use Rattle.std.proofs.lemmas.List.{flat_map_more, map-id, map-append, take_more}
use Rattle.std.proofs.lemmas.List.FromFn.{map-range_with_len_more}
use Rattle.std.proofs.lemmas.List.Elements.{filter-append}
use Rattle.std.proofs.lemmas.Grind.{flat_map-append}
use Rattle.ring_rules.specs.declared.event.Event.{Event}
use Rattle.ring_rules.specs.Event.{by_of, is_refusal, refusals_of}
use Rattle.ring_rules.specs.declared.shown.Counts.{Counts}
use Rattle.ring_rules.specs.declared.shown.MemberState.{MemberState}
use Rattle.ring_rules.specs.Machine.{World, member_at}
use Rattle.ring_rules.specs.Asked.{counts_of}
use Rattle.group_view.specs.View.{Group, entry_in}
use Rattle.ring_report.specs.Lent.{lent_in}
use Rattle.ring_report.specs.Report.{name_of, newest_view, member_line, counts_lines, heard_lines, item_lines, while_up, stands_at, refusal_line, refusal_lines, lines_of_member}

-- the numbers from a on, and the next one
range_more : (a n k : ℕ) → a + n ≡ k → range_with_len a (n + 1) ≡ range_with_len a n ++ k ∷ []
range_more a n k e = sym (map-id (range_with_len a (n + 1))) ∙ map-range_with_len_more (λ x. x) a n k e ∙ ap (λ xs. xs ++ k ∷ []) (map-id (range_with_len a n))

-- the text of the ids up to n, and that of the next one
pub ids_more : {A : Type 0} (f : ℕ → List A) (before : List A) (n : ℕ) → (before ++ flat_map f (range_with_len 1 n)) ++ f (n + 1) ≡ before ++ flat_map f (range_with_len 1 (n + 1))
ids_more f before n = flat_map_more f before (range_with_len 1 n) (n + 1) ∙ ap (λ ns. before ++ flat_map f ns) (sym (range_more 1 n (n + 1) (omega arith)))

-- ---- refusals

-- one event more among those that are lent
lent_more : (events : List (Bor Event)) (e : Bor Event) → lent_in (events ++ e ∷ []) ≡ lent_in events ++ e.now ∷ []
lent_more events e = map-append (λ (e : Bor Event). e.now) events (e ∷ [])

-- the refusals among the first k events, and the next one
pub refusals_more : (events told : List Event) (k : ℕ) (e : Event) → k < length events → e ≡ get_or events k e → told ≡ refusals_of (take k events) ++ refusals_of (e ∷ [])
    → told ≡ refusals_of (take (k + 1) events)
refusals_more events told k e l is h =
    h ∙ sym (filter-append is_refusal (take k events) (e ∷ []))
    ∙ ap refusals_of (ap (λ x. take k events ++ x ∷ []) is ∙ sym (take_more events k e l))

-- the lines of refusals and of one more
lines_more : (name : List ℕ) (es : List Event) (e : Event) → refusal_lines name (es ++ e ∷ []) ≡ refusal_lines name es ++ refusal_lines name (e ∷ [])
lines_more name es e =
    ap (flat_map refusal_line) (filter-append (λ e. bytes_eq (by_of e) name) es (e ∷ []))
    ∙ flat_map-append refusal_line (filter (λ e. bytes_eq (by_of e) name) es) (filter (λ e. bytes_eq (by_of e) name) (e ∷ []))

-- the lines of the first k refusals behind others, and those of the next one
pub told_more : (name before told more : List ℕ) (refusals : List (Bor Event)) (k : ℕ) (e : Bor Event) → k < length refusals → e ≡ get_or refusals k e
    → told ≡ before ++ refusal_lines name (lent_in (take k refusals)) → more ≡ told ++ refusal_lines name (e.now ∷ [])
    → more ≡ before ++ refusal_lines name (lent_in (take (k + 1) refusals))
told_more name before told more refusals k e l is so here =
    here ∙ ap (λ t. t ++ refusal_lines name (e.now ∷ [])) so
    ∙ append_assoc before (refusal_lines name (lent_in (take k refusals))) (refusal_lines name (e.now ∷ []))
    ∙ ap (λ t. before ++ t)
    (sym (lines_more name (lent_in (take k refusals)) e.now)
    ∙ ap (refusal_lines name) (sym (lent_more (take k refusals) e) ∙ ap lent_in (ap (λ x. take k refusals ++ x ∷ []) is ∙ sym (take_more refusals k e l))))

-- ---- one member

-- five pieces pushed one after another
pub joined : {A : Type 0} (old a b c d e first second third fourth fifth : List A) → first ≡ old ++ a → second ≡ first ++ b → third ≡ second ++ c → fourth ≡ third ++ d → fifth ≡ fourth ++ e
    → fifth ≡ old ++ (a ++ b ++ c ++ d ++ e)
joined old a b c d e first second third fourth fifth fa fb fc fd fe =
    simp append_assoc
    (fe ∙ ap (λ xs. xs ++ e) fd ∙ ap (λ xs. (xs ++ d) ++ e) fc ∙ ap (λ xs. ((xs ++ c) ++ d) ++ e) fb ∙ ap (λ xs. (((xs ++ b) ++ c) ++ d) ++ e) fa ∙ simp append_assoc)

-- what is pushed for the member x is what the report says of it
pub lines_stand : (w : World) (refusals : List Event) (x : ℕ) (name : List ℕ) (g : Group) (stands : MemberState) (counts : Counts) (old named counted heard held refused : List ℕ)
    → name ≡ name_of w x → g ≡ newest_view w → stands ≡ stands_at w x → counts ≡ counts_of x (member_at w x)
    → named ≡ old ++ member_line name stands (entry_in g.entries x)
    → counted ≡ named ++ counts_lines counts
    → heard ≡ counted ++ while_up stands (heard_lines w x)
    → held ≡ heard ++ while_up stands (item_lines (member_at w x).mirror.queue.items)
    → refused ≡ held ++ refusal_lines name refusals
    → refused ≡ old ++ lines_of_member w refusals x
lines_stand w refusals x name g stands counts old named counted heard held refused n v s k a b c d e =
    let items = item_lines (member_at w x).mirror.queue.items in
    joined old (member_line (name_of w x) (stands_at w x) (entry_in (newest_view w).entries x)) (counts_lines (counts_of x (member_at w x)))
    (while_up (stands_at w x) (heard_lines w x)) (while_up (stands_at w x) items) (refusal_lines (name_of w x) refusals) named counted heard held refused
    (a ∙ ap (λ m. old ++ member_line m stands (entry_in g.entries x)) n ∙ ap (λ f. old ++ member_line (name_of w x) f (entry_in g.entries x)) s
    ∙ ap (λ u. old ++ member_line (name_of w x) (stands_at w x) (entry_in u.entries x)) v)
    (b ∙ ap (λ l. named ++ counts_lines l) k)
    (c ∙ ap (λ f. counted ++ while_up f (heard_lines w x)) s)
    (d ∙ ap (λ f. heard ++ while_up f items) s)
    (e ∙ ap (λ m. held ++ refusal_lines m refusals) n)
