-- What a take brings a mirror is the same by the messages that a member takes and by the rows of the ring.
use Rattle.std.proofs.Common.{◌≡◌, ℕ, zero, suc, ◌+◌, ◌-◌, ◌<◌, ◌≤◌, max, Bool, true, false, cond, List, [], ◌++◌, length, map, take, drop, get_or, flat_map, Some, refl, sym, ap, ◌∙◌, ⊎_elim, arith, append_assoc, append-nil}
use Rattle.std.specs.List.{range_with_len}
use Rattle.std.proofs.lemmas.Bool.{cases_lt}
use Rattle.std.proofs.lemmas.List.{drop_all, drop_more, drop-take, get_or_past, length-take-le, take_all}
use Rattle.std.proofs.lemmas.List.Concat.{flat_map-append}
use Rattle.queue_core.specs.declared.message.Message.{Message}
use Rattle.queue_laws.specs.Part.{ops_of, ops}
use Rattle.ring_rules.specs.declared.numbers.Numbers.{Numbers}
use Rattle.ring_rules.specs.declared.phase.Phase.{Phase}
use Rattle.ring_rules.specs.declared.phase.Phase.TheVariants.{Waiting, Up, Stopped}
use Rattle.ring_rules.specs.Rows.{Row, brought, messages_between}
use Rattle.ring_rules.specs.Machine.{World, row_at, numbers_at, member_at, link_at, view_in, is_waiting, oldest}
use Rattle.ring_rules.specs.Step.{size, log_of, is_owned, brought_at, news_of}
use Rattle.gm_member.specs.declared.taken.Taken.{Taken}
use Rattle.gm_member.specs.News.{no_message, taken_at, taken_of}
use Rattle.gm_member.specs.Stands.{taken_below, taken_in}
use Rattle.gm_member.proofs.Facts.{log_past}
use Rattle.gm_member.proofs.Fit.{IsFit}
use Rattle.ring_parties.specs.Keeps.{ops_taken}

-- ---- one origin

-- a message beyond the log brings nothing
beyond : (p a : ℕ) (log : List Message) → length log ≤ a → ops_of (taken_at p 0 log a).message ≡ []
beyond p a log ge = let same : a - 0 ≡ a = omega arith in ap (λ k. ops_of (get_or log k no_message)) same ∙ ap ops_of (get_or_past log a no_message ge)

-- so many messages behind a number bring what stands there in the log
ops_behind : (p a n : ℕ) (log : List Message) → ops_taken (map (taken_at p 0 log) (range_with_len a n)) ≡ ops (take n (drop a log))
ops_behind p a zero log = refl
ops_behind p a (suc n) log = ⊎_elim
    (λ (lt : a < length log).
    let first : a - 0 ≡ a = omega arith in
    ap (λ k. ops_of (get_or log k no_message) ++ ops_taken (map (taken_at p 0 log) (range_with_len (a + 1) n))) first
    ∙ ap (λ os. ops_of (get_or log a no_message) ++ os) (ops_behind p (a + 1) n log)
    ∙ sym (ap (λ ms. ops (take (suc n) ms)) (drop_more log a no_message lt)))
    (λ (ge : length log ≤ a).
    let less : length log ≤ a + 1 = omega arith in
    ap (λ os. os ++ ops_taken (map (taken_at p 0 log) (range_with_len (a + 1) n))) (beyond p a log ge)
    ∙ ops_behind p (a + 1) n log
    ∙ ap (λ ms. ops (take n ms)) (drop_all (a + 1) log less)
    ∙ ap ops (take_all n [] (omega arith))
    ∙ sym (ap (λ ms. ops (take (suc n) ms)) (drop_all a log ge)))
    (cases_lt a (length log))

-- as the ring counts them
between_is : (a b : ℕ) (log : List Message) → messages_between a b log ≡ take (b - a) (drop a log)
between_is a b log = ⊎_elim
    (λ (lt : a < b).
    let upto : b ≡ a + (b - a) = omega arith in
    ap (λ n. drop a (take n log)) upto ∙ drop-take a (b - a) log)
    (λ (ge : b ≤ a).
    let none : b - a ≡ 0 = omega arith in
    drop_all a (take b log) (short b log a ge) ∙ sym (ap (λ n. take n (drop a log)) none))
    (cases_lt a b)
  where
    short : (b : ℕ) (log : List Message) (a : ℕ) → b ≤ a → length (take b log) ≤ a
    short b log a le = ⊎_elim
        (λ (lt : length log < b). let all : length (take b log) ≡ length log = ap length (take_all b log (omega arith)) in omega arith)
        (λ (ge : b ≤ length log). let all : length (take b log) ≡ b = length-take-le b log ge in omega arith)
        (cases_lt (length log) b)

-- what numbers bring of an origin
origin_brings : (own : Bool) (p : ℕ) (log : List Message) (r : Row) (k : Numbers) → ops_taken (taken_of own p log r.got k) ≡ ops (brought own log r k)
origin_brings true p log r k = refl
origin_brings false p log r k = ops_behind p (max k.lo r.got) (k.got - max k.lo r.got) log ∙ ap ops (sym (between_is (max k.lo r.got) k.got log))

-- nothing of one with an empty log
silent : (own : Bool) (log : List Message) (r : Row) (k : Numbers) → log ≡ [] → ops (brought own log r k) ≡ []
silent true log r k e = refl
silent false log r k e =
    ap (λ ms. ops (messages_between (max k.lo r.got) k.got ms)) e
    ∙ ap (λ ms. ops (drop (max k.lo r.got) ms)) (take_all k.got [] (omega arith))
    ∙ ap ops (drop_all (max k.lo r.got) [] (omega arith))

-- ---- several origins

-- lists one after another, and one more
flat_more : {A : Type 0} (f : ℕ → List A) (a n j : ℕ) → a + n ≡ j → flat_map f (range_with_len a n) ++ f j ≡ flat_map f (range_with_len a (suc n))
flat_more f a zero j e = let same : j ≡ a = omega arith in ap f same ∙ sym (append-nil (f a))
flat_more f a (suc n) j e =
    append_assoc (f a) (flat_map f (range_with_len (a + 1) n)) (f j)
    ∙ ap (λ xs. f a ++ xs) (flat_more f (a + 1) n j (omega arith))

-- empty ones
flat_nothing : {A : Type 0} (f : ℕ → List A) (a n : ℕ) → ((p : ℕ) → a ≤ p → f p ≡ []) → flat_map f (range_with_len a n) ≡ []
flat_nothing f a zero h = refl
flat_nothing f a (suc n) h = ap (λ xs. xs ++ flat_map f (range_with_len (a + 1) n)) (h a (omega arith)) ∙ flat_nothing f (a + 1) n (λ p le. h p (omega arith))

-- where all beyond a number are empty, it doesn't matter how far they go
flat_upto : {A : Type 0} (f : ℕ → List A) (a n m : ℕ) → n ≤ m → ((p : ℕ) → a + n ≤ p → f p ≡ []) → flat_map f (range_with_len a m) ≡ flat_map f (range_with_len a n)
flat_upto f a zero m le h = flat_nothing f a m (λ p ge. h p (omega arith))
flat_upto f a (suc n) zero le h = absurd (omega arith)
flat_upto f a (suc n) (suc m) le h = ap (λ xs. f a ++ xs) (flat_upto f (a + 1) n m (omega arith) (λ p ge. h p (omega arith)))

-- what the messages at the places below a number bring
below_brings : (n : ℕ) (w : World) (x s : ℕ) → ops_taken (taken_below n w x s) ≡ flat_map (brought_at w x s) (range_with_len 1 n)
below_brings zero w x s = refl
below_brings (suc p) w x s =
    let own : Bool = is_owned (view_in w (member_at w x).version) x (link_at w s).sender (p + 1) in
    let r : Row = row_at (member_at w x) (p + 1) in
    let k : Numbers = numbers_at (oldest (link_at w s)) (p + 1) in
    flat_map-append (λ (t : Taken). ops_of t.message) (taken_below p w x s) (taken_of own p (log_of w (p + 1)) r.got k)
    ∙ ap (λ os. os ++ ops_taken (taken_of own p (log_of w (p + 1)) r.got k)) (below_brings p w x s)
    ∙ ap (λ os. flat_map (brought_at w x s) (range_with_len 1 p) ++ os) (origin_brings own p (log_of w (p + 1)) r k)
    ∙ flat_more (brought_at w x s) 1 p (p + 1) (omega arith)

-- ---- a member

-- who doesn't wait
not_waiting : (f : Phase) → (f ≡ Waiting → ⊥) → is_waiting f ≡ false
not_waiting Waiting ne = absurd (ne refl)
not_waiting Up ne = refl
not_waiting Stopped ne = refl

-- the messages that a take brings a member have the operations that it brings its mirror
pub brings : (w : World) (x s : ℕ) → IsFit w → ((member_at w x).phase ≡ Waiting → ⊥)
    → ops_taken (taken_in w (Some s) x) ≡ news_of (size w) (is_owned (view_in w (member_at w x).version) x (link_at w s).sender) (log_of w) (member_at w x) (oldest (link_at w s))
brings w x s f acts =
    ap (λ b. ops_taken (cond b [] (taken_below 64 w x s))) (not_waiting (member_at w x).phase acts)
    ∙ below_brings 64 w x s
    ∙ sym (ap (λ os. os ++ flat_map (brought_at w x s) (range_with_len 1 64)) (nothing 0 f.nobody))
    ∙ flat_upto (brought_at w x s) 0 (size w) 65 f.few (λ p ge. nothing p (log_past w p (omega arith)))
  where
    nothing : (p : ℕ) → log_of w p ≡ [] → brought_at w x s p ≡ []
    nothing p e = silent (is_owned (view_in w (member_at w x).version) x (link_at w s).sender p) (log_of w p) (row_at (member_at w x) p) (numbers_at (oldest (link_at w s)) p) e
