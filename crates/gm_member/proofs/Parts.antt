-- The parts of a state that make up what a member holds.
use Rattle.std.proofs.Common.{◌≡◌, ◌≢◌, ℕ, ◌+◌, ◌<◌, Bool, true, false, cond, not, nat_eq, nat_le, max, List, [], ◌∷◌, length, map, Option, Some, None, refl, sym, ap, ◌∙◌, ⊎_elim}
use Rattle.std.specs.Prelude.{◌&&◌, option_map, slice_index_or}
use Rattle.std.specs.List.{filter, range_with_len}
use Rattle.std.proofs.lemmas.Bool.{cases_eq, false≢true}
use Rattle.std.proofs.lemmas.List.{length-set, get_or-set_same}
use Rattle.credit_flow.specs.Credit.{Counted}
use Rattle.group_view.specs.Since.{no_group}
use Rattle.group_view.specs.View.{Group, entry_in}
use Rattle.ring_rules.specs.declared.phase.Ending.{Ending}
use Rattle.ring_rules.specs.declared.phase.Phase.{Phase}
use Rattle.activity.specs.Kept.{Kept}
use Rattle.ring_rules.specs.View.{left_by}
use Rattle.ring_rules.specs.Machine.{World, Member, Link, no_link, no_member, row_at, numbers_at, member_at, link_at, view_in}
use Rattle.ring_rules.specs.OpenLinks.{is_place, is_current, passes}
use Rattle.ring_rules.specs.Step.{size, log_of, with_member, with_link, ended, end_out}
use Rattle.ring_rules.proofs.events.Leaves.{member_leaves}
use Rattle.ring_rules.proofs.rings.Maps.{map-range_same}
use Rattle.ring_rules.proofs.rings.Lists.{at_set}
use Rattle.ring_rules.proofs.rings.Rounds.{nat_eq-is, nat_eq-same}
use Rattle.gm_member.specs.Packets.{places}
use Rattle.gm_member.specs.Held.{Held, Outgoing, Incoming}
use Rattle.gm_member.specs.Stands.{kept_by, last_sent_in, held_in, outgoing_in, incoming_in, waits_for, door_in}

-- ---- what a member holds

-- what is kept of each origin by one that is y
abbrev pub known_by : World → Member → List Kept
known_by w y = map (λ p. kept_by (log_of w (p + 1)) (row_at y (p + 1))) places

-- the same, where the logs are the same
pub known_same : (w w' : World) (y : Member) → ((p : ℕ) → log_of w' p ≡ log_of w p) → known_by w' y ≡ known_by w y
unfolding places
known_same w w' y e = map-range_same (λ p. kept_by (log_of w' (p + 1)) (row_at y (p + 1))) (λ p. kept_by (log_of w (p + 1)) (row_at y (p + 1))) 64 (λ p _. ap (λ ms. kept_by ms (row_at y (p + 1))) (e (p + 1)))

-- a member is written that has the log that it had
pub log_written : (w : World) (x : ℕ) (y : Member) → y.log ≡ (member_at w x).log → (p : ℕ) → log_of (with_member w x y) p ≡ log_of w p
log_written w x y e p = member_leaves (λ _ a b. b.log ≡ a.log) w x y e (λ _. refl) p

abbrev pub held_from : ℕ → List ℕ → Phase → Group → List Kept → Option Outgoing → Option Incoming → List Incoming → ℕ → ℕ → Held
held_from x name phase view known out current door initial more = record {
  id = x;
  name = name;
  phase = phase;
  view = view;
  known = known;
  out = out;
  current = current;
  door = door;
  asks = false;
  initial = initial;
  more = more;
}

-- of one that is y in the ring, and keeps this
abbrev pub held_by : ℕ → Member → List Kept → Group → Option Outgoing → Option Incoming → List Incoming → ℕ → ℕ → Held
held_by x y known v out current door initial more = held_from x y.name y.phase v known out current door initial more

-- by what it keeps, its view, its links and its door
pub held_same : (x : ℕ) (y : Member) (known known' : List Kept) (v v' : Group) (out out' : Option Outgoing) (current current' : Option Incoming) (door door' : List Incoming) (initial more : ℕ) → known ≡ known' → v ≡ v' → out ≡ out' → current ≡ current' → door ≡ door' → held_by x y known v out current door initial more ≡ held_by x y known' v' out' current' door' initial more
held_same x y known known' v v' out out' current current' door door' initial more ek ev eo ec ed =
    ap (λ k. held_by x y k v out current door initial more) ek
    ∙ ap (λ k. held_by x y known' k out current door initial more) ev
    ∙ ap (λ k. held_by x y known' v' k current door initial more) eo
    ∙ ap (λ k. held_by x y known' v' out' k door initial more) ec
    ∙ ap (λ k. held_by x y known' v' out' current' k initial more) ed

-- by what stands at its id, on its links and at its door
pub held_is : (w : World) (x : ℕ) (y : Member) (known : List Kept) (out : Option Outgoing) (current : Option Incoming) (door : List Incoming) → member_at w x ≡ y → known_by w y ≡ known → option_map (outgoing_in w) y.out ≡ out → option_map (incoming_in w) y.current ≡ current → door_in w x ≡ door
    → held_in w x ≡ held_from x y.name y.phase (view_in w y.version) known out current door w.initial w.more
held_is w x y known out current door ey ek eo ec ed =
    ap (λ (z : Member). held_by x z (known_by w z) (view_in w z.version) (option_map (outgoing_in w) z.out) (option_map (incoming_in w) z.current) (door_in w x) w.initial w.more) ey
    ∙ held_same x y (known_by w y) known (view_in w y.version) (view_in w y.version) (option_map (outgoing_in w) y.out) out (option_map (incoming_in w) y.current) current (door_in w x) door w.initial w.more ek refl eo ec ed

-- ---- what a link shows its receiver

pub record Seen : Type 0 where
  pub from : ℕ
  pub to : ℕ
  pub opened : ℕ
  pub over : Bool
  pub counted : Counted

abbrev pub seen : Link → Seen
seen l = record { from = l.sender; to = l.receiver; opened = l.opened; over = l.over; counted = l.flow.receiver }

abbrev pub incoming_seen : Seen → Incoming
incoming_seen a = record { from = a.from; opened = a.opened; counted = a.counted }

-- whether it stands open to x at its door, where x takes from this link and has the view of this version
abbrev pub waits_seen : List Group → Option ℕ → ℕ → ℕ → ℕ → Seen → Bool
waits_seen vs current version x s a =
    (nat_eq a.to x && (not (is_place current s) && not a.over))
    && (nat_eq a.from (left_by vs (max version a.opened) x) && nat_le (entry_in (slice_index_or vs (max version a.opened) no_group).entries x).since a.opened)

no_second : (a b c d : Bool) → b ≡ false → ((a && (b && c)) && d) ≡ false
no_second true b c d e = rw e refl
no_second false b c d e = refl

no_third : (a b c d : Bool) → c ≡ false → ((a && (b && c)) && d) ≡ false
no_third true true c d e = rw e refl
no_third true false c d e = refl
no_third false b c d e = refl

no_first : (a b c d : Bool) → a ≡ false → ((a && (b && c)) && d) ≡ false
no_first a b c d e = rw e refl

-- the link that x takes from doesn't stand at its door
pub current_waits_not : (w : World) (x s : ℕ) → (member_at w x).current ≡ Some s → waits_for w x s ≡ false
current_waits_not w x s e = no_second _ _ _ _ (ap (λ c. not (is_place c s)) e ∙ ap not (nat_eq-same s))

-- nor does one that was taken to its end
pub over_waits_not : (w : World) (x s : ℕ) → (link_at w s).over ≡ true → waits_for w x s ≡ false
over_waits_not w x s e = no_third _ _ _ _ (ap not e)

-- nor one to somebody else
pub other_waits_not : (w : World) (x s : ℕ) → (link_at w s).receiver ≢ x → waits_for w x s ≡ false
other_waits_not w x s ne = no_first (nat_eq (link_at w s).receiver x) (not (is_current w x s)) (not (link_at w s).over) (passes w x (link_at w s)) (not_same (nat_eq (link_at w s).receiver x) refl)
  where
    not_same : (b : Bool) → nat_eq (link_at w s).receiver x ≡ b → b ≡ false
    not_same true e = absurd (ne (nat_eq-is (link_at w s).receiver x e))
    not_same false e = refl

-- ---- the door

map_filtered : {A : Type 0} (f g : ℕ → A) (p q : ℕ → Bool) (xs : List ℕ) → ((j : ℕ) → q j ≡ p j) → ((j : ℕ) → p j ≡ true → g j ≡ f j) → map g (filter q xs) ≡ map f (filter p xs)
map_filtered f g p q [] hp hf = refl
map_filtered f g p q (x ∷ xs) hp hf =
    ap (λ b. map g (cond b (x ∷ filter q xs) (filter q xs))) (hp x) ∙ by_case (p x) refl (map_filtered f g p q xs hp hf)
  where
    by_case : (b : Bool) → p x ≡ b → map g (filter q xs) ≡ map f (filter p xs) → map g (cond b (x ∷ filter q xs) (filter q xs)) ≡ map f (cond b (x ∷ filter p xs) (filter p xs))
    by_case true e ih = ap (λ y. y ∷ map g (filter q xs)) (hf x e) ∙ ap (λ ys. f x ∷ ys) ih
    by_case false e ih = ih

-- the same links stand there, and look the same
pub door_same : (w w' : World) (x : ℕ) → length w'.links ≡ length w.links → ((j : ℕ) → waits_for w' x j ≡ waits_for w x j) → ((j : ℕ) → waits_for w x j ≡ true → incoming_in w' j ≡ incoming_in w j) → door_in w' x ≡ door_in w x
door_same w w' x many waits looks =
    ap (λ n. map (incoming_in w') (filter (waits_for w' x) (range_with_len 0 n))) many
    ∙ map_filtered (incoming_in w) (incoming_in w') (waits_for w x) (waits_for w' x) (range_with_len 0 (length w.links)) waits looks

-- where one that isn't there alone changes
pub door_but : (w w' : World) (x s : ℕ) → length w'.links ≡ length w.links → waits_for w x s ≡ false → waits_for w' x s ≡ false → ((j : ℕ) → j ≢ s → (waits_for w' x j ≡ waits_for w x j) × (incoming_in w' j ≡ incoming_in w j)) → door_in w' x ≡ door_in w x
door_but w w' x s many not_there nor_then other = door_same w w' x many
    (λ j. ⊎_elim
    (λ (is : j ≡ s). ap (waits_for w' x) is ∙ nor_then ∙ sym not_there ∙ sym (ap (waits_for w x) is))
    (λ (ne : j ≢ s). (other j ne).0)
    (cases_eq j s))
    (λ j here. ⊎_elim
    (λ (is : j ≡ s). absurd (false≢true (sym not_there ∙ sym (ap (waits_for w x) is) ∙ here)))
    (λ (ne : j ≢ s). (other j ne).1)
    (cases_eq j s))

-- a written link shows the same
pub seen_same : (w : World) (s j : ℕ) (l : Link) → s < length w.links → seen l ≡ seen (link_at w s) → seen (link_at (with_link w s l) j) ≡ seen (link_at w j)
seen_same w s j l lt e = at_set (λ i a. seen a ≡ seen (link_at w i)) w.links s j l no_link lt e (λ _. refl)

-- ---- where all links show the same

-- what is there shows the same
pub there_same : {A : Type 0} (f g : ℕ → A) (o : Option ℕ) → ((k : ℕ) → o ≡ Some k → f k ≡ g k) → option_map f o ≡ option_map g o
there_same f g None h = refl
there_same f g (Some k) h = ap (λ a. Some a) (h k refl)

-- the link that is taken from
pub current_same : (w w' : World) (c : Option ℕ) → ((j : ℕ) → seen (link_at w' j) ≡ seen (link_at w j)) → option_map (incoming_in w') c ≡ option_map (incoming_in w) c
current_same w w' c e = there_same (incoming_in w') (incoming_in w) c (λ j _. ap incoming_seen (e j))

-- whether a link waits, by what it shows
pub waits_same : (w w' : World) (x j : ℕ) → w'.views ≡ w.views → (member_at w' x).current ≡ (member_at w x).current → (member_at w' x).version ≡ (member_at w x).version → seen (link_at w' j) ≡ seen (link_at w j) → waits_for w' x j ≡ waits_for w x j
waits_same w w' x j vs c v e =
    ap (λ us. waits_seen us (member_at w' x).current (member_at w' x).version x j (seen (link_at w' j))) vs
    ∙ ap (λ k. waits_seen w.views k (member_at w' x).version x j (seen (link_at w' j))) c
    ∙ ap (λ n. waits_seen w.views (member_at w x).current n x j (seen (link_at w' j))) v
    ∙ ap (waits_seen w.views (member_at w x).current (member_at w x).version x j) e

-- the door
pub door_still : (w w' : World) (x : ℕ) → length w'.links ≡ length w.links → w'.views ≡ w.views → (member_at w' x).current ≡ (member_at w x).current → (member_at w' x).version ≡ (member_at w x).version → ((j : ℕ) → seen (link_at w' j) ≡ seen (link_at w j)) → door_in w' x ≡ door_in w x
door_still w w' x many vs c v e = door_same w w' x many (λ j. waits_same w w' x j vs c v (e j)) (λ j _. ap incoming_seen (e j))

-- ---- what a link shows its sender

abbrev pub outgoing_of : Link → Outgoing
outgoing_of l = record {
  to = l.receiver;
  opened = l.opened;
  fresh = l.sending.fresh;
  last_sent = map (λ p. last_sent_in (numbers_at l.sending.sent (p + 1))) places;
  credit = l.flow.sender;
}

-- a written link shows the same
pub outgoing_same : (w : World) (s j : ℕ) (l : Link) → s < length w.links → outgoing_of l ≡ outgoing_of (link_at w s) → outgoing_of (link_at (with_link w s l) j) ≡ outgoing_of (link_at w j)
outgoing_same w s j l lt e = at_set (λ i a. outgoing_of a ≡ outgoing_of (link_at w i)) w.links s j l no_link lt e (λ _. refl)

-- ---- writes

-- a member is written that takes from the same link, and has the same view; it keeps this then
pub written_held : (w : World) (x : ℕ) (y : Member) (known : List Kept) → x < size w → known_by (with_member w x y) y ≡ known → y.current ≡ (member_at w x).current → y.version ≡ (member_at w x).version
    → held_in (with_member w x y) x ≡ held_by x y known (view_in w y.version) (option_map (outgoing_in w) y.out) (option_map (incoming_in w) y.current) (door_in w x) w.initial w.more
written_held w x y known lt k c v =
    let w' : World = with_member w x y in
    let now : member_at w' x ≡ y = get_or-set_same w.members x y no_member lt in
    held_is w' x y known (option_map (outgoing_in w) y.out) (option_map (incoming_in w) y.current) (door_in w x) now k refl refl
    (door_still w w' x refl refl (ap (λ (z : Member). z.current) now ∙ c) (ap (λ (z : Member). z.version) now ∙ v) (λ j. refl))

-- a link is written that shows its receiver the same, and also its sender, where that is y
pub link_held : (w : World) (o y : ℕ) (l : Link) → o < length w.links → seen l ≡ seen (link_at w o) → ((j : ℕ) → (member_at w y).out ≡ Some j → outgoing_of (link_at (with_link w o l) j) ≡ outgoing_of (link_at w j))
    → held_in w y ≡ held_in (with_link w o l) y
link_held w o y l lt shows out =
    let w' : World = with_link w o l in
    let h = held_in w y in
    let same : (j : ℕ) → seen (link_at w' j) ≡ seen (link_at w j) = λ j. seen_same w o j l lt shows in
    sym (held_is w' y (member_at w y) h.known h.out h.current h.door refl refl
    (there_same (outgoing_in w') (outgoing_in w) (member_at w y).out out)
    (current_same w w' (member_at w y).current same)
    (door_still w w' y (length-set w.links o l) refl refl refl same))

-- a link ends, where there is one
pub still_held : (why : Ending) (w : World) (o : Option ℕ) (y : ℕ) → ((k : ℕ) → o ≡ Some k → k < length w.links) → held_in w y ≡ held_in (end_out why w o) y
still_held why w None y lt = refl
still_held why w (Some o) y lt =
    let l : Link = ended why (link_at w o) in
    link_held w o y l (lt o refl) refl (λ j _. outgoing_same w o j l (lt o refl) refl)
