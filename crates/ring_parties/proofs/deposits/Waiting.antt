-- Links that wait for a member, as if they had come to its door: which it would pick first, and whether it would have one to take from.
use Rattle.std.proofs.Common.{◌≡◌, ℕ, zero, suc, ◌+◌, Bool, true, false, cond, not, nat_eq, nat_lt, nat_le, List, [], ◌∷◌, ◌++◌, drop, length, map, Option, Some, None, is_some, refl, sym, ap, ◌∙◌, arith}
use Rattle.std.specs.Prelude.{◌&&◌, ◌||◌, position, option_map, slice_get}
use Rattle.std.specs.List.{filter, position_or_len}
use Rattle.std.proofs.lemmas.Bool.{false≢true, lt-ltb, or_right}
use Rattle.ring_names.specs.declared.reason.Reason.{Reason}
use Rattle.ring_names.specs.declared.reason.Reason.TheVariants as reason
use Rattle.ordered_link.specs.declared.ring.RingIn.{RingIn}
use Rattle.group_view.specs.declared.link.LinkName.{LinkName}
use Rattle.group_view.specs.Link.{is_ring}
use Rattle.group_view.specs.View.{Group}
use Rattle.ring_rules.specs.Refusal.{refuse_if, or_else}
use Rattle.ring_rules.specs.Machine.{is_waiting}
use Rattle.ring_rules.specs.View.{left_of}
use Rattle.ring_rules.specs.Event.{is_stopped, version_refusal}
use Rattle.ring_rules.proofs.rings.Rounds.{nat_eq-is}
use Rattle.registrar.specs.declared.waiting_link.WaitingLink.{WaitingLink}
use Rattle.registrar.specs.Asked.{is_left, since_in, waits_from}
use Rattle.activity.specs.declared.packet.Load.{Load}
use Rattle.gm_member.specs.Held.{Held, Incoming, door_at, on_some, up_refused, pick_refused, first_at_door, is_for, stays}
use Rattle.gm_member.specs.Questions.{has_link}
use Rattle.gm_member.proofs.DoorLists.{lt_suc}
use Rattle.ring_parties.specs.Parties.{Deposit, deposit_shown, no_deposit}
use Rattle.ring_parties.specs.Acting.{waits_at, received}
use Rattle.ring_parties.specs.Refused.{with_deposits, comes_for, first_for}

-- ---- the first that passes

position_cons : {A : Type 0} (p : A → Bool) (x : A) (xs : List A) → position p (x ∷ xs) ≡ cond (p x) (Some 0) (option_map (λ i. i + 1) (position p xs))
position_cons p x xs = by_case (p x)
  where
    n : ℕ
    n = position_or_len p xs

    inside : (b : Bool) → cond b (Some (suc n)) None ≡ option_map (λ i. i + 1) (cond b (Some n) None)
    inside true = ap Some (omega arith)
    inside false = refl

    by_case : (b : Bool) → cond (nat_lt (cond (not b) (1 + n) 0) (suc (length xs))) (Some (cond (not b) (1 + n) 0)) None ≡ cond b (Some 0) (option_map (λ i. i + 1) (cond (nat_lt n (length xs)) (Some n) None))
    by_case true = ap (λ c. cond c (Some 0) None) (lt-ltb 0 (suc (length xs)) (omega arith))
    by_case false =
        let more : 1 + n ≡ suc n = omega arith in
        rw more (ap (λ c. cond c (Some (suc n)) None) (lt_suc n (length xs)) ∙ inside (nat_lt n (length xs)))

module _ (v : Group) (x : ℕ) where
  -- why none of these is picked
  abbrev pub picked_of : List Incoming → Option Reason
  picked_of ds = on_some (position (is_for v x) ds) reason.NoLinkAtDoor (λ i. version_refusal (door_at ds i).opened v.version)

  picked_cons : (l : Incoming) (ds : List Incoming) → picked_of (l ∷ ds) ≡ cond (is_for v x l) (version_refusal l.opened v.version) (picked_of ds)
  picked_cons l ds = ap (λ o. on_some o reason.NoLinkAtDoor (λ i. version_refusal (door_at (l ∷ ds) i).opened v.version)) (position_cons (is_for v x) l ds) ∙ by_case (is_for v x l) (position (is_for v x) ds)
    where
      by_case : (b : Bool) (o : Option ℕ) → on_some (cond b (Some 0) (option_map (λ i. i + 1) o)) reason.NoLinkAtDoor (λ i. version_refusal (door_at (l ∷ ds) i).opened v.version)
          ≡ cond b (version_refusal l.opened v.version) (on_some o reason.NoLinkAtDoor (λ i. version_refusal (door_at ds i).opened v.version))
      by_case true o = refl
      by_case false None = refl
      by_case false (Some i) =
          let next : i + 1 ≡ suc i = omega arith in
          ap (λ k. version_refusal (door_at (l ∷ ds) k).opened v.version) next

  -- those behind count where none passes before
  picked_append : (ds es : List Incoming) → picked_of (ds ++ es) ≡ cond (is_some (position (is_for v x) ds)) (picked_of ds) (picked_of es)
  picked_append [] es = refl
  picked_append (l ∷ ds) es = picked_cons l (ds ++ es) ∙ by_case (is_for v x l) refl (picked_append ds es)
    where
      some_suc : (o : Option ℕ) → is_some (option_map (λ i. i + 1) o) ≡ is_some o
      some_suc None = refl
      some_suc (Some i) = refl

      by_case : (b : Bool) → is_for v x l ≡ b → picked_of (ds ++ es) ≡ cond (is_some (position (is_for v x) ds)) (picked_of ds) (picked_of es)
          → cond b (version_refusal l.opened v.version) (picked_of (ds ++ es)) ≡ cond (is_some (position (is_for v x) (l ∷ ds))) (picked_of (l ∷ ds)) (picked_of es)
      by_case true e ih =
          let at : position (is_for v x) (l ∷ ds) ≡ Some 0 = position_cons (is_for v x) l ds ∙ ap (λ b. cond b (Some 0) (option_map (λ i. i + 1) (position (is_for v x) ds))) e in
          let here : picked_of (l ∷ ds) ≡ version_refusal l.opened v.version = picked_cons l ds ∙ ap (λ b. cond b (version_refusal l.opened v.version) (picked_of ds)) e in
          sym (ap (λ o. cond (is_some o) (picked_of (l ∷ ds)) (picked_of es)) at ∙ here)
      by_case false e ih =
          let at : is_some (position (is_for v x) (l ∷ ds)) ≡ is_some (position (is_for v x) ds) = ap is_some (position_cons (is_for v x) l ds ∙ ap (λ b. cond b (Some 0) (option_map (λ i. i + 1) (position (is_for v x) ds))) e) ∙ some_suc (position (is_for v x) ds) in
          let here : picked_of (l ∷ ds) ≡ picked_of ds = picked_cons l ds ∙ ap (λ b. cond b (version_refusal l.opened v.version) (picked_of ds)) e in
          ih ∙ sym (ap (λ b. cond b (picked_of (l ∷ ds)) (picked_of es)) at ∙ ap (λ p. cond (is_some (position (is_for v x) ds)) p (picked_of es)) here)

-- ---- the links that wait

-- those that come to the door of one that holds h
abbrev pub arriving : Held → List Deposit → List Incoming
arriving h ps = filter (stays h.view h.id) (map (received h) (filter (waits_at h.id) ps))

-- one that is kept wherever it would be picked
picked_kept : (v : Group) (x : ℕ) (l : Incoming) (ds : List Incoming) (keeps : Bool) → (is_for v x l ≡ true → keeps ≡ true) → picked_of v x (cond keeps (l ∷ ds) ds) ≡ cond (is_for v x l) (version_refusal l.opened v.version) (picked_of v x ds)
picked_kept v x l ds true h = picked_cons v x l ds
picked_kept v x l ds false h = by_case (is_for v x l) refl
  where
    by_case : (b : Bool) → is_for v x l ≡ b → picked_of v x ds ≡ cond b (version_refusal l.opened v.version) (picked_of v x ds)
    by_case true e = absurd (false≢true (h e))
    by_case false e = refl

picked_arriving : (h : Held) (ps : List Deposit) → picked_of h.view h.id (arriving h ps) ≡ on_some (first_for h ps) reason.NoLinkAtDoor (λ opened. version_refusal opened h.view.version)
picked_arriving h [] = refl
picked_arriving h (d ∷ ps) = by_waits (waits_at h.id d) (picked_arriving h ps)
  where
    l : Incoming
    l = received h d

    later : Option ℕ → Option Reason
    later o = on_some o reason.NoLinkAtDoor (λ opened. version_refusal opened h.view.version)

    by_for : (c : Bool) (o : Option ℕ) → cond c (version_refusal d.name.view h.view.version) (later o) ≡ later (cond c (Some d.name.view) o)
    by_for true o = refl
    by_for false o = refl

    by_waits : (b : Bool) → picked_of h.view h.id (arriving h ps) ≡ later (first_for h ps)
        → picked_of h.view h.id (filter (stays h.view h.id) (map (received h) (cond b (d ∷ filter (waits_at h.id) ps) (filter (waits_at h.id) ps))))
        ≡ later (cond (b && is_for h.view h.id l) (Some d.name.view) (first_for h ps))
    by_waits true ih =
        picked_kept h.view h.id l (arriving h ps) (stays h.view h.id l) (or_right (nat_lt h.view.version l.opened) (is_for h.view h.id l))
        ∙ ap (cond (is_for h.view h.id l) (version_refusal d.name.view h.view.version)) ih
        ∙ by_for (is_for h.view h.id l) (first_for h ps)
    by_waits false ih = ih

-- ---- why the member picks none

-- the conditions before the door
abbrev pub pick_conditions : Bool → Bool → Bool → Bool → Option Reason → Option Reason
pick_conditions stopped waiting asks takes later =
    or_else (refuse_if stopped reason.Stopped) (or_else (refuse_if waiting reason.Waiting) (or_else (refuse_if asks reason.AwaitingAnswer) (or_else (refuse_if takes reason.HasCurrentLink) later)))

-- nothing is refused before the door where that has none
door_last : (a b c d : Bool) (door waits : Option Reason) → pick_conditions a b c d door ≡ Some reason.NoLinkAtDoor → (pick_conditions a b c d waits ≡ waits) × (d ≡ false) × (door ≡ Some reason.NoLinkAtDoor)
door_last true b c d door waits e = cc
door_last false true c d door waits e = cc
door_last false false true d door waits e = cc
door_last false false false true door waits e = cc
door_last false false false false door waits e = (refl, refl, e)

-- a link that is there may only be too new
not_too_new : (need have : ℕ) → version_refusal need have ≡ Some reason.NoLinkAtDoor → ⊥
not_too_new need have = by_test (nat_lt have need)
  where
    by_test : (b : Bool) → refuse_if b (reason.ViewTooOld need have) ≡ Some reason.NoLinkAtDoor → ⊥
    by_test true e = cc
    by_test false e = cc

not_there : (v : Group) (x : ℕ) (ds : List Incoming) → picked_of v x ds ≡ Some reason.NoLinkAtDoor → position (is_for v x) ds ≡ None
not_there v x ds e = by_place (position (is_for v x) ds) e
  where
    by_place : (o : Option ℕ) → on_some o reason.NoLinkAtDoor (λ i. version_refusal (door_at ds i).opened v.version) ≡ Some reason.NoLinkAtDoor → o ≡ None
    by_place None k = refl
    by_place (Some i) k = absurd (not_too_new (door_at ds i).opened v.version k)

-- where the door has none, it is by those that wait
pub none_at_door : (h : Held) (ps : List Deposit) → pick_refused h ≡ Some reason.NoLinkAtDoor → pick_refused (with_deposits h ps) ≡ on_some (first_for h ps) reason.NoLinkAtDoor (λ opened. version_refusal opened h.view.version)
none_at_door h ps e =
    let parts = door_last (is_stopped h.phase) (is_waiting h.phase) h.asks (is_some h.current) (picked_of h.view h.id h.door) (picked_of h.view h.id (h.door ++ arriving h ps)) e in
    parts.0
    ∙ picked_append h.view h.id h.door (arriving h ps)
    ∙ ap (λ o. cond (is_some o) (picked_of h.view h.id h.door) (picked_of h.view h.id (arriving h ps))) (not_there h.view h.id h.door parts.2)
    ∙ picked_arriving h ps

-- else by the door alone
pub some_at_door : (h : Held) (ps : List Deposit) → (pick_refused h ≡ Some reason.NoLinkAtDoor → ⊥) → pick_refused (with_deposits h ps) ≡ pick_refused h
some_at_door h ps ne = by_conditions (is_stopped h.phase) (is_waiting h.phase) h.asks (is_some h.current) ne
  where
    door : Option Reason
    door = picked_of h.view h.id h.door

    there : (door ≡ Some reason.NoLinkAtDoor → ⊥) → picked_of h.view h.id (h.door ++ arriving h ps) ≡ door
    there n = picked_append h.view h.id h.door (arriving h ps) ∙ by_place (position (is_for h.view h.id) h.door) refl
      where
        by_place : (o : Option ℕ) → position (is_for h.view h.id) h.door ≡ o → cond (is_some o) door (picked_of h.view h.id (arriving h ps)) ≡ door
        by_place (Some i) e = refl
        by_place None e = absurd (n (ap (λ o. on_some o reason.NoLinkAtDoor (λ i. version_refusal (door_at h.door i).opened h.view.version)) e))

    by_conditions : (a b c d : Bool) → (pick_conditions a b c d door ≡ Some reason.NoLinkAtDoor → ⊥) → pick_conditions a b c d (picked_of h.view h.id (h.door ++ arriving h ps)) ≡ pick_conditions a b c d door
    by_conditions true b c d n = refl
    by_conditions false true c d n = refl
    by_conditions false false true d n = refl
    by_conditions false false false true n = refl
    by_conditions false false false false n = there n

-- ---- whether it has a link to take from

has_none : (k : Held) → pick_refused k ≡ Some reason.NoLinkAtDoor → has_link k ≡ false
has_none k e =
    let parts = door_last (is_stopped k.phase) (is_waiting k.phase) k.asks (is_some k.current) (picked_of k.view k.id k.door) None e in
    ap (λ b. b || is_some (first_at_door k)) parts.1 ∙ ap is_some (not_there k.view k.id k.door parts.2)

has_some : (k : Held) → up_refused k None ≡ None → (pick_refused k ≡ Some reason.NoLinkAtDoor → ⊥) → has_link k ≡ true
has_some k up ne = by_conditions (is_stopped k.phase) (is_waiting k.phase) k.asks (is_some k.current) (first_at_door k) up ne
  where
    by_conditions : (a b c d : Bool) (o : Option ℕ) → or_else (refuse_if a reason.Stopped) (or_else (refuse_if b reason.Waiting) (or_else (refuse_if c reason.AwaitingAnswer) None)) ≡ None
        → (pick_conditions a b c d (on_some o reason.NoLinkAtDoor (λ i. version_refusal (door_at k.door i).opened k.view.version)) ≡ Some reason.NoLinkAtDoor → ⊥) → (d || is_some o) ≡ true
    by_conditions true b c d o e n = cc
    by_conditions false true c d o e n = cc
    by_conditions false false true d o e n = cc
    by_conditions false false false true o e n = refl
    by_conditions false false false false (Some i) e n = refl
    by_conditions false false false false None e n = absurd (n refl)

-- by what the pick is refused for
pub link_is : (k : Held) (none : Bool) → up_refused k None ≡ None → (none ≡ true → pick_refused k ≡ Some reason.NoLinkAtDoor) → (none ≡ false → pick_refused k ≡ Some reason.NoLinkAtDoor → ⊥) → not none ≡ has_link k
link_is k true up lacks has = sym (has_none k (lacks refl))
link_is k false up lacks has = sym (has_some k up (has refl))

-- it has where one waits that it may take from
waiting_has : (h : Held) (ps : List Deposit) → is_some (first_for h ps) ≡ true → has_link (with_deposits h ps) ≡ true
waiting_has h ps e = by_door (is_some h.current) (position (is_for h.view h.id) (h.door ++ arriving h ps)) refl
  where
    there : (o : Option ℕ) → is_some o ≡ true → on_some o reason.NoLinkAtDoor (λ opened. version_refusal opened h.view.version) ≡ Some reason.NoLinkAtDoor → ⊥
    there None k n = cc
    there (Some opened) k n = not_too_new opened h.view.version n

    never : picked_of h.view h.id (h.door ++ arriving h ps) ≡ Some reason.NoLinkAtDoor → ⊥
    never n = by_place (position (is_for h.view h.id) h.door) refl (sym (picked_append h.view h.id h.door (arriving h ps)) ∙ n)
      where
        by_place : (o : Option ℕ) → position (is_for h.view h.id) h.door ≡ o → cond (is_some o) (picked_of h.view h.id h.door) (picked_of h.view h.id (arriving h ps)) ≡ Some reason.NoLinkAtDoor → ⊥
        by_place (Some i) k m = let none : Some i ≡ None = sym k ∙ not_there h.view h.id h.door m in cc
        by_place None k m = there (first_for h ps) e (sym (picked_arriving h ps) ∙ m)

    by_door : (b : Bool) (o : Option ℕ) → position (is_for h.view h.id) (h.door ++ arriving h ps) ≡ o → (b || is_some o) ≡ true
    by_door true o k = refl
    by_door false (Some i) k = refl
    by_door false None k = absurd (never (ap (λ o. on_some o reason.NoLinkAtDoor (λ i. version_refusal (door_at (h.door ++ arriving h ps) i).opened h.view.version)) k))

-- so where the registrar knows of one from its left neighbour, it has one by its own word
pub registrar_waits : (h : Held) (d : ℕ) (ls : List (WaitingLink (RingIn Load))) (behind : List Deposit) → is_left h.view h.id d ≡ true
    → (has_link (with_deposits h (map deposit_shown ls ++ behind)) || waits_from ls d h.id (since_in h.view h.id)) ≡ has_link (with_deposits h (map deposit_shown ls ++ behind))
registrar_waits h d ls behind left = by_has (has_link (with_deposits h (map deposit_shown ls ++ behind))) (waits_from ls d h.id (since_in h.view h.id)) refl (λ w. waiting_has h (map deposit_shown ls ++ behind) (first ls w))
  where
    by_has : (b c : Bool) → has_link (with_deposits h (map deposit_shown ls ++ behind)) ≡ b → (c ≡ true → has_link (with_deposits h (map deposit_shown ls ++ behind)) ≡ true) → (b || c) ≡ b
    by_has true c e k = refl
    by_has false true e k = absurd (false≢true (sym e ∙ k refl))
    by_has false false e k = refl

    not_first : (kind from to since at : Bool) → (from ≡ true → at ≡ true) → (to && (at && since)) ≡ false → (kind && (from && (to && since))) ≡ false
    not_first false from to since at k e = refl
    not_first true false to since at k e = refl
    not_first true true false since at k e = refl
    not_first true true true since true k e = e
    not_first true true true since false k e = absurd (false≢true (k refl))

    at_left : (from : ℕ) → nat_eq from d ≡ true → nat_eq from (left_of h.view h.id) ≡ true
    at_left from e = ap (λ n. nat_eq n (left_of h.view h.id)) (nat_eq-is from d e) ∙ left

    first : (xs : List (WaitingLink (RingIn Load))) → waits_from xs d h.id (since_in h.view h.id) ≡ true → is_some (first_for h (map deposit_shown xs ++ behind)) ≡ true
    first [] w = cc
    first (a ∷ xs) w = by_first (comes_for h (deposit_shown a)) refl (first xs)
      where
        by_first : (b : Bool) → comes_for h (deposit_shown a) ≡ b → (waits_from xs d h.id (since_in h.view h.id) ≡ true → is_some (first_for h (map deposit_shown xs ++ behind)) ≡ true)
            → is_some (cond b (Some a.name.view) (first_for h (map deposit_shown xs ++ behind))) ≡ true
        by_first true e ih = refl
        by_first false e ih =
            ih (sym (ap (λ b. b || waits_from xs d h.id (since_in h.view h.id))
            (not_first (is_ring a.name.kind) (nat_eq a.name.from.0 d) (nat_eq a.name.to.0 h.id) (nat_le (since_in h.view h.id) a.name.view) (nat_eq a.name.from.0 (left_of h.view h.id)) (at_left a.name.from.0) e)) ∙ w)

-- ---- the first of those at the registrar, from a place on

pub first_here : (h : Held) (ls : List (WaitingLink (RingIn Load))) (place : ℕ) (name : LinkName) → option_map (λ s. s.name) (slice_get ls place) ≡ Some name
    → first_for h (drop place (map deposit_shown ls)) ≡ cond (comes_for h (no_deposit name)) (Some name.view) (first_for h (drop (place + 1) (map deposit_shown ls)))
first_here h [] place name e = cc
first_here h (a ∷ ls) zero name e =
    let is : a.name ≡ name = cc in
    ap (λ n. cond (comes_for h (no_deposit n)) (Some n.view) (first_for h (map deposit_shown ls))) is
first_here h (a ∷ ls) (suc k) name e =
    let next : suc k + 1 ≡ suc (k + 1) = omega arith in
    first_here h ls k name e ∙ ap (λ n. cond (comes_for h (no_deposit name)) (Some name.view) (first_for h (drop n (map deposit_shown (a ∷ ls))))) (sym next)

-- behind those, where none is there
pub first_behind : (h : Held) (ps qs : List Deposit) → first_for h (ps ++ qs) ≡ cond (is_some (first_for h ps)) (first_for h ps) (first_for h qs)
first_behind h [] qs = refl
first_behind h (d ∷ ps) qs = by_first (comes_for h d) (first_behind h ps qs)
  where
    by_first : (b : Bool) → first_for h (ps ++ qs) ≡ cond (is_some (first_for h ps)) (first_for h ps) (first_for h qs)
        → cond b (Some d.name.view) (first_for h (ps ++ qs)) ≡ cond (is_some (cond b (Some d.name.view) (first_for h ps))) (cond b (Some d.name.view) (first_for h ps)) (first_for h qs)
    by_first true ih = refl
    by_first false ih = ih
