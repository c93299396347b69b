-- The link on which a member sends has it as its sender, and the one from which it takes has it as its receiver, also where it has stopped.
use Rattle.std.proofs.Common.{◌≢◌, ◌≡◌, ℕ, ◌+◌, ◌<◌, true, nat_eq, List, [], ◌∷◌, ◌++◌, length, Some, None, refl, sym, ap, subst, ◌∙◌, arith}
use Rattle.std.proofs.lemmas.Bool.{and_parts}
use Rattle.std.proofs.lemmas.List.{length-set, length_push, get_or_append_left, get_or_push}
use Rattle.std.proofs.lemmas.List.Quantifiers.{position-Some}
use Rattle.ring_names.specs.declared.numbers.CreditSpec.{CreditSpec}
use Rattle.group_view.specs.Change.{AreOpeningNames, marked}
use Rattle.ring_rules.specs.Act.{Act, refusal, effect, IsRun, last}
use Rattle.ring_rules.specs.View.{right_of}
use Rattle.ring_rules.specs.declared.phase.Ending.TheVariants.{Moved, Halted}
use Rattle.ring_rules.specs.Machine.{Member, Link, World, no_link, no_member, member_at, link_at, view_in, newest, runs, runs_phase, is_kept, oldest}
use Rattle.ring_rules.specs.Step.{copied, size, published, taker, popped, pushed, next_packet, current_is, with_current, finished, ended, stop_at, stopped, with_member, with_link, with_view, look_at, moved_to, open_to, opened_link, opening, opening_member, come_to, begun}
use Rattle.ring_rules.specs.Event.{at_door, is_at_door, refreshed, erased_view, synced_view}
use Rattle.ring_rules.proofs.rings.Lists.{at_set}
use Rattle.ring_rules.proofs.rings.Rounds.{nat_eq-is}
use Rattle.ring_rules.proofs.events.Cases.{Cases, each_act}
use Rattle.ring_rules.proofs.events.Composed.{end_composed, refresh_composed}
use Rattle.ring_rules.proofs.invariants.KeptLook.{kept_current-Some}
use Rattle.ring_rules.proofs.invariants.Opening.{opening_inv}
use Rattle.ring_rules.proofs.invariants.Happens.{IsGood, run_acts, opening_good, admit_composed, can_join, joined_links}
use Rattle.ring_rules.proofs.invariants.KeptAdmit.{CanJoin, join_member, joined_state}
use Rattle.ring_rules.proofs.events.First.{first_at, first_each}
use Rattle.ring_rules.proofs.events.Leaves.{with_opened}

pub record OwnEnds (w : World) : Type 0 where
  pub out : (x o : ℕ) → (member_at w x).out ≡ Some o → (o < length w.links) × ((link_at w o).sender ≡ x)
  pub current : (x s : ℕ) → (member_at w x).current ≡ Some s → (s < length w.links) × ((link_at w s).receiver ≡ x)

-- nobody else sends on the link on which x sends
pub other_out : (w : World) (x y o j : ℕ) → OwnEnds w → (member_at w x).out ≡ Some o → (member_at w y).out ≡ Some j → y ≢ x → j ≢ o
other_out w x y o j h ex ey ne same = ne (sym (h.out y j ey).1 ∙ ap (λ k. (link_at w k).sender) same ∙ (h.out x o ex).1)

-- one member's part
pub record Owns (w : World) (x : ℕ) (y : Member) : Type 0 where
  pub out : (o : ℕ) → y.out ≡ Some o → (o < length w.links) × ((link_at w o).sender ≡ x)
  pub current : (s : ℕ) → y.current ≡ Some s → (s < length w.links) × ((link_at w s).receiver ≡ x)

own_of : (w : World) (x : ℕ) → OwnEnds w → Owns w x (member_at w x)
own_of w x h = record { out = h.out x; current = h.current x }

-- ---- what is written

-- a member
set_owns : (w : World) (x : ℕ) (y : Member) → x < size w → Owns w x y → OwnEnds w → OwnEnds (with_member w x y)
set_owns w x y lt here h =
    let each : (q : ℕ) → Owns w q (member_at (with_member w x y) q) = λ q. at_set (λ k z. Owns w k z) w.members x q y no_member lt here (λ _. own_of w q h) in
    record { out = λ q o e. (each q).out o e; current = λ q s e. (each q).current s e }

-- a link
link_owns : (w : World) (s : ℕ) (l : Link) → s < length w.links → l.sender ≡ (link_at w s).sender → l.receiver ≡ (link_at w s).receiver → OwnEnds w → OwnEnds (with_link w s l)
link_owns w s l lt from to h = record {
  out = λ x o e. let k = h.out x o e in (omega (arith, length-set w.links s l, k.0), at_set (λ j a. a.sender ≡ (link_at w j).sender) w.links s o l no_link lt from (λ _. refl) ∙ k.1);
  current = λ x j e. let k = h.current x j e in (omega (arith, length-set w.links s l, k.0), at_set (λ i a. a.receiver ≡ (link_at w i).receiver) w.links s j l no_link lt to (λ _. refl) ∙ k.1);
}

-- a link more
opened_owns : (w : World) (l : Link) → OwnEnds w → OwnEnds (with_opened w l)
opened_owns w l h =
    let more : length (w.links ++ l ∷ []) ≡ length w.links + 1 = length_push w.links l in
    let old : (j : ℕ) → j < length w.links → link_at (with_opened w l) j ≡ link_at w j = λ j jl. get_or_append_left w.links (l ∷ []) no_link j jl in
    record {
      out = λ y o e. let k = h.out y o e in (omega (arith, k.0), ap (λ a. a.sender) (old o k.0) ∙ k.1);
      current = λ y s e. let k = h.current y s e in (omega (arith, k.0), ap (λ a. a.receiver) (old s k.0) ∙ k.1);
    }

-- on which its sender sends
open_owns : (w : World) (x z : ℕ) → x < size w → OwnEnds w → OwnEnds (open_to w x z)
open_owns w x z lt h =
    let new : Link = opened_link w x z in
    let more : length (w.links ++ new ∷ []) ≡ length w.links + 1 = length_push w.links new in
    set_owns (with_opened w new) x (record (member_at w x) { out = Some (length w.links) }) lt
    (record {
      out = λ o e. let is : length w.links ≡ o = cc in (omega arith, ap (λ a. a.sender) (get_or_push w.links new no_link o is));
      current = (opened_owns w new h).current x;
    }) (opened_owns w new h)

-- a refresh
refreshed_owns : (w : World) (x v : ℕ) → x < size w → OwnEnds w → OwnEnds (refreshed w x v)
refreshed_owns w x v lt h =
    let w1 : World = look_at w x v in
    let many : length w1.members ≡ length w.members = length-set w.members x (moved_to w x v) in
    refresh_composed OwnEnds w x v
    (λ k e g. link_owns w1 k (ended Moved (link_at w1 k)) (h.out x k e).0 refl refl g)
    (λ u same g. open_owns u x (right_of (view_in w v) x) (omega (arith, lt, many, ap length same)) g)
    (set_owns w x (moved_to w x v) lt (record { out = h.out x; current = λ s e. h.current x s (kept_current-Some (λ t. is_kept w (link_at w t) v) (member_at w x).current s e).0 }) h)

-- who has come sends on no link, and takes from the one that opens
joined_owns : (w : World) (m : ℕ) (name : List ℕ) → CanJoin w m → OwnEnds w → OwnEnds (joined_state w m name)
joined_owns w m name j h = record {
  out = λ x o. join_member w m name j x (λ i a. a.out ≡ Some o → (o < length w1.links) × ((link_at w1 o).sender ≡ i))
      (λ a out current e. let both : Some (length w.links) ≡ Some o = sym out ∙ e in let is : length w.links ≡ o = cc in subst (λ k. (k < length w1.links) × ((link_at w1 k).sender ≡ m)) is (there, ap (λ (k : Link). k.sender) here))
      (λ e. cc) (λ _ _ e. h1.out x o e) (λ _ e. cc);
  current = λ y s. join_member w m name j y (λ i a. a.current ≡ Some s → (s < length w1.links) × ((link_at w1 s).receiver ≡ i))
      (λ a out current e. h1.current m s (current s e))
      (λ e. let is : length w.links ≡ s = cc in subst (λ k. (k < length w1.links) × ((link_at w1 k).receiver ≡ size w)) is (there, ap (λ (k : Link). k.receiver) here))
      (λ _ _ e. h1.current y s e) (λ _ e. cc);
}
  where
    l : Link
    l = opened_link (look_at (come_to w m name) m (newest w + 1)) m (size w)

    w1 : World
    w1 = with_opened w l

    there : length w.links < length w1.links
    there = omega (arith, length_push w.links l)

    here : link_at w1 (length w.links) ≡ l
    here = get_or_push w.links l no_link (length w.links) refl

    h1 : OwnEnds w1
    h1 = opened_owns w l h

-- and then the link ends on which its admitter sent
admitted_owns : (w : World) (m : ℕ) (name : List ℕ) → CanJoin w m → OwnEnds w → OwnEnds (refreshed (come_to w m name) m (newest w + 1))
admitted_owns w m name j h = admit_composed OwnEnds w m name j
    (λ o e there old. link_owns (joined_state w m name) o (ended Moved (link_at w o)) (omega (arith, there, joined_links w m name)) (sym (ap (λ (a : Link). a.sender) old)) (sym (ap (λ (a : Link). a.receiver) old)) (joined_owns w m name j h))
    (joined_owns w m name j h)

-- ---- events

act_owns : (w : World) (e : Act) → IsGood w → refusal w e ≡ None → OwnEnds w → OwnEnds (effect w e)
act_owns w e g r h = each_act OwnEnds w e g cases (λ x m u _. set_owns w x (copied m (member_at w x)) u.lt (same_member x (copied m (member_at w x)) refl refl) h) r
  where
    same_member : (x : ℕ) → (y : Member) → y.out ≡ (member_at w x).out → y.current ≡ (member_at w x).current → Owns w x y
    same_member x y o c = record { out = λ k e. h.out x k (sym o ∙ e); current = λ s e. h.current x s (sym c ∙ e) }

    picked_to : (y s : ℕ) → at_door w y ≡ Some s → (s < length w.links) × ((link_at w s).receiver ≡ y)
    picked_to y s at =
        let f = position-Some (is_at_door w y) w.links s no_link at in
        (f.0, nat_eq-is (link_at w s).receiver y (and_parts (nat_eq (link_at w s).receiver y) _ f.1).0)

    pop_owns : (y s : ℕ) (b : Member) → y < size w → (member_at w y).current ≡ Some s → Owns w y b → OwnEnds (with_link (with_member w y b) s (popped (link_at w s)))
    pop_owns y s b lt takes k = link_owns (with_member w y b) s (popped (link_at w s)) (h.current y s takes).0 refl refl (set_owns w y b lt k h)

    cases : Cases OwnEnds w
    cases = record {
      casts = λ x m u _. set_owns w x (published x m (member_at w x)) u.lt (same_member x (published x m (member_at w x)) refl refl) h;
      puts = λ x o u is k. link_owns w o (pushed (link_at w o) (next_packet (member_at w x) (link_at w o).sending)) (h.out x o is).0 refl refl h;
      takes = λ y s u m. pop_owns y s (taker w y s) u.lt m.current (same_member y (taker w y s) refl refl);
      begins = λ y s u m. pop_owns y s (begun (size w) (member_at w y) (oldest (link_at w s))) u.lt m.current (same_member y (begun (size w) (member_at w y) (oldest (link_at w s))) refl refl);
      leaves = λ y s u is k. link_owns (current_is w y None) s (finished (link_at w s)) (h.current y s is).0 refl refl
          (set_owns w y (with_current None (member_at w y)) u.lt (record { out = h.out y; current = λ k e. cc }) h);
      gains = λ x o u is k. link_owns w o _ (h.out x o is).0 refl refl h;
      stops = λ x u. end_composed OwnEnds Halted (stop_at w x) (member_at w x).out (λ k e. link_owns (stop_at w x) k (ended Halted (link_at w k)) (h.out x k e).0 refl refl) (set_owns w x (stopped (member_at w x)) u.lt (same_member x (stopped (member_at w x)) refl refl) h);
      marks = λ x d u m. refreshed_owns (with_view w (marked (view_in w (newest w)) d)) x (newest w + 1) u.lt (record { out = h.out; current = h.current });
      erases = λ x p u m. refreshed_owns (with_view w (erased_view w p)) x (newest w + 1) u.lt (record { out = h.out; current = h.current });
      syncs = λ x u m. refreshed_owns (with_view w (synced_view w x)) x (newest w + 1) u.lt (record { out = h.out; current = h.current });
      admits = λ x name u k. admitted_owns w x name (can_join w x name u.lt u.up k g) h;
      refreshes = λ x v u m. refreshed_owns w x v u.lt h;
      picks = λ y s u none at upto. set_owns w y (with_current (Some s) (member_at w y)) u.lt
          (record { out = h.out y; current = λ j e. let is : s ≡ j = cc in subst (λ j. (j < length w.links) × ((link_at w j).receiver ≡ y)) is (picked_to y s at) }) h;
      refuses = h;
    }

-- ---- runs

opening_owns : (credit : CreditSpec) (names : List (List ℕ)) → OwnEnds (opening credit names)
opening_owns credit names = record { out = λ x. (each x).out; current = λ x. (each x).current }
  where
    first : World
    first = opening credit names

    each : (x : ℕ) → Owns first x (member_at first x)
    each x = first_each credit names x (Owns first x)
        (λ some l.
        let i = opening_inv credit names in
        let is : member_at first x ≡ opening_member names x = first_at credit names x some l in
        let rx : runs first x ≡ true = ap (λ (a : Member). runs_phase a.phase) is in
        record {
          out = λ o e. let k : (member_at first x).out ≡ Some o = ap (λ (a : Member). a.out) is ∙ e in (i.linked.out_lt x o rx k, i.linked.out_from x o rx k);
          current = λ s e. let k : (member_at first x).current ≡ Some s = ap (λ (a : Member). a.current) is ∙ e in (i.current.lt x s rx k, i.current.receiver x s rx k);
        })
        (record { out = λ o e. cc; current = λ s e. cc })

-- in every state of every run
pub reached_owns : (credit : CreditSpec) (names : List (List ℕ)) (events : List Act) → AreOpeningNames names → IsRun (opening credit names) events → OwnEnds (last (opening credit names) events)
reached_owns credit names events are r = run_acts OwnEnds act_owns (opening credit names) events (opening_good credit names are) r (opening_owns credit names)
