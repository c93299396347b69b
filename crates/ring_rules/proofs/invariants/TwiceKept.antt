-- What each step does to the two rounds of an origin.
use Rattle.std.proofs.Common.{◌≡◌, ◌≢◌, ℕ, ◌<◌, Bool, true, false, List, [], ◌∷◌, ◌++◌, length, refl, sym, ap, subst, ◌∙◌, arith, nat_eq, Some}
use Rattle.std.specs.Prelude.{◌&&◌}
use Rattle.std.specs.List.{filter, flat_map}
use Rattle.std.proofs.lemmas.Bool.{false≢true}
use Rattle.group_view.specs.Ring.{rotated, is_in, AreDistinct}
use Rattle.group_view.proofs.Rings.{is_in-rotated, head_differs, tail_lacks}
use Rattle.group_view.proofs.Neighbours.{in-filter}
use Rattle.ring_rules.specs.declared.numbers.Numbers.{Numbers}
use Rattle.ring_rules.specs.Rows.{Row, taken_row}
use Rattle.ring_rules.specs.Machine.{Up, World, row_at, numbers_at, member_at, link_at, newest, ring, left, runs, is_waiting}
use Rattle.ring_rules.specs.Step.{size, put_on, take_from, stop_at, opened_link, log_of}
use Rattle.ring_rules.proofs.rings.Weakens.{Weakens, same, lose, under, lose_second}
use Rattle.ring_rules.proofs.rings.Rounds.{nat_eq-is, nat_eq-same, nat_eq-not}
use Rattle.ring_rules.proofs.walks.Links.{AllZero}
use Rattle.ring_rules.proofs.walks.Packets.{Reads, reads_got, reads_forgot}
use Rattle.ring_rules.proofs.invariants.Good.{IsRing, IsLinked, IsWaitingRight}
use Rattle.ring_rules.proofs.walks.Put.{put_round, number_up, runs_phase-Up}
use Rattle.ring_rules.proofs.walks.Open.{with_opened, open_round}
use Rattle.ring_rules.proofs.walks.Take.{CanTake, Standing, elsewhere, first_time, unknown, come_round, taken_packet, links_after, take_runs, take_number, take_round_elsewhere, take_round_early, take_round_unknown, take_list_before, take_list_after, head_once}
use Rattle.ring_rules.proofs.walks.Stop.{LateIsZero, is_not, stop_runs, stop_running, stop_round_other, stop_round_owner, prefix_stays, filter_lacks}
use Rattle.ring_rules.proofs.walks.OwnerStops.{late_is_zero}
use Rattle.ring_rules.proofs.invariants.Kept.{Inv}
use Rattle.ring_rules.proofs.walks.Twice.{one_round, gots, forgots, Edits, edits_of, same_round_runners, both_come_round}
use Rattle.ring_rules.proofs.walks.CountedWalk.{no_but, is_early, block, round_of, running_from, counted, numbers, stopped_from}
use Rattle.ring_rules.specs.OpenLinks.{number}

-- ---- a put

put_one : (g : Numbers → ℕ) (r : Row → ℕ) (w : World) (x o p : ℕ) → Reads g r → IsRing w → IsLinked w → IsWaitingRight w → (member_at w x).phase ≡ Up → (member_at w x).out ≡ Some o → Weakens (one_round g r w p) (one_round g r (put_on w x o) p)
put_one g r w x o p gr hr hl hw up out = by_running (running_from w p) refl
  where
    by_running : (ys : List ℕ) → running_from w p ≡ ys → Weakens (round_of g r w p (stopped_from w p) ys) (round_of g r (put_on w x o) p (stopped_from w p) ys)
    by_running [] e = same []
    by_running (y ∷ ys) e = put_round g r w x o p y ys gr hr hl hw up out e _ refl

pub put_edits : (w : World) (x o p : ℕ) → Inv w → (member_at w x).phase ≡ Up → (member_at w x).out ≡ Some o → Edits w (put_on w x o) p
put_edits w x o p h up out = edits_of w (put_on w x o) p
    (put_one (λ k. k.got) (λ r. r.got) w x o p reads_got h.is_ring h.linked h.waiting up out)
    (put_one (λ k. k.forgot) (λ r. r.forgot) w x o p reads_forgot h.is_ring h.linked h.waiting up out)

-- ---- a link that opens

open_one : (g : Numbers → ℕ) (r : Row → ℕ) (w : World) (x z p : ℕ) → Reads g r → IsRing w → IsWaitingRight w → (member_at w x).phase ≡ Up → left w (newest w) z ≡ x → (is_waiting (member_at w z).phase && nat_eq (member_at w x).version (member_at w z).version) ≡ false → Weakens (one_round g r w p) (one_round g r (with_opened w (opened_link w x z)) p)
open_one g r w x z p gr hr hw up lz fresh = by_running (running_from w p) refl
  where
    by_running : (ys : List ℕ) → running_from w p ≡ ys → Weakens (round_of g r w p (stopped_from w p) ys) (round_of g r (with_opened w (opened_link w x z)) p (stopped_from w p) ys)
    by_running [] e = same []
    by_running (y ∷ ys) e = open_round g r w x z p y ys gr hr hw up lz fresh e _ refl

pub open_edits : (w : World) (x z p : ℕ) → IsRing w → IsWaitingRight w → (member_at w x).phase ≡ Up → left w (newest w) z ≡ x → (is_waiting (member_at w z).phase && nat_eq (member_at w x).version (member_at w z).version) ≡ false → Edits w (with_opened w (opened_link w x z)) p
open_edits w x z p hr hw up lz fresh = edits_of w (with_opened w (opened_link w x z)) p
    (open_one (λ k. k.got) (λ r. r.got) w x z p reads_got hr hw up lz fresh)
    (open_one (λ k. k.forgot) (λ r. r.forgot) w x z p reads_forgot hr hw up lz fresh)

-- ---- a take

pub take_edits : (w : World) (y s p : ℕ) → CanTake w y s → p < size w → AreDistinct (ring w) → is_in y (ring w) ≡ true → Standing w y s p → Edits w (take_from w y s) p
take_edits w y s p h pl d inring k = by_standing k
  where
    w' : World
    w' = take_from w y s

    st : List ℕ
    st = stopped_from w p

    runners : (g : Numbers → ℕ) (r : Row → ℕ) → round_of g r w' p st (running_from w p) ≡ one_round g r w' p
    runners g r = same_round_runners g r w w' p refl (λ q. take_runs w y s q h.is_member)

    by_list : (g : Numbers → ℕ) (r : Row → ℕ) (ys : List ℕ) → running_from w p ≡ ys → Weakens (round_of g r w p st ys) (round_of g r w' p st ys) → Weakens (one_round g r w p) (one_round g r w' p)
    by_list g r ys e k = subst (Weakens (one_round g r w p)) (runners g r) (subst (λ us. Weakens (round_of g r w p st us) (round_of g r w' p st us)) (sym e) k)

    by_standing : Standing w y s p → Edits w w' p
    by_standing (elsewhere q qs e differs no_own) = edits_of w w' p
        (by_list (λ k. k.got) (λ a. a.got) (q ∷ qs) e (take_round_elsewhere (λ k. k.got) (λ a. a.got) w y s p (λ a k l. refl) h pl no_own q qs differs))
        (by_list (λ k. k.forgot) (λ a. a.forgot) (q ∷ qs) e (take_round_elsewhere (λ k. k.forgot) (λ a. a.forgot) w y s p (λ a k l. refl) h pl no_own q qs differs))
    by_standing (first_time qs e was no_own) = edits_of w w' p
        (by_list (λ k. k.got) (λ a. a.got) (y ∷ qs) e (take_round_early (λ k. k.got) (λ a. a.got) w y s p (λ a k l. refl) h pl no_own qs was))
        (by_list (λ k. k.forgot) (λ a. a.forgot) (y ∷ qs) e (take_round_early (λ k. k.forgot) (λ a. a.forgot) w y s p (λ a k l. refl) h pl no_own qs was))
    by_standing (unknown qs e was no_own gg gf) = edits_of w w' p
        (by_list (λ k. k.got) (λ a. a.got) (y ∷ qs) e (take_round_unknown (λ k. k.got) (λ a. a.got) w y s p (λ a k l. refl) h pl no_own qs was gg))
        (by_list (λ k. k.forgot) (λ a. a.forgot) (y ∷ qs) e (take_round_unknown (λ k. k.forgot) (λ a. a.forgot) w y s p (λ a k l. refl) h pl no_own qs was gf))
    by_standing (come_round qs e own none late) = record {
      first = subst (Weakens (gots w p)) (runners (λ k. k.got) (λ r. r.got))
          (subst (λ us. Weakens (round_of (λ k. k.got) (λ r. r.got) w p st us) (round_of (λ k. k.got) (λ r. r.got) w' p st us)) (sym e)
          (subst (λ us. Weakens us (round_of (λ k. k.got) (λ r. r.got) w' p st (y ∷ qs))) (sym before_got) (subst (Weakens (a ∷ (bg ++ kg ∷ []))) (sym after_got) (under a (bg ++ kg ∷ []) bg (lose_second bg (kg ∷ []))))));
      both = subst (λ us. Weakens (gots w p ++ forgots w p) (us ++ forgots w' p)) (runners (λ k. k.got) (λ r. r.got))
          (subst (λ us. Weakens (gots w p ++ forgots w p) (round_of (λ k. k.got) (λ r. r.got) w' p st (running_from w p) ++ us)) (runners (λ k. k.forgot) (λ r. r.forgot))
          (subst (λ us. Weakens (round_of (λ k. k.got) (λ r. r.got) w p st us ++ round_of (λ k. k.forgot) (λ r. r.forgot) w p st us) (round_of (λ k. k.got) (λ r. r.got) w' p st us ++ round_of (λ k. k.forgot) (λ r. r.forgot) w' p st us)) (sym e)
          (subst (λ us. Weakens us (round_of (λ k. k.got) (λ r. r.got) w' p st (y ∷ qs) ++ round_of (λ k. k.forgot) (λ r. r.forgot) w' p st (y ∷ qs))) (sym (ap (λ us. us ++ round_of (λ k. k.forgot) (λ r. r.forgot) w p st (y ∷ qs)) before_got ∙ ap (λ us. (a ∷ (bg ++ kg ∷ [])) ++ us) before_forgot))
          (subst (Weakens ((a ∷ (bg ++ kg ∷ [])) ++ (b ∷ (bf ++ kf ∷ [])))) (sym (ap (λ us. us ++ round_of (λ k. k.forgot) (λ r. r.forgot) w' p st (y ∷ qs)) after_got ∙ ap (λ us. (a ∷ bg) ++ us) after_forgot))
          (both_come_round (a ∷ bg) bf kg kf b)))));
    }
      where
        n : Numbers
        n = numbers_at (taken_packet w s) p

        kg : ℕ
        kg = n.got

        kf : ℕ
        kf = n.forgot

        a : ℕ
        a = number (λ k. k.got) (λ r. r.got) w p y

        b : ℕ
        b = number (λ k. k.forgot) (λ r. r.forgot) w p y

        once : is_in y qs ≡ false
        once = head_once (runs w) y p qs (ring w) d inring (runs_phase-Up w y h.up) e

        bg : List ℕ
        bg = flat_map (block (λ q. numbers (λ k. (numbers_at k p).got) (counted w q) w.links) (number (λ k. k.got) (λ a. a.got) w p)) qs ++ numbers (λ k. (numbers_at k p).got) (no_but (is_early st) (counted w' y)) (links_after w s)

        bf : List ℕ
        bf = flat_map (block (λ q. numbers (λ k. (numbers_at k p).forgot) (counted w q) w.links) (number (λ k. k.forgot) (λ a. a.forgot) w p)) qs ++ numbers (λ k. (numbers_at k p).forgot) (no_but (is_early st) (counted w' y)) (links_after w s)

        before_got : round_of (λ k. k.got) (λ r. r.got) w p st (y ∷ qs) ≡ a ∷ (bg ++ kg ∷ [])
        before_got = take_list_before (λ k. k.got) (λ a. a.got) w y s p qs h none late

        before_forgot : round_of (λ k. k.forgot) (λ r. r.forgot) w p st (y ∷ qs) ≡ b ∷ (bf ++ kf ∷ [])
        before_forgot = take_list_before (λ k. k.forgot) (λ a. a.forgot) w y s p qs h none late

        by_up : (g : Numbers → ℕ) (r : Row → ℕ) → number g r w p y ≡ r (row_at (member_at w y) p)
        by_up g r = number_up g r w p y h.up

        after_got : round_of (λ k. k.got) (λ r. r.got) w' p st (y ∷ qs) ≡ a ∷ bg
        after_got =
            take_list_after (λ k. k.got) (λ a. a.got) w y s p qs h once none late
            ∙ ap (λ z. z ∷ bg) (take_number (λ k. k.got) (λ a. a.got) w y s p h pl ∙ ap (λ c. (taken_row c (log_of w p) (row_at (member_at w y) p) n).got) own ∙ sym (by_up (λ k. k.got) (λ r. r.got)))

        after_forgot : round_of (λ k. k.forgot) (λ r. r.forgot) w' p st (y ∷ qs) ≡ kg ∷ bf
        after_forgot =
            take_list_after (λ k. k.forgot) (λ a. a.forgot) w y s p qs h once none late
            ∙ ap (λ z. z ∷ bf) (take_number (λ k. k.forgot) (λ a. a.forgot) w y s p h pl ∙ ap (λ c. (taken_row c (log_of w p) (row_at (member_at w y) p) n).forgot) own)

-- ---- a stop

pub stop_edits : (w : World) (x p : ℕ) → x < size w → Inv w → runs w x ≡ true → is_in p (ring w) ≡ true → Edits w (stop_at w x) p
stop_edits w x p lt h rx pn = by_running (running_from w p) refl
  where
    w' : World
    w' = stop_at w x

    st : List ℕ
    st = stopped_from w p

    dn : AreDistinct (ring w)
    dn = h.is_ring.distinct (newest w) (omega arith)

    xn : is_in x (ring w) ≡ true
    xn = h.is_ring.stands x (newest w) rx (h.is_ring.held x) (omega arith)

    put : (g : Numbers → ℕ) (r : Row → ℕ) (ys ys' st' : List ℕ) → running_from w p ≡ ys → running_from w' p ≡ ys' → stopped_from w' p ≡ st' → Weakens (round_of g r w p st ys) (round_of g r w' p st' ys') → Weakens (one_round g r w p) (one_round g r w' p)
    put g r ys ys' st' e e' es k =
        subst (λ us. Weakens (round_of g r w p st us) (one_round g r w' p)) (sym e)
        (subst (λ us. Weakens (round_of g r w p st ys) (round_of g r w' p (stopped_from w' p) us)) (sym e')
        (subst (λ us. Weakens (round_of g r w p st ys) (round_of g r w' p us ys')) (sym es) k))

    other_one : (g : Numbers → ℕ) (r : Row → ℕ) (y : ℕ) (ys : List ℕ) → running_from w p ≡ y ∷ ys → y ≢ x → Weakens (one_round g r w p) (one_round g r w' p)
    other_one g r y ys e d = put g r (y ∷ ys) (y ∷ filter (is_not x) ys) st e (stop_running w x p lt ∙ ap (filter (is_not x)) e ∙ rw (nat_eq-not y x d) refl)
        (prefix_stays (runs w) (runs w') x y ys (rotated p (ring w)) (λ q. stop_runs w x q lt) e d)
        (stop_round_other g r w x p y st ys lt d)

    owner_one : (g : Numbers → ℕ) (r : Row → ℕ) (ys : List ℕ) → running_from w p ≡ x ∷ ys → ((y : ℕ) (us : List ℕ) → ys ≡ y ∷ us → (j : ℕ) → j < length w.links → is_early (stopped_from w' p) (link_at w j) ≡ false → AllZero (λ k. g (numbers_at k p)) (counted w y (link_at w j))) → Weakens (one_round g r w p) (one_round g r w' p)
    owner_one g r ys e zeros =
        let once : is_in x ys ≡ false = head_once (runs w) x p ys (ring w) dn xn rx e in
        put g r (x ∷ ys) ys (stopped_from w' p) e (stop_running w x p lt ∙ ap (filter (is_not x)) e ∙ rw (nat_eq-same x) (filter_lacks x ys once)) refl (by_rest ys once zeros)
      where
        by_rest : (ys : List ℕ) → is_in x ys ≡ false → ((y : ℕ) (us : List ℕ) → ys ≡ y ∷ us → (j : ℕ) → j < length w.links → is_early (stopped_from w' p) (link_at w j) ≡ false → AllZero (λ k. g (numbers_at k p)) (counted w y (link_at w j))) → Weakens (round_of g r w p st (x ∷ ys)) (round_of g r w' p (stopped_from w' p) ys)
        by_rest [] n z = lose (round_of g r w p st (x ∷ []))
        by_rest (y ∷ us) n z = stop_round_owner g r w x p y st (stopped_from w' p) us lt (head_differs x y us n) (tail_lacks x y us n) (z y us refl)

    zero_at : (ys : List ℕ) → running_from w p ≡ x ∷ ys → (y : ℕ) (us : List ℕ) → ys ≡ y ∷ us → LateIsZero w p y (stopped_from w' p)
    zero_at ys e y us is =
        let e2 : running_from w p ≡ x ∷ (y ∷ us) = e ∙ ap (λ q. x ∷ q) is in
        let once : is_in x (y ∷ us) ≡ false = head_once (runs w) x p (y ∷ us) (ring w) dn xn rx e2 in
        late_is_zero w x y p us lt h.is_ring h.linked h.history h.ordered h.packed e2 (λ q. head_differs x y us once (sym q)) once pn

    by_head : (y : ℕ) (ys : List ℕ) → running_from w p ≡ y ∷ ys → (b : Bool) → nat_eq y x ≡ b → Edits w w' p
    by_head y ys e false k =
        let d : y ≢ x = (λ is. false≢true (sym k ∙ rw is (nat_eq-same x))) in
        edits_of w w' p (other_one (λ k. k.got) (λ r. r.got) y ys e d) (other_one (λ k. k.forgot) (λ r. r.forgot) y ys e d)
    by_head y ys e true k =
        let e2 : running_from w p ≡ x ∷ ys = e ∙ ap (λ q. q ∷ ys) (nat_eq-is y x k) in
        edits_of w w' p
        (owner_one (λ k. k.got) (λ r. r.got) ys e2 (λ z us is j l c. (zero_at ys e2 z us is j l c).0))
        (owner_one (λ k. k.forgot) (λ r. r.forgot) ys e2 (λ z us is j l c. (zero_at ys e2 z us is j l c).1))

    by_running : (us : List ℕ) → running_from w p ≡ us → Edits w w' p
    by_running [] e = absurd (false≢true (ap (is_in x) (sym e) ∙ in-filter (runs w) x (rotated p (ring w)) (is_in-rotated x p (ring w) ∙ xn) rx))
    by_running (y ∷ ys) e = by_head y ys e (nat_eq y x) refl
