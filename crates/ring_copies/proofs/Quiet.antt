-- Where nothing is left to do, of the ring or of a copy, both are quiet.
use Rattle.std.proofs.Common.{◌≡◌, ℕ, ◌+◌, ◌<◌, true, false, List, length, refl, sym, ap, ◌∙◌, subst, arith, inl, inr, Option, Some, None}
use Rattle.std.specs.Prelude.{◌⊎◌}
use Rattle.std.proofs.lemmas.Bool.{false≢true}
use Rattle.std.proofs.lemmas.Option.{same_Some}
use Rattle.ring_names.specs.declared.numbers.CreditSpec.{CreditSpec}
use Rattle.credit_flow.specs.Credit.{is_blocked}
use Rattle.queue_core.specs.Queue.{greatest}
use Rattle.group_view.specs.Change.{AreOpeningNames}
use Rattle.group_view.specs.View.{Group}
use Rattle.group_view.proofs.Passing.{are_mutual}
use Rattle.ring_rules.specs.View.{is_live, left_of}
use Rattle.ring_rules.specs.Machine.{World, member_at, link_at, view_in, newest, left, right, runs}
use Rattle.ring_rules.specs.Step.{opening}
use Rattle.ring_rules.specs.Idle.{IsIdle, NobodySteps}
use Rattle.ring_rules.specs.Quiet.{IsAtRest, IsQuiet}
use Rattle.ring_rules.proofs.invariants.Good.{lives_now}
use Rattle.ring_rules.proofs.invariants.Period.{right_lives}
use Rattle.ring_rules.proofs.walks.Views.{left_is, right_is}
use Rattle.ring_rules.proofs.rests.IdleLinks.{IsReached, current_is_out, left_has_credit}
use Rattle.ring_rules.proofs.rests.Rests.{reached}
use Rattle.ring_rules.proofs.queue.Facts.{Facts}
use Rattle.ring_rules.proofs.work.Fit.{IsFit, reached_fit}
use Rattle.ring_rules.proofs.work.Settling.{none_left_is_idle}
use Rattle.ring_copies.specs.Copies.{CopyWorld, is_blocked_by, is_blocked_at}
use Rattle.ring_copies.specs.Events.{CopyEvent, OfRing, IsRun, last, without_copies}
use Rattle.ring_copies.specs.Laws.{CopiesRest, IsQuietWithCopies}
use Rattle.ring_copies.specs.Work.{NothingLeftWithCopies}
use Rattle.ring_copies.proofs.Credit.{copies_keep_credit}
use Rattle.ring_copies.proofs.Fitting.{fits_reached}
use Rattle.ring_copies.proofs.Kept.{IsCopying, copying_reached}
use Rattle.ring_copies.proofs.Reached.{come_facts}
use Rattle.ring_copies.proofs.Rest.{live_of, copies_rest}
use Rattle.ring_copies.proofs.Runs.{quiet_with_copies}

-- in an idle ring nobody that runs is blocked
free : (w : World) → Facts w → IsReached w → NobodySteps w → ((z : ℕ) → is_live (view_in w (newest w)) z ≡ true → runs w z ≡ true) → ((y : ℕ) → runs w y ≡ true → (member_at w y).version ≡ newest w) → (y : ℕ) → runs w y ≡ true → is_blocked_at w y ≡ false
free w f h idle live_runs newest_there y ry = by_out (member_at w y).out refl
  where
    v : Group
    v = view_in w (newest w)

    ly : is_live v y ≡ true
    ly = lives_now w f.good.inv.is_ring y ry

    z : ℕ
    z = right w (newest w) y

    rz : runs w z ≡ true
    rz = live_runs z (right_lives w (newest w) y ly)

    back : left w (newest w) z ≡ y
    back = left_is w (newest w) z v refl ∙ ap (left_of v) (right_is w (newest w) y v refl) ∙ (are_mutual v.entries y (f.good.inv.is_ring.distinct (newest w) (omega arith)) ly).left_of_right

    by_out : (o : Option ℕ) → (member_at w y).out ≡ o → is_blocked_by w o ≡ false
    by_out None e = refl
    by_out (Some o) e =
        let rl : runs w (left w (newest w) z) ≡ true = ap (runs w) back ∙ ry in
        let t = current_is_out w h idle z rz rl in
        let same : t.0 ≡ o = same_Some t.0 o (sym t.1.out ∙ ap (λ q. (member_at w q).out) back ∙ e) in
        subst (λ k. is_blocked (link_at w k).flow.sender ≡ false) same (left_has_credit w h idle z t.0 rz rl t.1)

module _ (credit : CreditSpec) (names : List (List ℕ)) (are : AreOpeningNames names) where
  abbrev first : CopyWorld
  first = without_copies (opening credit names)

  pub quiet_reached : (es : List CopyEvent) → length es < greatest → IsRun first es → NothingLeftWithCopies (last first es) → IsQuietWithCopies (last first es)
  quiet_reached es few r none = record { ring = quiet; copies = by_rest quiet.rests }
    where
      W : CopyWorld
      W = last first es

      quiet : IsQuiet (last first es).ring
      quiet = quiet_with_copies credit names are es few r none

      k : IsCopying credit names are (0 + length es) (last first es)
      k = copying_reached credit names are es few r

      f : Facts (last first es).ring
      f = come_facts credit names are (0 + length es) (last first es).ring k.come

      fit : IsFit (last first es).ring
      fit = subst IsFit k.come.is (reached_fit credit names k.come.acts are k.come.run)

      h : IsReached (last first es).ring
      h = subst IsReached k.come.is (reached credit names k.come.acts are k.come.run)

      idle : IsIdle (last first es).ring
      idle = none_left_is_idle (last first es).ring fit (λ e is. none (OfRing e) is)

      by_rest : ((y : ℕ) → runs (last first es).ring y ≡ false) ⊎ IsAtRest (last first es).ring → CopiesRest (last first es)
      by_rest (inl nobody) = record { put = λ i il o rm. absurd (false≢true (sym (nobody _) ∙ rm)); taken = λ i il o. nobody _ }
      by_rest (inr rest) =
          copies_rest credit.initial (last first es) f fit rest (copies_keep_credit credit names es are r) k.stands (fits_reached credit names are es few r)
          (free (last first es).ring f h (λ y ry. (idle y ry).steps) (live_of (last first es).ring f rest) (λ y ry. (rest.members y ry).newest)) none
