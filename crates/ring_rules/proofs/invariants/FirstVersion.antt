-- The first packet of a member that waits isn't newer than its view.
use Rattle.std.proofs.Common.{◌≡◌, ◌≢◌, ℕ, ◌≤◌, true, List, Some, refl, sym, ap, subst, ◌∙◌, arith}
use Rattle.ring_names.specs.declared.numbers.CreditSpec.{CreditSpec}
use Rattle.ring_rules.specs.Machine.{Waiting, Up, World, Member, no_member, no_link, member_at, link_at, runs_phase, oldest}
use Rattle.group_view.specs.Change.{AreOpeningNames}
use Rattle.ring_rules.specs.Act.{Act, IsRun, last}
use Rattle.ring_rules.specs.Step.{size, popped, begun, begin_from, opening}
use Rattle.ring_rules.proofs.rings.Lists.{at_set}
use Rattle.ring_rules.proofs.events.WhatRefuses.{MayBegin}
use Rattle.ring_rules.proofs.invariants.Kept.{set_alike}
use Rattle.ring_rules.proofs.invariants.KeptAdmit.{join_version}
use Rattle.ring_rules.proofs.events.First.{first_none_waits}
use Rattle.ring_rules.proofs.invariants.Happens.{IsGood, opening_good}
use Rattle.ring_rules.proofs.runs.OwnLogs.{opening_logged, run_knowing}
use Rattle.ring_rules.proofs.invariants.Moves.{Move, act_moves}
use Rattle.ring_rules.proofs.runs.JoinsInTime.{Alike, Stays, once, twice, begins, joins, IsHere, move_stays}

abbrev pub IsFirstOld : World → Type 0
IsFirstOld w = (q s : ℕ) → (member_at w q).phase ≡ Waiting → (member_at w q).current ≡ Some s → (oldest (link_at w s)).version ≤ (member_at w q).version

alike_old : (w w' : World) → Alike w w' → IsFirstOld w → IsFirstOld w'
alike_old w w' k h q s e c =
    let same : member_at w' q ≡ member_at w q = k.waits q e in
    let waits : (member_at w q).phase ≡ Waiting = sym (ap (λ a. a.phase) same) ∙ e in
    let takes : (member_at w q).current ≡ Some s = sym (ap (λ a. a.current) same) ∙ c in
    omega (arith, ap (λ j. j.version) (k.links q s waits takes), ap (λ (a : Member). a.version) same, h q s waits takes)

-- a first take is of another
begin_old : (w : World) (y s : ℕ) → MayBegin w y s → IsGood w → IsFirstOld w → IsFirstOld (begin_from w y s)
begin_old w y s m g h q t e c =
    let same : member_at (begin_from w y s) q ≡ member_at w q = set_alike w y q b m.is_member refl e in
    let waits : (member_at w q).phase ≡ Waiting = sym (ap (λ a. a.phase) same) ∙ e in
    let takes : (member_at w q).current ≡ Some t = sym (ap (λ a. a.current) same) ∙ c in
    let old : oldest (link_at (begin_from w y s) t) ≡ oldest (link_at w t) =
    at_set (λ i l. i ≢ s → oldest l ≡ oldest (link_at w i)) w.links s t (popped (link_at w s)) no_link (g.inv.current.lt y s ry m.current) (λ d. absurd (d refl)) (λ _ _. refl)
    (λ is. not_y (sym (g.inv.waiting.mine q t waits takes) ∙ ap (λ j. (link_at w j).receiver) is ∙ g.inv.current.receiver y s ry m.current)) in
    omega (arith, ap (λ j. j.version) old, ap (λ (a : Member). a.version) same, h q t waits takes)
  where
    b : Member
    b = begun (size w) (member_at w y) (oldest (link_at w s))

    ry : runs_phase (member_at w y).phase ≡ true
    ry = ap runs_phase m.waits

    not_y : q ≢ y
    not_y is =
        let up : (member_at (begin_from w y s) q).phase ≡ Up = at_set (λ k a. k ≡ y → a.phase ≡ Up) w.members y q b no_member m.is_member (λ _. refl) (λ d k. absurd (d k)) is in
        let bad : Up ≡ Waiting = sym up ∙ e in cc

pub move_old : (w w' : World) → IsGood w → Move IsHere w w' → IsFirstOld w → IsFirstOld w'
move_old w w' g k h = by_stays (move_stays w w' g k)
  where
    by_stays : Stays w w' → IsFirstOld w'
    by_stays (once a) = alike_old w w' a h
    by_stays (twice w1 a b) = alike_old w1 w' b (alike_old w w1 a h)
    by_stays (begins y s m e) = subst IsFirstOld (sym e) (begin_old w y s m g h)
    by_stays (joins m name j here e) = subst IsFirstOld (sym e) (join_version w m name j h)

pub opening_old : (credit : CreditSpec) (names : List (List ℕ)) → IsFirstOld (opening credit names)
opening_old credit names q s e = absurd (first_none_waits credit names q e)

-- in every state of every run
pub reached_old : (credit : CreditSpec) (names : List (List ℕ)) (es : List Act) → AreOpeningNames names → IsRun (opening credit names) es → IsFirstOld (last (opening credit names) es)
reached_old credit names es are r =
    run_knowing IsFirstOld (λ w e g q l h. act_moves IsHere IsFirstOld move_old w e g (record { good = g; logged = l }) q h) (opening credit names) es (opening_good credit names are) r (opening_logged credit names) (opening_old credit names)
