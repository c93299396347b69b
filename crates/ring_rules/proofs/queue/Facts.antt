-- What the ring gives, by its own laws.
use Rattle.std.proofs.Common.{◌≡◌, ℕ, zero, suc, ◌<◌, ◌≤◌, [], ◌⊎◌, inl, inr, true, false, List, length, refl, sym, ap, ◌∙◌, ⊎_elim, arith, Option, Some, None, is_some}
use Rattle.std.proofs.lemmas.Bool.{cases_Bool, cases_lt, false≢true, ltb-true}
use Rattle.ring_names.specs.declared.numbers.CreditSpec.{CreditSpec}
use Rattle.group_view.specs.Ring.{is_in}
use Rattle.group_view.specs.View.{ids}
use Rattle.group_view.specs.Change.{AreOpeningNames}
use Rattle.group_view.proofs.Joining.{below_at}
use Rattle.ring_rules.specs.Act.{Act, IsRun, last}
use Rattle.ring_rules.specs.declared.phase.Phase as ring
use Rattle.ring_rules.specs.declared.phase.Phase.TheVariants as machine
use Rattle.ring_rules.specs.Machine.{World, no_member, member_at, link_at, view_in, newest, runs, runs_phase, numbers_at}
use Rattle.ring_rules.specs.OpenLinks.{first_packet, own_number}
use Rattle.ring_rules.specs.Step.{size, log_of, opening}
use Rattle.ring_rules.specs.Lawful.{row_of, has_erased}
use Rattle.ring_rules.specs.Laws.{IsLawful, GoesOn}
use Rattle.ring_rules.proofs.rings.Lists.{get_or_beyond}
use Rattle.ring_rules.proofs.walks.Put.{number_up}
use Rattle.ring_rules.proofs.invariants.Happens.{IsGood, opening_good, reached_good, newest_is}
use Rattle.ring_rules.proofs.runs.OwnLogs.{IsLogged, run_logged, oldest_within}
use Rattle.ring_rules.proofs.runs.NoGap.{no_gap, reached_lines}
use Rattle.ring_rules.proofs.runs.InOrder.{HasNoGap, EachHasHeard, opening_heard, run_heard}
use Rattle.ring_rules.proofs.runs.Erased.{erased_rests}
use Rattle.ring_rules.proofs.runs.AllRuns.{every_state_lawful}
use Rattle.queue_laws.specs.Part.{is_running, is_up}
use Rattle.queue_laws.specs.Part as part
use Rattle.queue_laws.specs.Moves.{RingGives, RingKeeps}
use Rattle.ring_rules.specs.Masters.{masters_of, last_of, top}
use Rattle.ring_rules.specs.QueuePart.{phase_of, sight_of, got_of, part_of}
use Rattle.ring_rules.proofs.queue.Views.{gone_there}

-- the masters are members, and the newest view has the highest term
pub record HasMasters (w : World) : Type 0 where
  pub some : 0 < length (masters_of w.views)
  pub member : last_of (masters_of w.views) < size w
  pub term : top 0 w.views ≡ (view_in w (newest w)).term

-- what is known of a state of the ring
pub record Facts (w : World) : Type 0 where
  pub good : IsGood w
  pub initial : ℕ
  pub lawful : IsLawful initial w
  pub logged : IsLogged w
  pub order : EachHasHeard w

pub running_is : (f : ring.Phase) → is_running (phase_of f) ≡ runs_phase f
running_is machine.Waiting = refl
running_is machine.Up = refl
running_is machine.Stopped = refl

pub up_is : (f : ring.Phase) → is_up (phase_of f) ≡ true → f ≡ machine.Up
up_is machine.Waiting h = absurd (false≢true h)
up_is machine.Up h = refl
up_is machine.Stopped h = absurd (false≢true h)

-- ---- by the laws of runs

pub reached_facts : (credit : CreditSpec) (names : List (List ℕ)) (es : List Act) → AreOpeningNames names → IsRun (opening credit names) es → Facts (last (opening credit names) es)
reached_facts credit names es are r = record {
  good = reached_good credit names es are r;
  initial = credit.initial;
  lawful = every_state_lawful credit names es are r;
  logged = run_logged credit names es are r;
  order = (run_heard (opening credit names) es (opening_good credit names are) gapless r (opening_heard credit names)).order;
}
  where
    gapless : (later : List Act) → IsRun (opening credit names) later → HasNoGap (last (opening credit names) later)
    gapless later k y s m p some within own = no_gap (last (opening credit names) later) y s p (reached_lines credit names later are k) m.up m.current some within own

-- ---- ids

-- beyond the members nobody has a log
pub log_beyond : (w : World) (p : ℕ) → size w ≤ p → log_of w p ≡ []
log_beyond w p ge = ap (λ a. a.log) (get_or_beyond w.members p no_member ge)

-- an id of a member, or one without a log
pub data Who (w : World) (p : ℕ) : Type 0 where
  a_member : 1 ≤ p → p < size w → Who w p
  nobody : length (log_of w p) ≡ 0 → Who w p

pub who : (w : World) → IsLogged w → (p : ℕ) → Who w p
who w l zero = nobody (ap length l.nobody)
who w l (suc p) = ⊎_elim (λ (lt : suc p < size w). a_member (omega arith) lt) (λ (ge : size w ≤ suc p). nobody (ap length (log_beyond w (suc p) ge))) (cases_lt (suc p) (size w))

-- who has an entry is a member's id
pub entry_below : (w : World) (p : ℕ) → IsGood w → is_in p (ids (view_in w (newest w)).entries) ≡ true → p < size w
entry_below w p g i = let lt = ltb-true p (view_in w (newest w)).next_id (below_at (view_in w (newest w)).next_id p (ids (view_in w (newest w)).entries) (newest_is w g.views).fresh i) in omega (arith, lt, g.next_id)

-- ---- counted numbers

pub got_within : (w : World) (q p : ℕ) → Facts w → got_of w q p ≤ length (log_of w p)
got_within w q p f = by_phase (member_at w q).phase
  where
    first : (c : Option ℕ) → (numbers_at (first_packet w c) p).got ≤ length (log_of w p)
    first None = omega arith
    first (Some s) = (oldest_within (length (log_of w p)) p (link_at w s).packets (f.lawful.within.packets s p)).got

    by_phase : (h : ring.Phase) → own_number (λ k. k.got) (λ r. r.got) w p h (member_at w q) ≤ length (log_of w p)
    by_phase machine.Waiting = first (member_at w q).current
    by_phase machine.Up = (f.lawful.within.rows q p).got
    by_phase machine.Stopped = (f.lawful.within.rows q p).got

-- what has come round to its publisher is at everybody who runs
pub round_within : (w : World) (p q : ℕ) → Facts w → runs w q ≡ true → (row_of w p p).forgot ≤ got_of w q p
round_within w p q f r = by_who (who w f.logged p)
  where
    by_who : Who w p → (row_of w p p).forgot ≤ got_of w q p
    by_who (nobody none) = omega (arith, (f.lawful.within.rows p p).forgot, none)
    by_who (a_member some lt) = by_phase (member_at w q).phase refl
      where
        by_link : (c : Option ℕ) → (member_at w q).phase ≡ machine.Waiting → (member_at w q).current ≡ c → is_some c ≡ true → (row_of w p p).forgot ≤ (numbers_at (first_packet w c) p).got
        by_link None e c h = absurd (false≢true h)
        by_link (Some s) e c h = f.lawful.confirmed.waits q p s some lt e c

        by_phase : (h : ring.Phase) → (member_at w q).phase ≡ h → (row_of w p p).forgot ≤ own_number (λ k. k.got) (λ r. r.got) w p h (member_at w q)
        by_phase machine.Up e = f.lawful.confirmed.up q p some lt e
        by_phase machine.Stopped e = absurd (false≢true (sym (ap runs_phase e) ∙ r))
        by_phase machine.Waiting e = by_link (member_at w q).current e refl (f.good.inv.joining.some q e)

-- ---- who is erased

pub gone_erased : (w : World) (p : ℕ) → (sight_of (view_in w (newest w))).is_erased p ≡ true → has_erased w p ≡ true
gone_erased w p h = (gone_there (view_in w (newest w)) p h).1

-- running members agree on what they received of one that is erased, and keep it
pub erased_agree : (w : World) (p x y : ℕ) → Facts w → (sight_of (view_in w (newest w))).is_erased p ≡ true → runs w x ≡ true → runs w y ≡ true → got_of w x p ≡ got_of w y p
erased_agree w p x y f e rx ry = by_who (who w f.logged p)
  where
    by_who : Who w p → got_of w x p ≡ got_of w y p
    by_who (nobody none) = omega (arith, got_within w x p f, got_within w y p f, none)
    by_who (a_member some lt) = let a = f.lawful.erased p some lt (gone_erased w p e) in a.agrees.got x rx ∙ sym (a.agrees.got y ry)

pub erased_settled : (w w' : World) (p q : ℕ) → Facts w → Facts w' → GoesOn w w' → (sight_of (view_in w (newest w))).is_erased p ≡ true → runs w q ≡ true → runs w' q ≡ true → got_of w' q p ≡ got_of w q p
erased_settled w w' p q f f' on e r r' = by_who (who w f.logged p)
  where
    by_who : Who w p → got_of w' q p ≡ got_of w q p
    by_who (a_member some lt) =
        let er = gone_erased w p e in
        let a = f.lawful.erased p some lt er in
        (on.erased.agrees p a.on some lt er a.agrees).got q r' ∙ sym (a.agrees.got q r)
    by_who (nobody none) = absurd_member (cases_lt 0 p)
      where
        is_member : p < size w
        is_member = entry_below w p f.good (gone_there (view_in w (newest w)) p e).0

        absurd_member : (0 < p) ⊎ (p ≤ 0) → got_of w' q p ≡ got_of w q p
        absurd_member (inl some) =
            let er = gone_erased w p e in
            let a = f.lawful.erased p (omega arith) is_member er in
            (on.erased.agrees p a.on (omega arith) is_member er a.agrees).got q r' ∙ sym (a.agrees.got q r)
        absurd_member (inr le) =
            let zero_is : p ≡ 0 = omega arith in
            let none' : length (log_of w' p) ≡ 0 = ap (λ k. length (log_of w' k)) zero_is ∙ ap length f'.logged.nobody in
            omega (arith, got_within w q p f, got_within w' q p f', none, none')

-- ---- in each state

pub gives : (w : World) → Facts w → HasMasters w → RingGives (part_of w)
gives w f m = record {
  within = λ q p r. got_within w q p f;
  own = λ p u. number_up (λ k. k.got) (λ r. r.got) w p p (up_is (member_at w p).phase u) ∙ f.logged.own p;
  lives = lives;
  agree = λ p x y e rx ry. erased_agree w p x y f e (sym (running_is (member_at w x).phase) ∙ rx) (sym (running_is (member_at w y).phase) ∙ ry);
  confirmed = λ p q r. round_within w p q f (sym (running_is (member_at w q).phase) ∙ r);
  member = m.member;
}
  where
    lives : (q : ℕ) → part.runs (part_of w) q ≡ true → (sight_of (view_in w (newest w))).is_erased q ≡ false
    lives q r = ⊎_elim
        (λ (yes : (sight_of (view_in w (newest w))).is_erased q ≡ true). absurd (false≢true (sym (erased_rests w q f.good.inv (gone_erased w q yes)) ∙ sym (running_is (member_at w q).phase) ∙ r)))
        (λ (no : (sight_of (view_in w (newest w))).is_erased q ≡ false). no)
        (cases_Bool ((sight_of (view_in w (newest w))).is_erased q))

-- ---- from one to the next

-- no counted number falls
abbrev pub Rises : World → World → Type 0
Rises w w' = (q p : ℕ) → runs w q ≡ true → runs w' q ≡ true → got_of w q p ≤ got_of w' q p

pub keeps : (w w' : World) → Facts w → Facts w' → GoesOn w w' → Rises w w' → RingKeeps (part_of w) (part_of w')
keeps w w' f f' on rises = record {
  rises = λ q p a b. rises q p (sym (running_is (member_at w q).phase) ∙ a) (sym (running_is (member_at w' q).phase) ∙ b);
  settled = λ p q e a b. erased_settled w w' p q f f' on e (sym (running_is (member_at w q).phase) ∙ a) (sym (running_is (member_at w' q).phase) ∙ b);
}
