-- Where nothing is left to do, no copy is under way at a running member.
use Rattle.std.proofs.Common.{◌≡◌, ◌≢◌, ℕ, zero, suc, ◌+◌, ◌<◌, ◌≤◌, Bool, true, false, not, cond, nat_eq, nat_lt, List, [], ◌∷◌, ◌++◌, length, get_or, refl, sym, ap, ◌∙◌, subst, arith, ⊎_elim, Some, None, position}
use Rattle.std.specs.List.{position_or_len}
use Rattle.std.specs.Prelude.{◌&&◌}
use Rattle.std.proofs.lemmas.Bool.{false≢true, cases_Bool, cases_lt, lt-ltb}
use Rattle.std.proofs.lemmas.Bool.Decides.{nat_tests}
use Rattle.std.proofs.lemmas.List.Elements.{All-get_or}
use Rattle.std.proofs.lemmas.List.Quantifiers.{position-Some}
use Rattle.ring_names.specs.declared.reason.Reason.TheVariants as reason
use Rattle.credit_flow.specs.Credit.{is_blocked}
use Rattle.queue_sync.specs.Copy.{Load}
use Rattle.group_view.specs.declared.entry.Entry.{Entry}
use Rattle.group_view.specs.declared.entry.Mark.{Mark}
use Rattle.group_view.specs.declared.entry.Mark.TheVariants.{Live, Dead, Erased}
use Rattle.group_view.specs.Ring.{is_in}
use Rattle.group_view.specs.View.{Group, ids, entry_in, no_entry, is_erased, is_live_mark, is_erased_mark}
use Rattle.group_view.proofs.Rings.{nat_eq-is, nat_eq-same}
use Rattle.group_view.proofs.Passing.{live_in}
use Rattle.ring_rules.specs.View.{is_live}
use Rattle.ring_rules.specs.Refusal.{is_empty}
use Rattle.ring_rules.specs.Machine.{World, member_at, row_at, view_in, newest, runs}
use Rattle.ring_rules.specs.Step.{size}
use Rattle.ring_rules.specs.Event.{of_member, on_link}
use Rattle.ring_rules.specs.Quiet.{IsSettled, IsAtRest}
use Rattle.ring_rules.proofs.rests.Asked.{is_refused, no_version, none_left}
use Rattle.ring_rules.proofs.rests.Forgotten.{retired_is_forgotten}
use Rattle.ring_rules.proofs.walks.Ended.{runs_lt}
use Rattle.ring_rules.proofs.queue.Facts.{Facts}
use Rattle.ring_rules.proofs.work.Fit.{IsFit}
use Rattle.ring_rules.specs.declared.kind.CopyStep.{CopyStep}
use Rattle.ring_rules.specs.declared.kind.CopyStep.TheVariants as copying
use Rattle.ring_copies.specs.Copies.{CopyLink, CopyWorld, no_copy_link, copy_link_at, copy_in, copy_out, is_put_by, is_taken_by, is_blocked_at}
use Rattle.ring_copies.specs.Events.{OnCopy, copy_put_refusal, copy_gain_refusal, copy_take_refusal, is_done_next, step_refusal, refused_in, refusal}
use Rattle.ring_copies.specs.Laws.{CopiesKeepCredit, CopiesRest}
use Rattle.ring_copies.specs.Work.{NothingLeftWithCopies}
use Rattle.ring_copies.proofs.EachCopy.{OfAll}
use Rattle.ring_copies.proofs.Sights.{part_runs}
use Rattle.ring_copies.proofs.Standing.{CopyStands}
use Rattle.ring_copies.proofs.Kept.{Stands}
use Rattle.ring_copies.proofs.Fits.{HasDone, Fits, MayFit}

-- what holds of each entry holds of that of an id
entry_of : (P : Entry → Type 0) (es : List Entry) (p : ℕ) → ((k : ℕ) → k < length es → P (get_or es k no_entry)) → is_in p (ids es) ≡ true → P (entry_in es p) × ((entry_in es p).id.0 ≡ p)
entry_of P [] p each i = absurd (false≢true i)
entry_of P (e ∷ es) p each i = by_id (nat_eq e.id.0 p) refl (λ there. entry_of P es p (λ j jl. each (suc j) (omega arith)) there)
  where
    by_id : (b : Bool) → nat_eq e.id.0 p ≡ b → (is_in p (ids es) ≡ true → P (entry_in es p) × ((entry_in es p).id.0 ≡ p)) → P (cond b e (entry_in es p)) × ((cond b e (entry_in es p)).id.0 ≡ p)
    by_id true k later = (each zero (omega arith), nat_eq-is e.id.0 p k)
    by_id false k later = later (ap (λ b. cond b true (is_in p (ids es))) (sym flip) ∙ i)
      where
        flip : nat_eq p e.id.0 ≡ false
        flip = grind (arith, nat_tests, k)

live_mark : (m : Mark) → is_live_mark m ≡ true → m ≡ Live
live_mark Live e = refl
live_mark Dead e = absurd (false≢true e)
live_mark Erased e = absurd (false≢true e)

not_gone : (m : Mark) → m ≢ Dead → is_erased_mark m ≡ false → m ≡ Live
not_gone Live d e = refl
not_gone Dead d e = absurd (d refl)
not_gone Erased d e = absurd (false≢true (sym e))

-- the first that passes isn't later than one that does
first_within : (t : CopyLink → Bool) (cs : List CopyLink) (k : ℕ) → k < length cs → t (copy_link_at cs k) ≡ true → position_or_len t cs ≤ k
first_within t [] k lt h = absurd (omega arith)
first_within t (c ∷ cs) k lt h = by_case (t c) refl k lt h (λ j l e. first_within t cs j l e)
  where
    by_case : (b : Bool) → t c ≡ b → (k : ℕ) → k < length (c ∷ cs) → t (copy_link_at (c ∷ cs) k) ≡ true → ((j : ℕ) → j < length cs → t (copy_link_at cs j) ≡ true → position_or_len t cs ≤ j) → cond (not b) (1 + position_or_len t cs) 0 ≤ k
    by_case true e k l h ih = omega arith
    by_case false e zero l h ih = absurd (false≢true (sym e ∙ h))
    by_case false e (suc k) l h ih = omega (arith, ih k (omega arith) h)

first_upto : (t : CopyLink → Bool) (cs : List CopyLink) (i : ℕ) → i < length cs → t (copy_link_at cs i) ≡ true → (j : ℕ) × ((position t cs ≡ Some j) × (j ≤ i))
first_upto t cs i il ti =
    let n : ℕ = position_or_len t cs in
    let le : n ≤ i = first_within t cs i il ti in
    (n, (ap (λ b. cond b (Some n) None) (lt-ltb n (length cs) (omega (arith, le, il))), le))

-- who is live in the newest view of a ring at rest runs
pub live_of : (w : World) → Facts w → IsAtRest w → (n : ℕ) → is_live (view_in w (newest w)) n ≡ true → runs w n ≡ true
live_of w f rest n e =
    let es : List Entry = (view_in w (newest w)).entries in
    let k = entry_of (IsSettled w) es n (λ j jl. All-get_or (IsSettled w) es j no_entry jl rest.entries) (live_in es n e) in
    ap (runs w) (sym k.1) ∙ k.0.runs (live_mark (entry_in es n).mark e)

module _ (initial : ℕ) (W : CopyWorld) (f : Facts W.ring) (fit : IsFit W.ring) (rest : IsAtRest W.ring) (credit : CopiesKeepCredit initial W) (stands : OfAll (Stands W.ring) W.copies) (fits : OfAll (MayFit W.ring) W.copies)
    (free : (y : ℕ) → runs W.ring y ≡ true → is_blocked_at W.ring y ≡ false) (none : NothingLeftWithCopies W) where
  abbrev w : World
  w = W.ring

  abbrev v : Group
  v = view_in w (newest w)

  live_runs : (n : ℕ) → is_live v n ≡ true → runs w n ≡ true
  live_runs n e = live_of w f rest n e

  -- who isn't erased in the newest view runs
  unerased_runs : (n : ℕ) → 1 ≤ n → n < size w → (is_in n (ids v.entries) && is_erased v.entries n) ≡ false → runs w n ≡ true
  unerased_runs n some lt e =
      let there : is_in n (ids v.entries) ≡ true = f.good.inv.origins n some lt in
      let k = entry_of (IsSettled w) v.entries n (λ j jl. All-get_or (IsSettled w) v.entries j no_entry jl rest.entries) there in
      ap (runs w) (sym k.1) ∙ k.0.runs (not_gone (entry_in v.entries n).mark k.0.not_dead (sym (ap (λ b. b && is_erased v.entries n) there) ∙ e))

  -- a step on a copy that would be enabled of its member
  no_step : (y : ℕ) → 1 ≤ y → runs w y ≡ true → (s : CopyStep) → (refusal W (OnCopy (member_at w y).name s) ≢ None) → step_refusal W y s ≢ None
  no_step y some ry s stuck r = stuck
      (ap (λ o. of_member o (refused_in W (OnCopy (member_at w y).name s))) (fit.named y some (runs_lt w y ry)) ∙ (rw ((rest.members y ry).up, r) refl))

  abbrev test : CopyLink → Bool
  test c = not c.over && runs w c.receiver

  both : (a b : Bool) → (a && b) ≡ true → (a ≡ true) × (b ≡ true)
  both true b e = (refl, e)
  both false b e = absurd (false≢true e)

  not_true : (b : Bool) → not b ≡ true → b ≡ false
  not_true false e = refl
  not_true true e = absurd (false≢true e)

  -- the first copy with a running mirror that isn't over: there is none
  module _ (i : ℕ) (il : i < length W.copies) (open_yet : (copy_link_at W.copies i).over ≡ false) (ry : runs w (copy_link_at W.copies i).receiver ≡ true)
      (first : (j : ℕ) → j < i → (copy_link_at W.copies j).over ≡ false → runs w (copy_link_at W.copies j).receiver ≡ false) where
    abbrev c : CopyLink
    c = copy_link_at W.copies i

    fc : Fits w c
    fc = fits i il open_yet

    sc : CopyStands w c
    sc = stands i il open_yet

    y_new : (member_at w c.receiver).version ≡ newest w
    y_new = (rest.members c.receiver ry).newest

    -- its master runs
    rm : runs w c.sender ≡ true
    rm = unerased_runs c.sender fc.going.some fc.going.sender (subst (λ n. (is_in c.sender (ids (view_in w n).entries) && is_erased (view_in w n).entries c.sender) ≡ false) y_new (sc.copied.unseen (part_runs w c.receiver ∙ ry)))

    -- the mark has come
    marked : c.mark ≤ (row_at (member_at w c.receiver) c.sender).got
    marked =
        let am = rest.members c.sender rm in
        let forgot = retired_is_forgotten w c.sender f.good am.up fc.going.some rm in
        let an = rest.members c.receiver ry in
        let confirmed = f.lawful.confirmed.up c.receiver c.sender fc.going.some fc.going.sender an.up in
        omega (arith, sc.copied.mark, am.come_round, forgot, confirmed)

    -- it is the one from which its mirror takes
    taken : is_taken_by c.receiver c ≡ true
    taken = ap (λ b. b && not c.over) (nat_eq-same c.receiver) ∙ ap not open_yet

    in_is : copy_in W.copies c.receiver ≡ Some i
    in_is =
        let q = first_upto (is_taken_by c.receiver) W.copies i il taken in
        q.1.0 ∙ ap Some (upto q.0 q.1.0 q.1.1)
      where
        upto : (j : ℕ) → position (is_taken_by c.receiver) W.copies ≡ Some j → j ≤ i → j ≡ i
        upto j e le = ⊎_elim
            (λ (lt : j < i).
            let t = both (nat_eq (copy_link_at W.copies j).receiver c.receiver) (not (copy_link_at W.copies j).over) (position-Some (is_taken_by c.receiver) W.copies j no_copy_link e).1 in
            absurd (false≢true (sym (first j lt (not_true (copy_link_at W.copies j).over t.1)) ∙ ap (runs w) (nat_eq-is (copy_link_at W.copies j).receiver c.receiver t.0) ∙ ry)))
            (λ (ge : i ≤ j). omega (arith, le, ge))
            (cases_lt j i)

    -- and has nothing to take from it
    stuck : (is_empty c.loads && not c.ended) ≡ true
    stuck = by_test (is_empty c.loads && not c.ended) refl
      where
        refused : copy_take_refusal w c.receiver c ≢ None
        refused r = no_step c.receiver fc.going.least ry copying.Take (none (OnCopy (member_at w c.receiver).name copying.Take) refl)
            (ap (λ o. on_link o reason.NoSyncLink (λ k. copy_take_refusal w c.receiver (copy_link_at W.copies k))) in_is ∙ r)

        early : nat_lt (row_at (member_at w c.receiver) c.sender).got c.mark ≡ false
        early = grind (arith, nat_tests, marked)

        never : (b : Bool) → (b && false) ≡ false
        never true = refl
        never false = refl

        by_test : (b : Bool) → (is_empty c.loads && not c.ended) ≡ b → b ≡ true
        by_test true e = refl
        by_test false e = absurd (refused (rw (no_version c.opened (member_at w c.receiver).version (omega (arith, fc.going.opened, y_new)), e, early, never (is_done_next c.loads)) refl))

    -- so all that is to be put is still with its master
    nothing_there : c.loads ≡ []
    nothing_there = none_left c.loads (both (is_empty c.loads) (not c.ended) stuck).0

    not_ended : c.ended ≡ false
    not_ended = not_true c.ended (both (is_empty c.loads) (not c.ended) stuck).1

    some_left : c.to_put ≢ []
    some_left e = subst HasDone (ap (λ ls. ls ++ c.to_put) nothing_there ∙ e) fc.going.finishes

    some_puts : (ls : List Load) → ls ≢ [] → is_empty ls ≡ false
    some_puts [] n = absurd (n refl)
    some_puts (l ∷ ls) n = refl

    puts : is_put_by c.sender c ≡ true
    puts = ap (λ b. b && (not c.over && not (is_empty c.to_put))) (nat_eq-same c.sender) ∙ ap (λ b. not b && not (is_empty c.to_put)) open_yet ∙ ap not (some_puts c.to_put some_left)

    -- and it is the one on which that puts
    out_is : copy_out W.copies c.sender ≡ Some i
    out_is =
        let q = first_upto (is_put_by c.sender) W.copies i il puts in
        q.1.0 ∙ ap Some (upto q.0 q.1.0 q.1.1)
      where
        filled : (b : Bool) (ls : List Load) → (not b && not (is_empty ls)) ≡ true → (b ≡ false) × (ls ≢ [])
        filled false [] e = absurd (false≢true e)
        filled false (l ∷ ls) e = (refl, λ k. cc)
        filled true ls e = absurd (false≢true e)

        upto : (j : ℕ) → position (is_put_by c.sender) W.copies ≡ Some j → j ≤ i → j ≡ i
        upto j e le = ⊎_elim
            (λ (lt : j < i).
            let d : CopyLink = copy_link_at W.copies j in
            let p = position-Some (is_put_by c.sender) W.copies j no_copy_link e in
            let t = both (nat_eq d.sender c.sender) (not d.over && not (is_empty d.to_put)) p.1 in
            let k = filled d.over d.to_put t.1 in
            let from : d.sender ≡ c.sender = nat_eq-is d.sender c.sender t.0 in
            let fd : Fits w d = fits j p.0 k.0 in
            let lives : is_live (view_in w (member_at w d.sender).version) d.receiver ≡ true = fd.going.live (ap (runs w) from ∙ rm) k.1 in
            let newest_there : (member_at w d.sender).version ≡ newest w = (rest.members d.sender (ap (runs w) from ∙ rm)).newest in
            absurd (false≢true (sym (first j lt k.0) ∙ live_runs d.receiver (ap (λ n. is_live (view_in w n) d.receiver) (sym newest_there) ∙ lives))))
            (λ (ge : i ≤ j). omega (arith, le, ge))
            (cases_lt j i)

    -- which has no credit, and none comes: so its mirror holds grants back, but isn't blocked
    none_taken : ⊥
    none_taken =
        let blocked : is_blocked c.flow.sender ≡ true = is_refused (is_blocked c.flow.sender) reason.NoCredit (λ r. no_step c.sender fc.going.some rm copying.Put (none (OnCopy (member_at w c.sender).name copying.Put) refl)
        (ap (λ o. on_link o reason.NoSyncLink (λ k. copy_put_refusal (copy_link_at W.copies k))) out_is ∙ r)) in
        let grants : c.flow.grants ≡ [] = none_left c.flow.grants (is_refused (is_empty c.flow.grants) reason.NoGrant (λ r. no_step c.sender fc.going.some rm copying.Gain (none (OnCopy (member_at w c.sender).name copying.Gain) refl)
        (ap (λ o. on_link o reason.NoSyncLink (λ k. copy_gain_refusal (copy_link_at W.copies k))) out_is ∙ r))) in
        let waits = (credit i il).waits blocked (ap length nothing_there) grants in
        false≢true (sym (free c.receiver ry) ∙ fc.blocked waits.1)

  -- so no copy is under way at a running member
  pub copies_rest : CopiesRest W
  copies_rest = record { put = put; taken = taken_from }
    where
      taken_from : (i : ℕ) → i < length W.copies → (copy_link_at W.copies i).over ≡ false → runs w (copy_link_at W.copies i).receiver ≡ false
      taken_from i il o = ⊎_elim
          (λ (r : runs w (copy_link_at W.copies i).receiver ≡ true). absurd (
          let q = first_upto test W.copies i il (ap (λ b. not b && runs w (copy_link_at W.copies i).receiver) o ∙ r) in
          let p = position-Some test W.copies q.0 no_copy_link q.1.0 in
          let t = both (not (copy_link_at W.copies q.0).over) (runs w (copy_link_at W.copies q.0).receiver) p.1 in
          none_taken q.0 p.0 (not_true (copy_link_at W.copies q.0).over t.0) t.1
          (λ j lt oj. sym (ap (λ b. not b && runs w (copy_link_at W.copies j).receiver) oj) ∙ p.2 j lt)))
          (λ (n : runs w (copy_link_at W.copies i).receiver ≡ false). n)
          (cases_Bool (runs w (copy_link_at W.copies i).receiver))

      put : (i : ℕ) → i < length W.copies → (copy_link_at W.copies i).over ≡ false → runs w (copy_link_at W.copies i).sender ≡ true → (copy_link_at W.copies i).to_put ≡ []
      put i il o rm = by_loads (copy_link_at W.copies i).to_put refl
        where
          by_loads : (ls : List Load) → (copy_link_at W.copies i).to_put ≡ ls → ls ≡ []
          by_loads [] e = refl
          by_loads (l ∷ ls) e =
              let d : CopyLink = copy_link_at W.copies i in
              let fd : Fits w d = fits i il o in
              let newest_there : (member_at w d.sender).version ≡ newest w = (rest.members d.sender rm).newest in
              let lives = fd.going.live rm (λ k. let bad : l ∷ ls ≡ [] = sym e ∙ k in cc) in
              absurd (false≢true (sym (taken_from i il o) ∙ live_runs d.receiver (ap (λ n. is_live (view_in w n) d.receiver) (sym newest_there) ∙ lives)))
