-- Each copy keeps its credit.
use Rattle.std.proofs.Common.{◌≡◌, ℕ, ◌+◌, ◌-◌, ◌<◌, ◌≤◌, Bool, true, false, List, [], ◌∷◌, length, refl, sym, ap, subst, ◌∙◌, arith, None}
use Rattle.std.specs.Prelude.{take}
use Rattle.std.proofs.lemmas.Bool.{false≢true}
use Rattle.std.proofs.lemmas.List.{length-append}
use Rattle.ring_names.specs.declared.numbers.CreditSpec.{CreditSpec}
use Rattle.credit_flow.specs.Credit.{is_blocked}
use Rattle.credit_flow.specs.Link.{Send, Take as TakeLoad, after_call}
use Rattle.credit_flow.proofs.Links.{IsKept, new_keeps, send_keeps, take_keeps, hold_keeps, release_keeps, gain_keeps, kept_law}
use Rattle.queue_sync.specs.Copy.{Load, OneItem, Done}
use Rattle.group_view.specs.Change.{AreOpeningNames}
use Rattle.ring_rules.specs.Refusal.{is_empty}
use Rattle.ring_rules.specs.Machine.{World}
use Rattle.ring_rules.specs.Step.{opening}
use Rattle.ring_rules.proofs.invariants.Happens.{IsGood, opening_good, run_good}
use Rattle.ring_rules.proofs.runs.LinkCredit.{IsCredited, some_on_it, part_credited, opening_credited}
use Rattle.ring_rules.proofs.events.Parts.{run_keeps}
use Rattle.ring_copies.specs.Copies.{CopyLink, CopyWorld, copy_link_at, new_copy, copy_put, judged, load_taken}
use Rattle.ring_copies.specs.Events.{CopyEvent, refusal, effect, IsRun, last, without_copies}
use Rattle.ring_copies.specs.Laws.{credit_of_copy, CopiesKeepCredit}
use Rattle.ring_copies.proofs.Seen.{Sees, sees}
use Rattle.ring_copies.proofs.EachCopy.{EachKept, run_kept}

abbrev CopyIsKept : ℕ → ℕ → CopyLink → Type 0
CopyIsKept initial more c = IsKept initial more (credit_of_copy c)

module _ (initial more : ℕ) (positive : 1 ≤ more) where
  put_kept : (c : CopyLink) → is_empty c.to_put ≡ false → is_blocked c.flow.sender ≡ false → CopyIsKept initial more c → CopyIsKept initial more (copy_put c)
  put_kept c some can h =
      subst (λ n. IsKept initial more (record (after_call (credit_of_copy c) Send) { loads = n })) (sym (length-append c.loads (take 1 c.to_put) ∙ ap (λ k. length c.loads + k) (first c.to_put some)))
      (send_keeps initial more (credit_of_copy c) can h)
    where
      first : (ls : List Load) → is_empty ls ≡ false → length (take 1 ls) ≡ 1
      first [] e = absurd (false≢true (sym e))
      first (l ∷ ls) e = refl

  judged_kept : (b : Bool) (c : CopyLink) → CopyIsKept initial more c → CopyIsKept initial more (record c { flow = judged b c.flow })
  judged_kept true c h = hold_keeps initial more (credit_of_copy c) h
  judged_kept false c h = release_keeps initial more (credit_of_copy c) h

  load_kept : (b : Bool) (c : CopyLink) (l : Load) (ls : List Load) → c.loads ≡ l ∷ ls → CopyIsKept initial more c → CopyIsKept initial more (load_taken b c)
  load_kept b c l ls e h =
      let j : CopyIsKept initial more (record c { flow = judged b c.flow }) = judged_kept b c h in
      let one : 0 < length c.loads = omega (arith, ap length e) in
      subst (λ n. IsKept initial more (record (after_call (credit_of_copy (record c { flow = judged b c.flow })) TakeLoad) { loads = n })) (rest c.loads e)
      (take_keeps initial more (credit_of_copy (record c { flow = judged b c.flow })) positive one j)
    where
      rest : (ks : List Load) → ks ≡ l ∷ ls → length ks - 1 ≡ length (load_taken b (record c { loads = ks })).loads
      rest [] k = cc
      rest (a ∷ ks) k = omega arith

  -- what is known of the ring
  record IsOf (w : World) : Type 0 where
    pub good : IsGood w
    pub credited : IsCredited initial more w

  new_kept : (w : World) (x n : ℕ) → IsOf w → CopyIsKept initial more (new_copy w x n)
  new_kept w x n k = rw (k.credited.initial_is, k.credited.more_is) (new_keeps initial more positive)

  each : EachKept IsOf (CopyIsKept initial more)
  each = record {
    opens = new_kept;
    steps = record {
      puts = put_kept;
      gains = λ c some h. gain_keeps initial more (credit_of_copy c) (some_on_it c.flow.grants some) h;
      items = λ b a c ls e h. load_kept b c (OneItem a) ls e h;
      done = λ b c ls e h. load_kept b c Done ls e h;
      drops = λ c h. h;
      halts = λ c h. h;
      closes = λ c h. h;
      frees = λ c h. judged_kept false c h;
    };
  }

-- in every state of every run
pub copies_keep_credit : (credit : CreditSpec) (names : List (List ℕ)) (es : List CopyEvent) → AreOpeningNames names → IsRun (without_copies (opening credit names)) es → CopiesKeepCredit credit.initial (last (without_copies (opening credit names)) es)
copies_keep_credit credit names es are r i lt =
    kept_law credit.initial credit.more (credit_of_copy (copy_link_at (last (without_copies (opening credit names)) es).copies i)) credit.covered
    (run_kept (IsOf credit.initial credit.more credit.positive) (CopyIsKept credit.initial credit.more) (each credit.initial credit.more credit.positive) goes (without_copies (opening credit names)) es r
    (record { good = opening_good credit names are; credited = opening_credited credit names }) (λ j bad. absurd (omega arith)) i lt)
  where
    goes : (W : CopyWorld) (e : CopyEvent) → refusal W e ≡ None → IsOf credit.initial credit.more credit.positive W.ring → IsOf credit.initial credit.more credit.positive (effect W e).ring
    goes W e r k =
        let s : Sees W.ring (effect W e).ring = sees W e r in
        record {
          good = subst IsGood s.ends (run_good W.ring s.acts k.good s.run);
          credited = subst (IsCredited credit.initial credit.more) s.ends
              (run_keeps (IsCredited credit.initial credit.more) (part_credited credit.initial credit.more credit.positive credit.covered IsGood) W.ring s.acts k.good s.run k.credited);
        }
