use Rattle.std.proofs.Common.{subst, refl, rules}
use Rattle.ring_journal.specs.declared.verdict.Verdict.TheVariants.{Legal}
use Rattle.ring_journal.specs.Text.{IsVerdictOf}
use Rattle.ringplay.proofs.Checking.{checked_so}
use Rattle.ringplay.proofs.judge.judge.Goals as goal

pub returns-in_ok-text-in-Legal : goal.returns-in_ok-text-in-Legal
returns-in_ok-text-in-Legal c =
    let bytes = c.args.bytes.items in
    let world = c.in-Legal.world in
    let events = c.in-Legal.events in
    let legal : IsVerdictOf bytes (Legal world events) =
    subst (λ all. IsVerdictOf all (Legal world events)) c.deref.ensures.value (subst (IsVerdictOf c.deref.result.now) c.in-Legal.is c.in_ok-verdict.ensures) in
    record {
      ok = (checked_so bytes world events c.into_vec.result.items c.in_ok-text-in-Legal.text.items legal c.requires (c.a_legal_journal_is_a_run.ensures bytes world events legal) c.into_vec.ensures c.in_ok-text-in-Legal.ensures, refl);
      err = search rules;
    }
