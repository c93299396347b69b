use Rattle.std.proofs.Common.{sym, ap, subst, ◌∙◌}
use Rattle.std.proofs.lemmas.Result.{on_ok_weaker}
use Rattle.ring_rules.specs.Kind.{kind_of}
use Rattle.ring_parties.specs.Parties.{Shown, shown_in, keeps_in}
use Rattle.ring_parties.specs.Keeps.{publishing, having_said, kept_after}
use Rattle.ring_parties.specs.Acting.{Casts, DoesAlone}
use Rattle.ring_parties.proofs.events.Kinds.{says_read}
use Rattle.ring_parties.proofs.queue.say.Goals as goal

pub returns-clause-ok : goal.returns-clause-ok
returns-clause-ok c =
    let is = says_read (kind_of c.args.event.now) c.requires.says in
    on_ok_weaker c.publish.result
    (λ casts. subst (λ k. DoesAlone k (keeps_in c.args.party.now) (shown_in c.args.party.now) (shown_in c.publish.new.party)) (sym is.1)
    (c.in-Ok.message, c.in-Ok.ensures is.0 is.1, subst (λ (s : Shown). Casts c.in-Ok.message s (shown_in c.publish.new.party)) c.be_alone.ensures.same casts))
    c.publish.ensures.ok

pub returns-clause-keeps : goal.returns-clause-keeps
returns-clause-keeps c =
    let is = says_read (kind_of c.args.event.now) c.requires.says in
    on_ok_weaker c.publish.result
    (λ same. same
    ∙ ap (λ (s : Shown). publishing c.in-Ok.message s.held.view.version (keeps_in c.args.party.now)) c.be_alone.ensures.same
    ∙ sym (ap (λ r. having_said r (shown_in c.args.party.now).held.view.version (keeps_in c.args.party.now)) (c.in-Ok.ensures is.0 is.1))
    ∙ sym (ap (λ k. kept_after k (shown_in c.args.party.now) (keeps_in c.args.party.now)) is.1))
    c.publish.ensures.keeps
