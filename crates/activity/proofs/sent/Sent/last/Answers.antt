use Rattle.std.proofs.Common.{sym, ap, ◌∙◌}
use Rattle.activity.proofs.Rows.{sent_found, sent_none}
use Rattle.activity.specs.LastSent.{sent_of}
use Rattle.activity.proofs.sent.Sent.last.Goals as goal

pub returns-in-Some : goal.returns-in-Some
returns-in-Some c = sym (sent_found c.args.origin c.self.inside.rows.entries c.in-Some.row.now (sym c.in-Some.ensures.value)) ∙ ap (λ rows. sent_of rows c.args.origin.0) c.self.view_is

pub returns-in-None : goal.returns-in-None
returns-in-None c = sym (sent_none c.args.origin c.self.inside.rows.entries (sym c.in-None.ensures.value)) ∙ ap (λ rows. sent_of rows c.args.origin.0) c.self.view_is
