use Rattle.activity.proofs.Rows.{kept_shown}
use Rattle.activity.proofs.tables.Tables.table.Goals as goal

pub returns : goal.returns
returns c = kept_shown c.args.origin c.self.inside.rows.entries c.args.self.now c.self.view_is c.get.result c.get.ensures.value
