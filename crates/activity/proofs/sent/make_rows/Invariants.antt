use Rattle.std.proofs.Common.{◌≡◌, take}
use Rattle.activity.specs.LastSent.{KeepsSent, origins_sent}
use Rattle.activity.specs.Packets.{HasRows, origins}
use Rattle.activity.specs.Order.{with_origins}
use Rattle.activity.specs.Shown.{last_sent_rows}
use Rattle.activity.proofs.sent.make_rows.Given as goal

abbrev pub invariant-loop-line : goal.invariant-loop-line
invariant-loop-line l = record {
  there : HasRows (last_sent_rows l.rows.entries) (take l.line-index l.lines);
  order : origins_sent (last_sent_rows l.rows.entries) ≡ with_origins (origins (take l.line-index l.lines)) (origins_sent (last_sent_rows l.fn.rows.entries));
  kept : KeepsSent (last_sent_rows l.fn.rows.entries) (last_sent_rows l.rows.entries);
}
