use Rattle.std.proofs.Common.{◌≡◌, true, take}
use Rattle.activity.proofs.LastSent.{none_new}
use Rattle.activity.proofs.saying.says_all.Given as goal

abbrev pub invariant-loop-place : goal.invariant-loop-place
invariant-loop-place l = none_new l.sent l.tables l.ids (take l.place l.tables) ≡ true
