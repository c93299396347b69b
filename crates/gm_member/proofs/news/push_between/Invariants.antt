use Rattle.std.proofs.Common.{◌≡◌, ◌++◌}
use Rattle.gm_member.specs.News.{taken_between}
use Rattle.gm_member.proofs.news.push_between.Given as goal

abbrev pub invariant-loop-k : goal.invariant-loop-k
invariant-loop-k l = l.out.items ≡ l.initial.out.items ++ taken_between l.p (l.line).lo (l.line).messages l.from l.k
