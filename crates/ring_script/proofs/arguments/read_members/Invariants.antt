use Rattle.std.proofs.Common.{◌≡◌, [], ◌++◌, length}
use Rattle.ring_script.specs.Words.{words_of}
use Rattle.ring_script.specs.Place.{left_in}
use Rattle.ring_script.specs.Line.{names_fault}
use Rattle.ring_script.proofs.arguments.read_members.Given as goal

abbrev pub invariant-names : goal.invariant-names
invariant-names l = record {
  fault : names_fault l.names.items (words_of (left_in l.words)) ≡ names_fault [] (words_of (left_in l.fn.rest));
  all : l.names.items ++ words_of (left_in l.words) ≡ words_of (left_in l.fn.rest);
}

abbrev pub decreases-names : goal.decreases-names
decreases-names l = length (words_of (left_in l.words))
