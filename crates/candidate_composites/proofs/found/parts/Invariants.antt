use Rattle.std.proofs.Common.{◌≡◌, map}
use Rattle.candidate_composites.specs.Known.{found_of, placed_of}
use Rattle.candidate_composites.proofs.found.parts.Given as goal

abbrev pub invariant-loop-found : goal.invariant-loop-found
invariant-loop-found l = map placed_of l.all.items ≡ map found_of l.yielded
