use Rattle.std.proofs.Common.{◌≡◌, ◌++◌, map}
use Rattle.candidate_composites.specs.Known.{found_of}
use Rattle.candidate_composites.specs.Contexts.{all_through, turns_of}
use Rattle.candidate_composites.proofs.context.put_all_through.Given as goal

abbrev pub invariant-loop-found : goal.invariant-loop-found
invariant-loop-found l =
    map found_of l.all.items ≡ map found_of l.initial.all.items ++ all_through (turns_of l.context) (map found_of l.yielded)
