use Rattle.std.proofs.Common.{◌≡◌, ◌++◌, [], take, map}
use Rattle.type_names.specs.DuplicateNames.{name_twice}
use Rattle.type_names.specs.NameSets.{IsSetOf}
use Rattle.type_names.specs.Refused.{each_after}
use Rattle.type_names.proofs.duplicates.add_names_twice.Given as goal

abbrev pub invariant-loop-name : goal.invariant-loop-name
invariant-loop-name l = record {
  refusals : l.refusals.items ≡ l.initial.refusals.items ++ each_after name_twice [] (map (λ t. t.now) (take l.name-index l.names));
  before : IsSetOf l.before (map (λ t. t.now) (take l.name-index l.names));
}
