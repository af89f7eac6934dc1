use Rattle.std.proofs.Common.{◌≡◌, map, take}
use Rattle.spec_core.specs.Code.{exit_value_of}
use Rattle.rule_model.specs.Substitution.{put_in_exit}
use Rattle.rule_substitution.specs.Scopes.{terms_of}
use Rattle.rule_substitution.proofs.scope.Scope.put_in_exits.Given as goal

abbrev pub invariant-loop-field : goal.invariant-loop-field
invariant-loop-field l =
    map exit_value_of l.all.items ≡ map (put_in_exit (terms_of l.self)) (map exit_value_of (take l.field-index l.fields))
