use Rattle.std.proofs.Common.{◌≡◌, map, take}
use Rattle.spec_core.specs.Code.{action_field_of}
use Rattle.rule_model.specs.Substitution.{put_in_field}
use Rattle.rule_substitution.specs.Scopes.{terms_of}
use Rattle.rule_substitution.proofs.scope.Scope.put_in_fields.Given as goal

abbrev pub invariant-loop-field : goal.invariant-loop-field
invariant-loop-field l =
    map action_field_of l.all.items ≡ map (put_in_field (terms_of l.self)) (map action_field_of (take l.field-index l.fields))
