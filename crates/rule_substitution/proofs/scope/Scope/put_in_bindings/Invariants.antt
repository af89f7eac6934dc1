use Rattle.std.proofs.Common.{◌≡◌, map, take}
use Rattle.spec_core.specs.Code.{binding_of}
use Rattle.rule_model.specs.Substitution.{put_in_binding}
use Rattle.rule_substitution.specs.Scopes.{terms_of}
use Rattle.rule_substitution.proofs.scope.Scope.put_in_bindings.Given as goal

abbrev pub invariant-loop-binding : goal.invariant-loop-binding
invariant-loop-binding l =
    map binding_of l.all.items ≡ map (put_in_binding (terms_of l.self)) (map binding_of (take l.binding-index l.bindings))
