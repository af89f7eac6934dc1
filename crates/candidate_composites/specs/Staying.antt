-- Kinds that stay what they are along steps. (This profile.)
use Rattle.std.specs.Prelude.{◌&&◌, Bool, true, false, List, [], ◌∷◌}
use Rattle.rule_model.specs.Actions.{Kind, inside}
use Rattle.candidate_laws.specs.Sought.{Step, under_one, by_itself, with_another, as_another, becomes_one, is_one_kind}
use Rattle.node_trees.specs.Shapes.{hidden, relabelled, enabled}

-- an action of this kind is one of the same kind above each of these steps
abbrev pub stays : List Step → Kind → Bool
stays [] k = true
stays (step ∷ steps) k = becomes_one step (k ∷ []) k && stays steps k

-- an action that changes its kind at the step may be of one of these kinds above it
abbrev pub may_become : Step → List Kind → Bool
may_become (under_one (hidden gates)) ks = is_one_kind inside ks
may_become (under_one (relabelled pairs)) ks = true
may_become (under_one (enabled xs right values)) ks = is_one_kind inside ks
may_become (by_itself gates) ks = false
may_become (with_another gates) ks = false
may_become (as_another j) ks = false
