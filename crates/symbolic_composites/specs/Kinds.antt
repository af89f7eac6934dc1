-- Tests of kinds of actions: which rules let an action pass.
use Rattle.std.specs.Prelude.{ℕ, ◌==◌, not, List, Bool, true, false}
use Rattle.spec_core.specs.Code.{Synchronised}
use Rattle.rule_model.specs.Actions.{Kind, inside, ends, at_gate, among, synchronises}

-- whether one side of a parallel composition does it alone (`IsAlone`)
abbrev pub is_alone : Synchronised → Kind → Bool
is_alone gates inside = true
is_alone gates ends = false
is_alone gates (at_gate g) = not (synchronises gates g)

-- whether both sides do it together (`IsJoint`)
abbrev pub is_joint : Synchronised → Kind → Bool
is_joint gates inside = false
is_joint gates ends = true
is_joint gates (at_gate g) = synchronises gates g

-- whether a hiding makes it internal
abbrev pub is_hidden : List ℕ → Kind → Bool
is_hidden gates inside = false
is_hidden gates ends = false
is_hidden gates (at_gate g) = among g gates

-- whether it is the termination (`IsEnd`)
abbrev pub is_end : Kind → Bool
is_end inside = false
is_end ends = true
is_end (at_gate g) = false

abbrev pub same_kind : Kind → Kind → Bool
same_kind inside inside = true
same_kind ends ends = true
same_kind (at_gate g) (at_gate h) = g == h
same_kind inside ends = false
same_kind inside (at_gate h) = false
same_kind ends inside = false
same_kind ends (at_gate h) = false
same_kind (at_gate g) inside = false
same_kind (at_gate g) ends = false
