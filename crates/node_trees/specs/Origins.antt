-- Origins: places of the code with values for variables, without their places in memory.
use Rattle.std.specs.Prelude.{ℕ, List, [], ◌∷◌, map}
use Rattle.spec_core.specs.Code.{Program, Relabelling, relabelling_of}
use Rattle.rule_model.specs.Behaviours.{Behaviour, call}
use Rattle.rule_model.specs.Substitution.{put, tidied}
use Rattle.rule_origins.specs.Parts.{behaviour_at}
use Rattle.rule_origins.specs.Values.{assignment}
use Rattle.node_trees.specs.declared.origin.Origin.{Origin}

-- a number of the code, with values for variables and with gates in the places of gates
pub record Source : Type 0 where
  pub node : ℕ
  pub values : List (ℕ × List ℕ)
  pub relabelling : List Relabelling

abbrev pub source_of : Origin → Source
source_of o = record { node = o.node; values = o.values.items; relabelling = map relabelling_of o.relabel.items }

-- the behaviour at a number of the code, with these values for its variables
abbrev pub scoped : Program → ℕ → List (ℕ × List ℕ) → Behaviour
scoped program node values = put (assignment program.theory values) (behaviour_at program node)

-- the behaviour under a relabelling; an empty one is none
abbrev pub relabelled_by : List Relabelling → Behaviour → Behaviour
relabelled_by [] b = b
relabelled_by (m ∷ pairs) b = tidied (m ∷ pairs) b

-- the behaviour that an origin stands for
abbrev pub meaning : Program → Source → Behaviour
meaning program o = relabelled_by o.relabelling (scoped program o.node o.values)

-- a call of a process
abbrev pub IsCall : Behaviour → Type 0
IsCall (call p gates terms) = Unit {0}
IsCall _ = ⊥
