-- Actions: their kinds, at which gates sides act together, what is hidden, and what is relabelled.
use Rattle.std.specs.Prelude.{ℕ, ◌==◌, ◌≡◌, Bool, true, false, if◌then◌else◌, List, [], ◌∷◌, ◌++◌, map}
use Rattle.spec_core.specs.Code.{Relabelling, Synchronised, every_gate, these_gates}
use Rattle.rule_model.specs.declared.action.Action.{Action}
use Rattle.rule_model.specs.declared.action.Action.TheVariants.{Inner, Exit, At}

-- an action without its values: internal, successful termination, or at a gate
pub data Kind : Type 0 where
  inside : Kind
  ends : Kind
  at_gate : ℕ → Kind

abbrev pub kind_of : Action → Kind
kind_of Inner = inside
kind_of (Exit values) = ends
kind_of (At gate values) = at_gate gate.0

-- the action at a gate with values
abbrev pub doing : ℕ → List (List ℕ) → Action
doing g values = At (record { 0 = g }) values

-- whether the gate is one of these
abbrev pub among : ℕ → List ℕ → Bool
among g [] = false
among g (h ∷ gates) = if g == h then true else among g gates

-- whether a parallel composition synchronises at the gate
abbrev pub synchronises : Synchronised → ℕ → Bool
synchronises every_gate g = true
synchronises (these_gates gates) g = among g gates

-- what one side of a parallel composition does alone: what is internal, or at a gate that isn't synchronised
abbrev pub IsAlone : Synchronised → Kind → Type 0
IsAlone gates inside = Unit {0}
IsAlone gates ends = ⊥
IsAlone gates (at_gate g) = synchronises gates g ≡ false

-- what both sides do together: the successful termination, or what is at a synchronised gate
abbrev pub IsJoint : Synchronised → Kind → Type 0
IsJoint gates inside = ⊥
IsJoint gates ends = Unit {0}
IsJoint gates (at_gate g) = synchronises gates g ≡ true

-- what a hiding lets pass: all but what is at a hidden gate
abbrev pub IsUnhidden : List ℕ → Kind → Type 0
IsUnhidden gates inside = Unit {0}
IsUnhidden gates ends = Unit {0}
IsUnhidden gates (at_gate g) = among g gates ≡ false

-- any action but the successful termination
abbrev pub IsNoEnd : Kind → Type 0
IsNoEnd inside = Unit {0}
IsNoEnd ends = ⊥
IsNoEnd (at_gate g) = Unit {0}

-- the successful termination
abbrev pub IsEnd : Kind → Type 0
IsEnd inside = ⊥
IsEnd ends = Unit {0}
IsEnd (at_gate g) = ⊥

-- the gate that stands in the place of a gate; one that no pair names stays
abbrev pub renamed : List Relabelling → ℕ → ℕ
renamed [] g = g
renamed (m ∷ pairs) g = if g == m.from then m.to else renamed pairs g

-- an action at the gate that stands in the place of its own; what is internal and the successful termination stay
abbrev pub renamed_action : List Relabelling → Action → Action
renamed_action pairs Inner = Inner
renamed_action pairs (Exit values) = Exit values
renamed_action pairs (At gate values) = doing (renamed pairs gate.0) values

-- the relabelling by the second list and then by the first
abbrev pub after : List Relabelling → List Relabelling → List Relabelling
after pairs before = map (λ m. record { from = m.from; to = renamed pairs m.to }) before ++ pairs

-- each formal gate of a process with the actual gate of a call
abbrev pub pairs_of : List ℕ → List ℕ → List Relabelling
pairs_of (g ∷ formal) (h ∷ actual) = record { from = g; to = h } ∷ pairs_of formal actual
pairs_of _ _ = []
