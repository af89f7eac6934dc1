-- What is put around a part once it is read, and what is put behind two parts. The rows of `IsRead` are met by these.
use Rattle.std.specs.Prelude.{ℕ, ◌+◌, ◌==◌, List, [], ◌∷◌, ◌++◌, take, Option, Some, None, option_map, if◌then◌else◌}
use Rattle.std.specs.List.{flat_map}
use Rattle.lotos_ast.specs.declared.place.Place.{Place}
use Rattle.lotos_ast.specs.declared.refusal.Refusal.{Refusal}
use Rattle.spec_core.specs.Code.{Node, Variable, ActionField, Synchronised, action, value_choice, gate_choice, choice, disable, parallel}
use Rattle.spec_core.specs.Code.{enable}
use Rattle.spec_core.specs.Functionality.{Functionality}
use Rattle.spec_core.specs.Theories.{Premise}
use Rattle.static_readings.specs.Joins.{Read, around, either, both, joined, disagreement}
use Rattle.static_readings.specs.Readings.{relabelled, copied, accepting}

-- a part under nodes, of which the first is outermost. Each is made once the number of what stands in it is known
abbrev pub under_all : ℕ → List (ℕ → Node) → Read → Read
under_all from [] r = r
under_all from (make ∷ makes) r = around from make (under_all from makes r)

-- a choice of the value of a variable, and one of a gate, over a part

abbrev pub value_layer : Variable → ℕ → Node
value_layer x part = value_choice x part

abbrev pub gate_layer : ℕ → List ℕ → ℕ → Node
gate_layer g among part = gate_choice g among part

-- what stands around a part: such nodes, or copies of it from one gate to others, side by side; or something hinders it
pub data Frame : Type 0 where
  hindered : Frame
  layers : List (ℕ → Node) → Frame
  copies_from : ℕ → Synchronised → List ℕ → Frame

-- such nodes, where they are there
abbrev pub layers_if : Option (List (ℕ → Node)) → Frame
layers_if None = hindered
layers_if (Some makes) = layers makes

-- an action before a part, and copies of one, where what stands in them is there

abbrev pub action_if : Option ℕ → Option (List (List ActionField)) → Option (Option Premise) → Frame
action_if (Some g) (Some fields) (Some guard) = layers (action g (flat_map (λ all. all) fields) guard ∷ [])
action_if _ _ _ = hindered

abbrev pub copies_if : ℕ → Option Synchronised → Option (List ℕ) → Frame
copies_if g (Some gates) (Some among) = copies_from g gates among
copies_if g _ _ = hindered

abbrev pub framed : ℕ → Frame → Option Read → Option Read
framed from hindered x = None
framed from (layers makes) x = option_map (under_all from makes) x
framed from (copies_from g gates among) x = copied from g (Some gates) (Some among) x

-- copies of a part are put out from the last to the first: each with the composition of it and of those behind it, of which there are so
-- many nodes. The last one stands alone

abbrev pub parallel_if : Synchronised → ℕ → ℕ → List Node
parallel_if gates part count = if count == 0 then [] else parallel gates (part + count + 1) (part + count) ∷ []

abbrev pub next_copy : Synchronised → ℕ → ℕ → ℕ → ℕ → List Node
next_copy gates part g a count = relabelled part g a ∷ parallel_if gates part count

-- what stands behind two parts
pub data Joining : Type 0 where
  in_choice : Joining
  in_disabling : Joining
  in_parallel : Synchronised → Joining
  in_enabling : List Variable → Joining

-- how two parts end together, if they may stand together
abbrev pub together : Joining → Functionality → Functionality → Option Functionality
together in_choice f g = either f g
together in_disabling f g = either f g
together (in_parallel gates) f g = both f g
together (in_enabling xs) f g = accepting f xs g

abbrev pub node_behind : Joining → ℕ → ℕ → Node
node_behind in_choice left right = choice left right
node_behind in_disabling left right = disable left right
node_behind (in_parallel gates) left right = parallel gates left right
node_behind (in_enabling xs) left right = enable left xs right

-- the two parts may be asked for it, where both are read and nothing hinders it
abbrev pub ready : Option Joining → Option Functionality → Option Functionality → Option (Joining × Option Functionality)
ready (Some j) (Some f) (Some g) = Some (j, together j f g)
ready _ _ _ = None

-- one more node, where how it ends is known; else only the first nodes
abbrev pub with_node : Option Functionality → ℕ → Node → List Node → List Node
with_node None from node code = take from code
with_node (Some ends) from node code = code ++ node ∷ []

-- two parts, joined where nothing hinders it, and what is refused of that
abbrev pub joined_as : ℕ → Option Joining → Option Read → Option Read → Option Read
joined_as from None x y = None
joined_as from (Some j) x y = joined from (together j) (node_behind j) x y

abbrev pub joining_refusals : Place → Option Joining → Option Read → Option Read → List Refusal
joining_refusals place None x y = []
joining_refusals place (Some j) x y = disagreement place (together j) x y
