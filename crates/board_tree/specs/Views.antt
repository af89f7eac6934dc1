-- What contracts see of a tree of the program.
use Rattle.std.specs.Prelude.{ℕ, ◌≡◌, ◌≤◌, List, Option, Some, None}
use Rattle.spec_core.specs.Code.{Program}
use Rattle.rule_model.specs.declared.action.Action.{Action}
use Rattle.rule_model.specs.Behaviours.{Behaviour}
use Rattle.rule_model.specs.Derivations.{Derivation}
use Rattle.rule_model.specs.Derives.{Derives}
use Rattle.node_trees.specs.declared.branch.Branch.{Branch}
use Rattle.node_trees.specs.declared.origin.Gen.{Gen}
use Rattle.board_tree.specs.declared.ready.Ready.{Ready}
use Rattle.node_trees.specs.Differences.{IsDifference}
use Rattle.board_tree.specs.Changes.{changed}
use Rattle.board_tree.specs.Keeping.{IsUntouched, Keeps, Leaves}
use Rattle.node_trees.specs.Shapes.{Shape, shape_of, stands_for, IsRight}
use Rattle.board_tree.specs.Steps.{Moves, Follows}

-- the tree, the next generation, what the last step ended and began, and what stands ready for the next step
pub record TreeView : Type 0 where
  pub root : Branch
  pub next : ℕ
  pub gone : List Gen
  pub came : List Gen
  pub ready : Option Ready

abbrev pub shape : TreeView → Shape
shape v = shape_of v.root

-- what stands ready is what the tree becomes by these rules, with its action and the generations that end and begin
abbrev pub IsReserved : Program → Shape → ℕ → Derivation → Option Ready → Type 0
IsReserved program t next d None = ⊥
IsReserved program t next d (Some r) =
    Moves program t d r.action (changed r.change t) next r.next × IsDifference r.gone.items t (changed r.change t) ×
    IsDifference r.came.items (changed r.change t) t

-- this tree is what the first becomes by the change that stands ready
abbrev pub IsNext : Option Ready → Shape → Shape → Type 0
IsNext None old new = ⊥
IsNext (Some r) old new = new ≡ changed r.change old

-- this action stands ready
abbrev pub IsNextAction : Option Ready → Action → Type 0
IsNextAction None a = ⊥
IsNextAction (Some r) a = a ≡ r.action

-- By these rules the first tree becomes the second. Where each node that takes part is expanded by what its origin can do, the second
-- stands for what the behaviour becomes, and its nodes are expanded in the same way. The nodes that the step leaves untouched stay, with
-- their generations, origins, the constructs above them and their work, and each other node is new and waits. The lists are those of the
-- generations that ended and that began.
pub record IsStep (program : Program) (old : Shape) (next : ℕ) (d : Derivation) (new : Shape) (later : ℕ) (gone came : List Gen)
    : Type 0 where
  pub stands : IsRight program old → Follows old d → (a : Action) (c : Behaviour) →
      Derives program (stands_for program old) d a c →
      stands_for program new ≡ c
  pub more : next ≤ later
  pub keeps : Keeps (IsUntouched d) next later old new
  pub leaves : Leaves (IsUntouched d) old new
  pub right : IsRight program old → IsRight program new
  pub ended : IsDifference gone old new
  pub began : IsDifference came new old
