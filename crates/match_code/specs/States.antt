-- The state of an evaluation that remembers calls.
use Rattle.std.specs.Prelude.{ℕ, ◌≡◌, ◌≤◌, List, ◌∷◌, map, length}
use Rattle.spec_core.specs.Budgets.{IsBeyond}
use Rattle.spec_core.specs.Evaluation.{Evaluates}
use Rattle.spec_core.specs.Lists.{Each}
use Rattle.spec_core.specs.Terms.{TermTree}
use Rattle.spec_core.specs.Theories.{Theory, theory_of}
use Rattle.value_nodes.specs.declared.node.Node.{Node}
use Rattle.value_nodes.specs.Nodes.{tree_at, IsNode, AreSmall}
use Rattle.value_nodes.specs.Own.{AreOwnValues}
use Rattle.rewriter.specs.declared.fault.Eval.{Eval}
use Rattle.rewriter.specs.declared.fault.Eval.TheVariants.{Spent, TooLarge}
use Rattle.rewriter.specs.declared.step.Step.{Step}
use Rattle.rewriter.specs.Answers.{MeetsTooLarge}
use Rattle.rewriter.specs.Calls.{HasRoom}
use Rattle.rewriter.specs.Runs.{IsReady}
use Rattle.rewriter.specs.Steps.{task_of, IsStep}
use Rattle.match_code.specs.declared.frames.Frame.{Frame}
use Rattle.match_code.specs.declared.state.Store.{Store}
use Rattle.match_code.specs.declared.state.Runs.{Runs}
use Rattle.match_code.specs.declared.engine.Engine.{Engine}
use Rattle.match_code.specs.Entries.{IsEntry}
use Rattle.match_code.specs.Frames.{Waiting, Holds}
use Rattle.match_code.specs.Rights.{AreForms}

-- what a frame's numbers stand for
abbrev pub waiting_of : Theory → List Node → Frame → Waiting
waiting_of theory rows frame = record {
  op = frame.op.0;
  args = map (tree_at rows) frame.args;
  start = frame.start;
  todo = map (task_of theory rows) frame.todo;
  there = map (tree_at rows) frame.values;
}

-- the frame's numbers are those of nodes and of equations
pub record IsFrame (theory : Theory) (rows : List Node) (frame : Frame) : Type 0 where
  pub args : Each (IsNode rows) frame.args
  pub steps : Each (IsStep theory rows) frame.todo
  pub values : Each (IsNode rows) frame.values

-- where an evaluation of the term stands within a budget: the calls that are run, what is left to do of the innermost one, and the uses
-- so far
pub record IsState (theory : Theory) (t : TermTree) (budget : ℕ) (rows : List Node) (running : List Frame) (todo : List Step)
    (there : List ℕ) (uses : ℕ) : Type 0 where
  pub ready : IsReady theory rows todo there uses
  pub frames : Each (IsFrame theory rows) running
  pub holds : Holds theory t (map (waiting_of theory rows) running) (map (task_of theory rows) todo) (map (tree_at rows) there) uses
  pub within : uses ≤ budget

-- all that is remembered is so
abbrev pub Remembers : Theory → Store → Type 0
Remembers theory store = Each (IsEntry theory store.nodes) store.memo.entries.items

-- the same of the program's runs over what is kept, with these steps left of the innermost one
pub record StandsBefore (theory : Theory) (t : TermTree) (budget : ℕ) (store : Store) (runs : Runs) (todo : List Step) : Type 0 where
  pub state : IsState theory t budget store.nodes runs.frames todo runs.values runs.uses
  pub remembers : Remembers theory store

-- the same with its own steps
abbrev pub Stands : Theory → TermTree → ℕ → Store → Runs → Type 0
Stands theory t budget store runs = StandsBefore theory t budget store runs runs.todo

-- the same with one more step to be done first
abbrev pub StandsAt : Theory → TermTree → ℕ → Store → Runs → Step → Type 0
StandsAt theory t budget store runs step = StandsBefore theory t budget store runs (step ∷ runs.todo)

-- why an evaluation of the term gave no value
pub record IsCause (theory : Theory) (t : TermTree) (budget : ℕ) (cause : Eval) : Type 0 where
  pub spent : cause ≡ Spent → IsBeyond theory t budget
  pub large : cause ≡ TooLarge → MeetsTooLarge theory t

-- what is kept from one evaluation to the next
pub record IsStore (theory : Theory) (store : Store) : Type 0 where
  pub own : AreOwnValues theory store.nodes
  pub small : AreSmall store.nodes
  pub remembers : Remembers theory store

-- an engine of executable data
pub record IsEngine (engine : Engine) : Type 0 where
  pub forms : AreForms (theory_of engine.algebra.now) engine.forms
  pub room : HasRoom (theory_of engine.algebra.now) (length engine.bound.items)
  pub store : IsStore (theory_of engine.algebra.now) engine.store

-- the node stands for the value to which the term evaluates within the budget, and its evaluation meets none that is too large
pub record IsEnd (theory : Theory) (t : TermTree) (budget : ℕ) (rows : List Node) (node : ℕ) : Type 0 where
  pub there : IsNode rows node
  pub uses : ℕ
  pub evaluates : Evaluates theory t (tree_at rows node) uses
  pub enough : uses ≤ budget
  pub small : MeetsTooLarge theory t → ⊥
