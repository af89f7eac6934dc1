-- Calls that are run by themselves, one in another.
use Rattle.std.specs.Prelude.{ℕ, List, [], ◌∷◌, ◌++◌, length}
use Rattle.spec_core.specs.Terms.{TermTree}
use Rattle.spec_core.specs.Theories.{Theory}
use Rattle.rewriter.specs.Machine.{Outcome, Evaluating, Task, call, Comes, Keeps, AreCounted}

-- a call of an operation over values, the last one first, that is run by itself since so many uses, and the tasks and values that wait
-- for its value
pub record Waiting : Type 0 where
  pub op : ℕ
  pub args : List TermTree
  pub start : ℕ
  pub todo : List Task
  pub there : List TermTree

-- what the innermost run is of: the last call that was begun, or the term
abbrev pub Goal : Theory → TermTree → List Waiting → Outcome → Type 0
Goal theory t [] o = Evaluating theory t o
Goal theory t (w ∷ ws) o = Comes theory (call w.op (length w.args) ∷ []) w.args o

-- after how many uses it began
abbrev pub start_of : List Waiting → ℕ
start_of [] = 0
start_of (w ∷ ws) = w.start

-- each run waits at the call that the next one runs, before which the calls in their middle are counted
abbrev pub AreWaiting : Theory → TermTree → List Waiting → Type 0
AreWaiting theory t [] = Unit {0}
AreWaiting theory t (w ∷ ws) =
    Keeps (Goal theory t ws) (start_of ws) (Comes theory (call w.op (length w.args) ∷ w.todo) (w.args ++ w.there)) w.start ×
    AreCounted theory w.start (call w.op (length w.args) ∷ w.todo) (w.args ++ w.there) × AreWaiting theory t ws

-- the state of all runs, the innermost one over these tasks and values
pub record Holds (theory : Theory) (t : TermTree) (ws : List Waiting) (todo : List Task) (there : List TermTree) (uses : ℕ) : Type 0 where
  pub waiting : AreWaiting theory t ws
  pub kept : Keeps (Goal theory t ws) (start_of ws) (Comes theory todo there) uses
