-- What an evaluation within a budget answers. (This profile.)
use Rattle.std.specs.Prelude.{ℕ, ◌≡◌, ◌≤◌, List}
use Rattle.spec_core.specs.Terms.{TermTree, preorder}
use Rattle.spec_core.specs.Theories.{Theory}
use Rattle.spec_core.specs.Values.{HasValue}
use Rattle.rewriter.specs.declared.fault.Side.{Side}
use Rattle.rewriter.specs.declared.fault.Side.TheVariants.{Left, Right}
use Rattle.spec_core.specs.Evaluation.{Evaluates, EvaluationMeets}
use Rattle.value_nodes.specs.Sizes.{IsTooLarge}

-- the evaluation of the term meets a value that is too large
abbrev pub MeetsTooLarge : Theory → TermTree → Type 0
MeetsTooLarge theory t = (w : TermTree) × EvaluationMeets theory t w × IsTooLarge w

-- the list of operations spells the term's value, to which the term evaluates within so many uses of equations, and its evaluation meets
-- none that is too large
pub record SpellsValue (theory : Theory) (t : TermTree) (budget : ℕ) (ops : List ℕ) : Type 0 where
  pub value : TermTree
  pub spelled : ops ≡ preorder value
  pub has : HasValue theory t value
  pub uses : ℕ
  pub evaluates : Evaluates theory t value uses
  pub within : uses ≤ budget
  pub small : MeetsTooLarge theory t → ⊥

-- the term has a value within so many uses of equations, and its evaluation meets none that is too large
pub record IsWithin (theory : Theory) (t : TermTree) (budget : ℕ) : Type 0 where
  pub value : TermTree
  pub uses : ℕ
  pub evaluates : Evaluates theory t value uses
  pub enough : uses ≤ budget
  pub small : MeetsTooLarge theory t → ⊥

-- each of the two terms has
abbrev pub AreWithin : Theory → TermTree → TermTree → ℕ → Type 0
AreWithin theory left right budget = IsWithin theory left budget × IsWithin theory right budget

-- the term at a side
abbrev pub at_side : Side → TermTree → TermTree → TermTree
at_side Left left right = left
at_side Right left right = right
