-- What an answer says of a term that was asked on the way to it.
use Rattle.std.specs.Prelude.{ℕ, Result, Ok, Err}
use Rattle.spec_core.specs.Sorts.{FitsGround}
use Rattle.spec_core.specs.Terms.{TermTree}
use Rattle.spec_core.specs.Theories.{Theory}
use Rattle.rewriter.specs.Answers.{IsWithin}
use Rattle.rule_walk.specs.declared.fault.FireFault.{FireFault}
use Rattle.rule_walk.specs.declared.fault.FireFault.TheVariants.{Unfit, Spent, TooLarge, Memory}

-- Where a rule doesn't fit, the term has a value within so many uses of equations, and its evaluation meets none that is too large, if it
-- is a ground term of the data; no other term has a value. The other faults say nothing of it.
abbrev pub FaultBounds : Theory → ℕ → FireFault → TermTree → Type 0
FaultBounds theory budget (Unfit at) x = FitsGround theory x → IsWithin theory x budget
FaultBounds theory budget (Spent term) x = Unit {0}
FaultBounds theory budget (TooLarge term) x = Unit {0}
FaultBounds theory budget Memory x = Unit {0}

-- where there is no fault, it has such a value, and so is a ground term
abbrev pub Bounds : {R : Type 0} → Theory → ℕ → Result R FireFault → TermTree → Type 0
Bounds theory budget (Ok r) x = IsWithin theory x budget
Bounds theory budget (Err f) x = FaultBounds theory budget f x

-- so it is of each term of which A holds
abbrev pub BoundsEach : {R : Type 0} → Theory → ℕ → (TermTree → Type 0) → Result R FireFault → Type 0
BoundsEach theory budget A r = (x : TermTree) → A x → Bounds theory budget r x
