-- What holds of the term at a side holds of one of both; and what has a value has it within the budget.
use Rattle.std.specs.Prelude.{ℕ, List, ◌⊎◌}
use Rattle.std.proofs.Common.{inl, inr}
use Rattle.spec_core.specs.Terms.{TermTree}
use Rattle.spec_core.specs.Theories.{Theory}
use Rattle.rewriter.specs.declared.fault.Side.{Side}
use Rattle.rewriter.specs.declared.fault.Side.TheVariants.{Left, Right}
use Rattle.rewriter.specs.Answers.{SpellsValue, IsWithin, at_side}

pub either : (P : TermTree → Type 0) (side : Side) (left right : TermTree) → P (at_side side left right) → P left ⊎ P right
either P Left left right h = inl h
either P Right left right h = inr h

pub within_of : (theory : Theory) (t : TermTree) (budget : ℕ) (ops : List ℕ) → SpellsValue theory t budget ops → IsWithin theory t budget
within_of theory t budget ops h =
    record { value = h.value; uses = h.uses; evaluates = h.evaluates; enough = h.within; small = h.small }
