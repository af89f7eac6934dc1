-- What is said of texts is said of equal ones.
use Rattle.std.proofs.Common.{ℕ, ◌≡◌, List, Result, IfOk, subst}
use Rattle.spec_core.specs.declared.memory.Memory.{Memory}
use Rattle.command_selfrun.specs.declared.answer.Answer.{Answer}
use Rattle.command_selfrun.specs.Runs.{ComesOfTexts}

pub of_equal_texts : (specification text script other : List ℕ) (r : Result Answer Memory) → specification ≡ text → script ≡ other →
    IfOk r (ComesOfTexts specification script) → IfOk r (ComesOfTexts text other)
of_equal_texts specification text script other r e f h =
    subst (λ z. IfOk r (ComesOfTexts text z)) f (subst (λ z. IfOk r (ComesOfTexts z script)) e h)
