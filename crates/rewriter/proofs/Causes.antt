-- The causes of want of a value.
use Rattle.std.proofs.Common.{ℕ, ◌≡◌, refl, sym, ◌∙◌, arith, Result, Ok, Err, IfErr}
use Rattle.spec_core.specs.Budgets.{IsBeyond}
use Rattle.spec_core.specs.Terms.{TermTree}
use Rattle.spec_core.specs.Theories.{Theory}
use Rattle.value_nodes.specs.declared.fault.NodeFault.{NodeFault}
use Rattle.value_nodes.specs.declared.fault.NodeFault.TheVariants.{TooLarge as LargeNode, Memory as NoMemory}
use Rattle.rewriter.specs.declared.fault.Eval.{Eval}
use Rattle.rewriter.specs.declared.fault.Eval.TheVariants.{Spent, TooLarge, Memory}
use Rattle.rewriter.specs.Answers.{MeetsTooLarge, IsWithin}
use Rattle.rewriter.specs.Faults.{eval_of}

-- where the causes of two answers don't hold, the third is left
pub complete : {A : Type 0} (theory : Theory) (t : TermTree) (budget : ℕ) (r : Result A Eval) →
    IfErr r (λ e. e ≡ Spent → IsBeyond theory t budget) → IfErr r (λ e. e ≡ TooLarge → MeetsTooLarge theory t) →
    IsWithin theory t budget → IfErr r (λ e. e ≡ Memory)
complete theory t budget (Ok x) spent large w = tt
complete theory t budget (Err Spent) spent large w =
    let b = spent refl w.value w.uses w.evaluates in
    absurd (omega (arith, b, w.enough))
complete theory t budget (Err TooLarge) spent large w = absurd (w.small (large refl))
complete theory t budget (Err Memory) spent large w = refl

-- a node that isn't made for its size is too large
pub large_cause : (fault : NodeFault) (e : Eval) → e ≡ eval_of fault → e ≡ TooLarge → fault ≡ LargeNode
large_cause LargeNode e q p = refl
large_cause NoMemory e q p = let n : Memory ≡ TooLarge = sym q ∙ p in cc

pub never_spent : (fault : NodeFault) (e : Eval) → e ≡ eval_of fault → e ≡ Spent → ⊥
never_spent LargeNode e q p = let n : TooLarge ≡ Spent = sym q ∙ p in cc
never_spent NoMemory e q p = let n : Memory ≡ Spent = sym q ∙ p in cc
