-- What comes of a certificate that was run.
use Rattle.std.proofs.Common.{ℕ, suc, ◌≡◌, ◌<◌, ◌≤◌, ◌+◌, List, [], length, take, get_or, sym, subst, ◌∙◌, arith, Some, add-one}
use Rattle.std.proofs.lemmas.List.{take_all}
use Rattle.std.proofs.lemmas.Option.{slice_get_past, slice_get_within}
use Rattle.std.specs.List.{slice_get}
use Rattle.spec_core.specs.Executable.{IsExecutable}
use Rattle.spec_core.specs.Theories.{Theory}
use Rattle.spec_core.proofs.Lists.{slice_get_next}
use Rattle.equal_proof.specs.declared.fault.CheckFault.{CheckFault}
use Rattle.equal_proof.specs.declared.fault.CheckFault.TheVariants.{NotAProof, Memory}
use Rattle.equal_proof.specs.declared.proof.ProofStep.{ProofStep}
use Rattle.equal_proof.specs.Certificates.{Sides, StepOf, Runs, FailsAt, IsStuck, ProvesSpelled}
use Rattle.equal_proof.specs.Outcomes.{IsNoneLeft, IsOneLeft, NamesStep}
use Rattle.equal_proof.proofs.Sound.{certificates_are_sound}

pub next_number : (n : ℕ) → suc n ≡ n + 1
next_number n = sym (add-one n)

-- the step at a place
pub steps_at : (steps found : List ProofStep) (n : ℕ) (step : ProofStep) → found ≡ steps → n < length found → step ≡ get_or found n step →
    slice_get steps n ≡ Some step
steps_at steps found n step e within at = subst (λ ss. slice_get ss n ≡ Some step) e (slice_get_next found n step within at)

pub fails_in : (theory : Theory) (steps : List ProofStep) (n : ℕ) (step : ProofStep) (stack : List Sides) → slice_get steps n ≡ Some step →
    Runs theory (take n steps) [] stack → ((new : List Sides) → StepOf theory step stack new → ⊥) → FailsAt theory steps n
fails_in theory steps n step stack at runs fails = record {
  within = let w = slice_get_within steps n step at in omega (arith, w);
  stack = stack;
  before = runs;
  stuck = subst (λ o. IsStuck theory o stack) (sym at) fails;
}

pub fails_at_end : (theory : Theory) (steps : List ProofStep) (n : ℕ) (stack : List Sides) (fault : CheckFault) → length steps ≤ n →
    Runs theory (take n steps) [] stack → NamesStep fault (λ step. (step ≡ length steps) × IsNoneLeft stack) →
    NamesStep fault (FailsAt theory steps)
fails_at_end theory steps n stack (NotAProof step) past runs h = record {
  within = omega (arith, h.0);
  stack = stack;
  before = subst (λ ss. Runs theory ss [] stack) (take_all n steps past ∙ sym (take_all step steps (omega (arith, h.0)))) runs;
  stuck = subst (λ o. IsStuck theory o stack) (sym (slice_get_past steps step (omega (arith, h.0)))) h.1;
}
fails_at_end theory steps n stack Memory past runs h = tt

pub proves_spelled : (theory : Theory) → IsExecutable theory → (steps : List ProofStep) (n : ℕ) (stack : List Sides) (left right : List ℕ) →
    length steps ≤ n → Runs theory (take n steps) [] stack → IsOneLeft stack left right → ProvesSpelled theory steps left right
proves_spelled theory ex steps n stack left right past runs h =
    let proves = subst (λ (st : List Sides). Runs theory steps [] st) h.2 (subst (λ ss. Runs theory ss [] stack)
    (take_all n steps past) runs) in
    let sound = certificates_are_sound theory ex steps h.0 h.1 proves in
    record {
      left_term = h.0;
      right_term = h.1;
      left_spelled = h.3;
      right_spelled = h.4;
      proves = proves;
      left_fits = sound.0;
      right_fits = sound.1;
      equal = sound.2;
    }
