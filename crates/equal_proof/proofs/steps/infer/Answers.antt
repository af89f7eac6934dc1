use Rattle.std.proofs.Common.{◌≡◌, ◌-◌, sym, subst, IfNone, IfOk}
use Rattle.spec_core.specs.Theories.{theory_of}
use Rattle.std.specs.List.{slice_get}
use Rattle.spec_core.specs.Sorts.{OnSome}
use Rattle.equal_proof.specs.declared.proof.ProofStep.{ProofStep}
use Rattle.equal_proof.specs.Certificates.{Sides, Infers, IsInstance}
use Rattle.equal_proof.specs.Pairs.{stack_of}
use Rattle.equal_proof.proofs.steps.infer.Goals as goal

pub returns-in-Same-clause-none : goal.returns-in-Same-clause-none
returns-in-Same-clause-none c =
    subst (λ (s : ProofStep). IfOk c.infer_same.result (λ found. IfNone found ((put : Sides) →
    Infers (theory_of c.args.algebra.now) s (stack_of c.args.table.now c.args.taken.now) put →
    ⊥))) (sym c.in-Same.is) c.infer_same.ensures.none

pub returns-in-Turn-clause-none : goal.returns-in-Turn-clause-none
returns-in-Turn-clause-none c =
    subst (λ (s : ProofStep). IfNone c.infer_turn.result ((put : Sides) →
    Infers (theory_of c.args.algebra.now) s (stack_of c.args.table.now c.args.taken.now) put →
    ⊥)) (sym c.in-Turn.is) c.infer_turn.ensures.none

pub returns-in-Chain-clause-none : goal.returns-in-Chain-clause-none
returns-in-Chain-clause-none c =
    subst (λ (s : ProofStep). IfNone c.infer_chain.result ((put : Sides) →
    Infers (theory_of c.args.algebra.now) s (stack_of c.args.table.now c.args.taken.now) put →
    ⊥)) (sym c.in-Chain.is) c.infer_chain.ensures.none

pub returns-in-Use-clause-none : goal.returns-in-Use-clause-none
returns-in-Use-clause-none c =
    let d : c.deref.result.now ≡ c.in-Use.terms.items = c.deref.ensures.value in
    subst (λ (s : ProofStep). IfOk c.infer_use.result (λ found. IfNone found ((put : Sides) →
    Infers (theory_of c.args.algebra.now) s (stack_of c.args.table.now c.args.taken.now) put → ⊥))) (sym c.in-Use.is)
    (subst (λ vs. IfOk c.infer_use.result (λ found. IfNone found ((put : Sides) →
    OnSome (slice_get (theory_of c.args.algebra.now).equations c.in-Use.equation)
    (λ e. IsInstance (theory_of c.args.algebra.now) e vs (stack_of c.args.table.now c.args.taken.now) put) →
    ⊥))) d c.infer_use.ensures.none)
