use Rattle.std.proofs.Common.{rules, ◌≡◌, ◌-◌, ◌∙◌, ap, sym, subst, Some, length, map}
use Rattle.spec_core.specs.Theories.{theory_of, equation_of, operation_of, premise_of}
use Rattle.std.proofs.lemmas.List.{length-map}
use Rattle.std.specs.List.{slice_get}
use Rattle.spec_core.specs.Numbers.{sort_number}
use Rattle.value_table.proofs.Spelled.{on_declared}
use Rattle.equal_proof.specs.Certificates.{Infers, IsInside, IsInstance, bound_by, premise_instance, variables_of}
use Rattle.equal_proof.proofs.Inferred.{none_declared}
use Rattle.equal_proof.proofs.OneOutcome.{inside_length}
use Rattle.equal_proof.proofs.steps.count_taken.Goals as goal

pub returns-in-Same : goal.returns-in-Same
returns-in-Same c =
    λ taken put h. let k = subst (λ s. Infers (theory_of c.args.algebra.now) s taken put) c.in-Same.is h in ap Some (sym (ap length k.3))

pub returns-in-Turn : goal.returns-in-Turn
returns-in-Turn c =
    λ taken put h. let k = subst (λ s. Infers (theory_of c.args.algebra.now) s taken put) c.in-Turn.is h in ap Some (sym (ap length k.2))

pub returns-in-Chain : goal.returns-in-Chain
returns-in-Chain c =
    λ taken put h. let k = subst (λ s. Infers (theory_of c.args.algebra.now) s taken put) c.in-Chain.is h in ap Some (sym (ap length k.3))

pub returns-in-None : goal.returns-in-None
returns-in-None c =
    λ taken put h. let k = subst (λ s. Infers (theory_of c.args.algebra.now) s taken put) c.in-Inside.is h in
    absurd (none_declared (λ d. IsInside (theory_of c.args.algebra.now) d taken) (slice_get
    (theory_of c.args.algebra.now).operations c.in-Inside.op.0) c.in-None.ensures.none k.0)

pub returns-in-Some : goal.returns-in-Some
returns-in-Some c =
    λ taken put h. let k = subst (λ s. Infers (theory_of c.args.algebra.now) s taken put) c.in-Inside.is h in
    let d = on_declared (λ d. IsInside (theory_of c.args.algebra.now) d taken) (slice_get
    (theory_of c.args.algebra.now).operations c.in-Inside.op.0) (operation_of c.in-Some.declared.now)
    c.in-Some.ensures.some k.0 in
    let l : c.len.result ≡ length c.in-Some.declared.now.args.items = search rules in
    ap Some (l ∙ sym (length-map c.in-Some.declared.now.args.items sort_number)
    ∙ sym (inside_length (theory_of c.args.algebra.now) (operation_of c.in-Some.declared.now) taken d))

pub returns-in-None-equation_at : goal.returns-in-None-equation_at
returns-in-None-equation_at c =
    λ taken put h. let k = subst (λ s. Infers (theory_of c.args.algebra.now) s taken put) c.in-Use.is h in
    absurd (none_declared (λ e. IsInstance (theory_of c.args.algebra.now) e c.in-Use.terms.items taken put) (slice_get
    (theory_of c.args.algebra.now).equations c.in-Use.equation)
    c.in-None-equation_at.ensures.none k)

pub returns-in-Some-equation_at : goal.returns-in-Some-equation_at
returns-in-Some-equation_at c =
    λ taken put h. let k = subst (λ s. Infers (theory_of c.args.algebra.now) s taken put) c.in-Use.is h in
    let e = equation_of c.in-Some-equation_at.used.now in
    let d = on_declared (λ e. IsInstance (theory_of c.args.algebra.now) e c.in-Use.terms.items taken put) (slice_get
    (theory_of c.args.algebra.now).equations c.in-Use.equation) e
    c.in-Some-equation_at.ensures.some k in
    let l : c.len-in-Some-equation_at.result ≡ length c.in-Some-equation_at.used.now.premises.items = search rules in
    let m = length-map (map premise_of c.in-Some-equation_at.used.now.premises.items)
    (premise_instance (bound_by (variables_of e.left) d.0)) in
    ap Some (l ∙ sym (length-map c.in-Some-equation_at.used.now.premises.items premise_of) ∙ sym m ∙ sym (ap length d.3.0))
