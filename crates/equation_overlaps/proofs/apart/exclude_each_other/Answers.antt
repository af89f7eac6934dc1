use Rattle.std.proofs.Common.{ℕ, ◌≡◌, ◌∙◌, map, length, refl, sym, subst, ap}
use Rattle.equation_faults.specs.Variables.{variables}
use Rattle.equation_faults.proofs.Occurrences.{distinct}
use Rattle.equation_sets.proofs.Members.{Distinct}
use Rattle.spec_core.proofs.Lists.{untrue}
use Rattle.spec_core.specs.Orthogonality.{renamed}
use Rattle.spec_core.specs.Terms.{variable}
use Rattle.spec_core.specs.Theories.{premise_of, theory_of, equation_of}
use Rattle.equation_shapes.specs.Shapes.{IsOfShape}
use Rattle.equation_shapes.proofs.Linear.{of_shape}
use Rattle.equation_overlaps.specs.Exclusion.{CannotHold}
use Rattle.equation_overlaps.specs.Renamings.{new_name, renamed_term}
use Rattle.equation_overlaps.proofs.Excluding.{excluded, clashing}
use Rattle.equation_overlaps.proofs.Naming.{shape_back, as_many, renamed_to}
use Rattle.equation_overlaps.proofs.apart.exclude_each_other.Goals as goal

pub returns-then-not-is_of_shape : goal.returns-then-not-is_of_shape
returns-then-not-is_of_shape c =
    let e = equation_of c.args.earlier.now in (
      λ h. absurd (untrue h),
      λ x. c.if-not-is_of_shape.ensures.decides.1 (subst (IsOfShape e.left) x.lefts (of_shape (λ y. variable (x.name y)) e.left)),
    )

pub returns-then-not-is_of_shape-2 : goal.returns-then-not-is_of_shape-2
returns-then-not-is_of_shape-2 c =
    let e = equation_of c.args.earlier.now in (
      λ h. absurd (untrue h),
      λ x. c.if-not-is_of_shape-2.ensures.decides.1 (subst (λ t. IsOfShape t e.left) x.lefts (shape_back x.name e.left)),
    )

pub names_of-requires-clause-distinct : goal.names_of-requires-clause-distinct
names_of-requires-clause-distinct c =
    subst Distinct (sym (c.deref.ensures.value ∙ c.in_ok-from.ensures)) (distinct (equation_of c.args.earlier.now).left c.requires.linear)

pub names_of-requires-clause-paired : goal.names_of-requires-clause-paired
names_of-requires-clause-paired c =
    ap length (c.deref.ensures.value ∙ c.in_ok-from.ensures)
    ∙ as_many (equation_of c.args.earlier.now).left (equation_of c.args.later.now).left (c.if-not-is_of_shape.ensures.decides.0 refl)
    (c.if-not-is_of_shape-2.ensures.decides.0 refl) ∙ sym (ap length (c.deref-2.ensures.value ∙ c.in_ok-to.ensures))

pub returns : goal.returns
returns c =
    let theory = theory_of c.args.algebra.now in
    let e = equation_of c.args.earlier.now in
    let d = equation_of c.args.later.now in
    let n : ℕ → ℕ = new_name c.in_ok-names.names.items in
    let named : map n (variables e.left) ≡ variables d.left =
    ap (map n) (sym (c.deref.ensures.value ∙ c.in_ok-from.ensures)) ∙ c.in_ok-names.ensures.renames ∙ c.deref-2.ensures.value ∙ c.in_ok-to.ensures in
    let lefts : renamed_term n e.left ≡ d.left =
    renamed_to n e.left d.left (c.if-not-is_of_shape.ensures.decides.0 refl) (c.if-not-is_of_shape-2.ensures.decides.0 refl) named in
    let ones : map premise_of c.deref-5.result.now ≡ map (renamed n) e.premises =
    ap (map premise_of) c.deref-5.ensures.value ∙ c.in_ok-renamed.ensures.renamed
    ∙ ap (λ names. map (renamed (new_name names)) (map premise_of c.deref-4.result.now)) c.deref-3.ensures.value
    ∙ ap (λ ps. map (renamed n) (map premise_of ps)) c.deref-4.ensures.value in
    let others : map premise_of c.deref-6.result.now ≡ d.premises = ap (map premise_of) c.deref-6.ensures.value in (
      λ h. excluded theory e d n lefts
          (subst (λ ps. CannotHold theory ps d.premises) ones
          (subst (λ qs. CannotHold theory (map premise_of c.deref-5.result.now) qs) others (c.cannot_hold.ensures.decides.0 h))),
      λ x. c.cannot_hold.ensures.decides.1
          (subst (λ qs. CannotHold theory (map premise_of c.deref-5.result.now) qs) (sym others)
          (subst (λ ps. CannotHold theory ps d.premises) (sym ones) (clashing theory e d n c.requires.closed lefts x))),
    )
