use Rattle.std.proofs.Common.{◌∷◌, ◌++◌, [], map, refl, subst, inl, inr}
use Rattle.spec_core.proofs.Lists.{untrue}
use Rattle.spec_core.specs.Lists.{Each}
use Rattle.spec_core.specs.Terms.{TermTree, terms, term_of}
use Rattle.spec_core.specs.Theories.{theory_of, premise_of}
use Rattle.path_order.specs.Below.{IsBelowBy}
use Rattle.path_order.specs.Decrease.{IsFirstNot, premise_sides}
use Rattle.path_order.proofs.Asked.{first_at, sides_next, sides_end, last_not}
use Rattle.path_order.proofs.sides.first_not_below.Goals as goal

pub returns-then-not-is_below-clause-first : goal.returns-then-not-is_below-clause-first
returns-then-not-is_below-clause-first c =
    let P : TermTree → Type 0 = IsBelowBy (theory_of c.args.algebra.now) c.args.level.now.found.keys (terms (map term_of c.args.args.now)) in
    let right = term_of c.args.equation.now.right in
    subst (λ xs. IsFirstNot P (premise_sides (map premise_of xs) ++ right ∷ []) (term_of c.premise-item.result.0)) c.deref-premise-items.ensures.value
    (first_at P c.deref-premise-items.result.now c.loop-premise.premise-index c.premise-item.result (right ∷ []) (term_of c.premise-item.result.0)
    c.loop-premise-test.true c.premise-item.is c.loop-premise.invariant (λ more. inl (refl, λ h. untrue (c.if-not-is_below.ensures.1 h))))

pub returns-then-not-is_below-2-clause-first : goal.returns-then-not-is_below-2-clause-first
returns-then-not-is_below-2-clause-first c =
    let P : TermTree → Type 0 = IsBelowBy (theory_of c.args.algebra.now) c.args.level.now.found.keys (terms (map term_of c.args.args.now)) in
    let right = term_of c.args.equation.now.right in
    subst (λ xs. IsFirstNot P (premise_sides (map premise_of xs) ++ right ∷ []) (term_of c.premise-item.result.1)) c.deref-premise-items.ensures.value
    (first_at P c.deref-premise-items.result.now c.loop-premise.premise-index c.premise-item.result (right ∷ []) (term_of c.premise-item.result.1)
    c.loop-premise-test.true c.premise-item.is c.loop-premise.invariant (λ more. inr (c.if-not-is_below.ensures.0 refl, inl (refl, λ h. untrue (c.if-not-is_below-2.ensures.1 h)))))

pub loop-premise-preserved : goal.loop-premise-preserved
loop-premise-preserved c =
    sides_next (IsBelowBy (theory_of c.args.algebra.now) c.args.level.now.found.keys (terms (map term_of c.args.args.now)))
    c.deref-premise-items.result.now c.loop-premise.premise-index c.premise-item.result c.loop-premise-test.true c.premise-item.is
    c.loop-premise.invariant (c.if-not-is_below.ensures.0 refl) (c.if-not-is_below-2.ensures.0 refl)

pub returns-then-not-is_below-3-clause-first : goal.returns-then-not-is_below-3-clause-first
returns-then-not-is_below-3-clause-first c =
    let P : TermTree → Type 0 = IsBelowBy (theory_of c.args.algebra.now) c.args.level.now.found.keys (terms (map term_of c.args.args.now)) in
    last_not P (premise_sides (map premise_of c.args.equation.now.premises.items)) (term_of c.args.equation.now.right)
    (subst (λ xs. Each P (premise_sides (map premise_of xs))) c.deref-premise-items.ensures.value
    (sides_end P c.deref-premise-items.result.now c.loop-premise.premise-index c.loop-premise-test.false c.loop-premise.invariant))
    (λ h. untrue (c.if-not-is_below-3.ensures.1 h))
