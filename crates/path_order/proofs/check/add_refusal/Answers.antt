use Rattle.std.proofs.Common.{rules, ℕ, ◌≡◌, None, Some, map, subst, sym}
use Rattle.std.proofs.lemmas.List.{append-nil}
use Rattle.lotos_ast.specs.declared.refusal.Refusal.{Refusal}
use Rattle.spec_core.specs.declared.term.Term.TheFolds.{the_lemmas}
use Rattle.spec_core.specs.Lists.{Each, IsOneOf, OneOf}
use Rattle.spec_core.specs.Terms.{TermTrees, apply, terms, term_of}
use Rattle.spec_core.specs.Theories.{Theory, ConditionalEquation, Heads, theory_of, equation_of}
use Rattle.path_order.specs.Below.{IsBelowBy}
use Rattle.path_order.specs.Mentioning.{AreDependents}
use Rattle.path_order.specs.Decrease.{IsFirstNot, IsRefusalOf, refusal_naming, sides}
use Rattle.path_order.proofs.Ordering.{decreasing_by, first_by}
use Rattle.path_order.proofs.Depending.{at_one_of}
use Rattle.path_order.proofs.check.add_refusal.Goals as goal

-- where an operation heads one of the equations
abbrev headed : (theory : Theory) (e : ConditionalEquation) (f : ℕ) (ps : TermTrees) → IsOneOf e theory.equations → e.left ≡ apply f ps → OneOf (Heads f) theory.equations
headed theory e f ps listed k = at_one_of (Heads f) e theory.equations listed (ps, k)

pub returns-in-None-clause-added : goal.returns-in-None-clause-added
returns-in-None-clause-added c =
    let theory = theory_of c.args.algebra.now in
    let e = equation_of c.args.equation.now in
    let set = c.in_ok-level-in-App.level.found.keys in
    let ps = terms (map term_of c.in-App.args.items) in
    let k : term_of c.args.equation.now.left ≡ apply c.in-App.op.0 ps = search (rules, the_lemmas) in
    let heads = headed theory e c.in-App.op.0 ps c.requires.listed k in
    let h = subst (λ xs. Each (IsBelowBy theory set (terms (map term_of xs))) (sides e)) c.deref.ensures.value c.in-None.ensures.none in
    (None, decreasing_by theory set c.in-App.op.0 (c.in_ok-level-in-App.ensures.exact theory c.requires.mentions heads c.requires.last) heads ps e c.requires.listed k h, sym (append-nil c.args.refusals.now.items))

pub returns-in_ok-push-in-Some-clause-added : goal.returns-in_ok-push-in-Some-clause-added
returns-in_ok-push-in-Some-clause-added c =
    let theory = theory_of c.args.algebra.now in
    let e = equation_of c.args.equation.now in
    let set = c.in_ok-level-in-App.level.found.keys in
    let side = term_of c.in-Some.side.now in
    let ps = terms (map term_of c.in-App.args.items) in
    let k : term_of c.args.equation.now.left ≡ apply c.in-App.op.0 ps = search (rules, the_lemmas) in
    let heads = headed theory e c.in-App.op.0 ps c.requires.listed k in
    let h = subst (λ xs. IsFirstNot (IsBelowBy theory set (terms (map term_of xs))) (sides e) side) c.deref.ensures.value c.in-Some.ensures.first in
    let refused : (r : Refusal) → r ≡ refusal_naming theory e side → IsRefusalOf theory e r = λ r is. record {
      f = c.in-App.op.0;
      ps = ps;
      left = k;
      side = side;
      first = first_by theory set c.in-App.op.0 (c.in_ok-level-in-App.ensures.exact theory c.requires.mentions heads c.requires.last) heads ps e c.requires.listed k side h;
      is = is;
    } in
    let r = c.in_ok-not_decreasing-in-Some.field-0 in
    (Some r, refused r c.in_ok-not_decreasing-in-Some.ensures, c.in_ok-push-in-Some.ensures.items)

-- what was found for the equation's operation, as what was found last for the next one
pub returns-in-None-clause-last : goal.returns-in-None-clause-last
returns-in-None-clause-last c =
    let theory = theory_of c.args.algebra.now in
    let ps = terms (map term_of c.in-App.args.items) in
    let k : term_of c.args.equation.now.left ≡ apply c.in-App.op.0 ps = search (rules, the_lemmas) in
    let heads = headed theory (equation_of c.args.equation.now) c.in-App.op.0 ps c.requires.listed k in
    subst (λ op. AreDependents theory op.0 c.in_ok-level-in-App.level.found.keys) (sym c.in_ok-level-in-App.ensures.same)
    (c.in_ok-level-in-App.ensures.exact theory c.requires.mentions heads c.requires.last)

pub returns-in_ok-push-in-Some-clause-last : goal.returns-in_ok-push-in-Some-clause-last
returns-in_ok-push-in-Some-clause-last c =
    let theory = theory_of c.args.algebra.now in
    let ps = terms (map term_of c.in-App.args.items) in
    let k : term_of c.args.equation.now.left ≡ apply c.in-App.op.0 ps = search (rules, the_lemmas) in
    let heads = headed theory (equation_of c.args.equation.now) c.in-App.op.0 ps c.requires.listed k in
    subst (λ op. AreDependents theory op.0 c.in_ok-level-in-App.level.found.keys) (sym c.in_ok-level-in-App.ensures.same)
    (c.in_ok-level-in-App.ensures.exact theory c.requires.mentions heads c.requires.last)
