use Rattle.std.proofs.Common.{rules, ◌≡◌, ◌-◌, ◌∙◌, ap, sym, map}
use Rattle.std.proofs.lemmas.List.{take_all}
use Rattle.std.proofs.lemmas.Result.{on_ok_weaker}
use Rattle.spec_core.specs.declared.term.Term.TheFolds.{the_lemmas}
use Rattle.spec_core.specs.Terms.{apply, term_of, terms}
use Rattle.equal_proof.specs.Certificates.{with_variables, with_all_variables}
use Rattle.equal_proof.proofs.Bound.{all_next}
use Rattle.equal_proof.proofs.variables.+variables.Goals as goal

pub add_all_variables-loop-term-preserved : goal.add_all_variables-loop-term-preserved
add_all_variables-loop-term-preserved t c =
    c.in_ok-add_variables.ensures
    ∙ ap (λ fs. with_variables fs (term_of c.term-item.result)) c.loop-term.invariant
    ∙ sym (all_next c.args.found.now.items c.args.all.now c.loop-term.term-index c.term-item.result c.loop-term-test.true c.term-item.is)

pub add_all_variables-returns : goal.add_all_variables-returns
add_all_variables-returns t c =
    c.loop-term.invariant
    ∙ ap (λ ts. with_all_variables c.args.found.now.items (terms (map term_of ts)))
    (take_all c.loop-term.term-index c.args.all.now c.loop-term-test.false)

pub add_variables-returns-in-App : goal.add_variables-returns-in-App
add_variables-returns-in-App t c =
    let e : term_of c.args.term.now ≡ apply c.in-App.field-0.0 (terms (map term_of c.in-App.args.items)) = search (rules, the_lemmas) in
    let d : c.deref.result.now ≡ c.in-App.args.items = search rules in
    on_ok_weaker c.add_all_variables.result
    (λ h. h ∙ ap (λ ts. with_all_variables c.args.found.now.items (terms (map term_of ts))) d
    ∙ ap (with_variables c.args.found.now.items) (sym e))
    c.add_all_variables.ensures
