use Rattle.std.proofs.Common.{rules, ◌≡◌, ◌∙◌, sym, ap, map}
use Rattle.std.specs.List.{flat_map}
use Rattle.std.proofs.lemmas.List.{take_all}
use Rattle.spec_core.specs.declared.term.Term.TheFolds.{the_lemmas}
use Rattle.spec_core.specs.Terms.{term_of, apply, terms}
use Rattle.static_equations.specs.Numbered.{occurring, with_variables}
use Rattle.static_equations.proofs.Occurrences.{occurring-in}
use Rattle.static_equations.proofs.numbering.+add_variables.Goals as goal

pub returns-after-loop-argument : goal.returns-after-loop-argument
returns-after-loop-argument t c =
    let e : term_of c.args.term.now ≡ apply c.in-App.field-0.0 (terms (map term_of c.in-App.args.items)) = search (rules, the_lemmas) in
    let items = c.deref-argument-items.result.now in
    c.loop-argument.invariant
    ∙ ap (with_variables c.args.numbers.now.items)
    (ap (flat_map (λ t. occurring (term_of t))) (take_all c.loop-argument.argument-index items c.loop-argument-test.false ∙ c.deref-argument-items.ensures.value)
    ∙ occurring-in term_of c.in-App.args.items ∙ sym (ap occurring e))
