use Rattle.std.proofs.Common.{rules, ◌≡◌, ◌∙◌, sym, ap, map}
use Rattle.std.specs.List.{position_or_len}
use Rattle.std.specs.Prelude.{nat_eq}
use Rattle.std.proofs.lemmas.List.{take_all}
use Rattle.spec_core.specs.declared.term.Term.{App}
use Rattle.spec_core.specs.declared.term.Term.TheFolds.{the_lemmas}
use Rattle.spec_core.specs.Terms.{variable, term_of, apply, terms}
use Rattle.static_equations.specs.Numbered.{renumbered}
use Rattle.static_equations.proofs.Occurrences.{instances-of}
use Rattle.static_equations.proofs.numbering.+renumbered.Goals as goal

pub returns-after-loop-argument : goal.returns-after-loop-argument
returns-after-loop-argument t c =
    let e : term_of c.args.term.now ≡ apply c.in-App.op.0 (terms (map term_of c.in-App.args.items)) = search (rules, the_lemmas) in
    let items = c.deref-argument-items.result.now in
    let numbers = c.args.numbers.now in
    let f : term_of (App c.in-App.op c.loop-argument.all) ≡ apply c.in-App.op.0 (terms (map term_of c.loop-argument.all.items)) = search (rules, the_lemmas) in
    f ∙ ap (λ z. apply c.in-App.op.0 (terms z))
    (c.loop-argument.invariant ∙ ap (map (λ t. renumbered numbers (term_of t))) (take_all c.loop-argument.argument-index items c.loop-argument-test.false ∙ c.deref-argument-items.ensures.value))
    ∙ ap (apply c.in-App.op.0) (instances-of (λ x. variable (position_or_len (nat_eq x) numbers)) term_of c.in-App.args.items)
    ∙ sym (ap (renumbered numbers) e)
