use Rattle.std.proofs.Common.{rules, ◌≡◌, ◌∙◌, sym, ap, map}
use Rattle.std.proofs.lemmas.List.{take_all}
use Rattle.spec_core.specs.declared.term.Term.{App}
use Rattle.spec_core.specs.declared.term.Term.TheFolds.{the_lemmas}
use Rattle.spec_core.specs.Terms.{term_of, apply, terms}
use Rattle.static_presentation.specs.Moved.{moved_term, moved_terms}
use Rattle.static_presentation.proofs.Lists.{moved-of}
use Rattle.static_presentation.proofs.moved.+moved_term.Goals as goal

pub returns-after-loop-argument : goal.returns-after-loop-argument
returns-after-loop-argument t c =
    let e : term_of c.args.term.now ≡ apply c.in-App.op.0 (terms (map term_of c.in-App.args.items)) = search (rules, the_lemmas) in
    let items = c.deref-argument-items.result.now in
    let operations = c.args.operations.now in
    let f : term_of (App (record { 0 = c.number_at.result }) c.loop-argument.all) ≡ apply c.number_at.result (terms (map term_of c.loop-argument.all.items)) = search (rules, the_lemmas) in
    f ∙ ap (λ z. apply c.number_at.result (terms z))
    (c.loop-argument.invariant ∙ ap (map (λ t. moved_term operations (term_of t))) (take_all c.loop-argument.argument-index items c.loop-argument-test.false ∙ c.deref-argument-items.ensures.value))
    ∙ ap (apply c.number_at.result) (moved-of operations term_of c.in-App.args.items)
    ∙ ap (λ n. apply n (moved_terms operations (terms (map term_of c.in-App.args.items)))) c.number_at.ensures
    ∙ sym (ap (moved_term operations) e)
