use Rattle.std.proofs.Common.{◌≡◌, ◌∙◌, map, rules, ap, sym, ℕ}
use Rattle.spec_core.specs.declared.term.Term.{App}
use Rattle.spec_core.specs.declared.term.Term.TheFolds.{the_lemmas}
use Rattle.spec_core.specs.Terms.{TermTree, apply, instance, terms, term_of, variable}
use Rattle.equation_overlaps.specs.Renamings.{new_name}
use Rattle.equation_overlaps.proofs.Instances.{instances_next, instances_end}
use Rattle.equation_overlaps.proofs.renaming.+renamed_term.Goals as goal

pub loop-part-preserved : goal.loop-part-preserved
loop-part-preserved t c =
    instances_next (λ y. variable (new_name c.args.names.now y)) c.deref-part-items.result.now c.loop-part.part-index c.part-item.result
    c.loop-part.all.items c.push.new.self.items c.in_ok-renamed_term-in-App.field-0 c.loop-part-test.true c.part-item.is c.loop-part.invariant
    c.in_ok-renamed_term-in-App.ensures c.in_ok-push-in-App.ensures.items

pub returns-after-loop-part : goal.returns-after-loop-part
returns-after-loop-part t c =
    let s : ℕ → TermTree = λ y. variable (new_name c.args.names.now y) in
    let f = c.in-App.op.0 in
    let k : term_of c.args.term.now ≡ apply f (terms (map term_of c.in-App.args.items)) = search (rules, the_lemmas) in
    let e : term_of (App c.in-App.op c.loop-part.all) ≡ apply f (terms (map term_of c.loop-part.all.items)) = search (rules, the_lemmas) in
    e ∙ ap (apply f) (instances_end s c.deref-part-items.result.now c.in-App.args.items c.loop-part.part-index c.loop-part.all.items
    c.loop-part-test.false c.deref-part-items.ensures.value c.loop-part.invariant) ∙ sym (ap (instance s) k)
