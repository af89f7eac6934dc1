use Rattle.std.proofs.Common.{rules, ◌≡◌, map, ap, sym, ◌∙◌}
use Rattle.std.proofs.lemmas.List.{take_all}
use Rattle.spec_core.specs.declared.term.Term.TheFolds.{the_lemmas}
use Rattle.spec_core.specs.Terms.{apply, terms, term_of}
use Rattle.spec_core.specs.Theories.{theory_of}
use Rattle.symbolic_rules.specs.MarkedTerms.{marked_instance, applied}
use Rattle.node_values.specs.Scopes.{marks_of, all_joined}
use Rattle.node_values.proofs.Finding.{instances_joined, put_along}
use Rattle.node_values.proofs.scope.+put_in.Goals as goal

pub returns-after-loop-arg : goal.returns-after-loop-arg
returns-after-loop-arg t c =
    let theory = theory_of c.args.algebra.now in
    let m = marks_of theory c.args.scope.now in
    let k : term_of c.args.term.now ≡ apply c.in-App.op.0 (terms (map term_of c.in-App.args.items)) = search (rules, the_lemmas) in
    let e = take_all c.loop-arg.arg-index c.deref-arg-items.result.now c.loop-arg-test.false ∙ c.deref-arg-items.ensures.value in
    let p = c.deref.ensures.value in
    record {
      replaced =
          put_along c.applied.result _ _
          (ap (λ ks. applied theory c.in-App.op.0 (all_joined ks))
          (ap (map _) p ∙ c.loop-arg.invariant ∙ ap (λ xs. map (marked_instance theory m) (map term_of xs)) e)
          ∙ ap (applied theory c.in-App.op.0) (instances_joined theory m (map term_of c.in-App.args.items))
          ∙ ap (marked_instance theory m) (sym k))
          c.applied.ensures;
    }
