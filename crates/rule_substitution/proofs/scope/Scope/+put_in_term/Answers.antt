use Rattle.std.proofs.Common.{rules, ◌≡◌, map, ap, sym, ◌∙◌}
use Rattle.std.proofs.lemmas.List.{take_all}
use Rattle.spec_core.specs.declared.term.Term.TheFolds.{the_lemmas}
use Rattle.spec_core.specs.declared.term.Term.TheViews.{App}
use Rattle.spec_core.specs.Terms.{apply, terms, term_of, instance}
use Rattle.rule_substitution.specs.Scopes.{terms_of}
use Rattle.rule_substitution.proofs.TermLists.{instances-terms}
use Rattle.rule_substitution.proofs.scope.Scope.+put_in_term.Goals as goal

pub returns-after-loop-arg : goal.returns-after-loop-arg
returns-after-loop-arg t c =
    let s = terms_of c.args.self.now in
    let k : term_of c.args.term.now ≡ apply c.in-App.op.0 (terms (map term_of c.in-App.args.items)) = search (rules, the_lemmas) in
    let a : term_of (App c.in-App.op c.loop-arg.all) ≡ apply c.in-App.op.0 (terms (map term_of c.loop-arg.all.items)) =
    search (rules, the_lemmas) in
    let e = take_all c.loop-arg.arg-index c.deref-arg-items.result.now c.loop-arg-test.false ∙ c.deref-arg-items.ensures.value in
    record {
      replaced =
          a
          ∙ ap (λ xs. apply c.in-App.op.0 (terms xs)) c.loop-arg.invariant
          ∙ ap (λ xs. apply c.in-App.op.0 (terms (map (instance s) (map term_of xs)))) e
          ∙ ap (apply c.in-App.op.0) (instances-terms s (map term_of c.in-App.args.items))
          ∙ ap (instance s) (sym k);
    }
