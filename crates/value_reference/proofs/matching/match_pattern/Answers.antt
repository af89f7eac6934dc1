use Rattle.std.proofs.Common.{rules, ◌≡◌, map, ap, sym, ◌∙◌}
use Rattle.spec_core.specs.declared.term.Term.TheFolds.{the_lemmas}
use Rattle.spec_core.specs.declared.term.Term.TheViews.{App}
use Rattle.spec_core.specs.Substitutions.{substitution_of}
use Rattle.spec_core.specs.Terms.{apply, terms, term_of, instance}
use Rattle.spec_core.proofs.Lists.{untrue}
use Rattle.spec_core.proofs.OneValue.{same_instance}
use Rattle.value_reference.proofs.matching.match_pattern.Goals as goal

pub returns-clause-none : goal.returns-clause-none
returns-clause-none c = λ s e.
    let call : term_of (App c.args.op c.in_ok-copy_terms.field-0) ≡
    apply c.args.op.0 (terms (map term_of c.in_ok-copy_terms.field-0.items)) =
    search (rules, the_lemmas) in
    let k = call ∙ ap (λ ts. apply c.args.op.0 (terms ts)) c.in_ok-copy_terms.ensures.equal in
    let agree =
    same_instance (substitution_of (map term_of c.in_ok-bound.bound.items)) s (term_of c.args.pattern.now)
    (λ x o. c.in_ok-bound.ensures s x (e ∙ sym k) o) in
    let made =
    c.in_ok-instantiate.ensures.replaced
    ∙ ap (λ ts. instance (substitution_of (map term_of ts)) (term_of c.args.pattern.now)) c.deref.ensures.value in
    untrue (c.if-matches.ensures.decides.1 (made ∙ agree ∙ e ∙ sym k))
