use Rattle.std.proofs.Common.{◌≡◌, map, rules, ap, subst, sym, ◌∙◌}
use Rattle.spec_core.specs.declared.term.Term.TheFolds.{the_lemmas}
use Rattle.spec_core.specs.Constructors.{ArePatterns}
use Rattle.spec_core.specs.Terms.{apply, terms, term_of}
use Rattle.spec_core.specs.Theories.{theory_of}
use Rattle.equation_faults.proofs.patterns.has_patterns.Goals as goal

pub returns-in-App : goal.returns-in-App
returns-in-App c =
    let theory = theory_of c.args.algebra.now in
    let f = c.in-App.field-0.0 in
    let ps = terms (map term_of c.in-App.args.items) in
    let k : term_of c.args.equation.now.left ≡ apply f ps = search (rules, the_lemmas) in
    let same : terms (map term_of c.deref.result.now) ≡ ps = ap (λ xs. terms (map term_of xs)) c.deref.ensures.value in
    record {
      decides = (
        λ h. (f, ps, k, subst (ArePatterns theory) same (c.are_patterns.ensures.0 h)),
        λ h. let e : apply h.0 h.1 ≡ apply f ps = sym h.2 ∙ k in
            let d : h.1 ≡ ps = cc in
            c.are_patterns.ensures.1 (subst (ArePatterns theory) (d ∙ sym same) h.3),
      );
    }
