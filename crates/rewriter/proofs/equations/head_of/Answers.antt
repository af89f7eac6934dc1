use Rattle.std.proofs.Common.{rules, ◌≡◌, map, sym, ap, ◌∙◌}
use Rattle.spec_core.specs.declared.term.Term.TheFolds.{the_lemmas}
use Rattle.spec_core.specs.Terms.{apply, terms, term_of, width}
use Rattle.rewriter.proofs.Outcomes.{width_terms}
use Rattle.rewriter.proofs.equations.head_of.Goals as goal

pub returns-in-App : goal.returns-in-App
returns-in-App c =
    let k : term_of c.numbered.result.now.left ≡ apply c.in-App.op.0 (terms (map term_of c.in-App.patterns.items)) =
    search (rules, the_lemmas) in
    let n : c.len.result ≡ width (terms (map term_of c.in-App.patterns.items)) = cc (c.len.ensures, width_terms c.in-App.patterns.items) in
    record { call = (terms (map term_of c.in-App.patterns.items), sym (ap (λ d. d.left) c.numbered.ensures.same) ∙ k, n) }
