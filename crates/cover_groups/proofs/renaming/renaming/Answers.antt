use Rattle.std.proofs.Common.{rules, ◌≡◌, map, ap, sym, ◌∙◌}
use Rattle.spec_core.specs.declared.term.Term.TheFolds.{the_lemmas}
use Rattle.spec_core.specs.Terms.{apply, terms, term_of}
use Rattle.spec_core.proofs.Lists.{untrue}
use Rattle.cover_groups.proofs.Grouping.{no_renaming, match_renames}
use Rattle.cover_groups.proofs.renaming.renaming.Goals as goal

pub returns-then-not-is_of_shape-clause-none : goal.returns-then-not-is_of_shape-clause-none
returns-then-not-is_of_shape-clause-none c =
    no_renaming (term_of c.args.from.now) (term_of c.args.to.now) (λ h. untrue (c.if-not-is_of_shape.ensures.decides.1 h))

pub returns-in-App-clause-some : goal.returns-in-App-clause-some
returns-in-App-clause-some c =
    let k : term_of c.args.to.now ≡ apply c.in-App.op.0 (terms (map term_of c.in-App.args.items)) = search (rules, the_lemmas) in
    match_renames (λ bound. map term_of bound.items) (term_of c.args.from.now) (term_of c.args.to.now) _
    (c.is_of_shape.ensures.decides.0 c.if-not-is_of_shape.false) (ap (λ xs. apply c.in-App.op.0 (terms (map term_of xs))) c.deref.ensures.value ∙ sym k) c.match_pattern.result c.match_pattern.ensures.some
