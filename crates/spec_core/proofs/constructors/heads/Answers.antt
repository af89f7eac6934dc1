use Rattle.std.proofs.Common.{rules, ◌≡◌, map, ap, ◌∙◌}
use Rattle.spec_core.specs.declared.term.Term.TheFolds.{the_lemmas}
use Rattle.spec_core.specs.Terms.{apply, terms, term_of}
use Rattle.spec_core.proofs.constructors.heads.Goals as goal

pub returns-in-App : goal.returns-in-App
returns-in-App c =
    let k : term_of c.args.equation.now.left ≡ apply c.in-App.head.0 (terms (map term_of c.in-App.field-1.items)) =
    search (rules, the_lemmas) in (
      λ h.
          let e : c.in-App.head.0 ≡ c.args.op.0 = search rules in
          (terms (map term_of c.in-App.field-1.items), k ∙ ap (λ f. apply f (terms (map term_of c.in-App.field-1.items))) e),
      λ h.
          let same : term_of c.args.equation.now.left ≡ apply c.args.op.0 h.0 = h.1 in
          let e : c.in-App.head.0 ≡ c.args.op.0 = cc in search rules,
    )
