use Rattle.std.proofs.Common.{List, map, sym, subst}
use Rattle.std.specs.List.{slice_get}
use Rattle.spec_core.specs.declared.items.Sort.{Sort}
use Rattle.spec_core.specs.declared.term.Term.{Term}
use Rattle.spec_core.specs.Lists.{Each}
use Rattle.spec_core.specs.Numbers.{sort_number}
use Rattle.spec_core.specs.Sorts.{PremiseFits}
use Rattle.spec_core.specs.Theories.{premise_of, theory_of}
use Rattle.cover_check.proofs.sorts.asks_in.Goals as goal

pub some_premise_asks-requires : goal.some_premise_asks-requires
some_premise_asks-requires c =
    let theory = theory_of c.args.algebra.now in
    record {
      fit = subst (λ (vs : List Sort). Each (PremiseFits theory (slice_get (map sort_number vs))) (map premise_of c.deref-2.result.now)) (sym c.deref.ensures.value)
          (subst (λ (ps : List (Term × Term)). Each (PremiseFits theory (slice_get (map sort_number c.args.equation.now.vars.items))) (map premise_of ps))
          (sym c.deref-2.ensures.value) c.requires.fits.premises);
    }
