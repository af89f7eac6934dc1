use Rattle.std.proofs.Common.{map, subst}
use Rattle.std.specs.List.{slice_get}
use Rattle.spec_core.specs.Numbers.{sort_number}
use Rattle.spec_core.specs.Sorts.{HasSort}
use Rattle.spec_core.specs.Terms.{term_of}
use Rattle.spec_core.specs.Theories.{theory_of}
use Rattle.spec_core.proofs.Lists.{untrue}
use Rattle.data_fits.proofs.Listing.{found_sort}
use Rattle.data_fits.proofs.fits.have_one_sort.Goals as goal

pub returns-then-not-has_sort : goal.returns-then-not-has_sort
returns-then-not-has_sort c = (
  λ h. absurd (untrue h),
  λ h.
      let theory = theory_of c.args.algebra.now in
      let vars = slice_get (map sort_number c.args.vars.now) in
      let same = found_sort theory vars (term_of c.args.one.now) c.in-Some.sort.0 h.0 c.in-Some.ensures h.1 in
      c.if-not-has_sort.ensures.1 (subst (HasSort theory vars (term_of c.args.one.now)) same h.1),
)

pub returns-else-not-has_sort : goal.returns-else-not-has_sort
returns-else-not-has_sort c = (
  λ h. (c.in-Some.sort.0, c.has_sort.ensures.0 c.if-not-has_sort.false, c.has_sort-in-Some.ensures.0 h),
  λ h.
      let theory = theory_of c.args.algebra.now in
      let vars = slice_get (map sort_number c.args.vars.now) in
      let same = found_sort theory vars (term_of c.args.one.now) c.in-Some.sort.0 h.0 c.in-Some.ensures h.1 in
      c.has_sort-in-Some.ensures.1 (subst (HasSort theory vars (term_of c.args.other.now)) same h.2),
)
