use Rattle.std.proofs.Common.{arith, ◌<◌, length, map}
use Rattle.std.specs.List.{slice_get}
use Rattle.spec_core.specs.Numbers.{sort_number}
use Rattle.spec_core.specs.Theories.{theory_of}
use Rattle.spec_core.proofs.Lists.{untrue}
use Rattle.data_fits.proofs.Listing.{have_lengths, have_at, have_next}
use Rattle.data_fits.proofs.sorts.+sorts.Goals as goal

pub have_sorts-returns-then-all-sorts : goal.have_sorts-returns-then-all-sorts
have_sorts-returns-then-all-sorts t c = (
  λ h. absurd (untrue h),
  λ h. let k = have_lengths (theory_of c.args.algebra.now) (slice_get (map sort_number c.args.vars.now)) c.args.all.now c.args.sorts.now h in
      absurd (omega (arith, k, c.if-all-sorts.true)),
)

pub have_sorts-returns-then-not-has_sort : goal.have_sorts-returns-then-not-has_sort
have_sorts-returns-then-not-has_sort t c = (
  λ h. absurd (untrue h),
  λ h. c.if-not-has_sort.ensures.1
      (have_at (theory_of c.args.algebra.now) (slice_get (map sort_number c.args.vars.now)) c.args.all.now c.args.sorts.now c.loop-i.i
      c.index-all-i.result _ c.loop-i-test.true c.index-all-i.is h),
)

pub have_sorts-loop-i-preserved : goal.have_sorts-loop-i-preserved
have_sorts-loop-i-preserved t c =
    let w : c.loop-i.i < length c.args.sorts.now = omega (arith, c.if-all-sorts.false, c.loop-i-test.true) in
    have_next (theory_of c.args.algebra.now) (slice_get (map sort_number c.args.vars.now)) c.args.all.now c.args.sorts.now c.loop-i.i
    c.index-all-i.result _ c.loop-i-test.true w c.index-all-i.is c.loop-i.invariant (c.has_sort.ensures.0 c.if-not-has_sort.false)
