use Rattle.std.proofs.Common.{map, ap, sym, option_map, ◌∙◌}
use Rattle.std.specs.List.{slice_get}
use Rattle.spec_core.specs.Numbers.{sort_number}
use Rattle.spec_core.specs.Theories.{theory_of, premise_of}
use Rattle.spec_core.proofs.Lists.{untrue}
use Rattle.cover_check.proofs.Opening.{asks_headed, premise_has_head}
use Rattle.cover_check.proofs.sorts.premise_asks.Goals as goal

pub returns-in-None : goal.returns-in-None
returns-in-None c = (
  λ h. absurd (untrue h),
  λ k. absurd (premise_has_head (theory_of c.args.algebra.now) c.args.set.now (slice_get (map sort_number c.args.vars.now)) (premise_of c.args.premise.now)
      c.requires.fits (ap (option_map sort_number) (sym c.in-None.is) ∙ c.head_sort.ensures)),
)

pub returns-in-Some : goal.returns-in-Some
returns-in-Some c =
    let a = asks_headed (theory_of c.args.algebra.now) c.args.set.now (slice_get (map sort_number c.args.vars.now)) (premise_of c.args.premise.now)
    c.requires.fits c.in-Some.sort.0 (ap (option_map sort_number) (sym c.in-Some.is) ∙ c.head_sort.ensures) in (
      λ h. a.0 (c.has.ensures.decides.0 h),
      λ k. c.has.ensures.decides.1 (a.1 k),
    )
