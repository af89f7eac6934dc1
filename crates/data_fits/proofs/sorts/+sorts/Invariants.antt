use Rattle.std.proofs.Common.{map, take}
use Rattle.std.specs.List.{slice_get}
use Rattle.spec_core.specs.Numbers.{sort_number}
use Rattle.spec_core.specs.Sorts.{HaveSorts}
use Rattle.spec_core.specs.Terms.{term_of, terms}
use Rattle.spec_core.specs.Theories.{theory_of}
use Rattle.data_fits.proofs.sorts.+sorts.Given as goal

abbrev pub invariant-have_sorts-loop-i : goal.invariant-have_sorts-loop-i
invariant-have_sorts-loop-i l = HaveSorts (theory_of l.algebra) (slice_get (map sort_number l.vars))
    (terms (map term_of (take l.i l.all))) (map sort_number (take l.i l.sorts))
