use Rattle.std.proofs.Common.{rules, ◌∙◌}
use Rattle.spec_core.specs.Terms.{term_of}
use Rattle.spec_core.specs.Theories.{theory_of}
use Rattle.spec_core.proofs.Lists.{untrue}
use Rattle.spec_core.proofs.Options.{if_none_at}
use Rattle.value_terms.proofs.Enough.{sorted_arguments}
use Rattle.value_terms.proofs.Stacked.{term_sort}
use Rattle.value_terms.proofs.reading.term_of_sort.Goals as goal

pub returns-in-None-clause-none : goal.returns-in-None-clause-none
returns-in-None-clause-none c t h =
    if_none_at c.in_ok-term_with.field-0 c.in-None.is c.in_ok-term_with.ensures.none t
    (sorted_arguments (theory_of c.args.algebra.now) t c.args.sort.0 h.of_sort) (c.as_slice.ensures.spelled ∙ h.spelled)

pub returns-else-is_ground_of-clause-none : goal.returns-else-is_ground_of-clause-none
returns-else-is_ground_of-clause-none c t h =
    untrue (c.if-is_ground_of.ensures.1
    (term_sort (theory_of c.args.algebra.now) c.args.value.now t (term_of c.in-Some.term) c.args.sort.0 h (search rules) (search rules)))
