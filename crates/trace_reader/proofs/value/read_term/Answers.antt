use Rattle.std.proofs.Common.{rules, ◌≡◌, ◌∙◌, ◌++◌, Some, ap, sym, map}
use Rattle.spec_core.specs.Numbers.{op_number}
use Rattle.spec_core.specs.Terms.{preorder, term_of}
use Rattle.spec_core.proofs.Options.{if_none_at}
use Rattle.value_text.specs.Vocabularies.{theory_in}
use Rattle.value_terms.specs.Stacks.{HasArguments}
use Rattle.value_terms.proofs.Enough.{sorted_arguments}
use Rattle.trace_reader.proofs.Valued.{ground_list, ground_of, ground_text, term_alike}
use Rattle.trace_reader.proofs.value.read_term.Goals as goal

pub returns-in-None-clause-finds : goal.returns-in-None-clause-finds
returns-in-None-clause-finds c x rest fits ends e =
    let theory = theory_in c.args.vocabulary.now in
    let v =
    c.in_ok-value.ensures.finds (preorder x) rest (ground_list theory x fits) ends (e ∙ ap (λ l. Some (l ++ rest)) (ground_text theory x fits)) in
    absurd (if_none_at c.in_ok-term_with.field-0 c.in-None.is c.in_ok-term_with.ensures.none x (sorted_arguments theory x fits.0 fits.1)
    (c.as_slice.ensures.spelled ∙ v.0))

pub returns-clause-finds : goal.returns-clause-finds
returns-clause-finds c x rest fits ends e =
    let theory = theory_in c.args.vocabulary.now in
    let v =
    c.in_ok-value.ensures.finds (preorder x) rest (ground_list theory x fits) ends (e ∙ ap (λ l. Some (l ++ rest)) (ground_text theory x fits)) in
    let arguments : HasArguments theory (term_of c.in-Some.term) = search rules in
    let spelled : map op_number c.as_slice.result.now ≡ preorder (term_of c.in-Some.term) = search rules in
    (term_alike theory (term_of c.in-Some.term) x (map op_number c.as_slice.result.now) arguments spelled fits (c.as_slice.ensures.spelled ∙ v.0), v.1)

pub returns-clause-fits : goal.returns-clause-fits
returns-clause-fits c there =
    let theory = theory_in c.args.vocabulary.now in
    let arguments : HasArguments theory (term_of c.in-Some.term) = search rules in
    let spelled : map op_number c.as_slice.result.now ≡ preorder (term_of c.in-Some.term) = search rules in
    ground_of theory (term_of c.in-Some.term) c.in_ok-value.value arguments (sym c.as_slice.ensures.spelled ∙ spelled)
    (c.in_ok-value.ensures.fits there)
