use Rattle.spec_core.specs.Terms.{term_of}
use Rattle.spec_core.proofs.Lists.{untrue}
use Rattle.spec_core.proofs.Options.{if_none_at}
use Rattle.match_code.specs.Prepared.{program_in}
use Rattle.node_values.specs.Found.{Spelled}
use Rattle.node_values.proofs.Finding.{of_some, equal_found}
use Rattle.value_terms.proofs.Values.{left_unequal, right_unequal}
use Rattle.node_values.proofs.value.are_equal.Goals as goal

pub returns-in-None-clause-decides : goal.returns-in-None-clause-decides
returns-in-None-clause-decides c = (
  λ h. absurd (untrue h),
  λ equal. absurd (left_unequal (program_in c.args.prepared.now).theory c.requires.executable (term_of c.args.left) (term_of c.args.right)
      (if_none_at c.in_ok-operations_of.field-0 c.in-None.is c.in_ok-operations_of.ensures.none) equal),
)

pub returns-in-None-2-clause-decides : goal.returns-in-None-2-clause-decides
returns-in-None-2-clause-decides c = (
  λ h. absurd (untrue h),
  λ equal. absurd (right_unequal (program_in c.args.prepared.now).theory c.requires.executable (term_of c.args.left) (term_of c.args.right)
      (if_none_at c.in_ok-operations_of-in-Some.field-0 c.in-None-2.is c.in_ok-operations_of-in-Some.ensures.none) equal),
)

pub returns-clause-decides : goal.returns-clause-decides
returns-clause-decides c =
    let theory = (program_in c.args.prepared.now).theory in
    let same = equal_found theory c.requires.executable (term_of c.args.left) (term_of c.args.right) c.in-Some.first c.in-Some-2.second
    (of_some (Spelled theory (term_of c.args.left)) c.in_ok-operations_of.field-0 c.in-Some.first c.in-Some.is
    c.in_ok-operations_of.ensures.some)
    (of_some (Spelled theory (term_of c.args.right)) c.in_ok-operations_of-in-Some.field-0 c.in-Some-2.second c.in-Some-2.is
    c.in_ok-operations_of-in-Some.ensures.some) in
    (λ h. same.0 (c.same.ensures.decides.0 h), λ equal. c.same.ensures.decides.1 (same.1 equal))
