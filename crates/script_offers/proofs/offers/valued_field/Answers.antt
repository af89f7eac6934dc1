use Rattle.std.proofs.Common.{rules, sym, subst}
use Rattle.spec_core.specs.Terms.{term_of}
use Rattle.script_text.specs.Wishes.{wished_field_of}
use Rattle.match_code.specs.Prepared.{program_in}
use Rattle.script_offers.specs.Faults.{IsFaultOf}
use Rattle.script_offers.specs.Given.{given_in}
use Rattle.script_offers.proofs.Comings.{handed_on, fault_of_term}
use Rattle.script_offers.proofs.offers.valued_field.Goals as goal

pub returns-in_err-value-in-Give-clause-fault : goal.returns-in_err-value-in-Give-clause-fault
returns-in_err-value-in-Give-clause-fault c =
    handed_on c.from_residual.result _ c.in_err-value-in-Give.field-0.0 (search rules)
    (subst
    (λ w. IsFaultOf (program_in c.args.prepared.now).theory c.args.budget (given_in (wished_field_of w)) c.in_err-value-in-Give.field-0.0)
    (sym c.in-Give.is)
    (fault_of_term (program_in c.args.prepared.now).theory c.args.budget (term_of c.in-Give.term) c.in_err-value-in-Give.field-0.0
    c.in_err-value-in-Give.ensures.fault))
