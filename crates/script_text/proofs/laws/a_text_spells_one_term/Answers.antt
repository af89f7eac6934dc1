use Rattle.script_text.proofs.OneTerm.{one_term, one_term_fault, term_or_fault}
use Rattle.script_text.proofs.laws.a_text_spells_one_term.Goals as goal

pub returns-clause-one : goal.returns-clause-one
returns-clause-one c = one_term

pub returns-clause-one_fault : goal.returns-clause-one_fault
returns-clause-one_fault c = one_term_fault

pub returns-clause-not_both : goal.returns-clause-not_both
returns-clause-not_both c = term_or_fault
