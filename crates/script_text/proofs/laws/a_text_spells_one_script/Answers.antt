use Rattle.script_text.proofs.OneScript.{one_script, one_script_fault, script_or_fault}
use Rattle.script_text.proofs.laws.a_text_spells_one_script.Goals as goal

pub returns-clause-one : goal.returns-clause-one
returns-clause-one c = one_script

pub returns-clause-one_fault : goal.returns-clause-one_fault
returns-clause-one_fault c = one_script_fault

pub returns-clause-not_both : goal.returns-clause-not_both
returns-clause-not_both c = script_or_fault
