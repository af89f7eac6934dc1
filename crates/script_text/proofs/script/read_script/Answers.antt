use Rattle.spec_core.specs.Code.{program_of}
use Rattle.script_text.proofs.TheScript.{only_script, fitting_script, few_in_script, faultless_script, only_script_fault, no_script}
use Rattle.script_text.proofs.script.read_script.Goals as goal

pub returns-clause-only : goal.returns-clause-only
returns-clause-only c = only_script (program_of c.args.checked.now) c.args.text.now _ c.script_in.ensures.spelled

pub returns-clause-fits : goal.returns-clause-fits
returns-clause-fits c = fitting_script (program_of c.args.checked.now) c.args.text.now _ c.script_in.ensures.spelled

pub returns-clause-clients : goal.returns-clause-clients
returns-clause-clients c = few_in_script (program_of c.args.checked.now) c.args.text.now _ c.script_in.ensures.spelled

pub returns-clause-faultless : goal.returns-clause-faultless
returns-clause-faultless c = faultless_script (program_of c.args.checked.now) c.args.text.now _ c.script_in.ensures.spelled

pub returns-clause-only_fault : goal.returns-clause-only_fault
returns-clause-only_fault c = only_script_fault (program_of c.args.checked.now) c.args.text.now _ c.script_in.ensures.fault

pub returns-clause-no_script : goal.returns-clause-no_script
returns-clause-no_script c = no_script (program_of c.args.checked.now) c.args.text.now _ c.script_in.ensures.fault
