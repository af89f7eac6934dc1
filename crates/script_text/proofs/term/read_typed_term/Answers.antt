use Rattle.spec_core.specs.Theories.{theory_of}
use Rattle.script_text.proofs.TheTerm.{only_answer, sorted_answer, faultless_answer, only_answer_fault, no_answer}
use Rattle.script_text.proofs.term.read_typed_term.Goals as goal

pub returns-clause-only : goal.returns-clause-only
returns-clause-only c = only_answer (theory_of c.args.checked.now.algebra) c.args.text.now _ c.term_at_line.ensures.spelled

pub returns-clause-sorted : goal.returns-clause-sorted
returns-clause-sorted c = sorted_answer (theory_of c.args.checked.now.algebra) c.args.text.now _ c.term_at_line.ensures.spelled

pub returns-clause-faultless : goal.returns-clause-faultless
returns-clause-faultless c = faultless_answer (theory_of c.args.checked.now.algebra) c.args.text.now _ c.term_at_line.ensures.spelled

pub returns-clause-only_fault : goal.returns-clause-only_fault
returns-clause-only_fault c = only_answer_fault (theory_of c.args.checked.now.algebra) c.args.text.now _ c.term_at_line.ensures.fault

pub returns-clause-no_term : goal.returns-clause-no_term
returns-clause-no_term c = no_answer (theory_of c.args.checked.now.algebra) c.args.text.now _ c.term_at_line.ensures.fault
