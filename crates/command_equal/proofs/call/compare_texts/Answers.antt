use Rattle.std.proofs.lemmas.Result.{IfOk-weaker}
use Rattle.spec_core.specs.Terms.{term_of}
use Rattle.spec_core.specs.Theories.{theory_of}
use Rattle.command_equal.proofs.Comparisons.{first_fault_comes, second_fault_comes}
use Rattle.command_equal.proofs.call.compare_texts.Goals as goal

pub returns-in-Err : goal.returns-in-Err
returns-in-Err c =
    IfOk-weaker c.refused.result _ _
    (λ a h. first_fault_comes (theory_of c.args.checked.now.algebra) c.args.first.now c.args.second.now c.args.budget c.in-Err.fault a
    c.in-Err.ensures.fault h)
    c.refused.ensures

pub returns-in-Err-read_typed_term : goal.returns-in-Err-read_typed_term
returns-in-Err-read_typed_term c =
    IfOk-weaker c.refused-in-Err-read_typed_term.result _ _
    (λ a h. second_fault_comes (theory_of c.args.checked.now.algebra) c.args.first.now c.args.second.now c.args.budget
    (term_of c.in-Ok.found.term) c.in-Ok.found.sort.0 c.in-Err-read_typed_term.fault a c.in-Ok.ensures.spelled
    c.in-Err-read_typed_term.ensures.fault h)
    c.refused-in-Err-read_typed_term.ensures
