use Rattle.std.proofs.Common.{map, refl, ap}
use Rattle.spec_core.specs.Code.{variable_of}
use Rattle.spec_core.specs.Numbers.{gate_number}
use Rattle.spec_core.specs.Terms.{term_of}
use Rattle.spec_core.proofs.Options.{if_none_at}
use Rattle.rule_model.specs.Behaviours.{relabel}
use Rattle.rule_model.specs.Fields.{ArgumentsHave}
use Rattle.rule_origins.specs.Parts.{behaviour_at}
use Rattle.rule_origins.specs.Values.{assignment}
use Rattle.node_values.proofs.Finding.{of_some}
use Rattle.match_code.specs.Prepared.{program_in}
use Rattle.node_steps.proofs.Calls.{call_enters, no_arguments}
use Rattle.node_steps.proofs.entering.called_body.Goals as goal

pub returns-in-None-2-clause-enters : goal.returns-in-None-2-clause-enters
returns-in-None-2-clause-enters c =
    no_arguments (program_in c.args.prepared.now) c.requires.ready c.args.called c.in-Some.body (map gate_number c.in-Some.formal.now)
    (map variable_of c.in-Some.vars.now) c.in-Some.ensures.some (map gate_number c.args.actual.now) (map term_of c.args.terms.now)
    c.args.values.now _ c.new-none.ensures.items
    (if_none_at c.in_ok-bind_arguments-in-Some.field-0 c.in-None-2.is c.in_ok-bind_arguments-in-Some.ensures.none)

pub returns-in_ok-pairs-in-Some-2-clause-enters : goal.returns-in_ok-pairs-in-Some-2-clause-enters
returns-in_ok-pairs-in-Some-2-clause-enters c =
    let program = program_in c.args.prepared.now in
    call_enters program c.requires.ready c.args.called c.in-Some.body (map gate_number c.in-Some.formal.now)
    (map variable_of c.in-Some.vars.now) c.in-Some.ensures.some (map gate_number c.args.actual.now) (map term_of c.args.terms.now)
    c.args.values.now c.in-Some-2.more.items _ _ _ c.new-none.ensures.items
    (of_some (λ m. ArgumentsHave program.theory (assignment program.theory c.args.values.now) _ (map variable_of c.in-Some.vars.now)
    (map term_of c.args.terms.now) (assignment program.theory m.items)) c.in_ok-bind_arguments-in-Some.field-0 c.in-Some-2.more
    c.in-Some-2.is c.in_ok-bind_arguments-in-Some.ensures.some)
    (ap (λ z. relabel z (behaviour_at program c.in-Some.body)) c.in_ok-pairs-in-Some-2.ensures.pairs) refl refl refl
