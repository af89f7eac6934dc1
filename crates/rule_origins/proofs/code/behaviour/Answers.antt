use Rattle.std.proofs.Common.{rules, sym}
use Rattle.spec_core.specs.Code.{node_of, program_of}
use Rattle.spec_core.specs.Ready.{IsProcess}
use Rattle.rule_origins.proofs.Opening.{process_opened}
use Rattle.rule_origins.proofs.code.behaviour.Goals as goal

pub returns-then-is_process : goal.returns-then-is_process
returns-then-is_process c =
    let process : IsProcess (node_of c.in-Some.node.now) = search rules in
    record {
      here = sym (process_opened (program_of c.args.checked.now) c.requires.ready c.args.number (node_of c.in-Some.node.now) c.in-Some.ensures.some process);
    }
