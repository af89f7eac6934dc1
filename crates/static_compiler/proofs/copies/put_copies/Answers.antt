use Rattle.std.proofs.Common.{map, arith, ◌∙◌, ◌-◌}
use Rattle.std.proofs.lemmas.List.{length-map}
use Rattle.spec_core.specs.Code.{synchronised_of, node_of}
use Rattle.spec_core.specs.Numbers.{gate_number}
use Rattle.static_compiler.proofs.Closed.{one_copy}
use Rattle.static_compiler.proofs.copies.put_copies.Goals as goal

pub loop-to-preserved : goal.loop-to-preserved
loop-to-preserved c = record {
  code = one_copy gate_number (synchronised_of c.args.gates.now) c.args.part.0 c.args.gate.0 c.loop-to.among.items c.pop.new.self.items c.in-Some.to
      (map gate_number c.args.among.items) (map node_of c.args.out.now.code.items) (map node_of c.loop-to.out.code.items) (map node_of c.put_copy.new.out.code.items)
      (c.len.result - c.len-start.result) c.in-Some.ensures.items c.loop-to.invariant.code
      (omega (arith, c.len.ensures, c.len-start.ensures, length-map c.args.out.now.code.items node_of, length-map c.loop-to.out.code.items node_of)) c.in_ok-put_copy.ensures.code;
  refusals = c.in_ok-put_copy.ensures.refusals ∙ c.loop-to.invariant.refusals;
}
