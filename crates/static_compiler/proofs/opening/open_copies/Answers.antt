use Rattle.std.proofs.Common.{refl, ap, ◌++◌, ◌∙◌}
use Rattle.static_readings.specs.Declarations.{unknown_gates}
use Rattle.static_compiler.proofs.Begun.{copies_opens}
use Rattle.static_compiler.proofs.opening.open_copies.Goals as goal

pub returns : goal.returns
returns c = copies_opens c.args.site.now c.args.gate.now c.args.among.now c.args.operator.now _ _ c.add_unknown_gates.new.refusals.items c.put_gate.new.self _
    c.of-mark.ensures c.in_ok-frame.ensures refl c.in_ok-add_unknown_gates.ensures
    (c.in_ok-add_unknown_gates-2.ensures ∙ ap (λ ts. c.add_unknown_gates.new.refusals.items ++ unknown_gates c.args.site.now ts) c.gates_of.ensures)
    c.in_ok-put_gate.ensures
