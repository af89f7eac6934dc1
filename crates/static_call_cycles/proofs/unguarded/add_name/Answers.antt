use Rattle.static_call_cycles.proofs.Cycles.{unnamed}
use Rattle.static_call_cycles.proofs.unguarded.add_name.Goals as goal

pub returns-else-number-names : goal.returns-else-number-names
returns-else-number-names c = unnamed (λ n. n.now) c.args.names.now c.args.number c.args.all.now.items c.if-number-names.false
