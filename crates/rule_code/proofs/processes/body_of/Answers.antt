use Rattle.rule_code.proofs.processes.body_of.Goals as goal

pub open_part-requires-clause-named : goal.open_part-requires-clause-named
open_part-requires-clause-named c = (c.requires.ready.parts c.args.number _ c.requires.here).names.0
