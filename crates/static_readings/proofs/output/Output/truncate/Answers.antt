use Rattle.std.proofs.Common.{ap, sym, map, ◌∙◌}
use Rattle.std.proofs.lemmas.List.{take-map}
use Rattle.spec_core.specs.Code.{node_of}
use Rattle.static_readings.proofs.output.Output.truncate.Goals as goal

pub returns-clause-code : goal.returns-clause-code
returns-clause-code c = ap (map node_of) c.truncate.ensures.items ∙ sym (take-map node_of c.args.len c.args.self.now.code.items)
