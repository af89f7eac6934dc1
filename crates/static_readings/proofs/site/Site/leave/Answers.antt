use Rattle.std.proofs.Common.{ap, ◌∙◌}
use Rattle.static_readings.specs.Sites.{with_first}
use Rattle.static_readings.specs.Named.{one_behind_other}
use Rattle.spec_core.specs.Theories.{operations_of}
use Rattle.static_readings.proofs.Scopes.{first_left}
use Rattle.static_readings.proofs.site.Site.leave.Goals as goal

pub returns : goal.returns
returns c = first_left (λ t. t.now.text) c.self.inside.scope.signature.sorts.items (operations_of c.self.inside.scope.signature) c.self.inside.first_gate (one_behind_other c.self.inside.visible.items) c.self.inside.scope.vars c.truncate.new.self c.self.inside.gates.items c.truncate-2.new.self.items c.args.variables c.args.gates c.truncate.ensures c.truncate-2.ensures.items ∙ ap (λ s. with_first s c.args.variables c.args.gates) c.self.view_is
