use Rattle.std.proofs.Common.{Bor}
use Rattle.lotos_ast.specs.declared.token.Token.{Token}
use Rattle.type_names.specs.NameSets.{unless_known}
use Rattle.type_names.proofs.Gathered.{refused_next}
use Rattle.type_names.proofs.unknown.add_each_unless_known.Goals as goal

pub loop-name-preserved : goal.loop-name-preserved
loop-name-preserved c = refused_next (unless_known c.args.known.now) (λ (t : Bor Token). t.now) _ _ _ c.args.names.now c.loop-name.name-index _ c.loop-name-test.true c.name-item.is c.loop-name.invariant c.in_ok-add_unless_known.ensures
