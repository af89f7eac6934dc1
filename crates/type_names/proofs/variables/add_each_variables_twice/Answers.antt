use Rattle.std.proofs.Common.{Bor}
use Rattle.lotos_ast.specs.declared.types.ForAll.{ForAll}
use Rattle.type_names.specs.DuplicateNames.{variables_twice}
use Rattle.type_names.proofs.Gathered.{refused_next}
use Rattle.type_names.proofs.variables.add_each_variables_twice.Goals as goal

pub loop-list-preserved : goal.loop-list-preserved
loop-list-preserved c = refused_next variables_twice (λ (f : Bor ForAll). f.now) _ _ _ c.args.lists.now c.loop-list.list-index _ c.loop-list-test.true c.list-item.is c.loop-list.invariant c.in_ok-add_variables_twice.ensures
