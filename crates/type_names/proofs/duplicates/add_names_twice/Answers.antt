use Rattle.std.proofs.Common.{Bor, map, take, subst}
use Rattle.lotos_ast.specs.declared.token.Token.{Token}
use Rattle.type_names.specs.DuplicateNames.{name_twice}
use Rattle.type_names.specs.NameSets.{IsSetOf}
use Rattle.type_names.proofs.Gathered.{each_after_next}
use Rattle.type_names.proofs.Sets.{next_name}
use Rattle.type_names.proofs.duplicates.add_names_twice.Goals as goal

pub loop-name-preserved : goal.loop-name-preserved
loop-name-preserved c =
    let names = map (λ (t : Bor Token). t.now) (take c.loop-name.name-index c.args.names.now) in
    record {
      refusals = each_after_next name_twice (λ (t : Bor Token). t.now) _ _ _ c.args.names.now c.loop-name.name-index _ c.loop-name-test.true c.name-item.is c.loop-name.invariant.refusals
          (c.in_ok-add_name_twice.ensures.refusals names c.loop-name.invariant.before);
      before = subst (λ ts. IsSetOf c.add_name_twice.new.before ts) (next_name (λ (t : Bor Token). t.now) c.args.names.now c.loop-name.name-index _ c.loop-name-test.true c.name-item.is)
          (c.in_ok-add_name_twice.ensures.before names c.loop-name.invariant.before);
    }
