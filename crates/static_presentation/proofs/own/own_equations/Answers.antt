use Rattle.std.proofs.Common.{map, sym, ◌∙◌}
use Rattle.flattening.proofs.Judged.{as_many}
use Rattle.static_presentation.specs.Views.{equations_of}
use Rattle.static_presentation.proofs.Had.{sorts_once, operations_once}
use Rattle.static_presentation.proofs.OwnReadings.{none-refused, some-refused}
use Rattle.static_presentation.proofs.own.own_equations.Goals as goal

pub all_own-requires-clause-as_many : goal.all_own-requires-clause-as_many
all_own-requires-clause-as_many c = as_many c.args.types.now c.args.flat.now c.requires

pub all_own-requires-clause-once_sorts : goal.all_own-requires-clause-once_sorts
all_own-requires-clause-once_sorts c = sorts_once c.args.types.now c.args.flat.now c.requires

pub all_own-requires-clause-once_operations : goal.all_own-requires-clause-once_operations
all_own-requires-clause-once_operations c = operations_once c.args.types.now c.args.flat.now c.requires

pub returns-in-None : goal.returns-in-None
returns-in-None c = record {
  own = none-refused c.args.types.now c.args.flat.now (map equations_of c.in_ok-all.all.items) c.new-refusals.result.items c.all_own.new.refusals.items c.requires c.in_ok-all.ensures.own c.new-refusals.ensures.items c.in-None.ensures.none;
  refused = tt;
}

pub returns-in-Some : goal.returns-in-Some
returns-in-Some c = record {
  own = tt;
  refused = some-refused c.args.types.now c.args.flat.now (map equations_of c.in_ok-all.all.items) c.new-refusals.result.items c.all_own.new.refusals.items c.requires c.in_ok-all.ensures.own c.new-refusals.ensures.items
      c.in-Some.refusal (sym c.first_refusal.ensures.first ∙ c.in-Some.is);
}
