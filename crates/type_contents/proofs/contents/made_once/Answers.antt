use Rattle.std.proofs.Common.{length, map, None, []}
use Rattle.std.proofs.Common.{ap, sym, ◌∙◌, arith, add-one}
use Rattle.type_contents.specs.Settled.{are_ready}
use Rattle.type_contents.specs.Uses.{links}
use Rattle.type_contents.proofs.Schedules.{all_made, none_settled, none_within}
use Rattle.std.proofs.lemmas.List.{length-map}
use Rattle.std.specs.List.{slice_index_or}
use Rattle.type_contents.proofs.contents.made_once.Goals as goal

pub loop-made-init : goal.loop-made-init
loop-made-init c = record {
  within = none_within (length c.args.table.now) c.args.types.now c.in_ok-made.made.items c.in_ok-made.ensures;
  length = ap length c.in_ok-made.ensures ∙ length-map c.args.types.now (λ _. None);
  settled = none_settled c.args.types.now c.args.table.now c.in_ok-made.made.items c.in_ok-made.ensures;
}

pub returns-in-None-clause-contents : goal.returns-in-None-clause-contents
returns-in-None-clause-contents c each = all_made c.args.types.now c.loop-made.table c.loop-made.made.items c.loop-made._made c.loop-made.invariant.settled (omega (arith, c.loop-made-test.true)) c.loop-made.invariant.length each

pub returns-clause-contents : goal.returns-clause-contents
returns-clause-contents c each = all_made c.args.types.now c.loop-made.table c.loop-made.made.items c.loop-made._made c.loop-made.invariant.settled c.loop-made.auto._made-end c.loop-made.invariant.length each

pub loop-made-preserved : goal.loop-made-preserved
loop-made-preserved c = record {
  within = c.in_ok-make_one-in-Some.ensures.within;
  length = c.in_ok-make_one-in-Some.ensures.length;
  settled = rw add-one (c.in_ok-make_one-in-Some.ensures.settled c.loop-made._made
      (ap (λ z. are_ready z (slice_index_or (map (links c.args.types.now) c.args.types.now) c.in-Some.number [])) (sym c.deref.ensures.value)
      ∙ ap (λ z. are_ready c.deref.result.now (slice_index_or z c.in-Some.number [])) (sym c.requires)
      ∙ c.in-Some.ensures.1)
      c.loop-made.invariant.settled);
}
