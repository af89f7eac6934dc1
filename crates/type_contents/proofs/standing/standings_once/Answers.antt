use Rattle.std.proofs.Common.{length, map, None, []}
use Rattle.std.specs.List.{slice_index_or}
use Rattle.std.proofs.Common.{ap, sym, ◌∙◌, arith, add-one}
use Rattle.std.proofs.lemmas.List.{length-map}
use Rattle.type_contents.specs.Settled.{are_ready}
use Rattle.type_contents.specs.Uses.{links}
use Rattle.type_contents.proofs.Standings.{all_formal, all_parts, none_stand}
use Rattle.type_contents.proofs.standing.standings_once.Goals as goal

pub loop-found-init : goal.loop-found-init
loop-found-init c = record {
  length = ap length c.in_ok-found.ensures ∙ length-map c.args.types.now (λ _. None);
  settled = none_stand c.args.types.now c.in_ok-found.found.items c.in_ok-found.ensures;
}

pub returns-in-None-clause-formal : goal.returns-in-None-clause-formal
returns-in-None-clause-formal c each = all_formal c.args.types.now c.loop-found.found.items c.loop-found._found c.loop-found.invariant.settled (omega (arith, c.loop-found-test.true)) c.loop-found.invariant.length each

pub returns-in-None-clause-parts : goal.returns-in-None-clause-parts
returns-in-None-clause-parts c each = all_parts c.args.types.now c.loop-found.found.items c.loop-found._found c.loop-found.invariant.settled (omega (arith, c.loop-found-test.true)) c.loop-found.invariant.length each

pub returns-clause-formal : goal.returns-clause-formal
returns-clause-formal c each = all_formal c.args.types.now c.loop-found.found.items c.loop-found._found c.loop-found.invariant.settled c.loop-found.auto._found-end c.loop-found.invariant.length each

pub returns-clause-parts : goal.returns-clause-parts
returns-clause-parts c each = all_parts c.args.types.now c.loop-found.found.items c.loop-found._found c.loop-found.invariant.settled c.loop-found.auto._found-end c.loop-found.invariant.length each

pub loop-found-preserved : goal.loop-found-preserved
loop-found-preserved c = record {
  length = c.in_ok-stand_one-in-Some.ensures.length;
  settled = rw add-one (c.in_ok-stand_one-in-Some.ensures.settled c.loop-found._found
      (ap (λ z. are_ready z (slice_index_or (map (links c.args.types.now) c.args.types.now) c.in-Some.number [])) (sym c.deref.ensures.value)
      ∙ ap (λ z. are_ready c.deref.result.now (slice_index_or z c.in-Some.number [])) (sym c.requires)
      ∙ c.in-Some.ensures.1)
      c.loop-found.invariant.settled);
}
