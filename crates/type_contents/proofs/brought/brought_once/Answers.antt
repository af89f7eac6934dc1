use Rattle.std.proofs.Common.{length, map, None, []}
use Rattle.std.specs.List.{slice_index_or}
use Rattle.type_contents.specs.Numbering as numbering
use Rattle.std.proofs.Common.{ap, sym, ◌∙◌, arith, add-one}
use Rattle.std.proofs.lemmas.List.{length-map}
use Rattle.type_contents.specs.Settled.{are_ready}
use Rattle.type_contents.specs.declared.schedule.Links.{Links}
use Rattle.type_contents.proofs.Broughts.{all_found, none_brings}
use Rattle.type_contents.proofs.brought.brought_once.Goals as goal

pub loop-found-init : goal.loop-found-init
loop-found-init c = record {
  length = ap length c.in_ok-found.ensures ∙ length-map c.args.types.now (λ _. None);
  settled = none_brings c.args.types.now c.in_ok-found.found.items c.in_ok-found.ensures;
}

pub returns-in-None : goal.returns-in-None
returns-in-None c each = all_found c.args.types.now c.loop-found.found.items c.loop-found._found c.loop-found.invariant.settled (omega (arith, c.loop-found-test.true)) c.loop-found.invariant.length each

pub returns : goal.returns
returns c each = all_found c.args.types.now c.loop-found.found.items c.loop-found._found c.loop-found.invariant.settled c.loop-found.auto._found-end c.loop-found.invariant.length each

pub loop-found-preserved : goal.loop-found-preserved
loop-found-preserved c = record {
  length = c.in_ok-bring_one-in-Some.ensures.length;
  settled = rw add-one (c.in_ok-bring_one-in-Some.ensures.settled c.loop-found._found
      (ap (λ z. are_ready z (slice_index_or (map (numbering.needs c.args.types.now) c.args.types.now) c.in-Some.number [])) (sym c.deref.ensures.value)
      ∙ ap (λ z. are_ready c.deref.result.now (slice_index_or z c.in-Some.number [])) (sym c.in_ok-needed.ensures)
      ∙ ap (λ z. are_ready c.deref.result.now (slice_index_or (map (λ (l : Links). l.numbers.items) z) c.in-Some.number [])) (sym c.deref-in-loop-found.ensures.value)
      ∙ c.in-Some.ensures.1)
      c.loop-found.invariant.settled);
}
