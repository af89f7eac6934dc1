use Rattle.std.proofs.Common.{length, map, None, [], ap, sym, ◌∙◌, arith, add-one}
use Rattle.std.specs.List.{slice_index_or}
use Rattle.std.proofs.lemmas.List.{length-map}
use Rattle.type_contents.specs.Settled.{are_ready}
use Rattle.type_contents.specs.declared.schedule.Links.{Links}
use Rattle.type_equation_copies.specs.Needs.{needs}
use Rattle.type_equation_copies.specs.Views.{stated_by}
use Rattle.type_equation_copies.proofs.Schedules.{all_made, none_settled}
use Rattle.type_equation_copies.proofs.schedule.made_once.Goals as goal

pub loop-found-init : goal.loop-found-init
loop-found-init c = record {
  length = ap length c.in_ok-found.ensures ∙ length-map c.args.prepared.now.types.now (λ _. None);
  settled = none_settled c.args.prepared.now.types.now (stated_by c.args.own.now) c.in_ok-found.found.items c.in_ok-found.ensures;
}

pub returns-in-None : goal.returns-in-None
returns-in-None c each = all_made c.args.prepared.now.types.now c.args.own.now c.loop-found.found.items c.loop-found._found c.loop-found.invariant.settled (omega (arith, c.loop-found-test.true)) c.requires.own c.loop-found.invariant.length each

pub returns : goal.returns
returns c each = all_made c.args.prepared.now.types.now c.args.own.now c.loop-found.found.items c.loop-found._found c.loop-found.invariant.settled c.loop-found.auto._found-end c.requires.own c.loop-found.invariant.length each

pub loop-found-preserved : goal.loop-found-preserved
loop-found-preserved c =
    let types = c.args.prepared.now.types.now in
    record {
      length = c.in_ok-make_one-in-Some.ensures.length;
      settled = rw add-one (c.in_ok-make_one-in-Some.ensures.settled c.loop-found._found
          (ap (λ z. are_ready z (slice_index_or (map (needs types) types) c.in-Some.number [])) (sym c.deref.ensures.value)
          ∙ ap (λ z. are_ready c.deref.result.now (slice_index_or z c.in-Some.number [])) (sym c.in_ok-needed.ensures)
          ∙ ap (λ z. are_ready c.deref.result.now (slice_index_or (map (λ (l : Links). l.numbers.items) z) c.in-Some.number [])) (sym c.deref-in-loop-found.ensures.value)
          ∙ c.in-Some.ensures.1)
          c.loop-found.invariant.settled);
    }
