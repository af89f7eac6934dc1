use Rattle.std.proofs.Common.{◌∙◌, ◌∷◌, [], ap, map}
use Rattle.std.proofs.lemmas.List.{map-append}
use Rattle.candidate_composites.specs.Known.{step_of}
use Rattle.candidate_composites.proofs.Runs.{further_down}
use Rattle.candidate_composites.proofs.context.put_steps.Goals as goal

pub loop-turn-preserved : goal.loop-turn-preserved
loop-turn-preserved c =
    let steps = c.loop-turn.steps.items in
    further_down (step_of c.args.step) c.loop-turn._turn (map step_of c.args.steps.now.items)
    (map step_of c.push-in-loop-turn.new.self.items) (map step_of steps) c.loop-turn.invariant
    (ap (map step_of) c.in_ok-push-2.ensures.items ∙ map-append step_of steps (c.args.step ∷ []))
