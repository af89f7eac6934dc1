use Rattle.type_contents.proofs.Standings.{none_formal, none_parts}
use Rattle.type_contents.proofs.standing.standings_by_rounds.Goals as goal

pub loop-round-init : goal.loop-round-init
loop-round-init c = record {
  formal = none_formal c.args.types.now c.in_ok-found.found.items c.in_ok-found.ensures;
  parts = none_parts c.args.types.now c.in_ok-found.found.items c.in_ok-found.ensures;
}
