use Rattle.std.proofs.Common.{map, ap, ◌∙◌}
use Rattle.spec_core.specs.Theories.{theory_of}
use Rattle.spec_core.proofs.Lists.{map_reverse}
use Rattle.match_code.specs.States.{waiting_of}
use Rattle.match_code.proofs.tidying.follow_all.Goals as goal

pub returns-clause-same : goal.returns-clause-same
returns-clause-same c =
    let f = waiting_of (theory_of c.args.algebra.now) c.turn_over.new.into in
    ap (map f) c.turn.ensures.turned ∙ map_reverse f c.in_ok-followed.followed ∙ c.in_ok-followed.ensures.same
