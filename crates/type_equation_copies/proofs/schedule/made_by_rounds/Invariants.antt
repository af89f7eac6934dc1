use Rattle.std.proofs.Common.{◌≡◌, map}
use Rattle.std.specs.List.{zip}
use Rattle.type_contents.specs.Rounds.{rounds}
use Rattle.type_equation_copies.specs.Contents as contents
use Rattle.type_equation_copies.specs.Views.{made_at, stated_by}
use Rattle.type_equation_copies.proofs.schedule.made_by_rounds.Given as goal

abbrev pub invariant-loop-round : goal.invariant-loop-round
invariant-loop-round l = map made_at l.found.items ≡ rounds contents.no_equations (contents.made_from l.prepared.types.now) (zip l.prepared.types.now (stated_by l.own)) l._round
