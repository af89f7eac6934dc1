use Rattle.std.proofs.Common.{rules}
use Rattle.spec_core.specs.Code.{program_of}
use Rattle.node_trees.specs.Origins.{source_of}
use Rattle.candidate_count.specs.Places.{placed}
use Rattle.candidate_count.proofs.Alike.{origin_alike}
use Rattle.candidate_count.proofs.places.place_of.Goals as goal

pub returns : goal.returns
returns c = record {
  alike = λ p.
      origin_alike (program_of c.args.checked.now) p (source_of c.args.origin.now)
      (placed (program_of c.args.checked.now) c.place_under.result) (search rules);
}
