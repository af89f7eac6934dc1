use Rattle.std.proofs.Common.{◌-◌, ◌∙◌, ap, map}
use Rattle.std.proofs.lemmas.List.{take_all}
use Rattle.equal_proof.specs.Certificates.{left_of}
use Rattle.equal_proof.specs.Pairs.{stack_of}
use Rattle.equal_proof.proofs.Inferred.{lefts_more}
use Rattle.equal_proof.proofs.pair.lefts.Goals as goal

pub loop-pair-preserved : goal.loop-pair-preserved
loop-pair-preserved c =
    let r = lefts_more c.args.table.now c.args.pairs.now c.loop-pair.rows.items c.push.new.self.items c.loop-pair.pair-index
    c.loop-pair-test.true c.requires.there c.in_ok-push.ensures.items c.loop-pair.invariant.there c.loop-pair.invariant.sides in
    record { there = r.0; sides = r.1 }

pub returns-clause-sides : goal.returns-clause-sides
returns-clause-sides c =
    c.loop-pair.invariant.sides
    ∙ ap (λ ps. map left_of (stack_of c.args.table.now ps)) (take_all c.loop-pair.pair-index c.args.pairs.now c.loop-pair-test.false)
