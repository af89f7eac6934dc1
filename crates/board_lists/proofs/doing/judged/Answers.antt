use Rattle.std.proofs.Common.{◌∙◌}
use Rattle.rule_model.specs.Derivations.{derivation_of}
use Rattle.candidate_verdicts.specs.Known.{node_part}
use Rattle.candidates.specs.Jobs.{to_judge}
use Rattle.node_trees.specs.Origins.{source_of}
use Rattle.board_core.specs.Views.{program, tree, windows}
use Rattle.board_laws.proofs.StoppingGiven.{no_limit_of_steps}
use Rattle.board_work.proofs.Taking.{shown_of_node}
use Rattle.board_lists.proofs.Leaving.{answered, failed, kept, runs_on, stopped_otherwise}
use Rattle.board_lists.proofs.doing.judged.Goals as goal

pub judged-requires : goal.judged-requires
judged-requires c =
    let v = c.args.board.now in
    let o = source_of c.args.origin.now in
    let d = derivation_of c.args.rules in
    let g = c.args.generation.0 in
    record {
      piece =
          shown_of_node (program v) (windows v) (tree v) g o d _ c.requires.origin
          (answered v o (to_judge (node_part g d)) c.args.outcome _ c.in-Judged.is c.requires.outcome);
    }

pub fail-requires : goal.fail-requires
fail-requires c =
    let o = source_of c.args.origin.now in
    let job = to_judge (node_part c.args.generation.0 (derivation_of c.args.rules)) in
    record {
      reason = λ free.
          c.requires.sound c.in-Stopped.reason
          (answered c.args.board.now o job c.args.outcome _ c.in-Stopped.is c.requires.outcome);
    }

pub returns-in_ok-judged-in-Judged-clause-looks : goal.returns-in_ok-judged-in-Judged-clause-looks
returns-in_ok-judged-in-Judged-clause-looks c =
    let h = c.judged.ensures in kept c.args.board.now c.judged.new.self h.session h.log h.stop

pub returns-in_ok-judged-in-Judged-clause-steps : goal.returns-in_ok-judged-in-Judged-clause-steps
returns-in_ok-judged-in-Judged-clause-steps c = runs_on c.judged.new.self (c.judged.ensures.stop ∙ c.requires.running)

pub returns-in-Stopped-clause-looks : goal.returns-in-Stopped-clause-looks
returns-in-Stopped-clause-looks c =
    let v = c.args.board.now in
    let h = c.fail.ensures in
    let job = to_judge (node_part c.args.generation.0 (derivation_of c.args.rules)) in
    let why = answered v (source_of c.args.origin.now) job c.args.outcome _ c.in-Stopped.is c.requires.outcome in
    failed v c.fail.new.self h.session h.log c.in-Stopped.reason c.fail.result c.requires.running (c.requires.sound c.in-Stopped.reason why)
    (λ e. (h.posted e).1) (λ e. (h.stale e).1)

pub returns-in-Stopped-clause-steps : goal.returns-in-Stopped-clause-steps
returns-in-Stopped-clause-steps c =
    let v = c.args.board.now in
    let h = c.fail.ensures in
    let job = to_judge (node_part c.args.generation.0 (derivation_of c.args.rules)) in
    let why = answered v (source_of c.args.origin.now) job c.args.outcome _ c.in-Stopped.is c.requires.outcome in
    stopped_otherwise v c.fail.new.self c.in-Stopped.reason c.fail.result c.requires.running
    (no_limit_of_steps why.0 c.in-Stopped.reason why.2) (λ e. (h.posted e).1) (λ e. (h.stale e).1)
