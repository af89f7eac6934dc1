use Rattle.std.proofs.Common.{subst}
use Rattle.candidates.specs.Jobs.{to_expand}
use Rattle.node_trees.specs.Origins.{source_of}
use Rattle.board_core.specs.Views.{program, windows}
use Rattle.board_work.specs.declared.outcome.Outcome.{Outcome}
use Rattle.board_work.specs.Outcomes.{ComesOf}
use Rattle.board_work.proofs.Taking.{needed_is_free, unexpanded_gives}
use Rattle.board_work.proofs.Quiet.{hands_nothing}
use Rattle.board_work.proofs.handing_in.expanded.Goals as goal

pub post_work-requires-clause-origin : goal.post_work-requires-clause-origin
post_work-requires-clause-origin c = c.has_origin.ensures.origin c.if-not-has_origin.false

pub give_reason-requires : goal.give_reason-requires
give_reason-requires c =
    let v = c.args.board.now in
    let o = source_of c.args.origin.now in
    let g = c.args.generation.0 in
    record {
      reason =
          unexpanded_gives v c.jobs_give_reasons.ensures o g c.in-Stopped.reason (c.has_origin.ensures.origin c.if-not-has_origin.false)
          (subst (λ (x : Outcome). ComesOf (program v) (windows v) v.settings.budget o (to_expand g) x) c.in-Stopped.is c.requires.outcome);
    }

pub returns-in-Stopped-clause-late : goal.returns-in-Stopped-clause-late
returns-in-Stopped-clause-late c = λ late.
    c.give_reason.ensures.late (λ needed.
    late (
      c.has_origin.ensures.has.0 c.if-not-has_origin.false,
      needed_is_free c.args.board.now (to_expand c.args.generation.0) needed,
    ))

pub returns-then-not-has_origin-clause-handed : goal.returns-then-not-has_origin-clause-handed
returns-then-not-has_origin-clause-handed c =
    let e = c.give_back.ensures in
    hands_nothing c.args.board.now c.give_back.new.self e.session e.log e.nodes e.stop
