use Rattle.std.proofs.Common.{ap, inl}
use Rattle.node_trees.specs.Origins.{source_of}
use Rattle.node_trees.specs.Rests.{expansion_of}
use Rattle.board_core.specs.Views.{program, tree, windows}
use Rattle.board_work.proofs.Taking.{work_of_node}
use Rattle.candidate_verdicts.specs.declared.pieces.Pieces.{Pieces}
use Rattle.candidate_verdicts.specs.Stored.{stored}
use Rattle.board_work.proofs.Handing.{handed_twice}
use Rattle.board_work.proofs.Keeping.{keeps_posted, keeps_same}
use Rattle.board_work.proofs.Quiet.{hands_nothing}
use Rattle.board_work.proofs.handing_in.post_work.Goals as goal

pub post-requires : goal.post-requires
post-requires c =
    let v = c.args.board.now in
    record {
      work =
          work_of_node (program v) (windows v) (tree v) c.args.generation.0 (source_of c.args.origin.now) (expansion_of c.args.work)
          c.requires.origin c.requires.work;
    }

pub returns-in-Posted-clause-late : goal.returns-in-Posted-clause-late
returns-in-Posted-clause-late c = λ late.
    let waits = (c.post.ensures.posted c.in-Posted.is).0 in
    absurd (late (record { node = waits.node; is = waits.is; source = c.requires.origin waits.node waits.is }, waits))

pub returns-in-Posted-clause-handed : goal.returns-in-Posted-clause-handed
returns-in-Posted-clause-handed c =
    let h = c.post.ensures in
    record {
      session = h.session;
      log = h.log;
      done =
          keeps_posted c.args.board.now c.post.new.self c.args.generation.0 (expansion_of c.args.work) (h.posted c.in-Posted.is).1 h.pieces;
      stop = inl h.stop;
    }

pub returns-in-Stale-clause-handed : goal.returns-in-Stale-clause-handed
returns-in-Stale-clause-handed c =
    let v = c.args.board.now in
    let u = c.post.new.self in
    let h = c.post.ensures in
    let e = c.give_back.ensures in
    handed_twice v u c.give_back.new.self
    (record {
      session = h.session;
      log = h.log;
      done = keeps_same v u (h.stale c.in-Stale.is).1 (λ g d. ap (λ (p : Pieces). stored p g d) h.pieces);
      stop = inl h.stop;
    })
    (hands_nothing u c.give_back.new.self e.session e.log e.nodes e.stop)
