use Rattle.std.proofs.Common.{inr}
use Rattle.candidates.specs.Models.{job_of}
use Rattle.board_work.proofs.Taking.{first_is, kept_where, needed_is_free}
use Rattle.board_work.proofs.Keeping.{keeps_nodes}
use Rattle.board_work.proofs.Quiet.{hands_nothing}
use Rattle.board_work.proofs.handing_in.give_reason.Goals as goal

pub returns-clause-taken : goal.returns-clause-taken
returns-clause-taken c =
    let v = c.args.board.now in
    let needed = c.in_ok-is_needed.ensures.0 c.if-not-branch.false in
    let kept = kept_where c.fail.result (needed_is_free v (job_of c.args.task.now) needed) c.fail.ensures.stale in
    record {
      needed = λ n. first_is v c.fail.new.self c.args.reason needed.running (c.fail.ensures.posted kept).1;
      unneeded = λ never. absurd (never needed);
      nodes = c.fail.ensures.nodes;
    }

pub returns-clause-out : goal.returns-clause-out
returns-clause-out c =
    let needed = c.in_ok-is_needed.ensures.0 c.if-not-branch.false in
    c.fail.ensures.out (kept_where c.fail.result (needed_is_free c.args.board.now (job_of c.args.task.now) needed) c.fail.ensures.stale)

pub returns-then-not-branch-clause-handed : goal.returns-then-not-branch-clause-handed
returns-then-not-branch-clause-handed c =
    let e = c.give_back.ensures in
    hands_nothing c.args.board.now c.give_back.new.self e.session e.log e.nodes e.stop

pub returns-clause-handed : goal.returns-clause-handed
returns-clause-handed c =
    let v = c.args.board.now in
    let h = c.fail.ensures in
    let needed = c.in_ok-is_needed.ensures.0 c.if-not-branch.false in
    let kept = kept_where c.fail.result (needed_is_free v (job_of c.args.task.now) needed) h.stale in
    let is_so = c.requires.reason needed in
    record {
      session = h.session;
      log = h.log;
      done = keeps_nodes v c.fail.new.self h.nodes;
      stop = inr (c.args.reason, is_so.0, is_so.1, (h.posted kept).1);
    }
