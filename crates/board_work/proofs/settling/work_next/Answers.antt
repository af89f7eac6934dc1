use Rattle.std.proofs.Common.{◌≡◌, ◌∙◌, IfNone, false, rules, subst, sym, true}
use Rattle.board_core.specs.Working.{WhyNone}
use Rattle.board_work.proofs.Handing.{handed_twice}
use Rattle.board_work.proofs.Quiet.{hands_none, hands_nothing, has_no_job, stopped_has_no_job}
use Rattle.board_work.proofs.Worked.{has_stopped, runs, stops_for_none, works}
use Rattle.board_work.proofs.settling.work_next.Goals as goal

pub returns-then-stopped-clause-handed : goal.returns-then-stopped-clause-handed
returns-then-stopped-clause-handed c =
    let e = c.give_back_all.ensures in
    hands_nothing c.args.board.now c.give_back_all.new.self e.session e.log e.nodes e.stop

pub returns-then-stopped-clause-none : goal.returns-then-stopped-clause-none
returns-then-stopped-clause-none c = λ none.
    let b = c.give_back_all.new.self in
    let e = c.give_back_all.ensures in
    let stopped : c.stopped.result ≡ true = search rules in
    stopped_has_no_job c.args.board.now b (record { session = e.session; log = e.log; nodes = e.nodes }) e.stop e.out
    (has_stopped b.stop (sym c.stopped.ensures ∙ stopped))

pub returns-in_err-take_jobs-clause-handed : goal.returns-in_err-take_jobs-clause-handed
returns-in_err-take_jobs-clause-handed c =
    let b = c.give_back_all.new.self in
    let d = c.take_jobs.new.self in
    let e = c.give_back_all.ensures in
    let t = c.in_err-take_jobs.ensures in
    handed_twice c.args.board.now b d (hands_nothing c.args.board.now b e.session e.log e.nodes e.stop)
    (hands_nothing b d t.session t.log t.nodes t.kept.1)

pub returns-in-None-clause-handed : goal.returns-in-None-clause-handed
returns-in-None-clause-handed c =
    let a = c.args.board.now in
    let b = c.give_back_all.new.self in
    let d = c.take_jobs.new.self in
    let e = c.give_back_all.ensures in
    let t = c.in_ok-take_jobs.ensures in
    handed_twice a b d (hands_nothing a b e.session e.log e.nodes e.stop)
    (hands_none b d t.session t.log t.nodes c.jobs_give_reasons.ensures (subst (λ o. IfNone o (WhyNone b d)) c.in-None.is t.none))

pub returns-in-None-clause-work : goal.returns-in-None-clause-work
returns-in-None-clause-work c = λ worked.
    let a = c.args.board.now in
    let b = c.give_back_all.new.self in
    let d = c.take_jobs.new.self in
    let e = c.give_back_all.ensures in
    let t = c.in_ok-take_jobs.ensures in
    let run : c.stopped.result ≡ false = search rules in
    let stopped : c.stopped-in-None.result ≡ true = search rules in
    stops_for_none a b (record { session = e.session; log = e.log; nodes = e.nodes }) e.stop e.out (runs b.stop (sym c.stopped.ensures ∙ run)) d
    (hands_none b d t.session t.log t.nodes c.jobs_give_reasons.ensures (subst (λ o. IfNone o (WhyNone b d)) c.in-None.is t.none))
    (has_stopped d.stop (sym c.stopped-in-None.ensures ∙ stopped))

pub returns-in-None-clause-none : goal.returns-in-None-clause-none
returns-in-None-clause-none c = λ none.
    let a = c.args.board.now in
    let b = c.give_back_all.new.self in
    let d = c.take_jobs.new.self in
    let e = c.give_back_all.ensures in
    let t = c.in_ok-take_jobs.ensures in
    has_no_job a b d (record { session = e.session; log = e.log; nodes = e.nodes }) e.stop e.out
    (record { session = t.session; log = t.log; nodes = t.nodes }) (subst (λ o. IfNone o (WhyNone b d)) c.in-None.is t.none)
    (sym c.stopped-in-None.ensures ∙ none)

pub returns-in_err-work_on-in-Some-clause-handed : goal.returns-in_err-work_on-in-Some-clause-handed
returns-in_err-work_on-in-Some-clause-handed c =
    let a = c.args.board.now in
    let b = c.give_back_all.new.self in
    let d = c.take_jobs.new.self in
    let e = c.give_back_all.ensures in
    let t = c.in_ok-take_jobs.ensures in
    handed_twice a b c.work_on.new.board (hands_nothing a b e.session e.log e.nodes e.stop)
    (handed_twice b d c.work_on.new.board (hands_nothing b d t.session t.log t.nodes (search rules)) c.work_on.ensures.handed)

pub returns-in_ok-work_on-in-Some-clause-work : goal.returns-in_ok-work_on-in-Some-clause-work
returns-in_ok-work_on-in-Some-clause-work c = λ worked.
    let a = c.args.board.now in
    let b = c.give_back_all.new.self in
    let d = c.take_jobs.new.self in
    let e = c.give_back_all.ensures in
    let t = c.in_ok-take_jobs.ensures in
    let run : c.stopped.result ≡ false = search rules in
    works a b (record { session = e.session; log = e.log; nodes = e.nodes }) e.stop e.out (runs b.stop (sym c.stopped.ensures ∙ run)) d
    c.in-Some.field-0.first (search rules) (record { session = t.session; log = t.log; nodes = t.nodes }) (search rules) c.work_on.new.board
    c.work_on.ensures.handed c.in_ok-work_on-in-Some.ensures.done

pub returns-in_ok-work_on-in-Some-clause-handed : goal.returns-in_ok-work_on-in-Some-clause-handed
returns-in_ok-work_on-in-Some-clause-handed c =
    let a = c.args.board.now in
    let b = c.give_back_all.new.self in
    let d = c.take_jobs.new.self in
    let e = c.give_back_all.ensures in
    let t = c.in_ok-take_jobs.ensures in
    handed_twice a b c.work_on.new.board (hands_nothing a b e.session e.log e.nodes e.stop)
    (handed_twice b d c.work_on.new.board (hands_nothing b d t.session t.log t.nodes (search rules)) c.work_on.ensures.handed)
