use Rattle.std.proofs.Common.{rules, ◌≡◌, ◌∙◌, ap, subst, length, false, is_some}
use Rattle.std.specs.Prelude.{IfSome, IfNone}
use Rattle.std.proofs.lemmas.List.{nil_from_length}
use Rattle.board_core.specs.Views.{events, state}
use Rattle.board_core.specs.Working.{IsHandedOut, WhyNone}
use Rattle.board_work.proofs.Going as going
use Rattle.session_board.proofs.Resting.{quiet_still, still_on}
use Rattle.session_board.proofs.Stepping.{was_quiet}
use Rattle.session_board.proofs.turning.one_step.Goals as goal

pub returns-then-is_some-clause-goes_on : goal.returns-then-is_some-clause-goes_on
returns-then-is_some-clause-goes_on c =
    let a = c.args.board.now in
    let h = c.in_ok-settle.ensures in
    going.after_settling a c.settle.new.self h.session c.in_ok-settle.field-0 (length (events a)) h.settled h.none

pub returns-in_err-job-clause-goes_on : goal.returns-in_err-job-clause-goes_on
returns-in_err-job-clause-goes_on c =
    let a = c.args.board.now in
    let b = c.settle.new.self in
    let d = c.take_job.new.self in
    let h = c.in_ok-settle.ensures in
    let t = c.in_err-job.ensures in
    going.onward a b d (going.after_settling a b h.session c.in_ok-settle.field-0 (length (events a)) h.settled h.none)
    (going.rests b d t.session.0 t.log t.kept.1)

pub returns-in-Some-clause-turn : goal.returns-in-Some-clause-turn
returns-in-Some-clause-turn c =
    let b = c.settle.new.self in
    let d = c.take_job.new.self in
    let none : is_some c.in_ok-settle.field-0 ≡ false = search rules in
    let out = subst (λ o. IfSome o (λ j. IsHandedOut b d j × (d.stop ≡ b.stop))) c.in-Some.is c.in_ok-job.ensures.job in
    (b, (c.in_ok-settle.ensures.session.0, was_quiet c.args.board.now b c.in_ok-settle.field-0 none c.in_ok-settle.ensures.none), out.0)

pub returns-in-Some-clause-goes_on : goal.returns-in-Some-clause-goes_on
returns-in-Some-clause-goes_on c =
    let a = c.args.board.now in
    let b = c.settle.new.self in
    let d = c.take_job.new.self in
    let h = c.in_ok-settle.ensures in
    let t = c.in_ok-job.ensures in
    let out = subst (λ o. IfSome o (λ j. IsHandedOut b d j × (d.stop ≡ b.stop))) c.in-Some.is t.job in
    going.onward a b d (going.after_settling a b h.session c.in_ok-settle.field-0 (length (events a)) h.settled h.none)
    (going.rests b d t.session.0 t.log out.1)

pub returns-then-open_clients-eq0-clause-turn : goal.returns-then-open_clients-eq0-clause-turn
returns-then-open_clients-eq0-clause-turn c =
    let b = c.settle.new.self in
    let d = c.take_job.new.self in
    let none : is_some c.in_ok-settle.field-0 ≡ false = search rules in
    let zero : length (state d).open_clients ≡ 0 = search rules in (
      (
        b,
        (c.in_ok-settle.ensures.session.0, was_quiet c.args.board.now b c.in_ok-settle.field-0 none c.in_ok-settle.ensures.none),
        subst (λ o. IfNone o (WhyNone b d)) c.in-None.is c.in_ok-job.ensures.none,
      ),
      nil_from_length (state d).open_clients zero,
    )

pub returns-then-open_clients-eq0-clause-goes_on : goal.returns-then-open_clients-eq0-clause-goes_on
returns-then-open_clients-eq0-clause-goes_on c =
    let a = c.args.board.now in
    let b = c.settle.new.self in
    let d = c.take_job.new.self in
    let h = c.in_ok-settle.ensures in
    let t = c.in_ok-job.ensures in
    going.onward a b d (going.after_settling a b h.session c.in_ok-settle.field-0 (length (events a)) h.settled h.none)
    (going.none_taken b d t.session.0 t.log c.jobs_give_reasons.ensures (subst (λ o. IfNone o (WhyNone b d)) c.in-None.is t.none))

pub returns-else-open_clients-eq0-clause-turn : goal.returns-else-open_clients-eq0-clause-turn
returns-else-open_clients-eq0-clause-turn c =
    let b = c.settle.new.self in
    let d = c.take_job.new.self in
    let none : is_some c.in_ok-settle.field-0 ≡ false = search rules in (
      (
        b,
        (c.in_ok-settle.ensures.session.0, was_quiet c.args.board.now b c.in_ok-settle.field-0 none c.in_ok-settle.ensures.none),
        subst (λ o. IfNone o (WhyNone b d)) c.in-None.is c.in_ok-job.ensures.none,
      ),
      λ e. c.if-open_clients-eq0.false (c.open_clients.ensures ∙ ap length e),
    )

pub returns-else-open_clients-eq0-clause-goes_on : goal.returns-else-open_clients-eq0-clause-goes_on
returns-else-open_clients-eq0-clause-goes_on c =
    let a = c.args.board.now in
    let b = c.settle.new.self in
    let d = c.take_job.new.self in
    let h = c.in_ok-settle.ensures in
    let t = c.in_ok-job.ensures in
    going.onward a b d (going.after_settling a b h.session c.in_ok-settle.field-0 (length (events a)) h.settled h.none)
    (going.none_taken b d t.session.0 t.log c.jobs_give_reasons.ensures (subst (λ o. IfNone o (WhyNone b d)) c.in-None.is t.none))

pub returns-then-open_clients-eq0-clause-still : goal.returns-then-open_clients-eq0-clause-still
returns-then-open_clients-eq0-clause-still c idle =
    let a = c.args.board.now in
    let b = c.settle.new.self in
    let d = c.take_job.new.self in
    let none : is_some c.in_ok-settle.field-0 ≡ false = search rules in
    let quiet = was_quiet a b c.in_ok-settle.field-0 none c.in_ok-settle.ensures.none in
    let t = c.in_ok-job.ensures in
    still_on a b d (quiet_still a b (c.in_ok-settle.ensures.session.0, quiet))
    (record { setting = t.session.0; log = t.log; nodes = t.nodes; out = subst (λ o. IfNone o (d.out ≡ b.out)) c.in-None.is t.out })

pub returns-else-open_clients-eq0-clause-still : goal.returns-else-open_clients-eq0-clause-still
returns-else-open_clients-eq0-clause-still c idle =
    let a = c.args.board.now in
    let b = c.settle.new.self in
    let d = c.take_job.new.self in
    let none : is_some c.in_ok-settle.field-0 ≡ false = search rules in
    let quiet = was_quiet a b c.in_ok-settle.field-0 none c.in_ok-settle.ensures.none in
    let t = c.in_ok-job.ensures in
    still_on a b d (quiet_still a b (c.in_ok-settle.ensures.session.0, quiet))
    (record { setting = t.session.0; log = t.log; nodes = t.nodes; out = subst (λ o. IfNone o (d.out ≡ b.out)) c.in-None.is t.out })
