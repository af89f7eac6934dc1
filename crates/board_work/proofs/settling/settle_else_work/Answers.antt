use Rattle.std.proofs.Common.{◌≡◌, false, is_some, length, rules, true}
use Rattle.board_core.specs.Settled.{IsQuiet}
use Rattle.board_core.specs.Views.{events}
use Rattle.board_work.proofs.Handing.{handed_twice}
use Rattle.board_work.proofs.Quiet.{come_at_once, hands_quiet, none_left_behind, was_quiet}
use Rattle.board_work.proofs.Worked.{quiet_ran, worked_later}
use Rattle.board_work.proofs.settling.settle_else_work.Goals as goal

pub returns-then-is_some-clause-entry : goal.returns-then-is_some-clause-entry
returns-then-is_some-clause-entry c =
    let a = c.args.board.now in
    let h = c.in_ok-settle.ensures in
    let some : is_some c.in_ok-settle.field-0 ≡ true = search rules in
    λ e. come_at_once a c.settle.new.self c.in_ok-settle.field-0 (length (events a)) some h.session h.settled

pub returns-then-branch-clause-handed : goal.returns-then-branch-clause-handed
returns-then-branch-clause-handed c =
    let a = c.args.board.now in
    let b = c.settle.new.self in
    let h = c.in_ok-settle.ensures in
    let none : is_some c.in_ok-settle.field-0 ≡ false = search rules in
    λ e. handed_twice a b c.work_next.new.board (hands_quiet a b h.session (was_quiet a b c.in_ok-settle.field-0 none h.none))
    c.work_next.ensures.handed

pub returns-then-branch-clause-work : goal.returns-then-branch-clause-work
returns-then-branch-clause-work c =
    let a = c.args.board.now in
    let b = c.settle.new.self in
    let h = c.in_ok-settle.ensures in
    let none : is_some c.in_ok-settle.field-0 ≡ false = search rules in
    let quiet : IsQuiet a b = was_quiet a b c.in_ok-settle.field-0 none h.none in
    λ e. worked_later a b c.work_next.new.board (record { session = h.session; log = quiet.log; nodes = quiet.nodes })
    (hands_quiet a b h.session quiet) (quiet_ran a b quiet.why) (c.in_ok-work_next.ensures.work (search rules))

pub returns-else-branch-clause-handed : goal.returns-else-branch-clause-handed
returns-else-branch-clause-handed c =
    let a = c.args.board.now in
    let b = c.settle.new.self in
    let h = c.in_ok-settle.ensures in
    let none : is_some c.in_ok-settle.field-0 ≡ false = search rules in
    λ e. handed_twice a b c.work_next.new.board (hands_quiet a b h.session (was_quiet a b c.in_ok-settle.field-0 none h.none))
    c.work_next.ensures.handed

pub returns-else-branch-clause-nothing : goal.returns-else-branch-clause-nothing
returns-else-branch-clause-nothing c =
    let a = c.args.board.now in
    let b = c.settle.new.self in
    let h = c.in_ok-settle.ensures in
    let none : is_some c.in_ok-settle.field-0 ≡ false = search rules in
    let quiet : IsQuiet a b = was_quiet a b c.in_ok-settle.field-0 none h.none in
    λ e. none_left_behind a b c.work_next.new.board h.session quiet (c.in_ok-work_next.ensures.none (search rules))
