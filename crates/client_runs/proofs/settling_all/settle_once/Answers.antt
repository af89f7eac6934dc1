use Rattle.std.proofs.Common.{◌∙◌, sym}
use Rattle.board_work.proofs.Going as going
use Rattle.client_runs.proofs.Running.{handed, onward, settled}
use Rattle.client_runs.proofs.settling_all.settle_once.Goals as goal

pub returns-in-Entry-clause-continues : goal.returns-in-Entry-clause-continues
returns-in-Entry-clause-continues c =
    let a = c.args.board.now in
    let b = c.settle_or_work.new.board in
    let h = c.in_ok-settle_or_work.ensures.entry c.in-Entry.is in
    onward a h.ready b (handed a h.ready h.handed) (settled h.ready b h.session h.settled)

pub returns-in-Work-clause-continues : goal.returns-in-Work-clause-continues
returns-in-Work-clause-continues c =
    handed c.args.board.now c.settle_or_work.new.board (c.in_ok-settle_or_work.ensures.handed (λ e. let f = sym c.in-Work.is ∙ e in cc))

pub returns-in-Nothing-clause-continues : goal.returns-in-Nothing-clause-continues
returns-in-Nothing-clause-continues c =
    handed c.args.board.now c.settle_or_work.new.board (c.in_ok-settle_or_work.ensures.handed (λ e. let f = sym c.in-Nothing.is ∙ e in cc))

pub returns-in-Entry-clause-goes_on : goal.returns-in-Entry-clause-goes_on
returns-in-Entry-clause-goes_on c =
    let a = c.args.board.now in
    let b = c.settle_or_work.new.board in
    let h = c.in_ok-settle_or_work.ensures.entry c.in-Entry.is in
    going.onward a h.ready b (going.handed a h.ready h.handed) (going.settles h.ready b h.session.0 h.settled)

pub returns-in-Work-clause-goes_on : goal.returns-in-Work-clause-goes_on
returns-in-Work-clause-goes_on c =
    going.handed c.args.board.now c.settle_or_work.new.board (c.in_ok-settle_or_work.ensures.handed (λ e. let f = sym c.in-Work.is ∙ e in cc))

pub returns-in-Nothing-clause-goes_on : goal.returns-in-Nothing-clause-goes_on
returns-in-Nothing-clause-goes_on c =
    going.handed c.args.board.now c.settle_or_work.new.board (c.in_ok-settle_or_work.ensures.handed (λ e. let f = sym c.in-Nothing.is ∙ e in cc))
