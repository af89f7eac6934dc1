use Rattle.std.proofs.Common.{arith, ◌≡◌, sym, ap, subst, ◌∙◌, false, map}
use Rattle.std.specs.List.{AllByRecursion}
use Rattle.turn_lock.specs.Seats.{SeatModel}
use Rattle.spec_core.specs.declared.code.Checked.{Checked}
use Rattle.run_settings.specs.declared.settings.Settings.{Settings}
use Rattle.spec_core.specs.Code.{Program, program_of}
use Rattle.spec_core.specs.Executable.{IsExecutable}
use Rattle.sort_windows.specs.Found.{AreBySorts}
use Rattle.session_board.specs.declared.fixed.FixedPart.{FixedPart}
use Rattle.session_board.specs.declared.line.Line.{Line}
use Rattle.board_core.specs.Views.{BoardView}
use Rattle.session_board.specs.Shared.{fixed_part, lines}
use Rattle.session.specs.Starting.{AreFresh, content_of, pass_of, work_pass_of}
use Rattle.session.proofs.Manning.{deals, row_is_fresh, row_of_passes, row_of_work_passes, row_rests, well_made}
use Rattle.session.proofs.session.Session.start.Goals as goal

pub new-requires : goal.new-requires
new-requires c = record {
  executable = subst (λ (p : Program). IsExecutable p.theory) (sym c.in_ok-own.ensures.equal) c.requires.ready.executable;
}

pub split_off-requires : goal.split_off-requires
split_off-requires c =
    let dealt =
    deals c.in_ok-turns.turns.id (lines c.new-3.result) c.args.clients c.args.workers c.in_ok-turns.seats.items c.pop.new.self.items
    c.in-Some.keeper c.new-3.ensures.lines c.in_ok-turns.ensures.seats c.in-Some.ensures.items in
    omega (arith, dealt.enough, c.pop.new.self.ok)

pub man_workers-requires : goal.man_workers-requires
man_workers-requires c =
    let dealt =
    deals c.in_ok-turns.turns.id (lines c.new-3.result) c.args.clients c.args.workers c.in_ok-turns.seats.items c.pop.new.self.items
    c.in-Some.keeper c.new-3.ensures.lines c.in_ok-turns.ensures.seats c.in-Some.ensures.items in
    record {
      rest =
          subst (AllByRecursion (λ (seat : SeatModel Line). seat.holds_turn ≡ false)) (sym (c.in_ok-work_seats.ensures.tail ∙ dealt.later))
          (row_rests c.in_ok-turns.turns.id c.args.clients c.args.workers);
    }

pub man_clients-requires-clause-fresh : goal.man_clients-requires-clause-fresh
man_clients-requires-clause-fresh c =
    let dealt =
    deals c.in_ok-turns.turns.id (lines c.new-3.result) c.args.clients c.args.workers c.in_ok-turns.seats.items c.pop.new.self.items
    c.in-Some.keeper c.new-3.ensures.lines c.in_ok-turns.ensures.seats c.in-Some.ensures.items in
    subst (AreFresh 0) (sym (c.in_ok-work_seats.ensures.items ∙ dealt.first)) (row_is_fresh c.in_ok-turns.turns.id 0 c.args.clients)

pub invariant_of-session : goal.invariant_of-session
invariant_of-session c =
    let dealt =
    deals c.in_ok-turns.turns.id (lines c.new-3.result) c.args.clients c.args.workers c.in_ok-turns.seats.items c.pop.new.self.items
    c.in-Some.keeper c.new-3.ensures.lines c.in_ok-turns.ensures.seats c.in-Some.ensures.items in
    let v = c.new-3.result in
    let board = c.new-3.ensures.board in (
      well_made c.in_ok-turns.turns (fixed_part v) c.in_ok-own.own c.args.checked c.args.settings c.in_ok-windows.windows.items
          c.in_ok-board.board.settings.values c.args.clients c.args.workers c.in-Some.keeper c.in_ok-turns.ensures.lock.0
          (ap (λ (b : BoardView). b.session.checked) board ∙ c.in_ok-board.ensures.checked)
          (ap (λ (b : BoardView). b.settings) board ∙ c.in_ok-board.ensures.settings)
          (ap (λ (b : BoardView). b.session.clients) board ∙ c.in_ok-board.ensures.clients) c.in_ok-own.ensures.equal
          (c.in_ok-windows.ensures.equal ∙ ap (λ l. map content_of l) (c.windows.ensures.windows ∙ ap (λ (b : BoardView). b.windows) (sym board)))
          c.requires.ready
          (subst (λ (b : BoardView). AreBySorts (program_of b.session.checked).theory c.in_ok-board.board.settings.values b.windows) (sym board)
          c.windows.ensures.rows)
          c.in_ok-turns.ensures.lock.1 dealt.last,
      c.in_ok-forms.ensures.forms,
    )

pub returns-clause-windows : goal.returns-clause-windows
returns-clause-windows c =
    let b = c.in_ok-board.board in
    let same = ap (λ (f : FixedPart). f.windows) c.in_ok-turns.ensures.lock.0 ∙ ap (λ (v : BoardView). v.windows) c.new-3.ensures.board in
    subst (AreBySorts (program_of c.args.checked).theory c.args.settings.values) (sym same)
    (subst (λ (s : Settings). AreBySorts (program_of c.args.checked).theory s.values b.windows) c.in_ok-board.ensures.settings
    (subst (λ (k : Checked). AreBySorts (program_of k).theory b.settings.values b.windows) c.in_ok-board.ensures.checked c.windows.ensures.rows))

pub returns-clause-passes : goal.returns-clause-passes
returns-clause-passes c =
    let dealt =
    deals c.in_ok-turns.turns.id (lines c.new-3.result) c.args.clients c.args.workers c.in_ok-turns.seats.items c.pop.new.self.items
    c.in-Some.keeper c.new-3.ensures.lines c.in_ok-turns.ensures.seats c.in-Some.ensures.items in
    c.in_ok-passes.ensures.passes ∙ ap (λ l. map pass_of l) (c.in_ok-work_seats.ensures.items ∙ dealt.first)
    ∙ row_of_passes c.in_ok-turns.turns.id 0 c.args.clients

pub returns-clause-workers : goal.returns-clause-workers
returns-clause-workers c =
    let dealt =
    deals c.in_ok-turns.turns.id (lines c.new-3.result) c.args.clients c.args.workers c.in_ok-turns.seats.items c.pop.new.self.items
    c.in-Some.keeper c.new-3.ensures.lines c.in_ok-turns.ensures.seats c.in-Some.ensures.items in
    c.in_ok-work_passes.ensures.passes ∙ ap (λ l. map (work_pass_of c.args.clients) l) (c.in_ok-work_seats.ensures.tail ∙ dealt.later)
    ∙ row_of_work_passes c.in_ok-turns.turns.id c.args.clients c.args.clients c.args.workers
