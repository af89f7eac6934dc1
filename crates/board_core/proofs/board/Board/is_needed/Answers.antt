use Rattle.std.proofs.Common.{◌≡◌, ◌∙◌, IsTrue, ap, false, not, rules, sym}
use Rattle.std.proofs.lemmas.Result.{IfOk-weaker}
use Rattle.spec_core.proofs.Options.{not_some}
use Rattle.candidates.specs.Models.{job_of}
use Rattle.board_core.specs.Views.{state}
use Rattle.board_core.proofs.Needing.{awaiting_needs_none, ended_needs_none, needed_where_asked, stopped_needs_none, unneeded}
use Rattle.board_core.proofs.Quiet.{looks_by}
use Rattle.board_core.proofs.board.Board.is_needed.Goals as goal

pub returns-then-stopped : goal.returns-then-stopped
returns-then-stopped c =
    let v = c.args.self.now in
    let job = job_of c.args.task.now in
    unneeded v job (stopped_needs_none v job (sym c.stopped.ensures ∙ c.if-stopped.true))

pub returns-then-not-goes_by_rules : goal.returns-then-not-goes_by_rules
returns-then-not-goes_by_rules c =
    let v = c.args.self.now in
    let job = job_of c.args.task.now in
    let ended : c.goes_by_rules.result ≡ false = search rules in
    unneeded v job (ended_needs_none v job (c.goes_by_rules.ensures.ended ended))

pub returns-then-awaits_clients : goal.returns-then-awaits_clients
returns-then-awaits_clients c =
    let v = c.args.self.now in
    let job = job_of c.args.task.now in
    let awaits : IsTrue c.awaits_clients.result = search rules in
    unneeded v job (awaiting_needs_none v job (c.awaits_clients.ensures.0 awaits))

pub returns : goal.returns
returns c =
    let v = c.args.self.now in
    let running : c.stopped.result ≡ false = search rules in
    let goes : IsTrue c.goes_by_rules.result = search rules in
    let busy : c.awaits_clients.result ≡ false = search rules in
    IfOk-weaker c.is_among_needed.result _ _
    (needed_where_asked v (job_of c.args.task.now) (not_some v.stop (sym c.stopped.ensures ∙ running))
    (looks_by (state v) c.awaits_clients.result (c.goes_by_rules.ensures.goes goes) c.awaits_clients.ensures (ap not busy)))
    c.is_among_needed.ensures
