use Rattle.std.proofs.Common.{arith, ◌<◌, ◌≡◌, ◌∙◌, ap, sym, subst, map, length}
use Rattle.std.proofs.lemmas.List.{length-map}
use Rattle.std.proofs.lemmas.List.Elements.{All-from_recursion, recursion_from_All}
use Rattle.std.proofs.lemmas.List.FromFn.{length-map-range_with_len}
use Rattle.std.proofs.lemmas.Result.{IfOk-weaker}
use Rattle.spec_core.specs.Code.{program_of}
use Rattle.spec_core.specs.Lists.{Each}
use Rattle.spec_core.specs.declared.code.Checked.{Checked}
use Rattle.run_settings.specs.declared.settings.Settings.{Settings}
use Rattle.spec_core.proofs.Options.{if_ok_two}
use Rattle.rule_model.specs.Events.{ending_of}
use Rattle.rule_model.specs.Logs.{events_of}
use Rattle.rule_model.specs.Wishes.{Wish}
use Rattle.board_laws.specs.JobValues.{GivesValues}
use Rattle.session.specs.Closing.{HasItsEntries}
use Rattle.session.specs.Passes.{WorkPassView}
use Rattle.session.specs.Sessions.{IsClientOf, IsWorkerOf, who_of}
use Rattle.session.specs.Starting.{new_pass}
use Rattle.session_threads.specs.Rows.{IsReadyRow}
use Rattle.session_threads.specs.Runs.{all_wishes_of}
use Rattle.session_threads.proofs.Windowing.{tells_windows, HasWindows}
use Rattle.session_threads.proofs.Ending.{all_ready, answers_clients, begun, clients_ours, clients_there, ends}
use Rattle.session_threads.proofs.Ending.{workers_ours, workers_there}
use Rattle.session_threads.proofs.Wishing.{all_hold}
use Rattle.session_threads.proofs.run.run_in_threads.Goals as goal

pub add_client_rows-requires : goal.add_client_rows-requires
add_client_rows-requires g c =
    let s = c.in_ok-session.session in
    record {
      each = ap length c.in_ok-session.ensures.passes ∙ length-map-range_with_len (new_pass s.lock.id) 0 (length c.args.clients.now);
    }

pub serve_all-requires-clause-ready : goal.serve_all-requires-clause-ready
serve_all-requires-clause-ready g c κs within =
    let s = c.in_ok-session.session in
    let f = c.in_ok-session.ensures in
    let wishes = map all_wishes_of c.args.clients.now in
    let rows = c.add_client_rows.new.rows.items in
    let is = begun s c.args.clients.now c.args.workers c.in_ok-session.passes.items c.in_ok-session.work_passes.items c.in_ok-rows.rows.items rows
    f.fixed.2 f.passes f.workers c.in_ok-rows.ensures.rows c.in_ok-add_client_rows.ensures.rows in
    let fit =
    subst (λ (p : Checked). Each (Each (λ (w : Wish).
    (w.offer.gate.0 < length (program_of p).gates) × GivesValues (program_of p).theory w.offer)) wishes) (sym f.fixed.0)
    (all_hold (λ (w : Wish). w.offer.gate.0 < length (program_of c.args.checked).gates)
    (λ (w : Wish). GivesValues (program_of c.args.checked).theory w.offer) wishes c.requires.gates c.requires.values) in
    all_ready s c.args.clients.now c.args.workers rows f.fixed.2 is fit

pub close-requires-clause-clients : goal.close-requires-clause-clients
close-requires-clause-clients g c =
    let s = c.in_ok-session.session in
    let f = c.in_ok-session.ensures in
    let wishes = map all_wishes_of c.args.clients.now in
    let rows = c.add_client_rows.new.rows.items in
    let is = begun s c.args.clients.now c.args.workers c.in_ok-session.passes.items c.in_ok-session.work_passes.items c.in_ok-rows.rows.items rows
    f.fixed.2 f.passes f.workers c.in_ok-rows.ensures.rows c.in_ok-add_client_rows.ensures.rows in
    let news = c.in_ok-served.served.items in
    let e = ends s wishes c.args.workers rows news c.in_ok-passes.passes.items c.in_ok-passes.work_passes.items is
    c.in_ok-served.ensures.served c.in_ok-passes.ensures.clients c.in_ok-passes.ensures.workers
    c.in_ok-passes.ensures.done in
    let long : length wishes ≡ s.lock.fixed.clients = length-map c.args.clients.now all_wishes_of ∙ sym f.fixed.2 in
    All-from_recursion (IsClientOf s) c.in_ok-passes.passes.items
    (clients_ours s 1 wishes c.in_ok-passes.passes.items e.clients_are (omega arith) (omega (arith, long)))

pub close-requires-clause-all_clients : goal.close-requires-clause-all_clients
close-requires-clause-all_clients g c =
    let s = c.in_ok-session.session in
    let f = c.in_ok-session.ensures in
    let wishes = map all_wishes_of c.args.clients.now in
    let rows = c.add_client_rows.new.rows.items in
    let is = begun s c.args.clients.now c.args.workers c.in_ok-session.passes.items c.in_ok-session.work_passes.items c.in_ok-rows.rows.items rows
    f.fixed.2 f.passes f.workers c.in_ok-rows.ensures.rows c.in_ok-add_client_rows.ensures.rows in
    let news = c.in_ok-served.served.items in
    let e = ends s wishes c.args.workers rows news c.in_ok-passes.passes.items c.in_ok-passes.work_passes.items is
    c.in_ok-served.ensures.served c.in_ok-passes.ensures.clients c.in_ok-passes.ensures.workers
    c.in_ok-passes.ensures.done in
    let long : length wishes ≡ s.lock.fixed.clients = length-map c.args.clients.now all_wishes_of ∙ sym f.fixed.2 in
    λ k least most. clients_there s.lock.id 1 wishes c.in_ok-passes.passes.items e.clients_are k least (omega (arith, long, most))

pub close-requires-clause-workers : goal.close-requires-clause-workers
close-requires-clause-workers g c =
    let s = c.in_ok-session.session in
    let f = c.in_ok-session.ensures in
    let wishes = map all_wishes_of c.args.clients.now in
    let rows = c.add_client_rows.new.rows.items in
    let is = begun s c.args.clients.now c.args.workers c.in_ok-session.passes.items c.in_ok-session.work_passes.items c.in_ok-rows.rows.items rows
    f.fixed.2 f.passes f.workers c.in_ok-rows.ensures.rows c.in_ok-add_client_rows.ensures.rows in
    let news = c.in_ok-served.served.items in
    let e = ends s wishes c.args.workers rows news c.in_ok-passes.passes.items c.in_ok-passes.work_passes.items is
    c.in_ok-served.ensures.served c.in_ok-passes.ensures.clients c.in_ok-passes.ensures.workers
    c.in_ok-passes.ensures.done in
    let long : length wishes ≡ s.lock.fixed.clients = length-map c.args.clients.now all_wishes_of ∙ sym f.fixed.2 in
    All-from_recursion (λ (p : WorkPassView). IsWorkerOf s (who_of p)) c.in_ok-passes.work_passes.items
    (workers_ours s s.lock.fixed.clients c.args.workers c.in_ok-passes.work_passes.items e.workers_are)

pub close-requires-clause-all_workers : goal.close-requires-clause-all_workers
close-requires-clause-all_workers g c =
    let s = c.in_ok-session.session in
    let f = c.in_ok-session.ensures in
    let wishes = map all_wishes_of c.args.clients.now in
    let rows = c.add_client_rows.new.rows.items in
    let is = begun s c.args.clients.now c.args.workers c.in_ok-session.passes.items c.in_ok-session.work_passes.items c.in_ok-rows.rows.items rows
    f.fixed.2 f.passes f.workers c.in_ok-rows.ensures.rows c.in_ok-add_client_rows.ensures.rows in
    let news = c.in_ok-served.served.items in
    let e = ends s wishes c.args.workers rows news c.in_ok-passes.passes.items c.in_ok-passes.work_passes.items is
    c.in_ok-served.ensures.served c.in_ok-passes.ensures.clients c.in_ok-passes.ensures.workers
    c.in_ok-passes.ensures.done in
    let long : length wishes ≡ s.lock.fixed.clients = length-map c.args.clients.now all_wishes_of ∙ sym f.fixed.2 in
    let count = f.fixed.3 in
    λ k least most.
    workers_there s.lock.id s.lock.fixed.clients s.lock.fixed.clients c.args.workers c.in_ok-passes.work_passes.items e.workers_are k least
    (omega (arith, count, most))

pub returns-clause-clients : goal.returns-clause-clients
returns-clause-clients g c =
    let s = c.in_ok-session.session in
    let f = c.in_ok-session.ensures in
    let wishes = map all_wishes_of c.args.clients.now in
    let rows = c.add_client_rows.new.rows.items in
    let is = begun s c.args.clients.now c.args.workers c.in_ok-session.passes.items c.in_ok-session.work_passes.items c.in_ok-rows.rows.items rows
    f.fixed.2 f.passes f.workers c.in_ok-rows.ensures.rows c.in_ok-add_client_rows.ensures.rows in
    let news = c.in_ok-served.served.items in
    let e = ends s wishes c.args.workers rows news c.in_ok-passes.passes.items c.in_ok-passes.work_passes.items is
    c.in_ok-served.ensures.served c.in_ok-passes.ensures.clients c.in_ok-passes.ensures.workers
    c.in_ok-passes.ensures.done in
    let long : length wishes ≡ s.lock.fixed.clients = length-map c.args.clients.now all_wishes_of ∙ sym f.fixed.2 in
    if_ok_two c.close.result (λ r whole own.
    answers_clients (events_of r.0)
    (c.whole_sessions_answer_clients.ensures (program_of s.lock.fixed.checked) s.lock.fixed.settings s.lock.fixed.clients (events_of r.0)
    (ending_of r.1) whole)
    s.lock.id 1 wishes c.in_ok-passes.passes.items e.clients_are
    (recursion_from_All (HasItsEntries (events_of r.0)) c.in_ok-passes.passes.items own)) c.close.ensures.session c.close.ensures.own

pub returns-clause-windows : goal.returns-clause-windows
returns-clause-windows g c =
    let s = c.in_ok-session.session in
    let f = c.in_ok-session.ensures in
    IfOk-weaker c.close.result _ _
    (λ r whole.
    subst (λ (p : Checked). HasWindows (program_of p) c.args.settings) f.fixed.0
    (subst (λ (t : Settings). HasWindows (program_of s.lock.fixed.checked) t) f.fixed.1
    (tells_windows (program_of s.lock.fixed.checked) s.lock.fixed.settings s.lock.fixed.clients (events_of r.0) (ending_of r.1) whole)))
    c.close.ensures.session
