use Rattle.std.proofs.lemmas.Result.{IfOk-weaker}
use Rattle.rule_model.specs.Events.{ending_of}
use Rattle.rule_model.specs.Logs.{events_of}
use Rattle.session.proofs.Ending.{clients_begin, clients_running, each_number, each_rests, none_is_pending, own_entries, whole_session}
use Rattle.session.proofs.Ending.{workers_begin, workers_running}
use Rattle.session.proofs.session.Session.close.Goals as goal

pub close-requires-clause-each : goal.close-requires-clause-each
close-requires-clause-each c =
    let inside = c.self.inside in
    each_rests c.args.self inside.turns inside.workers c.self.view_is c.args.passes.items c.args.workers.items inside.keeper
    c.in_ok-seats.seats.items c.in_ok-seats.ensures.seats c.requires.clients c.requires.workers c.self.invariant.0.keeper_rests

pub close-requires-clause-complete : goal.close-requires-clause-complete
close-requires-clause-complete c =
    let inside = c.self.inside in
    each_number c.args.self inside.turns inside.workers c.self.view_is c.args.passes.items c.args.workers.items inside.keeper
    c.in_ok-seats.seats.items c.in_ok-seats.ensures.seats c.requires.all_clients c.requires.all_workers c.self.invariant.0.keeper_is_last
    c.self.invariant.0.seats

pub close-requires-2-clause-idle : goal.close-requires-2-clause-idle
close-requires-2-clause-idle c =
    let inside = c.self.inside in
    none_is_pending c.args.self inside.turns inside.workers c.self.view_is c.args.passes.items c.args.workers.items inside.keeper
    c.in_ok-seats.seats.items c.in_ok-seats.ensures.seats c.close.result c.close.ensures.fixed c.close.ensures.lists c.in_ok-board.board
    c.in_ok-board.ensures c.requires.all_clients

pub returns-clause-session : goal.returns-clause-session
returns-clause-session c =
    let inside = c.self.inside in
    IfOk-weaker c.close-2.result _ _
    (λ r h.
    whole_session c.args.self inside.turns inside.workers c.self.view_is c.args.passes.items c.args.workers.items inside.keeper
    c.in_ok-seats.seats.items c.in_ok-seats.ensures.seats c.close.result c.close.ensures.fixed c.close.ensures.lists c.in_ok-board.board
    c.in_ok-board.ensures (events_of r.0) (ending_of r.1) h)
    c.close-2.ensures.session

pub returns-clause-clients_begin : goal.returns-clause-clients_begin
returns-clause-clients_begin c =
    let inside = c.self.inside in
    IfOk-weaker c.close-2.result _ _
    (λ r h.
    clients_begin c.args.self inside.turns inside.workers c.self.view_is c.args.passes.items c.args.workers.items inside.keeper
    c.in_ok-seats.seats.items c.in_ok-seats.ensures.seats c.close.result c.close.ensures.fixed c.close.ensures.lists c.in_ok-board.board
    c.in_ok-board.ensures (events_of r.0) h)
    c.close-2.ensures.log

pub returns-clause-workers_begin : goal.returns-clause-workers_begin
returns-clause-workers_begin c =
    let inside = c.self.inside in
    IfOk-weaker c.close-2.result _ _
    (λ r h.
    workers_begin c.args.self inside.turns inside.workers c.self.view_is c.args.passes.items c.args.workers.items inside.keeper
    c.in_ok-seats.seats.items c.in_ok-seats.ensures.seats c.close.result c.close.ensures.fixed c.close.ensures.lists c.in_ok-board.board
    c.in_ok-board.ensures (events_of r.0) h)
    c.close-2.ensures.log

pub returns-clause-own : goal.returns-clause-own
returns-clause-own c =
    let inside = c.self.inside in
    IfOk-weaker c.close-2.result _ _
    (λ r h.
    own_entries c.args.self inside.turns inside.workers c.self.view_is c.args.passes.items c.args.workers.items inside.keeper
    c.in_ok-seats.seats.items c.in_ok-seats.ensures.seats c.close.result c.close.ensures.fixed c.close.ensures.lists c.in_ok-board.board
    c.in_ok-board.ensures (events_of r.0) h c.requires.clients)
    c.close-2.ensures.log

pub returns-clause-clients_running : goal.returns-clause-clients_running
returns-clause-clients_running c =
    let inside = c.self.inside in
    IfOk-weaker c.close-2.result _ _
    (λ r h.
    clients_running c.args.self inside.turns inside.workers c.self.view_is c.args.passes.items c.args.workers.items inside.keeper
    c.in_ok-seats.seats.items c.in_ok-seats.ensures.seats c.close.result c.close.ensures.fixed c.close.ensures.lists c.in_ok-board.board
    c.in_ok-board.ensures)
    c.close-2.ensures.log

pub returns-clause-workers_running : goal.returns-clause-workers_running
returns-clause-workers_running c =
    let inside = c.self.inside in
    IfOk-weaker c.close-2.result _ _
    (λ r h.
    workers_running c.args.self inside.turns inside.workers c.self.view_is c.args.passes.items c.args.workers.items inside.keeper
    c.in_ok-seats.seats.items c.in_ok-seats.ensures.seats c.close.result c.close.ensures.fixed c.close.ensures.lists c.in_ok-board.board
    c.in_ok-board.ensures)
    c.close-2.ensures.log
