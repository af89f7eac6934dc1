use Rattle.std.proofs.Common.{◌≡◌, ◌<◌, ◌∙◌, ap, length, map, option_map, subst, sym, Some}
use Rattle.spec_core.specs.Code.{Program, program_of}
use Rattle.spec_core.specs.Lists.{Each}
use Rattle.rule_model.specs.Wishes.{Wish}
use Rattle.rule_model.specs.WishViews.{wish_of}
use Rattle.script_offers.specs.Valued.{all_wishes_of}
use Rattle.board_laws.specs.JobValues.{GivesValues}
use Rattle.command_run.specs.Runs.{wishes_of_one}
use Rattle.command_run.proofs.Sessions.{each_of_one, run_answers, threads_answer}
use Rattle.command_run.proofs.call.run_clients.Goals as goal

pub returns-then-workers-gt0 : goal.returns-then-workers-gt0
returns-then-workers-gt0 g c =
    let t = c.run_in_threads.ensures in
    threads_answer (program_of c.in_ok-own.own) (program_of c.args.checked.now) c.in_ok-own.ensures.equal c.args.settings
    c.clients_alone_offer.ensures c.sessions_of_one_are_client_runs.ensures c.args.clients.now c.run_in_threads.result t.session t.clients
    t.windows

pub returns-in-None : goal.returns-in-None
returns-in-None g c =
    let t = c.run_in_threads-in-None.ensures in
    threads_answer (program_of c.in_ok-own.own) (program_of c.args.checked.now) c.in_ok-own.ensures.equal c.args.settings
    c.clients_alone_offer.ensures c.sessions_of_one_are_client_runs.ensures c.args.clients.now c.run_in_threads-in-None.result t.session
    t.clients t.windows

pub client_run-requires-clause-gates : goal.client_run-requires-clause-gates
client_run-requires-clause-gates g c =
    let one = sym c.wishes_of_one.ensures ∙ ap (option_map (λ wishes. map wish_of wishes.now)) c.in-Some.is in
    subst (λ (p : Program). Each (λ (w : Wish). w.offer.gate.0 < length p.gates) (map wish_of c.in-Some.wishes.now))
    (sym c.in_ok-own.ensures.equal)
    (each_of_one (λ (w : Wish). w.offer.gate.0 < length (program_of c.args.checked.now).gates) (map all_wishes_of c.args.clients.now)
    (map wish_of c.in-Some.wishes.now) one c.requires.gates)

pub client_run-requires-clause-values : goal.client_run-requires-clause-values
client_run-requires-clause-values g c =
    let one = sym c.wishes_of_one.ensures ∙ ap (option_map (λ wishes. map wish_of wishes.now)) c.in-Some.is in
    subst (λ (p : Program). Each (λ (w : Wish). GivesValues p.theory w.offer) (map wish_of c.in-Some.wishes.now)) (sym c.in_ok-own.ensures.equal)
    (each_of_one (λ (w : Wish). GivesValues (program_of c.args.checked.now).theory w.offer) (map all_wishes_of c.args.clients.now)
    (map wish_of c.in-Some.wishes.now) one c.requires.values)

pub run_in_threads-requires-clause-values : goal.run_in_threads-requires-clause-values
run_in_threads-requires-clause-values g c κs within =
    subst (λ (p : Program). Each (Each (λ (w : Wish). GivesValues p.theory w.offer)) (map all_wishes_of c.args.clients.now))
    (sym c.in_ok-own.ensures.equal) c.requires.values

pub run_in_threads-requires-in-None-clause-values : goal.run_in_threads-requires-in-None-clause-values
run_in_threads-requires-in-None-clause-values g c κs within =
    subst (λ (p : Program). Each (Each (λ (w : Wish). GivesValues p.theory w.offer)) (map all_wishes_of c.args.clients.now))
    (sym c.in_ok-own.ensures.equal) c.requires.values

pub run_in_threads-requires-in-None-clause-gates : goal.run_in_threads-requires-in-None-clause-gates
run_in_threads-requires-in-None-clause-gates g c κs within =
    subst (λ (p : Program). Each (Each (λ (w : Wish). w.offer.gate.0 < length p.gates)) (map all_wishes_of c.args.clients.now))
    (sym c.in_ok-own.ensures.equal) c.requires.gates

pub returns-in-Some : goal.returns-in-Some
returns-in-Some g c =
    let one = sym c.wishes_of_one.ensures ∙ ap (option_map (λ wishes. map wish_of wishes.now)) c.in-Some.is in
    run_answers (program_of c.in_ok-own.own) (program_of c.args.checked.now) c.in_ok-own.ensures.equal c.args.settings
    c.client_runs_are_sessions.ensures c.client_runs_answer_each.ensures c.requires.ready (map all_wishes_of c.args.clients.now)
    (map wish_of c.in-Some.wishes.now) one c.client_run.result c.client_run.ensures.run
