use Rattle.std.proofs.Common.{◌≡◌, ◌<◌, ◌∙◌, IfOk, IfErr, length, map, sym, subst}
use Rattle.std.proofs.lemmas.List.{length-map}
use Rattle.std.proofs.lemmas.Result.{IfOk-weaker}
use Rattle.spec_core.specs.Lists.{Each}
use Rattle.script_text.specs.Wishes.{all_wished_of, script_of}
use Rattle.match_code.specs.Prepared.{program_in}
use Rattle.script_offers.specs.Faults.{IsFaultOf}
use Rattle.script_offers.specs.Given.{script_given}
use Rattle.script_offers.specs.Valued.{all_wishes_of, AreValued, AreScriptValued, GivesValues}
use Rattle.script_offers.proofs.Comings.{clients_gates_known, clients_values_given, as_many, complete}
use Rattle.script_offers.proofs.clients.offers_of_script.Goals as goal

pub returns-clause-as_many : goal.returns-clause-as_many
returns-clause-as_many c =
    IfOk-weaker c.valued_clients.result
    (λ all. AreScriptValued (program_in c.args.prepared.now).theory (script_of c.args.script.now) (map all_wishes_of all.items)) (λ all. length all.items ≡ length (script_of c.args.script.now))
    (λ all v. sym (length-map all.items all_wishes_of)
    ∙ as_many (AreValued (program_in c.args.prepared.now).theory) (script_of c.args.script.now) (map all_wishes_of all.items) v)
    (subst
    (λ ws. IfOk c.valued_clients.result
    (λ all. AreScriptValued (program_in c.args.prepared.now).theory (map all_wished_of ws) (map all_wishes_of all.items)))
    c.deref.ensures.value c.valued_clients.ensures.valued)

pub returns-clause-gates : goal.returns-clause-gates
returns-clause-gates c =
    IfOk-weaker c.valued_clients.result
    (λ all. AreScriptValued (program_in c.args.prepared.now).theory (script_of c.args.script.now) (map all_wishes_of all.items))
    (λ all. Each (Each (λ w. w.offer.gate.0 < length (program_in c.args.prepared.now).gates)) (map all_wishes_of all.items))
    (λ all v. clients_gates_known (program_in c.args.prepared.now) (script_of c.args.script.now) (map all_wishes_of all.items)
    c.requires.fit v)
    (subst
    (λ ws. IfOk c.valued_clients.result
    (λ all. AreScriptValued (program_in c.args.prepared.now).theory (map all_wished_of ws) (map all_wishes_of all.items)))
    c.deref.ensures.value c.valued_clients.ensures.valued)

pub returns-clause-values : goal.returns-clause-values
returns-clause-values c =
    IfOk-weaker c.valued_clients.result
    (λ all. AreScriptValued (program_in c.args.prepared.now).theory (script_of c.args.script.now) (map all_wishes_of all.items)) (λ all. Each (Each (GivesValues (program_in c.args.prepared.now).theory)) (map all_wishes_of all.items))
    (λ all v. clients_values_given (program_in c.args.prepared.now).theory (script_of c.args.script.now) (map all_wishes_of all.items) v)
    (subst
    (λ ws. IfOk c.valued_clients.result
    (λ all. AreScriptValued (program_in c.args.prepared.now).theory (map all_wished_of ws) (map all_wishes_of all.items)))
    c.deref.ensures.value c.valued_clients.ensures.valued)

pub returns-clause-complete : goal.returns-clause-complete
returns-clause-complete c =
    complete (program_in c.args.prepared.now).theory c.args.budget (script_given (script_of c.args.script.now)) c.valued_clients.result
    (subst
    (λ ws. IfErr c.valued_clients.result
    (IsFaultOf (program_in c.args.prepared.now).theory c.args.budget (script_given (map all_wished_of ws))))
    c.deref.ensures.value c.valued_clients.ensures.fault)
