use Rattle.std.proofs.Common.{◌<◌, length, map}
use Rattle.std.proofs.lemmas.Result.{IfOk-weaker}
use Rattle.spec_core.specs.Lists.{Each}
use Rattle.script_text.specs.Wishes.{wished_of}
use Rattle.match_code.specs.Prepared.{program_in}
use Rattle.script_offers.specs.Given.{all_given}
use Rattle.rule_model.specs.WishViews.{wish_of}
use Rattle.script_offers.specs.Valued.{AreValued, GivesValues}
use Rattle.script_offers.proofs.Comings.{gates_known, values_given, complete}
use Rattle.script_offers.proofs.offers.offers_of.Goals as goal

pub returns-clause-gates : goal.returns-clause-gates
returns-clause-gates c =
    IfOk-weaker c.valued.result
    (λ all. AreValued (program_in c.args.prepared.now).theory (map wished_of c.args.wishes.now) (map wish_of all.items)) (λ all. Each (λ w. w.offer.gate.0 < length (program_in c.args.prepared.now).gates) (map wish_of all.items))
    (λ all v. gates_known (program_in c.args.prepared.now) (map wished_of c.args.wishes.now) (map wish_of all.items) c.requires.fit v)
    c.valued.ensures.valued

pub returns-clause-values : goal.returns-clause-values
returns-clause-values c =
    IfOk-weaker c.valued.result
    (λ all. AreValued (program_in c.args.prepared.now).theory (map wished_of c.args.wishes.now) (map wish_of all.items)) (λ all. Each (GivesValues (program_in c.args.prepared.now).theory) (map wish_of all.items))
    (λ all v. values_given (program_in c.args.prepared.now).theory (map wished_of c.args.wishes.now) (map wish_of all.items) v)
    c.valued.ensures.valued

pub returns-clause-complete : goal.returns-clause-complete
returns-clause-complete c =
    complete (program_in c.args.prepared.now).theory c.args.budget (all_given (map wished_of c.args.wishes.now)) c.valued.result
    c.valued.ensures.fault
