use Rattle.std.proofs.Common.{◌≡◌, map, rules, subst, sym}
use Rattle.spec_core.specs.Code.{program_of}
use Rattle.spec_core.specs.Lists.{Each}
use Rattle.rule_model.specs.Wishes.{Wish}
use Rattle.script_offers.specs.Valued.{all_wishes_of}
use Rattle.board_laws.specs.JobValues.{GivesValues}
use Rattle.command_run.proofs.Sessions.{offers_give}
use Rattle.command_run.proofs.call.run_script.Goals as goal

pub run_clients-requires-clause-values : goal.run_clients-requires-clause-values
run_clients-requires-clause-values g c κs within =
    let theory = (program_of c.args.checked.now).theory in
    let same : c.deref.result.now ≡ c.in-Ok.offers.items = search rules in
    subst (λ clients. Each (Each (λ (w : Wish). GivesValues theory w.offer)) (map all_wishes_of clients)) (sym same)
    (offers_give theory (map all_wishes_of c.in-Ok.offers.items) c.in-Ok.ensures.values)
