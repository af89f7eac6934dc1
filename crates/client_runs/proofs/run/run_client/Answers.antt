use Rattle.std.proofs.Common.{[], map}
use Rattle.std.proofs.lemmas.Result.{IfOk-weaker}
use Rattle.rule_model.specs.Events.{ending_of}
use Rattle.rule_model.specs.Logs.{events_of}
use Rattle.rule_model.specs.WishViews.{wish_of}
use Rattle.client_runs.proofs.Running.{ended_there, one_for, session_of}
use Rattle.client_runs.proofs.run.run_client.Goals as goal

pub returns : goal.returns
returns c =
    let b = c.in_ok-board.ensures in
    let o = c.in_ok-offer_all.ensures in
    let wishes = map wish_of c.args.wishes.now in
    IfOk-weaker c.finish.result _ _
    (λ r h. session_of c.in_ok-board.board c.args.checked c.args.settings b.checked b.settings 1 wishes (events_of r.0) (ending_of r.1)
    (one_for wish_of c.args.wishes.now c.requires.some) b.begun
    (ended_there c.in_ok-board.board c.offer_all.new.board o.setting _ wishes (events_of r.0) (ending_of r.1)
    (h _ wishes (o.offered _ [] b.begun.run))))
    c.finish.ensures
