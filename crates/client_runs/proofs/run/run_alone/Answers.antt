use Rattle.std.proofs.Common.{[], refl}
use Rattle.std.proofs.lemmas.Result.{IfOk-weaker}
use Rattle.rule_model.specs.Events.{ending_of}
use Rattle.rule_model.specs.Logs.{events_of}
use Rattle.client_runs.proofs.Running.{session_of}
use Rattle.client_runs.proofs.run.run_alone.Goals as goal

pub returns : goal.returns
returns c =
    let b = c.in_ok-board.ensures in
    IfOk-weaker c.finish.result _ _
    (λ r h. session_of c.in_ok-board.board c.args.checked c.args.settings b.checked b.settings 0 [] (events_of r.0) (ending_of r.1) refl b.begun
    (h _ [] b.begun.run))
    c.finish.ensures
