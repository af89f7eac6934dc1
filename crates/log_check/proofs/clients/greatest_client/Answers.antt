use Rattle.std.proofs.Common.{rules, ◌≡◌, ◌∙◌, ◌+◌, take, max}
use Rattle.rule_model.specs.Events.{event_of}
use Rattle.log_check.specs.Starting.{greatest_in}
use Rattle.log_check.proofs.Derivations.{greatest_next}
use Rattle.log_check.proofs.clients.greatest_client.Goals as goal

pub loop-entry-preserved : goal.loop-entry-preserved
loop-entry-preserved c =
    let e : c.max-greatest.result ≡ max c.loop-entry.greatest (greatest_in (event_of c.entry-item.result)) = search rules in
    e ∙ greatest_next c.args.entries.now c.loop-entry.entry-index c.entry-item.result c.loop-entry.greatest (search rules) (search rules) c.loop-entry.invariant
