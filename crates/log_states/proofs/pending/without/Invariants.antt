use Rattle.std.specs.Prelude.{◌≡◌, map, take}
use Rattle.rule_model.specs.States as states
use Rattle.log_states.specs.Views.{pending_of}
use Rattle.log_states.proofs.pending.without.Given as goal

abbrev pub invariant-loop-waiting : goal.invariant-loop-waiting
invariant-loop-waiting l = map pending_of l.left.items ≡ states.without (l.client, l.number) (map pending_of (take l.waiting-index l.all))
