use Rattle.client_laws.proofs.Justified.{next_events_hold}
use Rattle.client_laws.proofs.laws.next_events_hold.Goals as goal

pub returns : goal.returns
returns c = next_events_hold
