-- Why an offer isn't made, and why a client doesn't leave.
use Rattle.std.specs.Prelude.{ℕ, ◌<◌, Contains, length}
use Rattle.spec_core.specs.Code.{Program}
use Rattle.rule_model.specs.declared.offer.Offer.{Offer}
use Rattle.rule_model.specs.Legal.{IsIdle}
use Rattle.rule_model.specs.States.{State}
use Rattle.board_record.specs.declared.faults.PendFault.{PendFault}
use Rattle.board_record.specs.declared.faults.PendFault.TheVariants.{NotOpen, AlreadyPending, NoSuchGate, Memory}
use Rattle.board_record.specs.declared.faults.LeaveFault.{LeaveFault}
use Rattle.board_record.specs.declared.faults.LeaveFault.TheVariants as leaving
use Rattle.board_record.specs.declared.faults.LeaveFault.TheVariants.{Pending}
use Rattle.log_states.specs.Possible.{HasPending, MayLeave}

-- The first of these that holds; for want of memory, none of the others does.
abbrev pub ExplainsPend : Program → State → ℕ → Offer → PendFault → Type 0
ExplainsPend program s client offer NotOpen = Contains s.open_clients client → ⊥
ExplainsPend program s client offer AlreadyPending = Contains s.open_clients client × HasPending s client
ExplainsPend program s client offer NoSuchGate =
    Contains s.open_clients client × IsIdle s client × (offer.gate.0 < length program.gates → ⊥)
ExplainsPend program s client offer Memory = Contains s.open_clients client × IsIdle s client × (offer.gate.0 < length program.gates)

abbrev pub ExplainsLeave : State → ℕ → LeaveFault → Type 0
ExplainsLeave s client Pending = HasPending s client
ExplainsLeave s client leaving.NotOpen = IsIdle s client × (Contains s.open_clients client → ⊥)
ExplainsLeave s client leaving.Memory = MayLeave s client
