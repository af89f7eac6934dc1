-- Why a client's offer isn't made, and why it doesn't leave, by what happened. (This profile.)
use Rattle.std.specs.Prelude.{ℕ, ◌<◌, Contains, length}
use Rattle.rule_model.specs.declared.offer.Offer.{Offer}
use Rattle.rule_model.specs.Events.{left}
use Rattle.board_record.specs.declared.faults.LeaveFault.{LeaveFault}
use Rattle.board_record.specs.declared.faults.LeaveFault.TheVariants as leaving
use Rattle.board_record.specs.declared.faults.PendFault.{PendFault}
use Rattle.board_record.specs.declared.faults.PendFault.TheVariants.{NotOpen, AlreadyPending, NoSuchGate, Memory}
use Rattle.board_core.specs.Views.{events, program}
use Rattle.session_board.specs.Answers.{HasItsAnswers}
use Rattle.session_board.specs.Shared.{IsMarked, SharedView, lines}

-- the client has left; or an offer of it isn't answered yet; or the gate isn't the specification's; want of memory is marked
abbrev pub ExplainsNoOffer : SharedView → SharedView → ℕ → Offer → PendFault → Type 0
ExplainsNoOffer old new client offer NotOpen = Contains (events old.board) (left client)
ExplainsNoOffer old new client offer AlreadyPending = HasItsAnswers client (lines old) → ⊥
ExplainsNoOffer old new client offer NoSuchGate =
    (Contains (events old.board) (left client) → ⊥) × (offer.gate.0 < length (program old.board).gates → ⊥)
ExplainsNoOffer old new client offer Memory = IsMarked new

-- the client hasn't left, and the gate is the specification's
abbrev pub MayBeMade : SharedView → ℕ → Offer → Type 0
MayBeMade old client offer = (Contains (events old.board) (left client) → ⊥) × (offer.gate.0 < length (program old.board).gates)

-- the client has left; or an offer of it isn't answered yet; want of memory is marked
abbrev pub ExplainsNoLeave : SharedView → SharedView → ℕ → LeaveFault → Type 0
ExplainsNoLeave old new client leaving.NotOpen = Contains (events old.board) (left client)
ExplainsNoLeave old new client leaving.Pending = HasItsAnswers client (lines old) → ⊥
ExplainsNoLeave old new client leaving.Memory = IsMarked new

-- the client hasn't left
abbrev pub HasntLeft : SharedView → ℕ → Type 0
HasntLeft old client = Contains (events old.board) (left client) → ⊥
