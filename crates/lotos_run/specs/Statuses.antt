-- How a call ends.
use Rattle.std.specs.Prelude.{ℕ}
use Rattle.lotos_run.specs.declared.status.Status.{Status}
use Rattle.lotos_run.specs.declared.status.Status.TheVariants.{Done, Refused, Usage, ReadFault, WriteFault, Memory, Spent, Limit}
use Rattle.lotos_run.specs.declared.status.Status.TheVariants.{ScriptRefused, NotADerivation}

-- the number with which the program ends
abbrev pub number_of : Status → ℕ
number_of Done = 0
number_of Refused = 1
number_of Usage = 2
number_of ReadFault = 3
number_of WriteFault = 4
number_of Memory = 5
number_of Spent = 6
number_of Limit = 7
number_of ScriptRefused = 8
number_of NotADerivation = 9

-- a status that is due and whose whole text was written; any other is none of these
abbrev pub IsFinal : Status → Type 0
IsFinal WriteFault = ⊥
IsFinal Memory = ⊥
IsFinal _ = Unit {0}
