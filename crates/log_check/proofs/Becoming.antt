-- What an answer says of an entry.
use Rattle.std.proofs.Common.{◌≡◌, refl, Bool, true, false}
use Rattle.spec_core.specs.Code.{Program}
use Rattle.rule_model.specs.Events.{Event}
use Rattle.rule_model.specs.Legal.{IsPossible}
use Rattle.rule_model.specs.States.{State}
use Rattle.log_check.specs.Entries.{Becomes}

pub becomes_so : (program : Program) (s t : State) (event : Event) (done : Bool) → (done ≡ true → IsPossible program s event t) →
    (done ≡ false → (next : State) → IsPossible program s event next → ⊥) → Becomes program s event t done
becomes_so program s t event true possible not = possible refl
becomes_so program s t event false possible not = not refl
