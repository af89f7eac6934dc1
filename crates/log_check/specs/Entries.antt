-- What comes of one entry.
use Rattle.std.specs.Prelude.{ℕ, ◌≡◌, List, [], Bool, true, false, Option, None, Some}
use Rattle.spec_core.specs.Budgets.{IsBeyond}
use Rattle.spec_core.specs.Code.{Program}
use Rattle.spec_core.specs.Sorts.{FitsGround}
use Rattle.spec_core.specs.Terms.{TermTree, term_of, variable}
use Rattle.rewriter.specs.Answers.{IsWithin, MeetsTooLarge}
use Rattle.rule_model.specs.Answers.{Answer}
use Rattle.rule_model.specs.Events.{Event, pended, acted, replied, stalled, left}
use Rattle.rule_model.specs.Legal.{IsAgreed, IsPossible, IsReplyAt}
use Rattle.rule_model.specs.States.{State}
use Rattle.rule_walk.specs.Asking.{Asks}
use Rattle.log_check.specs.declared.fault.CheckFault.{CheckFault}
use Rattle.log_check.specs.declared.fault.CheckFault.TheVariants as check
use Rattle.log_check.specs.declared.fault.CheckFault.TheVariants.{NotPossible}
use Rattle.rule_walk.specs.declared.fault.FireFault.{FireFault}
use Rattle.rule_walk.specs.declared.fault.FireFault.TheVariants.{Unfit, Spent, TooLarge, Memory}

-- whether the entry is possible: then it leads from the state s to the state t, and else to none
abbrev pub Becomes : Program → State → Event → State → Bool → Type 0
Becomes program s event t true = IsPossible program s event t
Becomes program s event t false = (next : State) → IsPossible program s event next → ⊥

-- the tree of an entry asks the value of a term in the state; it is asked only where those that the entry names take part in the action
abbrev pub EntryAsks : Program → State → Event → TermTree → Type 0
EntryAsks program s (acted action d by) x = IsAgreed program s action by × Asks program variable s.behaviour d x
EntryAsks program s (pended client number offer ask) x = ⊥
EntryAsks program s (replied client number answer) x = ⊥
EntryAsks program s (stalled names) x = ⊥
EntryAsks program s (left client) x = ⊥

-- each term that the tree of the entry asks has a value within so many uses of equations, and meets none that is too large
abbrev pub EntryTermsAreWithin : Program → State → Event → ℕ → Type 0
EntryTermsAreWithin program s event budget = (x : TermTree) → EntryAsks program s event x → IsWithin program.theory x budget

-- so has each that is a ground term of the data, as all terms are that have a value
abbrev pub EntryGroundTermsAreWithin : Program → State → Event → ℕ → Type 0
EntryGroundTermsAreWithin program s event budget =
    (x : TermTree) → EntryAsks program s event x → FitsGround program.theory x → IsWithin program.theory x budget

-- what is known of the terms that are asked, where the entry is possible, and where it isn't
abbrev pub BoundsEntry : Program → State → Event → ℕ → Bool → Type 0
BoundsEntry program s event budget true = EntryTermsAreWithin program s event budget
BoundsEntry program s event budget false = EntryGroundTermsAreWithin program s event budget

-- why nothing is said of an entry, with this budget of uses
abbrev pub EntryExplains : Program → State → Event → ℕ → FireFault → Type 0
EntryExplains program s event budget (Unfit at) = ⊥
EntryExplains program s event budget (Spent term) = EntryAsks program s event (term_of term) × IsBeyond program.theory (term_of term) budget
EntryExplains program s event budget (TooLarge term) =
    EntryAsks program s event (term_of term) × MeetsTooLarge program.theory (term_of term)
EntryExplains program s event budget Memory = Unit {0}

-- this is the number in the reply, if it has one
abbrev pub NamesNumber : Answer → Option ℕ → Type 0
NamesNumber answer None = (n : ℕ) → IsReplyAt answer n → ⊥
NamesNumber answer (Some at) = (n : ℕ) → (IsReplyAt answer n → at ≡ n) × (at ≡ n → IsReplyAt answer n)

-- what a fault says of the entry of this number, with this budget of uses
abbrev pub EntryFails : Program → State → Event → ℕ → ℕ → CheckFault → Type 0
EntryFails program s event place budget (NotPossible entry) =
    (entry ≡ place) × ((next : State) → IsPossible program s event next → ⊥) × EntryGroundTermsAreWithin program s event budget
EntryFails program s event place budget (check.Spent term) =
    EntryAsks program s event (term_of term) × IsBeyond program.theory (term_of term) budget
EntryFails program s event place budget (check.TooLarge term) =
    EntryAsks program s event (term_of term) × MeetsTooLarge program.theory (term_of term)
EntryFails program s event place budget check.Memory = Unit {0}
