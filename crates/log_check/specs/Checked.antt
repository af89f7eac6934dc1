-- What checking a log comes to.
use Rattle.std.specs.Prelude.{ℕ, ◌≡◌, ◌⊎◌, List, [], ◌∷◌, ◌++◌, length}
use Rattle.spec_core.specs.Budgets.{IsBeyond}
use Rattle.spec_core.specs.Code.{Program}
use Rattle.spec_core.specs.Sorts.{FitsGround}
use Rattle.spec_core.specs.Terms.{TermTree, term_of}
use Rattle.rewriter.specs.Answers.{IsWithin, MeetsTooLarge}
use Rattle.rule_model.specs.Events.{Event}
use Rattle.rule_model.specs.Legal.{IsPossible, IsDerivation}
use Rattle.rule_model.specs.States.{State}
use Rattle.log_check.specs.Entries.{EntryAsks, EntryFails}
use Rattle.log_check.specs.Starting.{BeginsIn}
use Rattle.log_check.specs.declared.fault.CheckFault.{CheckFault}
use Rattle.log_check.specs.declared.fault.CheckFault.TheVariants.{NotPossible, Spent, TooLarge, Memory}

-- the entries that stand before lead from the beginning of the log to the state
pub record LeadsTo (program : Program) (log before : List Event) (s : State) : Type 0 where
  pub first : State
  pub begins : BeginsIn program log first
  pub derivation : IsDerivation program before first s

-- the log is a derivation with so many actions
pub record IsDerivationOf (program : Program) (log : List Event) (actions : ℕ) : Type 0 where
  pub last : State
  pub leads : LeadsTo program log log last
  pub counted : actions ≡ last.actions

-- the log is a derivation up to the entry of this number, from 0, which comes in the state s
pub record ComesTo (program : Program) (log : List Event) (entry : ℕ) (s : State) (event : Event) : Type 0 where
  pub before : List Event
  pub after : List Event
  pub all : log ≡ before ++ event ∷ after
  pub place : entry ≡ length before
  pub leads : LeadsTo program log before s

-- the entry of this number isn't possible, and those before it are
pub record EndsAt (program : Program) (log : List Event) (entry : ℕ) : Type 0 where
  pub state : State
  pub event : Event
  pub comes : ComesTo program log entry state event
  pub impossible : (next : State) → IsPossible program state event next → ⊥

-- the tree of some entry, up to which the log is a derivation, asks the value of a term
pub record LogAsks (program : Program) (log : List Event) (x : TermTree) : Type 0 where
  pub entry : ℕ
  pub state : State
  pub event : Event
  pub comes : ComesTo program log entry state event
  pub asks : EntryAsks program state event x

-- each term that the trees of the log ask has a value within so many uses of equations, and meets none that is too large
abbrev pub LogTermsAreWithin : Program → List Event → ℕ → Type 0
LogTermsAreWithin program log budget = (x : TermTree) → LogAsks program log x → IsWithin program.theory x budget

-- so has each that is a ground term of the data, as all terms are that have a value
abbrev pub LogGroundTermsAreWithin : Program → List Event → ℕ → Type 0
LogGroundTermsAreWithin program log budget =
    (x : TermTree) → LogAsks program log x → FitsGround program.theory x → IsWithin program.theory x budget

-- what a fault says of a log, with this budget of uses
abbrev pub Explains : Program → List Event → ℕ → CheckFault → Type 0
Explains program log budget (NotPossible entry) = EndsAt program log entry × LogGroundTermsAreWithin program log budget
Explains program log budget (Spent term) = LogAsks program log (term_of term) × IsBeyond program.theory (term_of term) budget
Explains program log budget (TooLarge term) = LogAsks program log (term_of term) × MeetsTooLarge program.theory (term_of term)
Explains program log budget Memory = Unit {0}

-- the tree of some entry asks the value of a term, where the first entry comes in the state s, and each one before is possible
abbrev pub EntriesAsk : Program → List Event → State → TermTree → Type 0
EntriesAsk program [] s x = ⊥
EntriesAsk program (event ∷ log) s x =
    EntryAsks program s event x ⊎ ((next : State) × IsPossible program s event next × EntriesAsk program log next x)

-- each such term has a value within so many uses of equations, and meets none that is too large
abbrev pub EntriesAreWithin : Program → List Event → State → ℕ → Type 0
EntriesAreWithin program log s budget = (x : TermTree) → EntriesAsk program log s x → IsWithin program.theory x budget

-- what a fault says of entries that come in the state s
pub record FailsFrom (program : Program) (log : List Event) (s : State) (budget : ℕ) (f : CheckFault) : Type 0 where
  pub before : List Event
  pub event : Event
  pub after : List Event
  pub state : State
  pub all : log ≡ before ++ event ∷ after
  pub derivation : IsDerivation program before s state
  pub within : EntriesAreWithin program before s budget
  pub fails : EntryFails program state event (length before) budget f
