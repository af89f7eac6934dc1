-- What follows from the definitions of derivations.
use Rattle.std.specs.Prelude.{ℕ, ◌≡◌, ◌≤◌, List}
use Rattle.spec_core.specs.Code.{Program}
use Rattle.spec_core.specs.Ready.{IsReady}
use Rattle.spec_core.specs.Terms.{TermTree}
use Rattle.rule_model.specs.Events.{Event}
use Rattle.log_check.specs.Checked.{IsDerivationOf, EndsAt, LogAsks}

-- The log has one answer at most: as a derivation it has one number of actions; its first entry that isn't possible is one, and then it is
-- no derivation; and no tree behind that entry asks a term.
pub record HasOneAnswer (program : Program) (log : List Event) : Type 0 where
  pub counted : (actions others : ℕ) → IsDerivationOf program log actions → IsDerivationOf program log others → actions ≡ others
  pub derived : (actions entry : ℕ) → IsDerivationOf program log actions → EndsAt program log entry → ⊥
  pub ended : (entry other : ℕ) → EndsAt program log entry → EndsAt program log other → entry ≡ other
  pub asked : (entry : ℕ) (x : TermTree) → EndsAt program log entry → (h : LogAsks program log x) → h.entry ≤ entry

-- each log of a ready specification has one answer at most
abbrev pub LogsHaveOneAnswer : Type 0
LogsHaveOneAnswer = (program : Program) → IsReady program → (log : List Event) → HasOneAnswer program log
