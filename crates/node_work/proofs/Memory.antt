-- Want of memory explains itself.
use Rattle.std.proofs.Common.{ℕ, ◌≡◌}
use Rattle.spec_core.specs.Terms.{TermTree}
use Rattle.spec_core.specs.Theories.{Theory}
use Rattle.node_values.specs.declared.stop.Stop.{Stop}
use Rattle.node_values.specs.declared.stop.Stop.TheVariants.{Memory as NoMemory}
use Rattle.node_values.specs.Stops.{Stops}
use Rattle.node_values.proofs.Stopping as stopping

pub memory : (theory : Theory) (budget : ℕ) (A : TermTree → Type 0) (W : ℕ → Type 0) (s : Stop) → s ≡ NoMemory → Stops theory budget A W s
memory theory budget A W s is = stopping.memory theory budget A W s is
