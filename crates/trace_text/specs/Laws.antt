-- What follows from the definitions.
use Rattle.std.specs.Prelude.{ℕ, ◌≡◌, ◌<◌, ◌≤◌, ◌^◌, List, length, take}
use Rattle.spec_core.specs.Code.{Program}
use Rattle.spec_core.specs.Ready.{AreNamed}
use Rattle.spec_core.specs.Sorts.{FitsData}
use Rattle.rule_model.specs.Events.{Event, Ending}
use Rattle.trace_text.specs.declared.format.Format.{Format}
use Rattle.trace_text.specs.declared.format.Format.TheVariants.{One, Two}
use Rattle.trace_text.specs.Fits.{HasTrace}
use Rattle.trace_text.specs.Formats.{common_front, trace_bytes}
use Rattle.trace_text.specs.Names.{names_in}

-- a text in format 2 has fewer than 2^64 bytes, so that each number of bytes in it has 64 bits
abbrev pub IsShort : Format → List ℕ → Type 0
IsShort One text = Unit {0}
IsShort Two text = length text < 2 ^ 64

-- over data that fit, with names as the grammar has them, a text is the trace of one log and one end at most, and in one format at most
abbrev pub OneTrace : Type 0
OneTrace =
    (program : Program) →
    FitsData program.theory →
    AreNamed program →
    (format form : Format) →
    (log other : List Event) (ending another : Ending) →
    HasTrace program log ending →
    HasTrace program other another →
    IsShort format (trace_bytes (names_in program) format log ending) →
    trace_bytes (names_in program) format log ending ≡ trace_bytes (names_in program) form other another →
    (format ≡ form) × (log ≡ other) × (ending ≡ another)

-- both texts begin with these many bytes
pub record IsFront (n : ℕ) (text other : List ℕ) : Type 0 where
  pub left : n ≤ length text
  pub right : n ≤ length other
  pub same : take n text ≡ take n other

-- the front that is shared is the greatest
abbrev pub GreatestFront : Type 0
GreatestFront = (text other : List ℕ) →
    IsFront (common_front text other) text other × ((n : ℕ) → IsFront n text other → n ≤ common_front text other)
