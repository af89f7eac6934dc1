-- A constant evaluates to itself.
use Rattle.std.proofs.Common.{ℕ, refl}
use Rattle.spec_core.specs.Lists.{Each}
use Rattle.spec_core.specs.Terms.{apply, no_terms}
use Rattle.spec_core.specs.Theories.{Theory}
use Rattle.spec_core.specs.Constructors.{HeadsNone, IsConstructor}
use Rattle.spec_core.specs.Evaluation.{Evaluates, called, none}
use Rattle.data_laws.proofs.Exists.{Headed, constructor_stays}

pub constant_value : (theory : Theory) → Each Headed theory.equations → ((g : ℕ) → IsConstructor theory g → HeadsNone theory g) →
    (c : ℕ) → IsConstructor theory c → Evaluates theory (apply c no_terms) (apply c no_terms) 0
constant_value theory headed bare c h =
    called no_terms 0 0 (none refl) (constructor_stays theory theory.equations c no_terms headed (bare c h)) refl
