-- Laws of the rules that don't fit.
use Rattle.std.specs.Prelude.{ℕ, ◌≡◌, List}
use Rattle.spec_core.specs.Executable.{IsExecutable}
use Rattle.spec_core.specs.Code.{Program}
use Rattle.rule_model.specs.Behaviours.{Behaviour}
use Rattle.rule_model.specs.Derivations.{Derivation}
use Rattle.rule_model.specs.Substitution.{Assignment}
use Rattle.rule_walk.specs.Parts.{IsUnfitAt}

-- at most one rule of a tree is the first that doesn't fit
abbrev pub OneRuleIsUnfit : Type 0
OneRuleIsUnfit =
    (program : Program) →
    IsExecutable program.theory →
    (s : Assignment) (b : Behaviour) (d : Derivation) (p q : List ℕ) →
    IsUnfitAt program s b d p →
    IsUnfitAt program s b d q →
    p ≡ q
