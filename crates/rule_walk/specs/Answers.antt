-- What a step by a tree answers.
use Rattle.std.specs.Prelude.{ℕ, Result, Ok, Err}
use Rattle.spec_core.specs.Code.{Program}
use Rattle.spec_core.specs.Terms.{TermTree}
use Rattle.spec_core.specs.Theories.{Theory}
use Rattle.rewriter.specs.Answers.{IsWithin}
use Rattle.rule_model.specs.declared.action.Action.{Action}
use Rattle.rule_model.specs.Behaviours.{Behaviour, behaviour_of}
use Rattle.rule_model.specs.Derivations.{Derivation}
use Rattle.rule_model.specs.Derives.{DerivesWith}
use Rattle.rule_model.specs.Substitution.{Assignment}
use Rattle.rule_walk.specs.declared.fault.FireFault.{FireFault}
use Rattle.rule_walk.specs.declared.rows.Step.{Step}
use Rattle.rule_walk.specs.Asking.{Asks}
use Rattle.rule_walk.specs.Bounds.{FaultBounds}
use Rattle.rule_walk.specs.Faults.{IsFault, IsMisfit}
use Rattle.rule_walk.specs.Frames.{Surrounding, Admits, Makes}

-- by the tree the behaviour does a and becomes c, and each term that is asked has a value within the budget
pub record Does (program : Program) (budget : ℕ) (s : Assignment) (b : Behaviour) (d : Derivation) (a : Action) (c : Behaviour)
    : Type 0 where
  pub derives : DerivesWith program s b d a c
  pub within : (x : TermTree) → Asks program s b d x → IsWithin program.theory x budget

-- the fault explains why it does nothing, and says of each term that is asked what it does of terms
pub record Fails (program : Program) (budget : ℕ) (s : Assignment) (b : Behaviour) (d : Derivation) (f : FireFault) : Type 0 where
  pub fault : IsFault program budget s b d f
  pub within : (x : TermTree) → Asks program s b d x → FaultBounds program.theory budget f x

abbrev pub Answers : Program → ℕ → Assignment → Behaviour → Derivation → Result Step FireFault → Type 0
Answers program budget s b d (Ok r) = Does program budget s b d r.action (behaviour_of r.rest)
Answers program budget s b d (Err f) = Fails program budget s b d f

-- the step of the whole, made of its part's; or the part's action isn't what the rule asks
abbrev pub Leaves : Theory → Assignment → Surrounding → Step → Result Step FireFault → Type 0
Leaves theory s frame done (Ok r) = Makes theory s frame done.action (behaviour_of done.rest) r.action (behaviour_of r.rest)
Leaves theory s frame done (Err f) = IsMisfit (Admits theory s frame done.action → ⊥) f
