-- What reading puts out: code and refusals.
use Rattle.std.specs.Prelude.{◌≡◌, ℕ, List, [], ◌++◌, length, Option, Some, None, option_map}
use Rattle.lotos_ast.specs.declared.refusal.Refusal.{Refusal}
use Rattle.spec_core.specs.Code.{Node}
use Rattle.spec_core.specs.Functionality.{Functionality}
use Rattle.static_readings.specs.Joins.{Read}

pub record Output : Type 0 where
  pub code : List Node
  pub refusals : List Refusal

abbrev pub nodes_of : Option Read → List Node
nodes_of None = []
nodes_of (Some r) = r.nodes

-- what was read stands behind what was put out before: a construct of which P holds, and which ends in this way
pub record HasRead (P : ℕ → Option Read → List Refusal → Type 0) (old new : Output) (found : Option Functionality) : Type 0 where
  pub read : Option Read
  pub refusals : List Refusal
  pub such : P (length old.code) read refusals
  pub code : new.code ≡ old.code ++ nodes_of read
  pub refused : new.refusals ≡ old.refusals ++ refusals
  pub ends : found ≡ option_map (λ r. r.functionality) read
