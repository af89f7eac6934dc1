-- Values that are told or chosen, for what acts at some place of a whole tree.
use Rattle.std.specs.Prelude.{ℕ, ◌≡◌, List, [], ◌∷◌, ◌++◌, length, map}
use Rattle.spec_core.specs.Theories.{Theory}
use Rattle.spec_core.specs.Code.{Variable, ExitValue, ActionField}
use Rattle.rule_model.specs.declared.rules.Slot.{Slot}
use Rattle.rule_model.specs.Fields.{FieldsHave, ExitHas}
use Rattle.rule_model.specs.Substitution.{Assignment}
use Rattle.rule_origins.specs.Values.{with_values}
use Rattle.node_trees.specs.declared.rest.Known.{Known}
use Rattle.node_trees.specs.declared.rest.Known.TheVariants.{Told}
use Rattle.node_trees.specs.Rests.{known_in, values_in}

-- values for variables, as told ones
abbrev pub tell : List (ℕ × List ℕ) → List (ℕ × Known)
tell [] = []
tell (b ∷ values) = (b.0, Told b.1) ∷ tell values

-- each variable with the value that it gets, as long as there are both
abbrev pub known_for : List Variable → List Known → List (ℕ × Known)
known_for (x ∷ xs) (k ∷ known) = (x.number, k) ∷ known_for xs known
known_for _ _ = []

-- Where the fields of an action have values, these are the known ones, and the binders get theirs from the known ones too. The values that
-- the action chooses stand in the whole tree from this place on.
pub record AreFieldsAt (theory : Theory) (s : Assignment) (from : ℕ) (fields : List ActionField) (known : List Known)
    (binders : List (ℕ × Known)) : Type 0 where
  pub are : (before after slots : List Slot) (values : List (List ℕ)) (t u : Assignment) → length before ≡ from →
      FieldsHave theory s t fields slots values u →
      (values ≡ map (known_in (before ++ (slots ++ after))) known) ×
      (u ≡ with_values theory (values_in (before ++ (slots ++ after)) binders) t)

-- the fields of the action have no values
pub record HaveNoFields (theory : Theory) (s : Assignment) (fields : List ActionField) : Type 0 where
  pub none : (slots : List Slot) (values : List (List ℕ)) (t u : Assignment) → FieldsHave theory s t fields slots values u → ⊥

-- the same of an exit
pub record AreExitAt (theory : Theory) (s : Assignment) (from : ℕ) (fields : List ExitValue) (known : List Known) : Type 0 where
  pub are : (before after slots : List Slot) (values : List (List ℕ)) → length before ≡ from → ExitHas theory s fields slots values →
      values ≡ map (known_in (before ++ (slots ++ after))) known

pub record HaveNoExit (theory : Theory) (s : Assignment) (fields : List ExitValue) : Type 0 where
  pub none : (slots : List Slot) (values : List (List ℕ)) → ExitHas theory s fields slots values → ⊥
