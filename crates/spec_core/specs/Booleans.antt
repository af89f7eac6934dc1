-- The smallest data of which all is asked: truth values with their negation.
use Rattle.std.specs.Prelude.{ℕ, List, [], ◌∷◌, true, false, codes}
use Rattle.spec_core.specs.Terms.{apply, no_terms, and_term, constant}
use Rattle.spec_core.specs.Theories.{ConditionalEquation, Theory}

-- not(given) = result
abbrev pub negation : ℕ → ℕ → ConditionalEquation
negation given result = record {
  premises = [];
  left = apply 2 (and_term (constant given) no_terms);
  right = constant result;
  sorts = [];
  names = [];
  line = 1;
  column = 1;
}

-- sort Bool; constructors true (0) and false (1), and not (2), with these equations
abbrev pub booleans_with : List ConditionalEquation → Theory
booleans_with equations = record {
  sorts = codes "Bool" ∷ [];
  operations =
      record { name = codes "true"; args = []; result = 0; marked = true; line = 1; column = 1 }
      ∷ record { name = codes "false"; args = []; result = 0; marked = true; line = 1; column = 1 }
      ∷ record { name = codes "not"; args = 0 ∷ []; result = 0; marked = false; line = 1; column = 1 }
      ∷ [];
  equations = equations;
}

-- not(true) = false, not(false) = true
abbrev pub booleans : Theory
booleans = booleans_with (negation 0 1 ∷ negation 1 0 ∷ [])

-- not(true) = false alone
abbrev pub half_booleans : Theory
half_booleans = booleans_with (negation 0 1 ∷ [])
