-- The library's `not`, as it is found.
use Rattle.std.specs.Prelude.{ℕ, ◌≡◌, ◌⊎◌, List}
use Rattle.spec_core.specs.Orthogonality.{IsPlain}
use Rattle.spec_core.specs.Terms.{apply, and_term, no_terms, constant}
use Rattle.spec_core.specs.Theories.{Operation, ConditionalEquation, Heads}

-- the declaration stands in line 0, with this name, these argument sorts and this result sort
abbrev pub IsLibraryDeclaration : List ℕ → List ℕ → ℕ → Operation → Type 0
IsLibraryDeclaration name args result d = (d.name ≡ name) × (d.args ≡ args) × (d.result ≡ result) × (d.line ≡ 0)

-- the equation says that the operation over one constant is another
abbrev pub IsRule : ℕ → ℕ → ℕ → ConditionalEquation → Type 0
IsRule op given value e = IsPlain e (apply op (and_term (constant given) no_terms)) (constant value)

-- where the operation heads the equation, that is one of the two rules of negation
abbrev pub IsRuleIfHeaded : ℕ → ℕ → ℕ → ConditionalEquation → Type 0
IsRuleIfHeaded op one other e = Heads op e → IsRule op one other e ⊎ IsRule op other one e
