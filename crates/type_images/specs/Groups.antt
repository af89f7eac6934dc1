-- Equations by groups. Equations that are one are in one group, so that only those of a group are compared.
use Rattle.std.specs.Prelude.{ℕ, ◌≡◌, ◌+◌, ◌*◌, ◌%◌, nat_eq, List, [], map}
use Rattle.std.specs.List.{filter}
use Rattle.std.specs.Option.{option_map_or}
use Rattle.indexmap.specs.IndexMap.{get}
use Rattle.spec_core.specs.Terms.{TermTree, TermTrees, variable, apply, no_terms, and_term}
use Rattle.spec_core.specs.Theories.{ConditionalEquation}
use Rattle.type_images.specs.Views.{shared_of}
use Rattle.type_images.specs.declared.set.EquationSet.{EquationSet}

-- a number of 32 bits that a list of operations makes of another
abbrev pub mixed : ℕ → ℕ → ℕ
mixed n f = (n * 31 + f + 1) % 4294967296

-- over the operations of a term in preorder
abbrev mutual
  pub term_key : ℕ → TermTree → ℕ
  term_key n (variable x) = n
  term_key n (apply f ts) = terms_key (mixed n f) ts

  pub terms_key : ℕ → TermTrees → ℕ
  terms_key n no_terms = n
  terms_key n (and_term t ts) = terms_key (term_key n t) ts

-- the group of an equation
abbrev pub key_of : ConditionalEquation → ℕ
key_of e = term_key 0 e.left

abbrev pub equations_of : EquationSet → List ConditionalEquation
equations_of s = map shared_of s.all.items

-- the equations that stand under a key
abbrev pub group_at : EquationSet → ℕ → List ConditionalEquation
group_at s key = option_map_or (λ g. map shared_of g.items) (get nat_eq s.groups key) []

abbrev pub IsGrouped : EquationSet → Type 0
IsGrouped s = (key : ℕ) → group_at s key ≡ filter (λ e. nat_eq key (key_of e)) (equations_of s)
