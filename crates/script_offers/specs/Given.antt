-- The terms that clients give, in the order in which they are evaluated.
use Rattle.std.specs.Prelude.{ℕ, ◌≡◌, List, [], ◌∷◌, ◌++◌}
use Rattle.std.specs.List.{flat_map}
use Rattle.spec_core.specs.Lists.{Each}
use Rattle.spec_core.specs.Terms.{TermTree}
use Rattle.spec_core.specs.Theories.{Theory}
use Rattle.rewriter.specs.Answers.{IsWithin}
use Rattle.script_text.specs.Wishes.{WishedField, gives, takes, Wished}

-- the term that a field gives, if it gives one
abbrev pub given_in : WishedField → List TermTree
given_in (gives t) = t ∷ []
given_in (takes sort) = []

-- the terms of fields, field by field
abbrev pub given_by : List WishedField → List TermTree
given_by fields = flat_map given_in fields

-- the terms of wishes, wish by wish
abbrev pub all_given : List Wished → List TermTree
all_given wishes = flat_map (λ w. given_by w.fields) wishes

-- the terms of a script, client by client
abbrev pub script_given : List (List Wished) → List TermTree
script_given clients = flat_map all_given clients

-- the term has a value within so many uses of equations, and its evaluation meets none that is too large
abbrev pub IsValuedWithin : Theory → ℕ → TermTree → Type 0
IsValuedWithin theory budget t = IsWithin theory t budget

-- the term is one of these, and those before it have such values within the budget
pub record IsFirstWithout (theory : Theory) (budget : ℕ) (terms : List TermTree) (t : TermTree) : Type 0 where
  pub before : List TermTree
  pub behind : List TermTree
  pub parts : terms ≡ before ++ t ∷ behind
  pub valued : Each (IsValuedWithin theory budget) before
