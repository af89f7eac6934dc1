-- Values for variables, as lists of operations.
use Rattle.std.specs.Prelude.{ℕ, List, [], ◌∷◌, Option, Some, None, length, take, drop}
use Rattle.std.specs.List.{slice_get}
use Rattle.spec_core.specs.Terms.{TermTree, variable, apply, terms}
use Rattle.spec_core.specs.Theories.{Theory, Operation}
use Rattle.spec_core.specs.Code.{Variable}
use Rattle.rule_model.specs.Substitution.{Assignment, with_term}

-- how many arguments an operation has; none where it isn't declared
abbrev pub arguments_of : Option Operation → ℕ
arguments_of None = 0
arguments_of (Some d) = length d.args

abbrev pub arity : Theory → ℕ → ℕ
arity theory f = arguments_of (slice_get theory.operations f)

-- one more term in front: the operation over as many of the terms as it has arguments
abbrev pub in_front : Theory → ℕ → List TermTree → List TermTree
in_front theory f ts = apply f (terms (take (arity theory f) ts)) ∷ drop (arity theory f) ts

-- the terms that a list of operations in preorder spells, one after another
abbrev pub terms_spelled : Theory → List ℕ → List TermTree
terms_spelled theory [] = []
terms_spelled theory (f ∷ fs) = in_front theory f (terms_spelled theory fs)

-- the first term, or the variable where there is none
abbrev pub first_or_variable : ℕ → List TermTree → TermTree
first_or_variable x [] = variable x
first_or_variable x (t ∷ ts) = t

-- the term that a value spells
abbrev pub term_spelled : Theory → ℕ → List ℕ → TermTree
term_spelled theory x v = first_or_variable x (terms_spelled theory v)

-- values for variables, the later ones first, and for each other variable what it had
abbrev pub with_values : Theory → List (ℕ × List ℕ) → Assignment → Assignment
with_values theory [] s = s
with_values theory (b ∷ values) s =
    with_values theory values (with_term (record { number = b.0; sort = 0 }) (term_spelled theory b.0 b.1) s)

-- values for variables; each other variable stands for itself
unfoldable pub assignment : Theory → List (ℕ × List ℕ) → Assignment
assignment theory values = with_values theory values variable

-- each variable with the value that it gets, as long as there are both
abbrev pub values_for : List Variable → List (List ℕ) → List (ℕ × List ℕ)
values_for (x ∷ xs) (v ∷ values) = (x.number, v) ∷ values_for xs values
values_for _ _ = []
