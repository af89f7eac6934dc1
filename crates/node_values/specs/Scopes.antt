-- Values and marks for variables, as the program has them.
use Rattle.std.specs.Prelude.{ℕ, List, [], ◌∷◌, Option, Some, None}
use Rattle.spec_core.specs.Terms.{TermTree, TermTrees, no_terms, term_of}
use Rattle.spec_core.specs.Theories.{Theory}
use Rattle.symbolic_rules.specs.MarkedTerms.{MarkedTerm, plain, mark, MarkedAssignment, unmarked, with_marked, joined}
use Rattle.rule_origins.specs.Values.{term_spelled}
use Rattle.node_values.specs.declared.scope.Given.{Given}
use Rattle.node_values.specs.declared.scope.Given.TheVariants.{Value, Mark}
use Rattle.node_values.specs.declared.scope.Instance.{Instance}
use Rattle.node_values.specs.declared.scope.Instance.TheVariants.{Plain, Marked}

-- the term that a value spells, or the mark; x is the variable that has it
abbrev pub marked_of : Theory → ℕ → Given → MarkedTerm
marked_of theory x (Value v) = plain (term_spelled theory x v)
marked_of theory x (Mark sort) = mark sort.0

-- what is known for the variables, the latest first; each other variable stands for itself
abbrev pub marks_of : Theory → List (ℕ × Given) → MarkedAssignment
marks_of theory [] = unmarked
marks_of theory (b ∷ scope) = with_marked (record { number = b.0; sort = 0 }) (marked_of theory b.0 b.1) (marks_of theory scope)

abbrev pub marked_term_of : Instance → MarkedTerm
marked_term_of (Plain t) = plain (term_of t)
marked_term_of (Marked sort) = mark sort.0

-- terms that may be marked, in order; none where one is a mark
abbrev pub all_joined : List MarkedTerm → Option TermTrees
all_joined [] = Some no_terms
all_joined (k ∷ ks) = joined k (all_joined ks)

-- the values, of which the later ones come first, before what is known already
abbrev pub scope_over : List (ℕ × List ℕ) → List (ℕ × Given) → List (ℕ × Given)
scope_over [] scope = scope
scope_over (b ∷ values) scope = scope_over values ((b.0, Value b.1) ∷ scope)
