-- What is found for expressions that may hold marks.
use Rattle.std.specs.Prelude.{ℕ, ◌≡◌, List, [], ◌∷◌, false, true}
use Rattle.spec_core.specs.Terms.{TermTree, preorder}
use Rattle.spec_core.specs.Theories.{Theory}
use Rattle.spec_core.specs.Values.{HasValue}
use Rattle.rule_origins.specs.Values.{term_spelled}
use Rattle.spec_core.specs.Code.{ExitValue, exit_given, exit_any, ActionField, give, accept}
use Rattle.symbolic_rules.specs.MarkedTerms.{MarkedTerm, MarkedAssignment, marked_instance, MayHaveValue}
use Rattle.symbolic_composites.specs.OpenFields.{OpenField, fixed, blank, open_by}
use Rattle.node_values.specs.declared.scope.Given.{Given}
use Rattle.node_values.specs.declared.scope.Given.TheVariants.{Value, Mark}
use Rattle.node_values.specs.Scopes.{marked_of}

-- the field of an action that a value or a mark makes
abbrev pub field_by : Given → OpenField
field_by (Value v) = fixed false v
field_by (Mark sort) = blank true sort.0

-- What is given is the value of a term that may be marked, whichever variable has it, and it makes this field.
pub record IsValueOf (theory : Theory) (k : MarkedTerm) (given : Given) : Type 0 where
  pub value : (x : ℕ) → MayHaveValue theory k (marked_of theory x given)
  pub field : (x : ℕ) → open_by (marked_of theory x given) ≡ field_by given

-- The list of operations spells the value of the term, and is read as this value whichever variable has it.
pub record Spelled (theory : Theory) (t : TermTree) (v : List ℕ) : Type 0 where
  pub value : TermTree
  pub has : HasValue theory t value
  pub spelled : v ≡ preorder value
  pub read : (x : ℕ) → term_spelled theory x v ≡ value

-- the term has no value
abbrev pub HasNone : Theory → MarkedTerm → Type 0
HasNone theory k = (n : MarkedTerm) → MayHaveValue theory k n → ⊥

-- the fields of an action, and of an exit, are open in this way
abbrev pub FieldsOpen : Theory → MarkedAssignment → List ActionField → List OpenField → Type 0
FieldsOpen theory m [] cs = cs ≡ []
FieldsOpen theory m (give t ∷ fields) cs =
    (k : MarkedTerm) × (others : List OpenField) × MayHaveValue theory (marked_instance theory m t) k ×
    FieldsOpen theory m fields others × (cs ≡ open_by k ∷ others)
FieldsOpen theory m (accept x ∷ fields) cs =
    (others : List OpenField) × FieldsOpen theory m fields others × (cs ≡ blank false x.sort ∷ others)

abbrev pub ExitOpen : Theory → MarkedAssignment → List ExitValue → List OpenField → Type 0
ExitOpen theory m [] cs = cs ≡ []
ExitOpen theory m (exit_given t ∷ fields) cs =
    (k : MarkedTerm) × (others : List OpenField) × MayHaveValue theory (marked_instance theory m t) k ×
    ExitOpen theory m fields others × (cs ≡ open_by k ∷ others)
ExitOpen theory m (exit_any sort ∷ fields) cs =
    (others : List OpenField) × ExitOpen theory m fields others × (cs ≡ blank false sort ∷ others)
