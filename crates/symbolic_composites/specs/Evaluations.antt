-- Answers about data and code: what composites are made with.
use Rattle.std.specs.Prelude.{ℕ, ◌≡◌, ◌↔◌, List, [], ◌∷◌, Option, Some, None, Bool, true, if◌then◌else◌, option_and_then, option_map}
use Rattle.spec_core.specs.Terms.{TermTree}
use Rattle.spec_core.specs.Theories.{Premise, premise, Theory}
use Rattle.spec_core.specs.Equality.{Equal}
use Rattle.spec_core.specs.Values.{HasValue}
use Rattle.spec_core.specs.Code.{Program, Variable, Binding}
use Rattle.rule_model.specs.declared.rules.Slot.{Slot}
use Rattle.rule_model.specs.declared.rules.Slot.TheVariants.{Of, Mark, Blank}
use Rattle.rule_model.specs.Behaviours.{Behaviour}
use Rattle.rule_model.specs.Code.{IsDefinition}
use Rattle.rule_model.specs.Fields.{Spells}
use Rattle.symbolic_rules.specs.Windows.{Windows}
use Rattle.symbolic_rules.specs.MarkedTerms.{MarkedTerm, plain, mark, MarkedAssignment, with_marked, marked_instance}

-- a process: its gates, its variables and its body
pub record Definition : Type 0 where
  pub gates : List ℕ
  pub variables : List Variable
  pub body : Behaviour

-- the value of a term; whether two terms are equal; the term of a sort that a list of operations spells; a process by its number
pub record Evaluation : Type 0 where
  pub value : TermTree → Option TermTree
  pub equal : TermTree → TermTree → Bool
  pub spelled : List ℕ → ℕ → Option TermTree
  pub definition : ℕ → Option Definition

-- the answers are those of the specification's data and code, and there is one wherever there can be one
pub record IsExact (program : Program) (e : Evaluation) : Type 0 where
  pub value : (t n : TermTree) → HasValue program.theory t n ↔ (e.value t ≡ Some n)
  pub equal : (a b : TermTree) → Equal program.theory a b ↔ (e.equal a b ≡ true)
  pub spelled : (v : List ℕ) (sort : ℕ) (n : TermTree) → Spells program.theory v n sort ↔ (e.spelled v sort ≡ Some n)
  pub definition : (p : ℕ) (d : Definition) → IsDefinition program p d.gates d.variables d.body ↔ (e.definition p ≡ Some d)

module _ (theory : Theory) (e : Evaluation) where
  -- the value of a term that may be a mark
  abbrev pub marked_value : MarkedTerm → Option MarkedTerm
  marked_value (plain t) = option_map plain (e.value t)
  marked_value (mark sort) = Some (mark sort)

  abbrev pub value_in : MarkedAssignment → TermTree → Option MarkedTerm
  value_in m t = marked_value (marked_instance theory m t)

  -- whether two terms are equal, or one is a mark
  abbrev pub may_be_equal : MarkedTerm → MarkedTerm → Bool
  may_be_equal (plain a) (plain b) = e.equal a b
  may_be_equal (plain a) (mark sort) = true
  may_be_equal (mark sort) b = true

  abbrev pub premise_may_hold : MarkedAssignment → Premise → Bool
  premise_may_hold m (premise a b) = may_be_equal (marked_instance theory m a) (marked_instance theory m b)

  -- what a slot chooses for a sort
  abbrev pub chosen_term : Windows → Slot → ℕ → Option MarkedTerm
  chosen_term w (Of v) sort = option_map plain (e.spelled v sort)
  chosen_term w Mark sort = if w.complete sort then None else Some (mark sort)
  chosen_term w Blank sort = None

  -- The variables had the terms and marks l; with the values that `let` binds. Each term sees m.
  abbrev pub with_bindings : MarkedAssignment → MarkedAssignment → List Binding → Option MarkedAssignment
  with_bindings m l [] = Some l
  with_bindings m l (b ∷ bindings) = option_and_then (λ k. with_bindings m (with_marked b.variable k l) bindings) (value_in m b.term)

  -- the same with the values of a call's terms for the variables of its process
  abbrev pub with_arguments : MarkedAssignment → MarkedAssignment → List Variable → List TermTree → Option MarkedAssignment
  with_arguments m l [] [] = Some l
  with_arguments m l (x ∷ xs) (t ∷ terms) = option_and_then (λ k. with_arguments m (with_marked x k l) xs terms) (value_in m t)
  with_arguments m l [] (t ∷ terms) = None
  with_arguments m l (x ∷ xs) [] = None
