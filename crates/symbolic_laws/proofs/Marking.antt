-- Which variables stand for marks.
use Rattle.std.proofs.Common.{ℕ, ◌≡◌, ◌∙◌, ◌==◌, ◌||◌, refl, sym, ap, subst, List, [], ◌∷◌, Bool, true, false, if◌then◌else◌, Option, Some, None}
use Rattle.spec_core.specs.Terms.{TermTree, TermTrees, variable, apply, no_terms, and_term}
use Rattle.spec_core.specs.Theories.{Theory}
use Rattle.spec_core.specs.Code.{Variable, Binding}
use Rattle.symbolic_rules.specs.MarkedTerms.{MarkedTerm, plain, mark, MarkedAssignment, unmarked, with_marked, joined, applied}
use Rattle.symbolic_rules.specs.MarkedTerms.{marked_instance, marked_instances, MayHaveValue}
use Rattle.symbolic_rules.specs.MarkedFields.{BindingsMayHave, ArgumentsMayHave}
use Rattle.symbolic_laws.specs.Loosened.{Marking, no_marks, with_mark, holds_mark, hold_mark, marks_bound, marks_passed}

-- whether it is a mark
abbrev pub is_marked : MarkedTerm → Bool
is_marked (plain t) = false
is_marked (mark sort) = true

abbrev are_lost : Option TermTrees → Bool
are_lost None = true
are_lost (Some ts) = false

-- the variables that have marks are those that stand for one
abbrev pub Agrees : Marking → MarkedAssignment → Type 0
Agrees marks m = (x : ℕ) → is_marked (m x) ≡ marks x

pub none_agrees : Agrees no_marks unmarked
none_agrees x = refl

applied_mark : (theory : Theory) (f : ℕ) (o : Option TermTrees) → is_marked (applied theory f o) ≡ are_lost o
applied_mark theory f None = refl
applied_mark theory f (Some ts) = refl

joined_mark : (k : MarkedTerm) (o : Option TermTrees) → are_lost (joined k o) ≡ is_marked k || are_lost o
joined_mark (mark sort) o = refl
joined_mark (plain t) None = refl
joined_mark (plain t) (Some ts) = refl

pub value_mark : (theory : Theory) (k v : MarkedTerm) → MayHaveValue theory k v → is_marked v ≡ is_marked k
value_mark theory (plain t) v h = ap is_marked h.2
value_mark theory (mark sort) v h = ap is_marked h

-- one more variable
pub with_one_agrees : (marks : Marking) (m : MarkedAssignment) → Agrees marks m → (x : Variable) (k : MarkedTerm) (b : Bool) →
    is_marked k ≡ b → Agrees (with_mark x b marks) (with_marked x k m)
with_one_agrees marks m agrees x k b e y = by_test (y == x.number)
  where
    by_test : (t : Bool) → is_marked (if t then k else m y) ≡ (if t then b else marks y)
    by_test true = e
    by_test false = agrees y

module _ (theory : Theory) (marks : Marking) (m : MarkedAssignment) (agrees : Agrees marks m) where
  mutual
    pub instance_mark : (t : TermTree) → is_marked (marked_instance theory m t) ≡ holds_mark marks t
    instance_mark (variable x) = agrees x
    instance_mark (apply f ts) = applied_mark theory f (marked_instances theory m ts) ∙ instances_mark ts

    instances_mark : (ts : TermTrees) → are_lost (marked_instances theory m ts) ≡ hold_mark marks ts
    instances_mark no_terms = refl
    instances_mark (and_term t ts) =
        joined_mark (marked_instance theory m t) (marked_instances theory m ts)
        ∙ ap (λ b. b || are_lost (marked_instances theory m ts)) (instance_mark t)
        ∙ ap (λ b. holds_mark marks t || b) (instances_mark ts)

  -- the value of a term
  pub term_mark : (t : TermTree) (k : MarkedTerm) → MayHaveValue theory (marked_instance theory m t) k → is_marked k ≡ holds_mark marks t
  term_mark t k h = value_mark theory (marked_instance theory m t) k h ∙ instance_mark t

  pub bindings_agree : (bindings : List Binding) (inner : Marking) (l r : MarkedAssignment) → Agrees inner l →
      BindingsMayHave theory m l bindings r → Agrees (marks_bound marks inner bindings) r
  bindings_agree [] inner l r i h = subst (Agrees inner) (sym h) i
  bindings_agree (b ∷ bindings) inner l r i h =
      bindings_agree bindings (with_mark b.variable (holds_mark marks b.term) inner) (with_marked b.variable h.0 l) r
      (with_one_agrees inner l i b.variable h.0 (holds_mark marks b.term) (term_mark b.term h.0 h.1)) h.2

  pub arguments_agree : (xs : List Variable) (terms : List TermTree) (inner : Marking) (l r : MarkedAssignment) → Agrees inner l →
      ArgumentsMayHave theory m l xs terms r → Agrees (marks_passed marks inner xs terms) r
  arguments_agree [] [] inner l r i h = subst (Agrees inner) (sym h) i
  arguments_agree (x ∷ xs) (t ∷ terms) inner l r i h =
      arguments_agree xs terms (with_mark x (holds_mark marks t) inner) (with_marked x h.0 l) r
      (with_one_agrees inner l i x h.0 (holds_mark marks t) (term_mark t h.0 h.1)) h.2
  arguments_agree [] (t ∷ terms) inner l r i h = absurd h
  arguments_agree (x ∷ xs) [] inner l r i h = absurd h
