-- Marks that stand for terms.
use Rattle.std.proofs.Common.{ℕ, ◌≡◌, ◌==◌, refl, sym, ap, subst, ◌∙◌, Bool, true, false, if◌then◌else◌, Option, Some, None}
use Rattle.spec_core.specs.Terms.{TermTree, TermTrees, variable, apply, no_terms, and_term, instance, instances, preorder}
use Rattle.spec_core.specs.Theories.{Premise, premise, Theory}
use Rattle.spec_core.specs.Sorts.{FitsData}
use Rattle.spec_core.specs.Equality.{Equal}
use Rattle.spec_core.specs.Values.{HasValue}
use Rattle.spec_core.specs.Code.{Variable}
use Rattle.rule_model.specs.Fields.{PremiseHolds, GuardHolds}
use Rattle.rule_model.specs.Substitution.{Assignment, with_term}
use Rattle.symbolic_rules.specs.Windows.{sort_of_value}
use Rattle.symbolic_rules.specs.MarkedTerms.{MarkedTerm, plain, mark, MarkedAssignment, unmarked, with_marked, joined, applied}
use Rattle.symbolic_rules.specs.MarkedTerms.{marked_instance, marked_instances, MayHaveValue, MayBeEqual, PremiseMayHold, GuardMayHold}
use Rattle.symbolic_rules.proofs.Sorts.{value_keeps_sort}

-- it is the term, or the mark of the term's sort
abbrev pub StandsForTerm : Theory → MarkedTerm → TermTree → Type 0
StandsForTerm theory (plain n) t = n ≡ t
StandsForTerm theory (mark sort) t = sort_of_value theory (preorder t) ≡ sort

-- each of some terms is the one of the others at its place, where none is a mark
abbrev StandForTerms : Option TermTrees → TermTrees → Type 0
StandForTerms None ts = Unit {0}
StandForTerms (Some us) ts = us ≡ ts

-- for each variable stands its term, or a mark of this term's sort
abbrev pub StandsForAll : Theory → MarkedAssignment → Assignment → Type 0
StandsForAll theory m s = (x : ℕ) → StandsForTerm theory (m x) (s x)

pub unmarked_stands : (theory : Theory) → StandsForAll theory unmarked variable
unmarked_stands theory x = refl

joined_stands : (theory : Theory) (k : MarkedTerm) (o : Option TermTrees) (t : TermTree) (ts : TermTrees) → StandsForTerm theory k t →
    StandForTerms o ts → StandForTerms (joined k o) (and_term t ts)
joined_stands theory (mark sort) o t ts h k = tt
joined_stands theory (plain n) None t ts h k = tt
joined_stands theory (plain n) (Some us) t ts h k = ap (λ (x : TermTree). and_term x us) h ∙ ap (and_term t) k

applied_stands : (theory : Theory) (f : ℕ) (o : Option TermTrees) (ts : TermTrees) → StandForTerms o ts →
    StandsForTerm theory (applied theory f o) (apply f ts)
applied_stands theory f None ts h = refl
applied_stands theory f (Some us) ts h = ap (apply f) h

both_stand : (theory : Theory) (k l : MarkedTerm) (a b : TermTree) → StandsForTerm theory k a → StandsForTerm theory l b →
    Equal theory a b → MayBeEqual theory k l
both_stand theory (mark sort) l a b h i e = tt
both_stand theory (plain n) (mark sort) a b h i e = tt
both_stand theory (plain n) (plain u) a b h i e =
    subst (λ (x : TermTree). Equal theory x u) (sym h) (subst (λ (x : TermTree). Equal theory a x) (sym i) e)

module _ (theory : Theory) (m : MarkedAssignment) (s : Assignment) (stands : StandsForAll theory m s) where
  mutual
    pub instance_stands : (t : TermTree) → StandsForTerm theory (marked_instance theory m t) (instance s t)
    instance_stands (variable x) = stands x
    instance_stands (apply f ts) = applied_stands theory f (marked_instances theory m ts) (instances s ts) (instances_stand ts)

    instances_stand : (ts : TermTrees) → StandForTerms (marked_instances theory m ts) (instances s ts)
    instances_stand no_terms = refl
    instances_stand (and_term t ts) =
        joined_stands theory (marked_instance theory m t) (marked_instances theory m ts) (instance s t) (instances s ts)
        (instance_stands t) (instances_stand ts)

  pub premise_may_hold : (p : Premise) → PremiseHolds theory s p → PremiseMayHold theory m p
  premise_may_hold (premise a b) e =
      both_stand theory (marked_instance theory m a) (marked_instance theory m b) (instance s a) (instance s b) (instance_stands a)
      (instance_stands b) e

  pub guard_may_hold : (p : Option Premise) → GuardHolds theory s p → GuardMayHold theory m p
  guard_may_hold None h = tt
  guard_may_hold (Some p) h = premise_may_hold p h

  -- one more variable
  pub with_one_more : (x : Variable) (k : MarkedTerm) (n : TermTree) → StandsForTerm theory k n →
      StandsForAll theory (with_marked x k m) (with_term x n s)
  with_one_more x k n h y = by_test (y == x.number)
    where
      by_test : (b : Bool) → StandsForTerm theory (if b then k else m y) (if b then n else s y)
      by_test true = h
      by_test false = stands y

-- what stands for a term has a value that stands for the term's value
pub value_stands : (theory : Theory) → FitsData theory → (e : MarkedTerm) (t n : TermTree) → StandsForTerm theory e t →
    HasValue theory t n → (k : MarkedTerm) × MayHaveValue theory e k × StandsForTerm theory k n
value_stands theory fits (plain u) t n h v = (plain n, (n, subst (λ (x : TermTree). HasValue theory x n) (sym h) v, refl), refl)
value_stands theory fits (mark sort) t n h v = (mark sort, refl, value_keeps_sort theory fits t n v ∙ h)
