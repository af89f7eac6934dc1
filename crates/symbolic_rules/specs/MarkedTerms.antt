-- Terms with marks in the places of variables. The mark of a sort stands for any value of the sort beyond its window. (This profile.)
use Rattle.std.specs.Prelude.{ℕ, ◌==◌, ◌≡◌, if◌then◌else◌, Option, Some, None}
use Rattle.spec_core.specs.Terms.{TermTree, TermTrees, variable, apply, no_terms, and_term}
use Rattle.spec_core.specs.Theories.{Premise, premise, Theory}
use Rattle.spec_core.specs.Equality.{Equal}
use Rattle.spec_core.specs.Values.{HasValue}
use Rattle.spec_core.specs.Code.{Variable}
use Rattle.rule_model.specs.Substitution.{Assignment}
use Rattle.rule_model.specs.Meets.{result_sort}

-- a term, or the mark of a sort
pub data MarkedTerm : Type 0 where
  plain : TermTree → MarkedTerm
  mark : ℕ → MarkedTerm

-- a term or a mark for each variable
abbrev pub MarkedAssignment : Type 0
MarkedAssignment = ℕ → MarkedTerm

-- each variable stands for itself
abbrev pub unmarked : MarkedAssignment
unmarked x = plain (variable x)

-- no variable is marked: each has its term
abbrev pub AllPlain : MarkedAssignment → Assignment → Type 0
AllPlain m s = (x : ℕ) → m x ≡ plain (s x)

-- the term or the mark k for the variable x, and for each other one what it had
abbrev pub with_marked : Variable → MarkedTerm → MarkedAssignment → MarkedAssignment
with_marked x k m y = if y == x.number then k else m y

-- terms that may be marked, one before others; none where one is a mark
abbrev pub joined : MarkedTerm → Option TermTrees → Option TermTrees
joined (plain t) (Some ts) = Some (and_term t ts)
joined _ _ = None

-- an operation over terms; where one is a mark, the mark of the operation's result sort
abbrev pub applied : Theory → ℕ → Option TermTrees → MarkedTerm
applied theory f (Some ts) = plain (apply f ts)
applied theory f None = mark (result_sort theory f)

-- the term with m x in the place of each variable x; the mark of its sort where it holds a mark
abbrev mutual
  pub marked_instance : Theory → MarkedAssignment → TermTree → MarkedTerm
  marked_instance theory m (variable x) = m x
  marked_instance theory m (apply f ts) = applied theory f (marked_instances theory m ts)

  pub marked_instances : Theory → MarkedAssignment → TermTrees → Option TermTrees
  marked_instances theory m no_terms = Some no_terms
  marked_instances theory m (and_term t ts) = joined (marked_instance theory m t) (marked_instances theory m ts)

-- a term has its value; a mark has itself
abbrev pub MayHaveValue : Theory → MarkedTerm → MarkedTerm → Type 0
MayHaveValue theory (plain t) k = (n : TermTree) × HasValue theory t n × (k ≡ plain n)
MayHaveValue theory (mark sort) k = k ≡ mark sort

-- two terms are equal; a mark is passed
abbrev pub MayBeEqual : Theory → MarkedTerm → MarkedTerm → Type 0
MayBeEqual theory (plain a) (plain b) = Equal theory a b
MayBeEqual theory _ _ = Unit {0}

-- with m x in the place of each variable x the two sides are equal, or one of them holds a mark
abbrev pub PremiseMayHold : Theory → MarkedAssignment → Premise → Type 0
PremiseMayHold theory m (premise a b) = MayBeEqual theory (marked_instance theory m a) (marked_instance theory m b)

-- the predicate of an action may hold, if it has one
abbrev pub GuardMayHold : Theory → MarkedAssignment → Option Premise → Type 0
GuardMayHold theory m None = Unit {0}
GuardMayHold theory m (Some p) = PremiseMayHold theory m p
