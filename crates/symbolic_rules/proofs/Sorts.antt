-- Sorts of values, and of terms that are provably equal.
use Rattle.std.proofs.Common.{ℕ, ◌≡◌, List, refl, sym, ap, subst, ◌∙◌, Option, Some, None}
use Rattle.std.specs.List.{slice_get}
use Rattle.std.proofs.lemmas.Option.{none-some}
use Rattle.spec_core.specs.Terms.{TermTree, variable, apply, preorder}
use Rattle.spec_core.specs.Theories.{Operation, Theory}
use Rattle.spec_core.specs.Sorts.{OnSome, HasSort, HaveSorts, no_variables, FitsData}
use Rattle.spec_core.specs.Executable.{IsExecutable}
use Rattle.spec_core.specs.Values.{HasValue}
use Rattle.spec_core.specs.Windows.{IsMember}
use Rattle.data_laws.proofs.Sorts.{have_one_sort}
use Rattle.data_laws.proofs.Whole.{constructor_terms_are_values}
use Rattle.rule_model.specs.Fields.{Spells}
use Rattle.rule_model.specs.Meets.{declared_result}
use Rattle.symbolic_rules.specs.Windows.{sort_of_value}
use Rattle.symbolic_rules.specs.Laws.{EqualTermsHaveOneSort}

declared : (o : Option Operation) (sort : ℕ) (P : Operation → Type 0) → OnSome o (λ d. (d.result ≡ sort) × P d) → declared_result o ≡ sort
declared None sort P h = absurd h
declared (Some d) sort P h = h.0

-- a ground term has the result sort of its first operation
pub sort_of_ground : (theory : Theory) (t : TermTree) (sort : ℕ) → HasSort theory no_variables t sort →
    sort_of_value theory (preorder t) ≡ sort
sort_of_ground theory (variable x) sort h = absurd (none-some sort h)
sort_of_ground theory (apply f ts) sort h =
    declared (slice_get theory.operations f) sort (λ d. HaveSorts theory no_variables ts d.args) h

pub sort_of_spelled : (theory : Theory) (v : List ℕ) (n : TermTree) (sort : ℕ) → Spells theory v n sort → sort_of_value theory v ≡ sort
sort_of_spelled theory v n sort h = ap (sort_of_value theory) h.spelled ∙ sort_of_ground theory n sort h.of_sort

module _ (theory : Theory) (fits : FitsData theory) where
  -- a value has the sort of its term
  pub value_keeps_sort : (t n : TermTree) → HasValue theory t n → sort_of_value theory (preorder n) ≡ sort_of_value theory (preorder t)
  value_keeps_sort t n h =
      let r = have_one_sort theory fits h.equal in
      sort_of_ground theory n r.0 r.2 ∙ sym (sort_of_ground theory t r.0 r.1)

  -- a value's list of operations spells it
  pub value_is_spelled : (t n : TermTree) → HasValue theory t n → Spells theory (preorder n) n (sort_of_value theory (preorder n))
  value_is_spelled t n h =
      let r = have_one_sort theory fits h.equal in
      let at = sort_of_ground theory n r.0 r.2 in
      record { spelled = refl; of_sort = subst (λ (sort : ℕ). HasSort theory no_variables n sort) (sym at) r.2; is_value = h.is_value }

pub equal_terms_have_one_sort : EqualTermsHaveOneSort
equal_terms_have_one_sort theory fits a b h = have_one_sort theory fits h

-- the list of operations spells a value of the sort
abbrev pub IsSpelled : Theory → ℕ → List ℕ → Type 0
IsSpelled theory sort v = (n : TermTree) × Spells theory v n sort

-- a ground constructor term is a value
pub member_is_spelled : (theory : Theory) → IsExecutable theory → (v : List ℕ) (sort : ℕ) (t : IsMember theory sort v) →
    Spells theory v t.0 sort
member_is_spelled theory executable v sort t =
    record { spelled = t.1; of_sort = t.2; is_value = constructor_terms_are_values theory executable t.0 (sort, t.2) t.3 }
