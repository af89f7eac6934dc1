-- Values that were found.
use Rattle.std.proofs.Common.{ℕ, ◌≡◌, List, sym, ap, subst, ◌∙◌, ◌↔◌}
use Rattle.spec_core.specs.Equality.{Equal, by_reflexivity}
use Rattle.spec_core.specs.Executable.{IsExecutable}
use Rattle.spec_core.specs.Sorts.{HasSort, no_variables, FitsGround, FitsData}
use Rattle.spec_core.specs.Terms.{TermTree, preorder}
use Rattle.spec_core.specs.Theories.{Theory}
use Rattle.spec_core.specs.Values.{IsValue, HasValue}
use Rattle.data_laws.proofs.Conditions.{sorted_of}
use Rattle.data_laws.proofs.Sorted.{keeps_sort}
use Rattle.data_laws.proofs.Sorts.{have_one_sort}
use Rattle.data_laws.proofs.Whole.{each_ground_term_has_one_value, equality_is_of_values}
use Rattle.data_laws.proofs.Words.{one_term}
use Rattle.rewriter.specs.Answers.{SpellsValue}
use Rattle.rule_model.specs.Fields.{Spells, GivesValue}
use Rattle.value_terms.specs.Spelled.{SpellsTerm}

module _ (theory : Theory) (fits : FitsData theory) where
  -- what has a value is ground, and so is its value
  pub ground_value : (t n : TermTree) → HasValue theory t n → FitsGround theory t × FitsGround theory n
  ground_value t n h = let r = have_one_sort theory fits h.equal in ((r.0, r.1), (r.0, r.2))

  -- what isn't ground has no value
  pub unground_value : (t : TermTree) → (FitsGround theory t → ⊥) → ((n : TermTree) → HasValue theory t n → ⊥)
  unground_value t none n h = none (ground_value t n h).0

module _ (theory : Theory) (executable : IsExecutable theory) where
  -- the list of operations that an evaluation gives spells a value of the term's sort
  spells_found : (t : TermTree) (ops : List ℕ) (budget sort : ℕ) → HasSort theory no_variables t sort →
      (found : SpellsValue theory t budget ops) → Spells theory ops found.value sort
  spells_found t ops budget sort fits found = record {
    spelled = found.spelled;
    of_sort = keeps_sort theory executable.orthogonal.closed (sorted_of theory executable) found.evaluates sort fits;
    is_value = found.has.is_value;
  }

  pub spelled_value : (t : TermTree) (ops : List ℕ) (budget sort : ℕ) → HasSort theory no_variables t sort →
      SpellsValue theory t budget ops → (n : TermTree) × Spells theory ops n sort
  spelled_value t ops budget sort fits found = (found.value, spells_found t ops budget sort fits found)

  -- the term that it spells is the value
  pub found_term : (t n : TermTree) (ops : List ℕ) (budget sort : ℕ) → HasSort theory no_variables t sort →
      SpellsValue theory t budget ops → SpellsTerm theory ops n sort → HasValue theory t n
  found_term t n ops budget sort fits found spells =
      let s = spells_found t ops budget sort fits found in
      subst (HasValue theory t)
      (one_term theory found.value n sort sort s.of_sort spells.of_sort (sym found.spelled ∙ spells.spelled)) found.has

  pub found_value : (t n : TermTree) (ops : List ℕ) (budget sort : ℕ) → HasSort theory no_variables t sort →
      SpellsValue theory t budget ops → Spells theory ops n sort → HasValue theory t n
  found_value t n ops budget sort fits found spells =
      found_term t n ops budget sort fits found (record { spelled = spells.spelled; of_sort = spells.of_sort })

  -- terms are equal exactly where their values are spelled alike
  pub equal_spelled : (a b : TermTree) (v w : List ℕ) → (n : TermTree) × GivesValue theory a v n → (m : TermTree) × GivesValue theory b w
      m →
      (v ≡ w) ↔ Equal theory a b
  equal_spelled a b v w h k = (
    λ same.
        let f = (ground_value theory executable.fits a h.0 h.1.value).1 in
        let g = (ground_value theory executable.fits b k.0 k.1.value).1 in
        let one : h.0 ≡ k.0 = one_term theory h.0 k.0 f.0 g.0 f.1 g.1 (sym h.1.spelled ∙ same ∙ k.1.spelled) in
        (equality_is_of_values theory executable a b h.0 k.0 h.1.value k.1.value).1 one,
    λ equal.
        h.1.spelled
        ∙ ap preorder ((equality_is_of_values theory executable a b h.0 k.0 h.1.value k.1.value).0 equal)
        ∙ sym k.1.spelled,
  )

  -- a term without a value equals none
  pub left_unequal : (a b : TermTree) → ((n : TermTree) → HasValue theory a n → ⊥) → Equal theory a b → ⊥
  left_unequal a b none equal =
      let r = have_one_sort theory executable.fits equal in
      let v = each_ground_term_has_one_value theory executable a (r.0, r.1) in
      none v.0 v.1

  pub right_unequal : (a b : TermTree) → ((n : TermTree) → HasValue theory b n → ⊥) → Equal theory a b → ⊥
  right_unequal a b none equal =
      let r = have_one_sort theory executable.fits equal in
      let v = each_ground_term_has_one_value theory executable b (r.0, r.2) in
      none v.0 v.1

  -- a term that is spelled as what it evaluates to is a value
  pub own_value : (t : TermTree) (own : List ℕ) (budget : ℕ) → FitsGround theory t → SpellsValue theory t budget own → own ≡ preorder t →
      IsValue theory t
  own_value t own budget fits found same =
      let of_sort = keeps_sort theory executable.orthogonal.closed (sorted_of theory executable) found.evaluates fits.0 fits.1 in
      let e : found.value ≡ t = one_term theory found.value t fits.0 fits.0 of_sort fits.1 (sym found.spelled ∙ same) in
      subst (IsValue theory) e found.has.is_value

  -- and no other is
  pub value_own : (t : TermTree) (own : List ℕ) (budget : ℕ) → FitsGround theory t → SpellsValue theory t budget own → IsValue theory t →
      own ≡ preorder t
  value_own t own budget fits found v =
      let value : HasValue theory t t = record { is_value = v; equal = by_reflexivity fits } in
      let one = (equality_is_of_values theory executable t t found.value t found.has value).0 (by_reflexivity fits) in
      found.spelled ∙ ap preorder one
