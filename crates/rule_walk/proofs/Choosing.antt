-- Values that a tree chooses.
use Rattle.std.proofs.Common.{ℕ, ◌≡◌, List, Result, Ok, Err, Option, Some, None, IfOk, IfSome, sym, subst, ◌∙◌}
use Rattle.spec_core.specs.Constructors.{IsConstructed}
use Rattle.spec_core.specs.declared.term.Term.{Term}
use Rattle.spec_core.specs.Terms.{TermTree, term_of}
use Rattle.spec_core.specs.Theories.{Theory}
use Rattle.spec_core.specs.Values.{IsValue}
use Rattle.data_laws.proofs.Words.{one_term}
use Rattle.rule_laws.specs.Spelled.{SpellsSome}
use Rattle.rule_model.specs.Fields.{Spells}
use Rattle.value_terms.specs.Spelled.{SpellsTerm}
use Rattle.rule_walk.specs.Asking.{SpellsCall}

module _ (theory : Theory) (w : List ℕ) (t : TermTree) (sort : ℕ) (spells : SpellsTerm theory w t sort) where
  -- the list of operations spells no other term of the sort
  one_choice : (n : TermTree) → SpellsTerm theory w n sort → n ≡ t
  one_choice n h = one_term theory n t sort sort h.of_sort spells.of_sort (sym h.spelled ∙ spells.spelled)

  pub chosen_value : IsValue theory t → Spells theory w t sort
  chosen_value v = record { spelled = spells.spelled; of_sort = spells.of_sort; is_value = v }

  -- it spells no value where its term is none
  pub no_value : (IsValue theory t → ⊥) → (n : TermTree) → Spells theory w n sort → ⊥
  no_value none n h =
      none (subst (IsValue theory) (one_choice n (record { spelled = h.spelled; of_sort = h.of_sort })) h.is_value)

  -- what holds of its term, where that is no ground constructor term, holds of each term that is asked
  pub asked_choice : (W : TermTree → Type 0) → ((IsConstructed theory t → ⊥) → W t) → (x : TermTree) → SpellsCall theory w x sort → W x
  asked_choice W h x asked =
      let e : x ≡ t = one_choice x asked.term in
      subst W (sym e) (h (subst (λ (y : TermTree). IsConstructed theory y → ⊥) e asked.has_defined))

  -- where it spells some value, its term is one
  pub given_value : SpellsSome theory w → Spells theory w t sort
  given_value some =
      let fits = some.2.fits in
      let e : some.0 ≡ t = one_term theory some.0 t fits.0 sort fits.1 spells.of_sort (sym some.1 ∙ spells.spelled) in
      chosen_value (subst (IsValue theory) e some.2)

-- the same of the term that was found
pub given_values : {E : Type 0} (theory : Theory) (w : List ℕ) (sort : ℕ) (r : Result (Option Term) E) → SpellsSome theory w →
    IfOk r (λ o. IfSome o (λ t. SpellsTerm theory w (term_of t) sort)) → IfOk r (λ o. IfSome o (λ t. Spells theory w (term_of t) sort))
given_values theory w sort (Ok (Some t)) some spells = given_value theory w (term_of t) sort spells some
given_values theory w sort (Ok None) some spells = tt
given_values theory w sort (Err e) some spells = tt
