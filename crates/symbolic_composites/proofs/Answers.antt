-- The exact answers about a specification that is ready.
use Rattle.std.proofs.Common.{ℕ, ◌≡◌, ◌↔◌, inl, inr, refl, sym, ap, subst, Bool, true, false, Option, Some, None}
use Rattle.std.proofs.lemmas.Option.{none-some, same_Some}
use Rattle.std.proofs.lemmas.Bool.{false≢true}
use Rattle.spec_core.specs.Terms.{TermTree, preorder}
use Rattle.spec_core.specs.Theories.{Theory}
use Rattle.spec_core.specs.Sorts.{HasSort, no_variables}
use Rattle.spec_core.specs.Equality.{Equal}
use Rattle.spec_core.specs.Values.{HasValue}
use Rattle.spec_core.specs.Executable.{IsExecutable}
use Rattle.spec_core.specs.Code.{Program}
use Rattle.spec_core.specs.Ready.{IsReady}
use Rattle.data_laws.proofs.Whole.{each_ground_term_has_one_value, equality_is_of_values}
use Rattle.rule_model.specs.Fields.{Spells}
use Rattle.rule_model.specs.Code.{IsDefinition}
use Rattle.data_laws.proofs.Words.{one_term}
use Rattle.data_laws.proofs.Sorts.{have_one_sort}
use Rattle.symbolic_composites.specs.Evaluations.{Definition, Evaluation, IsExact}
use Rattle.symbolic_composites.proofs.One.{IsKnown, One, known_as}
use Rattle.symbolic_composites.proofs.Parts.{same_value_known}
use Rattle.symbolic_composites.specs.ReadyLaws.{ExactAnswersExist}
use Rattle.symbolic_composites.proofs.Sorts.{one_sort_of}
use Rattle.symbolic_composites.proofs.Standing.{one_definition}
use Rattle.symbolic_composites.proofs.Reading.{one_spelled}

-- what is so of one thing, as an answer
abbrev the_one : {A : Type 0} (P : A → Type 0) → One P → Option A
the_one P (inl one) = Some one.0
the_one P (inr out) = None

answers_one : {A : Type 0} (P : A → Type 0) (one : One P) (a : A) → P a ↔ (the_one P one ≡ Some a)
answers_one {A} P (inl one) a = (λ h. ap Some (sym (one.2 a h)), λ e. subst P (same_Some _ _ e) one.1)
answers_one P (inr out) a = (λ h. absurd (out a h), λ e. absurd (none-some _ e))

-- whether something is so, as an answer
abbrev holds : (P : Type 0) → IsKnown P → Bool
holds P (inl p) = true
holds P (inr out) = false

answers_known : (P : Type 0) (known : IsKnown P) → P ↔ (holds P known ≡ true)
answers_known P (inl p) = (λ h. refl, λ e. p)
answers_known P (inr out) = (λ h. absurd (out h), λ e. absurd (false≢true e))

module _ (theory : Theory) (ex : IsExecutable theory) where
  one_value_of : (t : TermTree) → One (HasValue theory t)
  one_value_of t = by_sort (one_sort_of theory t)
    where
      by_sort : One (HasSort theory no_variables t) → One (HasValue theory t)
      by_sort (inl one) =
          let r = each_ground_term_has_one_value theory ex t (one.0, one.1) in
          inl (r.0, r.1, λ w h. sym (r.2 w h))
      by_sort (inr out) = inr (λ n h. let s = have_one_sort theory ex.fits h.equal in out s.0 s.1)

  equal_known : (a b : TermTree) → IsKnown (Equal theory a b)
  equal_known a b = by_values (one_value_of a) (one_value_of b)
    where
      -- terms of a sort have values
      valued : (t : TermTree) (sort : ℕ) → HasSort theory no_variables t sort → (v : TermTree) × HasValue theory t v
      valued t sort h = let r = each_ground_term_has_one_value theory ex t (sort, h) in (r.0, r.1)

      by_values : One (HasValue theory a) → One (HasValue theory b) → IsKnown (Equal theory a b)
      by_values (inr out) k =
          inr (λ e. let s = have_one_sort theory ex.fits e in let v = valued a s.0 s.1 in out v.0 v.1)
      by_values (inl v) (inr out) =
          inr (λ e. let s = have_one_sort theory ex.fits e in let w = valued b s.0 s.2 in out w.0 w.1)
      by_values (inl v) (inl w) =
          known_as (preorder v.0 ≡ preorder w.0) (Equal theory a b) (λ e. same.1 (as_terms e)) (λ h. ap preorder (same.0 h))
          (same_value_known (preorder v.0) (preorder w.0))
        where
          same : Equal theory a b ↔ (v.0 ≡ w.0)
          same = equality_is_of_values theory ex a b v.0 w.0 v.1 w.1

          as_terms : preorder v.0 ≡ preorder w.0 → v.0 ≡ w.0
          as_terms e =
              let s = have_one_sort theory ex.fits v.1.equal in
              let r = have_one_sort theory ex.fits w.1.equal in
              one_term theory v.0 w.0 s.0 r.0 s.2 r.2 e

module _ (program : Program) (ready : IsReady program) where
  abbrev Defines : ℕ → Definition → Type 0
  Defines p d = IsDefinition program p d.gates d.variables d.body

  abbrev answers : Evaluation
  answers = record {
    value = λ t. the_one (HasValue program.theory t) (one_value_of program.theory ready.executable t);
    equal = λ a b. holds (Equal program.theory a b) (equal_known program.theory ready.executable a b);
    spelled = λ v sort. the_one (λ n. Spells program.theory v n sort) (one_spelled program.theory ready.executable v sort);
    definition = λ p. the_one (Defines p) (one_definition program ready p);
  }

  pub exact_answers : (e : Evaluation) × IsExact program e
  exact_answers = (
    answers,
    record {
      value = λ t n. answers_one (HasValue program.theory t) (one_value_of program.theory ready.executable t) n;
      equal = λ a b. answers_known (Equal program.theory a b) (equal_known program.theory ready.executable a b);
      spelled = λ v sort n. answers_one (λ m. Spells program.theory v m sort) (one_spelled program.theory ready.executable v sort) n;
      definition = λ p d. answers_one (Defines p) (one_definition program ready p) d;
    },
  )

pub exact_answers_exist : ExactAnswersExist
exact_answers_exist program ready = exact_answers program ready
