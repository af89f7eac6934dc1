-- What is among equations is among those of its group.
use Rattle.std.proofs.Common.{◌≡◌, ◌∙◌, refl, sym, ap, List, [], ◌∷◌, Bool, true, false, ◌&&◌, ◌||◌, nat_eq}
use Rattle.std.specs.List.{filter}
use Rattle.std.proofs.lemmas.Bool.{eq-eqb}
use Rattle.spec_core.specs.Theories.{ConditionalEquation}
use Rattle.std.specs.Cmp.Lexicographic.{pointwise}
use Rattle.spec_core.proofs.Booleans.{and_first_true}
use Rattle.type_images.specs.Same.{is_same_term, is_same_premise, is_same_equation, is_in}
use Rattle.type_images.specs.Groups.{term_key, key_of}
use Rattle.type_images.proofs.Terms.{one_term}

one_key : (e d : ConditionalEquation) → is_same_equation e d ≡ true → nat_eq (key_of e) (key_of d) ≡ true
one_key e d h =
    let sides = is_same_term e.left d.left && is_same_term e.right d.right in
    let with_premises = sides && pointwise is_same_premise e.premises d.premises in
    let left : is_same_term e.left d.left ≡ true = and_first_true (is_same_term e.left d.left) (is_same_term e.right d.right) (and_first_true sides (pointwise is_same_premise e.premises d.premises) (and_first_true with_premises (pointwise nat_eq e.sorts d.sorts) h)) in
    eq-eqb (key_of e) (key_of d) (ap (term_key 0) (one_term e.left d.left left))

apart : (e d : ConditionalEquation) → nat_eq (key_of e) (key_of d) ≡ false → is_same_equation e d ≡ false
apart e d h = by_test (is_same_equation e d) refl
  where
    by_test : (b : Bool) → is_same_equation e d ≡ b → is_same_equation e d ≡ false
    by_test true f = absurd (clash (sym h ∙ one_key e d f))
      where
        clash : false ≡ true → ⊥
        clash e = cc
    by_test false f = f

pub in_group : (all : List ConditionalEquation) (e : ConditionalEquation) → is_in (filter (λ d. nat_eq (key_of e) (key_of d)) all) e ≡ is_in all e
in_group [] e = refl
in_group (d ∷ ds) e = by_test (in_group ds e) (nat_eq (key_of e) (key_of d)) refl
  where
    by_test : is_in (filter (λ x. nat_eq (key_of e) (key_of x)) ds) e ≡ is_in ds e → (b : Bool) → nat_eq (key_of e) (key_of d) ≡ b → is_in (filter (λ x. nat_eq (key_of e) (key_of x)) (d ∷ ds)) e ≡ is_in (d ∷ ds) e
    by_test h true f = rw f (ap (λ z. is_same_equation e d || z) h)
    by_test h false f = rw f (h ∙ sym (ap (λ z. z || is_in ds e) (apart e d f)))
