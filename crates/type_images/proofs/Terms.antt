-- Terms: when two are equal, and their images.
use Rattle.std.proofs.Common.{◌≡◌, ◌↔◌, ◌∙◌, refl, sym, ap, List, [], ◌∷◌, ℕ, Bool, true, false, ◌&&◌, nat_eq, map, IsTrue}
use Rattle.std.proofs.lemmas.Bool.{eqb-true, eq-eqb, and_parts}
use Rattle.std.proofs.Common.{Vec, Global}
use Rattle.spec_core.specs.declared.items.Op.{Op}
use Rattle.spec_core.specs.declared.term.Term.{Term}
use Rattle.spec_core.specs.declared.term.Term.TheVariants.{App, rolls-App}
use Rattle.spec_core.specs.declared.term.Term.TheFolds.{fold-roll-Term}
use Rattle.spec_core.specs.declared.term.Term.TheOpen.{Term-F}
use Rattle.spec_core.specs.Terms.{TermTree, TermTrees, variable, apply, no_terms, and_term, terms, term_step, term_of}
use Rattle.type_images.specs.Same.{is_same_term, are_same_terms}
use Rattle.type_images.specs.Images.{term_image, term_images}

mutual
  pub one_term : (s t : TermTree) → is_same_term s t ≡ true → s ≡ t
  one_term (variable x) (variable y) e = ap variable (eqb-true x y e)
  one_term (variable x) (apply g ts) e = absurd (cc)
  one_term (apply f ss) (variable y) e = absurd (cc)
  one_term (apply f ss) (apply g ts) e =
      let h : (nat_eq f g ≡ true) × (are_same_terms ss ts ≡ true) = and_parts (nat_eq f g) (are_same_terms ss ts) e in
      ap (λ z. apply z ss) (eqb-true f g h.0) ∙ ap (apply g) (one_terms ss ts h.1)

  one_terms : (ss ts : TermTrees) → are_same_terms ss ts ≡ true → ss ≡ ts
  one_terms no_terms no_terms e = refl
  one_terms no_terms (and_term t ts) e = absurd (cc)
  one_terms (and_term s ss) no_terms e = absurd (cc)
  one_terms (and_term s ss) (and_term t ts) e =
      let h : (is_same_term s t ≡ true) × (are_same_terms ss ts ≡ true) = and_parts (is_same_term s t) (are_same_terms ss ts) e in
      ap (λ z. and_term z ss) (one_term s t h.0) ∙ ap (and_term t) (one_terms ss ts h.1)

mutual
  pub same_as_itself : (t : TermTree) → is_same_term t t ≡ true
  same_as_itself (variable x) = eq-eqb x x refl
  same_as_itself (apply f ts) = ap (λ z. z && are_same_terms ts ts) (eq-eqb f f refl) ∙ same_as_themselves ts

  same_as_themselves : (ts : TermTrees) → are_same_terms ts ts ≡ true
  same_as_themselves no_terms = refl
  same_as_themselves (and_term t ts) = ap (λ z. z && are_same_terms ts ts) (same_as_itself t) ∙ same_as_themselves ts

-- a test that decides whether two terms are equal
pub decided : (b : Bool) (s t : TermTree) → IsTrue b ↔ (s ≡ t) → b ≡ is_same_term s t
decided true s t h = sym (ap (λ z. is_same_term s z) (sym (h.0 refl)) ∙ same_as_itself s)
decided false s t h = by_test (is_same_term s t) refl
  where
    untrue : IsTrue false → ⊥
    untrue e = cc

    by_test : (b : Bool) → is_same_term s t ≡ b → false ≡ is_same_term s t
    by_test true e = absurd (untrue (h.1 (one_term s t e)))
    by_test false e = sym e

-- what an operation over terms of the program stands for
pub app_term : (op : Op) (args : Vec Term Global) → term_of (App op args) ≡ apply op.0 (terms (map term_of args.items))
app_term op args = ap term_of (sym (rolls-App op args)) ∙ fold-roll-Term TermTree term_step (Term-F.App op args)

pub images_of_terms : (news : List ℕ) (ts : List TermTree) → term_images news (terms ts) ≡ terms (map (term_image news) ts)
images_of_terms news [] = refl
images_of_terms news (t ∷ ts) = ap (and_term (term_image news t)) (images_of_terms news ts)
