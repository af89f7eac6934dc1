-- The text of a value is the text of that value alone, whatever follows.
use Rattle.std.proofs.Common.{ℕ, ◌≡◌, false, List, [], ◌∷◌, ◌++◌, length, drop, refl, ap, sym, ◌∙◌, append_assoc}
use Rattle.value_text.specs.Bytes.{is_name_byte}
use Rattle.std.proofs.lemmas.List.{append-nil}
use Rattle.spec_core.specs.Lists.{Each, NoTwo}
use Rattle.spec_core.specs.Names.{IsOperationName, IsIdentifier, IsSameName}
use Rattle.spec_core.specs.Ready.{IsSameOperation}
use Rattle.spec_core.specs.Sorts.{HasSort, HaveSorts, FitsData, no_variables}
use Rattle.spec_core.specs.Terms.{TermTree, TermTrees, variable, apply, no_terms, and_term, width, preorder, preorders}
use Rattle.spec_core.specs.Theories.{Theory}
use Rattle.value_text.specs.Values.{IsGroundList, declared_width, width_of, first_terms, first_text, terms_in, value_text}
use Rattle.value_text.proofs.Names.{EndsTerm}
use Rattle.value_text.proofs.OneTerm.{over, as_wide, text, one_term, begins_term}

-- terms before others
abbrev before : TermTrees → List TermTree → List TermTree
before no_terms us = us
before (and_term t ts) us = t ∷ before ts us

first_so : (ts : TermTrees) (us : List TermTree) → first_terms (width ts) (before ts us) ≡ ts
first_so no_terms us = refl
first_so (and_term t ts) us = ap (and_term t) (first_so ts us)

others_so : (ts : TermTrees) (us : List TermTree) → drop (width ts) (before ts us) ≡ us
others_so no_terms us = refl
others_so (and_term t ts) us = others_so ts us

module _ (theory : Theory) where
  -- the operations of a ground term spell that term
  abbrev IsSpelled : TermTree → Type 0
  IsSpelled t = (a : ℕ) (fs : List ℕ) → HasSort theory no_variables t a → terms_in theory.operations (preorder t ++ fs) ≡ t ∷ terms_in theory.operations fs

  abbrev AreSpelled : TermTrees → Type 0
  AreSpelled ts =
      (sorts fs : List ℕ) → HaveSorts theory no_variables ts sorts →
      terms_in theory.operations (preorders ts ++ fs) ≡ before ts (terms_in theory.operations fs)

  spelled_over : (f : ℕ) (ts : TermTrees) → AreSpelled ts → IsSpelled (apply f ts)
  spelled_over f ts spelled a fs h =
      let k = over theory f ts a h in
      let n : width_of theory.operations f ≡ width ts = ap declared_width k.at ∙ sym (as_wide theory ts k.operation.args k.args) in
      let us : List TermTree = terms_in theory.operations fs in
      ap (λ l. apply f (first_terms (width_of theory.operations f) l) ∷ drop (width_of theory.operations f) l) (spelled k.operation.args fs k.args)
      ∙ ap (λ m. apply f (first_terms m (before ts us)) ∷ drop m (before ts us)) n
      ∙ ap (λ l. apply f l ∷ drop (width ts) (before ts us)) (first_so ts us)
      ∙ ap (λ l. apply f ts ∷ l) (others_so ts us)

  spelled_more : (t : TermTree) (ts : TermTrees) → IsSpelled t → AreSpelled ts → AreSpelled (and_term t ts)
  spelled_more t ts one more [] fs h = absurd h
  spelled_more t ts one more (a ∷ sorts) fs h =
      ap (terms_in theory.operations) (append_assoc (preorder t) (preorders ts) fs)
      ∙ one a (preorders ts ++ fs) h.0
      ∙ ap (λ l. t ∷ l) (more sorts fs h.1)

  mutual
    spelled : (t : TermTree) → IsSpelled t
    spelled (variable x) = λ a fs h. absurd (cc)
    spelled (apply f ts) = spelled_over f ts (all_spelled ts)

    all_spelled : (ts : TermTrees) → AreSpelled ts
    all_spelled no_terms = λ sorts fs h. refl
    all_spelled (and_term t ts) = spelled_more t ts (spelled t) (all_spelled ts)

  pub value_is_term : (t : TermTree) (a : ℕ) → HasSort theory no_variables t a → value_text theory (preorder t) ≡ text theory t
  value_is_term t a h =
      ap (λ l. first_text theory (terms_in theory.operations l)) (sym (append-nil (preorder t))) ∙ ap (first_text theory) (spelled t a [] h)

  module _ (fits : FitsData theory) (names : Each (λ d. IsOperationName (length d.args) d.name) theory.operations) where
    pub begins_value : (v : List ℕ) (b : ℕ) (r y : List ℕ) → IsGroundList theory v → is_name_byte b ≡ false → (40 ≡ b → ⊥) →
        value_text theory v ++ r ≡ b ∷ y → ⊥
    begins_value v b r y k free other e =
        begins_term theory fits names k.term k.fits.0 b r y k.fits.1 free other
        (ap (λ l. l ++ r) (sym (ap (value_text theory) k.spelled ∙ value_is_term k.term k.fits.0 k.fits.1)) ∙ e)

    module _ (sorts : Each IsIdentifier theory.sorts) (sorts_differ : NoTwo IsSameName theory.sorts)
        (operations_differ : NoTwo IsSameOperation theory.operations) where
      pub one_value : (v w r s : List ℕ) → IsGroundList theory v → IsGroundList theory w → EndsTerm r → EndsTerm s →
          value_text theory v ++ r ≡ value_text theory w ++ s → (v ≡ w) × (r ≡ s)
      one_value v w r s k l er es e =
          let x = ap (value_text theory) k.spelled ∙ value_is_term k.term k.fits.0 k.fits.1 in
          let y = ap (value_text theory) l.spelled ∙ value_is_term l.term l.fits.0 l.fits.1 in
          let one =
          one_term theory fits names sorts sorts_differ operations_differ k.term l.term k.fits.0 l.fits.0 r s k.fits.1 l.fits.1 er es
          (ap (λ z. z ++ r) (sym x) ∙ e ∙ ap (λ z. z ++ s) y) in
          (k.spelled ∙ ap preorder one.0 ∙ sym l.spelled, one.1)
