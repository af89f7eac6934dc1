-- Elements that come one by one to related ones, those before some place.
use Rattle.std.proofs.Common.{ℕ, ◌≡◌, ◌∙◌, sym, ap, subst, List, [], ◌∷◌, ◌++◌, append_assoc}
use Rattle.std.proofs.lemmas.Grind.{flat_map-append}
use Rattle.std.proofs.lemmas.List.{append-nil}
use Rattle.std.specs.List.{flat_map}
use Rattle.spec_core.specs.Lists.{Each}
use Rattle.spec_core.specs.Terms.{TermTree, term_of}
use Rattle.spec_core.specs.Theories.{Theory}
use Rattle.spec_core.proofs.Lists.{each_append}
use Rattle.script_offers.specs.declared.fault.WishFault.{WishFault}
use Rattle.script_offers.specs.declared.fault.WishFault.TheVariants.{Spent, TooLarge, Memory}
use Rattle.script_offers.specs.Faults.{IsFaultOf}
use Rattle.script_offers.specs.Given.{IsValuedWithin, IsFirstWithout}
use Rattle.script_offers.specs.Valued.{OneByOne}

related_more : {A B : Type 0} (R : A → B → Type 0) (xs : List A) (ys : List B) (x : A) (y : B) →
    OneByOne R xs ys → R x y → OneByOne R (xs ++ x ∷ []) (ys ++ y ∷ [])
related_more R [] [] x y h k = (k, tt)
related_more R [] (b ∷ ys) x y h k = absurd h
related_more R (a ∷ xs) [] x y h k = absurd h
related_more R (a ∷ xs) (b ∷ ys) x y h k = (h.0, related_more R xs ys x y h.1 k)

-- the elements before the rest came to these, and P holds of what those before the rest give
pub record Gathered {A B : Type 0} (R : A → B → Type 0) (given : A → List TermTree) (P : TermTree → Type 0) (all : List A) (done : List B)
    (rest : List A) : Type 0 where
  pub before : List A
  pub parts : all ≡ before ++ rest
  pub related : OneByOne R before done
  pub valued : Each P (flat_map given before)

module _ {A B : Type 0} (R : A → B → Type 0) (given : A → List TermTree) (P : TermTree → Type 0) (all : List A) where
  pub gathered_none : (rest : List A) → all ≡ rest → Gathered R given P all [] rest
  gathered_none rest e = record { before = []; parts = e; related = tt; valued = tt }

  pub gathered_more : (before after : List B) (x : A) (y : B) (here rest : List A) → Gathered R given P all before here → here ≡ x ∷ rest →
      R x y → Each P (given x) → after ≡ before ++ y ∷ [] → Gathered R given P all after rest
  gathered_more before after x y here rest g is h k e = record {
    before = g.before ++ x ∷ [];
    parts = g.parts ∙ (ap (λ z. g.before ++ z) is ∙ sym (append_assoc g.before (x ∷ []) rest));
    related = subst (OneByOne R (g.before ++ x ∷ [])) (sym e) (related_more R g.before before x y g.related h);
    valued = subst (Each P) (sym (flat_map-append given g.before (x ∷ [])))
        (each_append P (flat_map given g.before) (given x ++ []) g.valued (subst (Each P) (sym (append-nil (given x))) k));
  }

  whole : (before rest : List A) → all ≡ before ++ rest → rest ≡ [] → before ≡ all
  whole before rest e is = sym (e ∙ (ap (λ z. before ++ z) is ∙ append-nil before))

  pub gathered_related : (done : List B) (rest : List A) → Gathered R given P all done rest → rest ≡ [] → OneByOne R all done
  gathered_related done rest g is = subst (λ z. OneByOne R z done) (whole g.before rest g.parts is) g.related

  pub gathered_valued : (done : List B) (rest : List A) → Gathered R given P all done rest → rest ≡ [] → Each P (flat_map given all)
  gathered_valued done rest g is = subst (λ z. Each P (flat_map given z)) (whole g.before rest g.parts is) g.valued

module _ (theory : Theory) (budget : ℕ) where
  -- the first of some terms without a value, where those before them have values
  first_behind : (terms before inner behind : List TermTree) (t : TermTree) → terms ≡ before ++ (inner ++ behind) →
      Each (IsValuedWithin theory budget) before → IsFirstWithout theory budget inner t → IsFirstWithout theory budget terms t
  first_behind terms before inner behind t e h f = record {
    before = before ++ f.before;
    behind = f.behind ++ behind;
    parts = e ∙ (ap (λ z. before ++ (z ++ behind)) f.parts
        ∙ (ap (λ z. before ++ z) (append_assoc f.before (t ∷ f.behind) behind)
        ∙ sym (append_assoc before f.before (t ∷ (f.behind ++ behind)))));
    valued = each_append (IsValuedWithin theory budget) before f.before h f.valued;
  }

  fault_behind : (terms before inner behind : List TermTree) (fault : WishFault) → terms ≡ before ++ (inner ++ behind) →
      Each (IsValuedWithin theory budget) before → IsFaultOf theory budget inner fault → IsFaultOf theory budget terms fault
  fault_behind terms before inner behind (Spent x) e h f = (first_behind terms before inner behind (term_of x) e h f.0, f.1)
  fault_behind terms before inner behind (TooLarge x) e h f = (first_behind terms before inner behind (term_of x) e h f.0, f.1)
  fault_behind terms before inner behind Memory e h f = tt

  pub gathered_fault : {A B : Type 0} (R : A → B → Type 0) (given : A → List TermTree) (all : List A) (done : List B) (x : A)
      (here rest : List A) (fault : WishFault) → Gathered R given (IsValuedWithin theory budget) all done here → here ≡ x ∷ rest →
      IsFaultOf theory budget (given x) fault → IsFaultOf theory budget (flat_map given all) fault
  gathered_fault R given all done x here rest fault g is f =
      fault_behind (flat_map given all) (flat_map given g.before) (given x) (flat_map given rest) fault
      (ap (flat_map given) (g.parts ∙ ap (λ z. g.before ++ z) is) ∙ flat_map-append given g.before (x ∷ rest)) g.valued f
