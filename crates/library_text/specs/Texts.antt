-- The texts of the library's types. Their names and equations are this profile's; nothing is claimed of the library of ISO 8807.
use Rattle.std.specs.Prelude.{ℕ, List, [], ◌∷◌, ◌++◌, codes}
use Rattle.std.specs.List.{flat_map}

-- a text by its lines, each of which ends with LF
abbrev pub text_of : List (List ℕ) → List ℕ
text_of lines = flat_map (λ line. line ++ 10 ∷ []) lines

abbrev pub boolean_text : List ℕ
boolean_text = text_of (
    codes "type Boolean is" ∷
    codes "sorts Bool" ∷
    codes "opns true (*! constructor *), false (*! constructor *) : -> Bool" ∷
    codes "     not : Bool -> Bool" ∷
    codes "     _and_, _or_, _xor_, _implies_, _iff_, _eq_, _ne_ : Bool, Bool -> Bool" ∷
    codes "eqns forall x : Bool ofsort Bool" ∷
    codes "  not(true) = false;        not(false) = true;" ∷
    codes "  true and x = x;           false and x = false;" ∷
    codes "  true or x = true;         false or x = x;" ∷
    codes "  true xor x = not(x);      false xor x = x;" ∷
    codes "  true implies x = x;       false implies x = true;" ∷
    codes "  true iff x = x;           false iff x = not(x);" ∷
    codes "  true eq x = x;            false eq x = not(x);" ∷
    codes "  true ne x = not(x);       false ne x = x;" ∷
    codes "endtype" ∷ [])

abbrev pub natural_text : List ℕ
natural_text = text_of (
    codes "type NaturalNumber is Boolean" ∷
    codes "sorts Nat" ∷
    codes "opns 0 (*! constructor *) : -> Nat" ∷
    codes "     Succ (*! constructor *) : Nat -> Nat" ∷
    codes "     _+_, _*_, _**_ : Nat, Nat -> Nat" ∷
    codes "     _eq_, _ne_, _lt_, _le_, _ge_, _gt_ : Nat, Nat -> Bool" ∷
    codes "eqns forall m, n : Nat" ∷
    codes "ofsort Nat" ∷
    codes "  m + 0 = m;                m + Succ(n) = Succ(m + n);" ∷
    codes "  m * 0 = 0;                m * Succ(n) = m + (m * n);" ∷
    codes "  m ** 0 = Succ(0);         m ** Succ(n) = m * (m ** n);" ∷
    codes "ofsort Bool" ∷
    codes "  0 eq 0 = true;            0 eq Succ(n) = false;" ∷
    codes "  Succ(m) eq 0 = false;     Succ(m) eq Succ(n) = m eq n;" ∷
    codes "  m ne n = not(m eq n);" ∷
    codes "  m lt 0 = false;           0 lt Succ(n) = true;" ∷
    codes "  Succ(m) lt Succ(n) = m lt n;" ∷
    codes "  m le n = not(n lt m);     m ge n = not(m lt n);" ∷
    codes "  m gt n = n lt m;" ∷
    codes "endtype" ∷ [])
