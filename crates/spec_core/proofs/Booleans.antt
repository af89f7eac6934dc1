-- What follows of two truth values from their conjunction or disjunction.
use Rattle.std.proofs.Common.{◌≡◌, ◌↔◌, refl, Bool, true, false, ◌&&◌, ◌||◌, IsTrue}

pub and_first_true : (x y : Bool) → (x && y) ≡ true → x ≡ true
and_first_true true y h = refl
and_first_true false y h = h

pub and_second_true : (x y : Bool) → (x && y) ≡ true → y ≡ true
and_second_true true y h = h
and_second_true false y h = cc

pub or_first_false : (x y : Bool) → (x || y) ≡ false → x ≡ false
or_first_false true y h = h
or_first_false false y h = refl

pub or_second_false : (x y : Bool) → (x || y) ≡ false → y ≡ false
or_second_false true y h = cc
or_second_false false y h = h

pub or_true : (x : Bool) → (x || true) ≡ true
or_true true = refl
or_true false = refl

-- what a test decides, where it fails
pub test_fails : {P : Type 0} (x : Bool) → x ≡ false → (IsTrue x ↔ P) → P → ⊥
test_fails true e decides h = cc
test_fails false e decides h = let n : false ≡ true = decides.1 h in cc
