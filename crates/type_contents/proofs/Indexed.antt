-- Types by their names.
use Rattle.std.proofs.Common.{◌≡◌, ◌∙◌, refl, sym, ap, subst, ℕ, zero, suc, ◌+◌, ◌-◌, ◌<◌, Bool, true, false, ◌||◌, List, [], ◌∷◌, length, map, drop, get_or, Option, Some, arith, if◌then◌else◌}
use Rattle.std.specs.Prelude.{unwrap_or, Vec}
use Rattle.std.specs.declared.alloc.Global.{Global}
use Rattle.std.specs.List.{position_or_len, list_any, slice_index_or}
use Rattle.lotos_ast.specs.declared.token.Token.{Token}
use Rattle.lotos_ast.specs.declared.types.TypeDef.{TypeDef}
use Rattle.lotos_ast.specs.declared.types.TypeBody.{TypeBody}
use Rattle.lotos_ast.specs.declared.types.TypeBody.TheVariants.{Declared}
use Rattle.lotos_ast.specs.declared.types.Formals.{Formals}
use Rattle.lotos_ast.specs.declared.types.SortPart.{SortPart}
use Rattle.lotos_ast.specs.declared.types.OperationPart.{OperationPart}
use Rattle.lotos_ast.specs.declared.types.EquationPart.{EquationPart}
use Rattle.lotos_ast.specs.declared.place.Place.{Place}
use Rattle.type_contents.specs.FormalTypes.{declares_formals, is_formal_in, is_formal_by}
use Rattle.type_contents.specs.Lists.{listed}
use Rattle.type_contents.specs.Uses.{number_of, uses_by}

-- the number that is put, or the one that was there
pub put_or_old : (b : Bool) (n : ℕ) (old : Option ℕ) (none : ℕ) → unwrap_or (if b then Some n else old) none ≡ (if b then n else unwrap_or old none)
put_or_old true n old none = refl
put_or_old false n old none = refl

drop_front : {A : Type 0} (xs : List A) (k : ℕ) (x : A) → k < length xs → x ≡ get_or xs k x → drop k xs ≡ x ∷ drop (suc k) xs
drop_front [] k x within at = absurd (omega (arith, within))
drop_front (y ∷ ys) zero x within at = ap (λ z. z ∷ ys) (sym at)
drop_front (y ∷ ys) (suc k) x within at = drop_front ys k x (omega (arith, within)) at

counted : (b : Bool) (k n : ℕ) → (if b then k else suc k + n) ≡ k + (if b then zero else suc n)
counted true k n = omega arith
counted false k n = omega arith

position_front : {A : Type 0} (p : A → Bool) (x : A) (xs : List A) → position_or_len p (x ∷ xs) ≡ (if p x then zero else suc (position_or_len p xs))
position_front p x xs = by_test (p x) refl
  where
    by_test : (b : Bool) → p x ≡ b → position_or_len p (x ∷ xs) ≡ (if p x then zero else suc (position_or_len p xs))
    by_test true e = rw e (omega arith)
    by_test false e = rw e (omega arith)

first_at : {A : Type 0} (p : A → Bool) (xs : List A) (k : ℕ) (x : A) → k < length xs → x ≡ get_or xs k x
    → (if p x then k else suc k + position_or_len p (drop (suc k) xs)) ≡ k + position_or_len p (drop k xs)
first_at p xs k x within at =
    counted (p x) k (position_or_len p (drop (suc k) xs)) ∙ sym (ap (λ n. k + n) (position_front p x (drop (suc k) xs)))
    ∙ sym (ap (λ zs. k + position_or_len p zs) (drop_front xs k x within at))

-- the first of its name, where one more element is looked at from behind
pub front_next : {A : Type 0} (p : A → Bool) (xs : List A) (b k : ℕ) (x : A) → b < length xs → k ≡ length xs - 1 - b → x ≡ get_or xs k x
    → (if p x then k else (length xs - b) + position_or_len p (drop (length xs - b) xs)) ≡ (length xs - (b + 1)) + position_or_len p (drop (length xs - (b + 1)) xs)
front_next p xs b k x within is at =
    let one : length xs - b ≡ suc k = omega (arith, within, is) in
    let same : k ≡ length xs - (b + 1) = omega (arith, within, is) in
    ap (λ j. if p x then k else j + position_or_len p (drop j xs)) one ∙ first_at p xs k x (omega (arith, within, is)) at
    ∙ ap (λ j. j + position_or_len p (drop j xs)) same

-- whether one of some types is formal, by their numbers
pub any_linked : (types : List TypeDef) (table : List Bool) (names : List Token)
    → list_any (λ k. slice_index_or table k false) (map (number_of types) names) ≡ list_any (is_formal_in types table) names
any_linked types table [] = refl
any_linked types table (t ∷ ts) = ap (λ z. slice_index_or table (number_of types t) false || z) (any_linked types table ts)

alone : (b : Bool) → (b || false) ≡ b
alone true = refl
alone false = refl

pub one_linked : (types : List TypeDef) (table : List Bool) (t : Token)
    → list_any (λ k. slice_index_or table k false) (number_of types t ∷ []) ≡ is_formal_in types table t
one_linked types table t = alone (slice_index_or table (number_of types t) false)

pub formal_by_linked : (types : List TypeDef) (table : List Bool) (body : TypeBody) (linked : List ℕ) (place : Place) (imports : Option (Vec Token Global)) (formals : Formals)
    (sorts : Option SortPart) (operations : Option OperationPart) (equations : Option EquationPart)
    → body ≡ Declared place imports formals sorts operations equations → declares_formals formals ≡ false → linked ≡ map (number_of types) (uses_by body)
    → list_any (λ k. slice_index_or table k false) linked ≡ is_formal_by types table body
formal_by_linked types table body linked place imports formals sorts operations equations is none same =
    ap (list_any (λ k. slice_index_or table k false)) (same ∙ ap (λ b. map (number_of types) (uses_by b)) is) ∙ any_linked types table (listed imports)
    ∙ sym (ap (is_formal_by types table) is ∙ ap (λ z. z || list_any (is_formal_in types table) (listed imports)) none)
