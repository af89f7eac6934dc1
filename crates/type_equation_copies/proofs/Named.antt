-- The numbers of items.
use Rattle.std.proofs.Common.{◌≡◌, ◌∙◌, refl, sym, ap, Bor, Global, List, [], ◌∷◌, ℕ, suc, ◌+◌, length, map, arith, Bool, true, false, ◌&&◌, ◌||◌, not, cond, nat_lt, Some, if◌then◌else◌}
use Rattle.std.proofs.lemmas.Bool.Decides.{nat_tests}
use Rattle.std.specs.List.{list_any, position_or_len}
use Rattle.std.specs.Map.{lookup}
use Rattle.std.specs.Prelude.{unwrap_or}
use Rattle.std.specs.String.{string_eq}
use Rattle.std.specs.Cmp.Lexicographic.{pointwise}
use denote.Enum.Bare.{sameb}
use Rattle.type_contents.specs.contracts.item_kind.ItemKind as kind
use Rattle.type_contents.specs.declared.item.Item as code
use Rattle.type_contents.specs.Items.{is_same_item}
use Rattle.type_contents.specs.Views.{item_of}
use Rattle.type_contents.proofs.Indexed.{put_or_old}
use Rattle.type_contents.proofs.Keys.{same_key}
use Rattle.type_contents.proofs.Unions.{item_symm}
use Rattle.type_equation_copies.specs.Indexes.{item_at}

-- equality of keys in a map of items
abbrev pub is_key : code.Item → code.Item → Bool
is_key x y = sameb kind.the_type x.kind y.kind && (string_eq x.name y.name && pointwise (string_eq {Z = Global}) x.sorts.items y.sorts.items)

-- an item is found by equality of keys or of items
pub found_by_key : (x : code.Item) (es : List (Bor code.Item × ℕ)) → lookup (λ k. is_key x k.now) es ≡ lookup (λ k. is_same_item (item_of x) (item_at k)) es
found_by_key x [] = refl
found_by_key x (e ∷ es) =
    ap (λ b. cond b (Some e.1) (lookup (λ k. is_key x k.now) es)) (same_key x e.0.now)
    ∙ ap (λ o. cond (is_same_item (item_of x) (item_at e.0)) (Some e.1) o) (found_by_key x es)

-- what is found after the number of an item is put in
pub found_after : (x put : code.Item) (old new : List (Bor code.Item × ℕ)) (n none : ℕ)
    → lookup (λ k. is_key x k.now) new ≡ cond (is_key put x) (Some n) (lookup (λ k. is_key x k.now) old)
    → unwrap_or (lookup (λ k. is_same_item (item_of x) (item_at k)) new) none
    ≡ (if is_same_item (item_of x) (item_of put) then n else unwrap_or (lookup (λ k. is_same_item (item_of x) (item_at k)) old) none)
found_after x put old new n none e =
    let same : Bor code.Item → Bool = λ k. is_same_item (item_of x) (item_at k) in
    ap (λ o. unwrap_or o none) (sym (found_by_key x new) ∙ e ∙ ap (λ b. cond b (Some n) (lookup (λ k. is_key x k.now) old)) (same_key put x ∙ item_symm (item_of put) (item_of x))
    ∙ ap (λ o. cond (is_same_item (item_of x) (item_of put)) (Some n) o) (found_by_key x old))
    ∙ put_or_old (is_same_item (item_of x) (item_of put)) n (lookup same old) none

pub position_through : {A B : Type 0} (f : A → B) (p : B → Bool) (xs : List A) → position_or_len p (map f xs) ≡ position_or_len (λ x. p (f x)) xs
position_through f p [] = refl
position_through f p (x ∷ xs) = ap (λ k. cond (not (p (f x))) (1 + k) 0) (position_through f p xs)

more_less : (k n : ℕ) → nat_lt (1 + k) (suc n) ≡ nat_lt k n
more_less k n = grind (arith, nat_tests)

none_less : (n : ℕ) → nat_lt 0 (suc n) ≡ true
none_less n = grind (arith, nat_tests)

none_at_all : nat_lt 0 0 ≡ false
none_at_all = grind (arith, nat_tests)

-- some element passes a test where there is a first that does
pub any_position : {A : Type 0} (p : A → Bool) (xs : List A) → nat_lt (position_or_len p xs) (length xs) ≡ list_any p xs
any_position p [] = none_at_all
any_position p (x ∷ xs) = by_test (any_position p xs) (p x)
  where
    by_test : nat_lt (position_or_len p xs) (length xs) ≡ list_any p xs → (b : Bool) → nat_lt (cond (not b) (1 + position_or_len p xs) 0) (suc (length xs)) ≡ (b || list_any p xs)
    by_test h true = none_less (length xs)
    by_test h false = more_less (position_or_len p xs) (length xs) ∙ h
