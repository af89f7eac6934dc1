-- Names of gates, sorts and operations: each is a run of bytes of names.
use Rattle.std.proofs.Common.{ℕ, zero, suc, ◌≡◌, ◌⊎◌, inl, inr, ◌<◌, ◌||◌, Bool, true, false, List, [], ◌∷◌, ◌++◌, codes, length}
use Rattle.value_text.specs.Bytes.{is_name_byte}
use Rattle.std.proofs.Common.{Some, nat_eq, refl, ap, sym, ◌∙◌, subst, arith, map, unwrap_or, eq-eqb}
use Rattle.std.specs.Char.{is_ascii_alphanumeric, to_ascii_lowercase}
use Rattle.std.specs.List.{list_any, slice_get}
use Rattle.spec_core.specs.Lists.{Each, IsOneOf, NoTwo}
use Rattle.spec_core.specs.Names.{IsWordByte, IsIdentifier, IsPlainName, IsSameName}
use Rattle.spec_core.proofs.Lists.{each_slice_get}
use Rattle.value_text.specs.Values.{name_at}
use Rattle.value_text.proofs.Runs.{IsRun, Stops, one_run}

-- what follows a name or a term: nothing, or one of these bytes: the end of a line, a blank, `)`, `,`, `]`
abbrev pub EndsTerm : List ℕ → Type 0
EndsTerm [] = Unit {0}
EndsTerm (b ∷ bs) = IsOneOf b (10 ∷ 32 ∷ 41 ∷ 44 ∷ 93 ∷ [])

no_name_byte : (b : ℕ) → IsOneOf b (10 ∷ 32 ∷ 41 ∷ 44 ∷ 93 ∷ []) → is_name_byte b ≡ false
no_name_byte b (inl e) = ap is_name_byte e
no_name_byte b (inr (inl e)) = ap is_name_byte e
no_name_byte b (inr (inr (inl e))) = ap is_name_byte e
no_name_byte b (inr (inr (inr (inl e)))) = ap is_name_byte e
no_name_byte b (inr (inr (inr (inr (inl e))))) = ap is_name_byte e
no_name_byte b (inr (inr (inr (inr (inr e))))) = absurd e

pub stops : (r : List ℕ) → EndsTerm r → Stops is_name_byte r
stops [] h = tt
stops (b ∷ r) h = no_name_byte b h

either : (a b : Bool) → a ≡ true ⊎ b ≡ true → (a || b) ≡ true
either true b h = refl
either false b (inl e) = absurd (cc)
either false b (inr e) = e

pub among : (b : ℕ) (bs : List ℕ) → IsOneOf b bs → list_any (nat_eq b) bs ≡ true
among b [] h = absurd h
among b (c ∷ bs) (inl e) = either (nat_eq b c) (list_any (nat_eq b) bs) (inl (eq-eqb b c e))
among b (c ∷ bs) (inr h) = either (nat_eq b c) (list_any (nat_eq b) bs) (inr (among b bs h))

word_byte : (b : ℕ) → IsWordByte b → is_name_byte b ≡ true
word_byte b (inl h) = either (is_ascii_alphanumeric b) (list_any (nat_eq b) (codes "_#%&*+-./<=>@\\^~{}")) (inl h)
word_byte b (inr e) = ap is_name_byte e

sign_byte : (b : ℕ) → IsOneOf b (codes "#%&*+-./<=>@\\^~{}") → is_name_byte b ≡ true
sign_byte b h =
    either (is_ascii_alphanumeric b) (list_any (nat_eq b) (codes "_#%&*+-./<=>@\\^~{}"))
    (inr (either (nat_eq b 95) (list_any (nat_eq b) (codes "#%&*+-./<=>@\\^~{}")) (inr (among b (codes "#%&*+-./<=>@\\^~{}") h))))

run_of : (P : ℕ → Type 0) → ((b : ℕ) → P b → is_name_byte b ≡ true) → (bs : List ℕ) → Each P bs → IsRun is_name_byte bs
run_of P f [] h = tt
run_of P f (b ∷ bs) h = (f b h.0, run_of P f bs h.1)

pub identifier_run : (name : List ℕ) → IsIdentifier name → IsRun is_name_byte name
identifier_run name h = run_of IsWordByte word_byte name h.word.bytes

pub plain_run : (name : List ℕ) → IsPlainName name → IsRun is_name_byte name
plain_run name (inl h) = run_of IsWordByte word_byte name h.bytes
plain_run name (inr h) = run_of (λ b. IsOneOf b (codes "#%&*+-./<=>@\\^~{}")) sign_byte name h.bytes

-- a name isn't empty
pub plain_begins : (name : List ℕ) → IsPlainName name → 0 < length name
plain_begins [] (inl h) = absurd h.first
plain_begins [] (inr h) = h.some
plain_begins (b ∷ bs) h = omega arith

-- what stands at a place
pub record IsAt {A : Type 0} (P : A → Type 0) (xs : List A) (i : ℕ) : Type 0 where
  pub item : A
  pub at : slice_get xs i ≡ Some item
  pub holds : P item

pub at_place : {A : Type 0} (P : A → Type 0) (xs : List A) (i : ℕ) → Each P xs → i < length xs → IsAt P xs i
at_place P [] i h within = absurd (omega arith)
at_place P (x ∷ xs) zero h within = record { item = x; at = refl; holds = h.0 }
at_place P (x ∷ xs) (suc i) h within =
    let q = at_place P xs i h.1 (omega arith) in
    record { item = q.item; at = q.at; holds = q.holds }

-- two places of a list of which no two are related
pub one_place : {A : Type 0} (R : A → A → Type 0) (xs : List A) (i j : ℕ) (x y : A) →
    NoTwo R xs → slice_get xs i ≡ Some x → slice_get xs j ≡ Some y → R x y → R y x → i ≡ j
one_place R [] zero j x y h a b k l = absurd (cc)
one_place R [] (suc i) j x y h a b k l = absurd (cc)
one_place R (z ∷ xs) zero zero x y h a b k l = refl
one_place R (z ∷ xs) zero (suc j) x y h a b k l =
    let same : z ≡ x = cc in
    absurd (each_slice_get (λ w. R z w → ⊥) xs j y h.0 b (subst (λ w. R w y) (sym same) k))
one_place R (z ∷ xs) (suc i) zero x y h a b k l =
    let same : z ≡ y = cc in
    absurd (each_slice_get (λ w. R z w → ⊥) xs i x h.0 a (subst (λ w. R w x) (sym same) l))
one_place R (z ∷ xs) (suc i) (suc j) x y h a b k l = ap suc (one_place R xs i j x y h.1 a b k l)

-- an identifier of a list of different ones, whatever follows
pub one_named : (names : List (List ℕ)) (i j : ℕ) (r s : List ℕ) →
    Each IsIdentifier names → NoTwo IsSameName names → i < length names → j < length names → EndsTerm r → EndsTerm s →
    name_at names i ++ r ≡ name_at names j ++ s → (i ≡ j) × (r ≡ s)
one_named names i j r s all differ a b c d h =
    let p = at_place IsIdentifier names i all a in
    let q = at_place IsIdentifier names j all b in
    let x : name_at names i ≡ p.item = ap (λ o. unwrap_or o []) p.at in
    let y : name_at names j ≡ q.item = ap (λ o. unwrap_or o []) q.at in
    let e : p.item ++ r ≡ q.item ++ s = ap (λ l. l ++ r) (sym x) ∙ h ∙ ap (λ l. l ++ s) y in
    let one =
    one_run is_name_byte p.item q.item r s (identifier_run p.item p.holds) (identifier_run q.item q.holds) (stops r c) (stops s d) e in (
      one_place IsSameName names i j p.item q.item differ p.at q.at (ap (map to_ascii_lowercase) one.0)
          (ap (map to_ascii_lowercase) (sym one.0)),
      one.1,
    )
