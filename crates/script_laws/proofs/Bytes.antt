-- Bytes of names, and names that aren't the grammar's own.
use Rattle.std.proofs.Common.{ℕ, zero, suc, ◌≡◌, ◌∙◌, ◌<◌, ◌+◌, ◌⊎◌, inl, inr, refl, sym, ap, subst, List, [], ◌∷◌, ◌++◌, length, map, get_or, arith, cond}
use Rattle.std.proofs.Common.{Bool, true, false, ◌||◌, ◌&&◌, not, nat_eq, nat_lt, ◌==◌, Some, None, codes, if◌then◌else◌, eq-eqb, lt-ltb}
use Rattle.std.specs.Bool.{Decides}
use Rattle.std.specs.Char.{is_ascii_alphanumeric, to_ascii_lowercase}
use Rattle.std.specs.List.{list_any, list_all, prefix_len}
use Rattle.std.specs.Str.{bytes_eq}
use Rattle.std.specs.Str.Lossy.{utf8_lossy}
use Rattle.std.proofs.lemmas.Bool.Decides.{nat_tests, Decides-eqb}
use Rattle.std.proofs.lemmas.Slice.Eq.{bytes_eq-Decides}
use Rattle.std.proofs.lemmas.Str.{IsUtf8-from_ascii, utf8_lossy-IsUtf8}
use Rattle.std.proofs.lemmas.Bool.{and_parts, or_parts, or_from, both_ways}
use Rattle.lotos_ast.specs.declared.mark.Mark.{Mark}
use Rattle.lotos_ast.specs.Bytes.{is_one_of, is_letter_or_digit, is_low_line, is_operation_byte}
use Rattle.lotos_ast.specs.Marks.{is_same_word, find_mark, reserved_words, symbol_spellings, keyword_of, symbol_of}
use Rattle.lotos_ast.specs.Pieces.{word_rest}
use Rattle.spec_core.specs.Lists.{Each, IsOneOf}
use Rattle.spec_core.specs.Names.{IsWordByte, EndsInWord, IsWord, IsOperationString, IsPlainName}
use Rattle.spec_core.proofs.Lists.{each_implied}
use Rattle.spec_core.specs.Names as names
use Rattle.value_text.specs.Bytes.{is_name_byte}
use Rattle.value_text.proofs.Runs.{Stops}

-- a byte of this kind isn't among bytes of another kind
pub other_than : (p : ℕ → Bool) (bytes : List ℕ) (b : ℕ) → list_any p bytes ≡ false → p b ≡ true → is_one_of bytes b ≡ false
other_than p [] b none h = refl
other_than p (c ∷ bytes) b none h =
    let k = or_parts (p c) (list_any p bytes) none in
    or_from (c == b) (is_one_of bytes b) (differ (c == b) (Decides-eqb c b)) (other_than p bytes b k.1 h)
  where
    differ : (x : Bool) → Decides x (c ≡ b) → x ≡ false
    differ true d = absurd (both_ways (p c) (or_parts (p c) (list_any p bytes) none).0 (ap p (d.0 refl) ∙ h))
    differ false d = refl

-- bytes below 128 are told as they stand
each_below : (s : List ℕ) → Each (λ b. b < 128) s → (i : ℕ) → get_or s i 0 < 128
each_below [] h i = omega arith
each_below (b ∷ s) h zero = h.0
each_below (b ∷ s) h (suc i) = each_below s h.1 i

pub told : (s : List ℕ) → Each (λ b. b < 128) s → utf8_lossy s ≡ s
told s h = utf8_lossy-IsUtf8 s (IsUtf8-from_ascii s (each_below s h))

letter_below : (b : ℕ) → is_ascii_alphanumeric b ≡ true → b < 128
letter_below b h = grind (arith, nat_tests, h)

word_byte_below : (b : ℕ) → IsWordByte b → b < 128
word_byte_below b (inl h) = letter_below b h
word_byte_below b (inr e) = omega (arith, e)

sign_below : (b : ℕ) → is_operation_byte b ≡ true → b < 128
sign_below b h = grind (arith, nat_tests, h)

-- what no name goes on with
pub turned : (a b : ℕ) → nat_eq a b ≡ false → (b == a) ≡ false
turned a b h = go (b == a) (Decides-eqb b a)
  where
    go : (x : Bool) → Decides x (b ≡ a) → x ≡ false
    go true d = absurd (both_ways (nat_eq a b) h (eq-eqb a b (sym (d.0 refl))))
    go false d = refl

not_one : (bytes : List ℕ) (b : ℕ) → list_any (nat_eq b) bytes ≡ false → is_one_of bytes b ≡ false
not_one [] b h = refl
not_one (c ∷ bytes) b h =
    let k = or_parts (nat_eq b c) (list_any (nat_eq b) bytes) h in
    or_from (c == b) (is_one_of bytes b) (turned b c k.0) (not_one bytes b k.1)

no_letter : (b : ℕ) → is_name_byte b ≡ false → is_letter_or_digit b ≡ false
no_letter b h = (or_parts (is_ascii_alphanumeric b) (list_any (nat_eq b) (codes "_#%&*+-./<=>@\\^~{}")) h).0

no_line : (b : ℕ) → is_name_byte b ≡ false → is_low_line b ≡ false
no_line b h =
    (or_parts (nat_eq b 95) (list_any (nat_eq b) (codes "#%&*+-./<=>@\\^~{}"))
    (or_parts (is_ascii_alphanumeric b) (list_any (nat_eq b) (codes "_#%&*+-./<=>@\\^~{}")) h).1).0

no_sign : (b : ℕ) → is_name_byte b ≡ false → is_operation_byte b ≡ false
no_sign b h =
    not_one (codes "#%&*+-./<=>@\\^~{}") b
    (or_parts (nat_eq b 95) (list_any (nat_eq b) (codes "#%&*+-./<=>@\\^~{}"))
    (or_parts (is_ascii_alphanumeric b) (list_any (nat_eq b) (codes "_#%&*+-./<=>@\\^~{}")) h).1).1

-- how far a word goes
none_goes : (r : List ℕ) → Stops is_name_byte r → word_rest r ≡ 0
none_goes [] h = refl
none_goes (b ∷ r) h =
    ap (λ c. if c then 1 + word_rest r else 0)
    (or_from (is_letter_or_digit b) (is_low_line b && nat_lt 0 (word_rest r)) (no_letter b h)
    (ap (λ c. c && nat_lt 0 (word_rest r)) (no_line b h)))

one_more : (x y : Bool) (n : ℕ) → (x ≡ true) ⊎ ((y ≡ true) × (0 < n)) → (if x || (y && nat_lt 0 n) then 1 + n else 0) ≡ suc n
one_more true y n h = omega arith
one_more false true n (inl e) = absurd (cc)
one_more false true n (inr h) =
    let more : suc n ≡ 1 + n = omega arith in
    ap (λ c. if c then 1 + n else 0) (lt-ltb 0 n h.1) ∙ sym more
one_more false false n (inl e) = absurd (cc)
one_more false false n (inr h) = absurd (let e : false ≡ true = h.0 in cc)

-- a word, or what is left of one
abbrev EndsWell : List ℕ → Type 0
EndsWell [] = Unit {0}
EndsWell (b ∷ bs) = EndsInWord (b ∷ bs)

ends_behind : (b : ℕ) (w : List ℕ) → EndsInWord (b ∷ w) → EndsWell w
ends_behind b [] h = tt
ends_behind b (c ∷ w) h = h

goes_on : (b : ℕ) (w : List ℕ) → IsWordByte b → EndsInWord (b ∷ w) → (is_letter_or_digit b ≡ true) ⊎ ((is_low_line b ≡ true) × (0 < length w))
goes_on b w (inl h) ends = inl h
goes_on b [] (inr e) ends = inl ends
goes_on b (c ∷ w) (inr e) ends = inr (eq-eqb b 95 e, omega arith)

pub word_goes : (w r : List ℕ) → Each IsWordByte w → EndsWell w → Stops is_name_byte r → word_rest (w ++ r) ≡ length w
word_goes [] r bytes ends stop = none_goes r stop
word_goes (b ∷ w) r bytes ends stop =
    let rest : word_rest (w ++ r) ≡ length w = word_goes w r bytes.1 (ends_behind b w ends) stop in
    ap (λ n. if is_letter_or_digit b || (is_low_line b && nat_lt 0 n) then 1 + n else 0) rest
    ∙ one_more (is_letter_or_digit b) (is_low_line b) (length w) (goes_on b w bytes.0 ends)

pub word_goes_behind : (b : ℕ) (w r : List ℕ) → IsWord (b ∷ w) → Stops is_name_byte r → word_rest (w ++ r) ≡ length w
word_goes_behind b w r h stop = word_goes w r h.bytes.1 (ends_behind b w h.last) stop

pub word_told : (w : List ℕ) → IsWord w → utf8_lossy w ≡ w
word_told w h = told w (each_implied _ _ w word_byte_below h.bytes)

-- what isn't in a table of spellings
unmarked : (word : List ℕ) (table : List (List ℕ × Mark)) →
    (IsOneOf (map to_ascii_lowercase word) (map (λ e. map to_ascii_lowercase e.0) table) → ⊥) → find_mark word table ≡ None
unmarked word [] h = refl
unmarked word (e ∷ es) h =
    go (is_same_word word e.0) (bytes_eq-Decides (map to_ascii_lowercase word) (map to_ascii_lowercase e.0))
    (unmarked word es (λ k. h (inr k)))
  where
    go : (x : Bool) → Decides x (map to_ascii_lowercase word ≡ map to_ascii_lowercase e.0) → find_mark word es ≡ None →
        (if x then Some e.1 else find_mark word es) ≡ None
    go true d rest = absurd (h (inl (d.0 refl)))
    go false d rest = rest

reserved : map (λ (e : List ℕ × Mark). map to_ascii_lowercase e.0) reserved_words ≡ names.reserved_words
reserved = refl

pub no_keyword : (w : List ℕ) → IsWord w → keyword_of w ≡ None
no_keyword w h = unmarked w reserved_words (λ k. h.free (subst (IsOneOf (map to_ascii_lowercase w)) reserved k))

-- operation strings
one_of_so : (bytes : List ℕ) (b : ℕ) → IsOneOf b bytes → is_one_of bytes b ≡ true
one_of_so [] b h = absurd h
one_of_so (c ∷ bytes) b (inl e) = ap (λ x. x || is_one_of bytes b) (eq-eqb c b (sym e))
one_of_so (c ∷ bytes) b (inr h) = go (c == b) (one_of_so bytes b h)
  where
    go : (x : Bool) → is_one_of bytes b ≡ true → (x || is_one_of bytes b) ≡ true
    go true rest = refl
    go false rest = rest

abbrev pub AreSigns : List ℕ → Type 0
AreSigns w = Each (λ b. is_operation_byte b ≡ true) w

signs : (w : List ℕ) → IsOperationString w → AreSigns w
signs w h = each_implied _ _ w (one_of_so (codes "#%&*+-./<=>@\\^~{}")) h.bytes

all_signs : (w : List ℕ) → AreSigns w → list_all is_operation_byte w ≡ true
all_signs [] h = refl
all_signs (b ∷ w) h = ap (λ x. x && list_all is_operation_byte w) h.0 ∙ all_signs w h.1

lower_sign : (b : ℕ) → is_operation_byte b ≡ true → to_ascii_lowercase b ≡ b
lower_sign b h = grind (arith, nat_tests, h)

lower_signs : (w : List ℕ) → AreSigns w → map to_ascii_lowercase w ≡ w
lower_signs [] h = refl
lower_signs (b ∷ w) h = ap (λ c. c ∷ map to_ascii_lowercase w) (lower_sign b h.0) ∙ ap (λ z. b ∷ z) (lower_signs w h.1)

-- the symbols that are spelled like operation strings
abbrev own_strings : List (List ℕ)
own_strings = codes "=" ∷ codes "=>" ∷ codes "->" ∷ codes ">>" ∷ []

abbrev is_own : List ℕ → Bool
is_own w = not (list_all is_operation_byte w) || list_any (bytes_eq w) own_strings

one_of_these : (w : List ℕ) (xs : List (List ℕ)) → list_any (bytes_eq w) xs ≡ true → IsOneOf w xs
one_of_these w [] h = absurd (both_ways true (sym h) refl)
one_of_these w (x ∷ xs) h = go (bytes_eq w x) (bytes_eq-Decides w x) h (one_of_these w xs)
  where
    go : (c : Bool) → Decides c (w ≡ x) → (c || list_any (bytes_eq w) xs) ≡ true → (list_any (bytes_eq w) xs ≡ true → IsOneOf w xs) →
        IsOneOf w (x ∷ xs)
    go true d h rest = inl (d.0 refl)
    go false d h rest = inr (rest h)

own_sign : (x : Bool) (w : List ℕ) → (not x || list_any (bytes_eq w) own_strings) ≡ true → x ≡ true → IsOneOf w own_strings
own_sign true w h e = one_of_these w own_strings h
own_sign false w h e = absurd (cc)

own_there : (w : List ℕ) (xs : List (List ℕ)) → list_all is_own xs ≡ true → IsOneOf w xs → list_all is_operation_byte w ≡ true →
    IsOneOf w own_strings
own_there w [] h i all = absurd i
own_there w (x ∷ xs) h (inl e) all =
    own_sign (list_all is_operation_byte w) w (subst (λ z. is_own z ≡ true) (sym e) (and_parts (is_own x) (list_all is_own xs) h).0) all
own_there w (x ∷ xs) h (inr i) all = own_there w xs (and_parts (is_own x) (list_all is_own xs) h).1 i all

checked : list_all is_own (map (λ (e : List ℕ × Mark). map to_ascii_lowercase e.0) symbol_spellings) ≡ true
checked = refl

pub no_symbol : (w : List ℕ) → IsOperationString w → symbol_of w ≡ None
no_symbol w h =
    unmarked w symbol_spellings
    (λ k. h.free (own_there w (map (λ (e : List ℕ × Mark). map to_ascii_lowercase e.0) symbol_spellings) checked
    (subst (λ z. IsOneOf z (map (λ (e : List ℕ × Mark). map to_ascii_lowercase e.0) symbol_spellings)) (lower_signs w (signs w h)) k)
    (all_signs w (signs w h))))

no_signs : (r : List ℕ) → Stops is_name_byte r → prefix_len is_operation_byte r ≡ 0
no_signs [] h = refl
no_signs (b ∷ r) h = ap (λ c. cond c (1 + prefix_len is_operation_byte r) 0) (no_sign b h)

signs_go : (w r : List ℕ) → AreSigns w → Stops is_name_byte r → prefix_len is_operation_byte (w ++ r) ≡ length w
signs_go [] r h stop = no_signs r stop
signs_go (b ∷ w) r h stop =
    let more : 1 + length w ≡ suc (length w) = omega arith in
    ap (λ c. cond c (1 + prefix_len is_operation_byte (w ++ r)) 0) h.0 ∙ ap (λ n. 1 + n) (signs_go w r h.1 stop) ∙ more

pub string_goes : (w r : List ℕ) → IsOperationString w → Stops is_name_byte r → prefix_len is_operation_byte (w ++ r) ≡ length w
string_goes w r h stop = signs_go w r (signs w h) stop

pub string_told : (w : List ℕ) → IsOperationString w → utf8_lossy w ≡ w
string_told w h = told w (each_implied _ _ w sign_below (signs w h))

pub first_sign : (b : ℕ) (w : List ℕ) → IsOperationString (b ∷ w) → is_operation_byte b ≡ true
first_sign b w h = (signs (b ∷ w) h).0
