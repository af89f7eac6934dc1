-- What stands at the front of a text: names, marks of punctuation, gaps.
use Rattle.std.proofs.Common.{ℕ, suc, ◌≡◌, ◌∙◌, ◌+◌, ◌⊎◌, inl, inr, refl, sym, ap, subst, List, [], ◌∷◌, ◌++◌, length, take, drop, arith}
use Rattle.std.proofs.Common.{Bool, true, false, ◌||◌, ◌&&◌, nat_eq, ◌==◌, is_some, codes, if◌then◌else◌}
use Rattle.std.specs.Char.{is_ascii_digit, is_ascii_alphabetic}
use Rattle.std.specs.List.{list_any, prefix_len}
use Rattle.std.specs.Str.Lossy.{utf8_lossy}
use Rattle.std.proofs.lemmas.Bool.Decides.{nat_tests}
use Rattle.std.proofs.Math.Seq.{take-append_seam, drop-append_seam}
use Rattle.std.proofs.lemmas.Bool.{both_ways}
use Rattle.lotos_ast.specs.declared.mark.Mark.{Mark}
use Rattle.lotos_ast.specs.declared.place.Place.{Place}
use Rattle.lotos_ast.specs.declared.token.Token.{Token}
use Rattle.lotos_ast.specs.declared.token.TokenKind.{TokenKind}
use Rattle.lotos_ast.specs.declared.token.TokenKind.TheVariants.{Keyword, Identifier, Numeral, Operation, Symbol}
use Rattle.lotos_ast.specs.Bytes.{is_blank, is_letter_or_digit, is_operation_byte}
use Rattle.lotos_ast.specs.Pieces.{gap, spelling, begins, comment_piece, comment_length, word_rest, word_kind, operation_kind, word_piece, operation_piece, symbol_piece, first_length, symbols_where, first_piece}
use Rattle.lotos_ast.specs.Places.{place_after}
use Rattle.lotos_ast.specs.TokenMarks.{mark_of}
use Rattle.lotos_ast.specs.Tokenizes.{IsSpelled, parted, spelled, open_after}
use Rattle.spec_core.specs.Names.{IsWord, IsIdentifier, IsOperationString, IsPlainName}
use Rattle.spec_core.specs.TermText.{gap_before}
use Rattle.value_text.specs.Bytes.{is_name_byte}
use Rattle.value_text.proofs.Runs.{Stops}
use Rattle.script_laws.proofs.Bytes.{other_than, word_goes_behind, word_told, no_keyword, no_symbol, string_goes, string_told, first_sign, told}

-- a token with this class and this text
abbrev pub token : TokenKind → Place → List ℕ → Token
token kind p w = record { kind = kind; place = p; text = w }

not_opened : (w : List ℕ) → begins (codes "|[") w ≡ false → open_after false w ≡ false
not_opened w h = ap (λ c. if c then true else if begins (codes "]") w then false else false) h ∙ either (begins (codes "]") w)
  where
    either : (c : Bool) → (if c then false else false) ≡ false
    either true = refl
    either false = refl

-- the tokens of a text that begins with the spelling of one
pub token_front : (kind : TokenKind) (p : Place) (w r : List ℕ) (ts : List Token) → first_piece false (w ++ r) ≡ spelling kind (length w) →
    begins (codes "|[") w ≡ false → utf8_lossy w ≡ w → IsSpelled false (place_after p w) r ts →
    IsSpelled false p (w ++ r) (token kind p w ∷ ts)
token_front kind p w r ts piece plain told h =
    let t : take (length w) (w ++ r) ≡ w = take-append_seam w r in
    let d : drop (length w) (w ++ r) ≡ r = drop-append_seam w r in
    let behind : IsSpelled (open_after false (take (length w) (w ++ r))) (place_after p (take (length w) (w ++ r))) (drop (length w) (w ++ r)) ts =
    subst (λ z. IsSpelled (open_after false z) (place_after p z) (drop (length w) (w ++ r)) ts) (sym t)
    (subst (λ z. IsSpelled (open_after false w) (place_after p w) z ts) (sym d)
    (subst (λ z. IsSpelled z (place_after p w) r ts) (sym (not_opened w plain)) h)) in
    subst (λ z. IsSpelled false p (w ++ r) (token kind p z ∷ ts)) (ap utf8_lossy t ∙ told) (spelled kind (length w) piece behind)

-- the first byte of a name
not_blank : (p : ℕ → Bool) (b : ℕ) → list_any p (32 ∷ 9 ∷ 10 ∷ 13 ∷ []) ≡ false → p b ≡ true → is_blank b ≡ false
not_blank p b none h = other_than p (32 ∷ 9 ∷ 10 ∷ 13 ∷ []) b none h

single : (x : Bool) → (x || false) ≡ false → x ≡ false
single true h = absurd (cc)
single false h = refl

no_begin : (p : ℕ → Bool) (a c b : ℕ) (s : List ℕ) → p a ≡ false → p b ≡ true → begins (a ∷ c ∷ []) (b ∷ s) ≡ false
no_begin p a c b s none h =
    ap (λ x. x && begins (c ∷ []) s) (single (nat_eq a b) (other_than p (a ∷ []) b (ap (λ x. x || false) none) h))

word_front : (b : ℕ) (s : List ℕ) → is_letter_or_digit b ≡ true → first_piece false (b ∷ s) ≡ word_piece b (b ∷ s) (1 + word_rest s)
word_front b s h =
    ap (λ x. if x then gap 1
    else if begins (codes "(*") (b ∷ s) then comment_piece (b ∷ s) (comment_length (b ∷ s))
    else if is_letter_or_digit b then word_piece b (b ∷ s) (1 + word_rest s)
    else if is_operation_byte b then operation_piece (b ∷ s) (prefix_len is_operation_byte (b ∷ s))
    else symbol_piece b (first_length (b ∷ s) (symbols_where false))) (not_blank is_letter_or_digit b refl h)
    ∙ ap (λ x. if x then comment_piece (b ∷ s) (comment_length (b ∷ s))
    else if is_letter_or_digit b then word_piece b (b ∷ s) (1 + word_rest s)
    else if is_operation_byte b then operation_piece (b ∷ s) (prefix_len is_operation_byte (b ∷ s))
    else symbol_piece b (first_length (b ∷ s) (symbols_where false))) (no_begin is_letter_or_digit 40 42 b s refl h)
    ∙ ap (λ x. if x then word_piece b (b ∷ s) (1 + word_rest s)
    else if is_operation_byte b then operation_piece (b ∷ s) (prefix_len is_operation_byte (b ∷ s))
    else symbol_piece b (first_length (b ∷ s) (symbols_where false))) h

sign_front : (b : ℕ) (s : List ℕ) → is_operation_byte b ≡ true →
    first_piece false (b ∷ s) ≡ operation_piece (b ∷ s) (prefix_len is_operation_byte (b ∷ s))
sign_front b s h =
    ap (λ x. if x then gap 1
    else if begins (codes "(*") (b ∷ s) then comment_piece (b ∷ s) (comment_length (b ∷ s))
    else if is_letter_or_digit b then word_piece b (b ∷ s) (1 + word_rest s)
    else if is_operation_byte b then operation_piece (b ∷ s) (prefix_len is_operation_byte (b ∷ s))
    else symbol_piece b (first_length (b ∷ s) (symbols_where false))) (not_blank is_operation_byte b refl h)
    ∙ ap (λ x. if x then comment_piece (b ∷ s) (comment_length (b ∷ s))
    else if is_letter_or_digit b then word_piece b (b ∷ s) (1 + word_rest s)
    else if is_operation_byte b then operation_piece (b ∷ s) (prefix_len is_operation_byte (b ∷ s))
    else symbol_piece b (first_length (b ∷ s) (symbols_where false))) (no_begin is_operation_byte 40 42 b s refl h)
    ∙ ap (λ x. if x then word_piece b (b ∷ s) (1 + word_rest s)
    else if is_operation_byte b then operation_piece (b ∷ s) (prefix_len is_operation_byte (b ∷ s))
    else symbol_piece b (first_length (b ∷ s) (symbols_where false))) (no_letter_sign b h)
    ∙ ap (λ x. if x then operation_piece (b ∷ s) (prefix_len is_operation_byte (b ∷ s))
    else symbol_piece b (first_length (b ∷ s) (symbols_where false))) h
  where
    no_letter_sign : (b : ℕ) → is_operation_byte b ≡ true → is_letter_or_digit b ≡ false
    no_letter_sign b h = go (is_letter_or_digit b) refl
      where
        go : (x : Bool) → is_letter_or_digit b ≡ x → x ≡ false
        go true e = absurd (both_ways (is_operation_byte b) (other_than is_letter_or_digit (codes "#%&*+-./<=>@\\^~{}") b refl e) h)
        go false e = refl

-- the marks of names
abbrev pub IsNameMark : Mark → Type 0
IsNameMark m = (m ≡ Mark.Identifier) ⊎ (m ≡ Mark.Numeral) ⊎ (m ≡ Mark.Operation)

-- a token that this name spells, and the text that begins with it
pub record NameFront (p : Place) (w r : List ℕ) (ts : List Token) : Type 0 where
  pub kind : TokenKind
  pub mark : IsNameMark (mark_of (token kind p w))
  pub cut : IsSpelled false p (w ++ r) (token kind p w ∷ ts)

word_front_kind : (b : ℕ) (w : List ℕ) → IsWord (b ∷ w) → word_kind b (b ∷ w) ≡ (if is_ascii_digit b then Numeral else Identifier)
word_front_kind b w h =
    ap (λ o. if is_some o then Keyword else if is_ascii_digit b then Numeral else Identifier) (no_keyword (b ∷ w) h)

word_token : (p : Place) (b : ℕ) (w r : List ℕ) (ts : List Token) → IsWord (b ∷ w) → Stops is_name_byte r →
    IsSpelled false (place_after p (b ∷ w)) r ts →
    IsSpelled false p ((b ∷ w) ++ r) (token (if is_ascii_digit b then Numeral else Identifier) p (b ∷ w) ∷ ts)
word_token p b w r ts h stop rest =
    let long : 1 + word_rest (w ++ r) ≡ length (b ∷ w) = ap (λ n. 1 + n) (word_goes_behind b w r h stop) ∙ one (length w) in
    token_front (if is_ascii_digit b then Numeral else Identifier) p (b ∷ w) r ts
    (word_front b (w ++ r) h.first
    ∙ ap (word_piece b ((b ∷ w) ++ r)) long
    ∙ ap (λ z. spelling (word_kind b z) (length (b ∷ w))) (take-append_seam (b ∷ w) r)
    ∙ ap (λ k. spelling k (length (b ∷ w))) (word_front_kind b w h))
    (no_begin is_letter_or_digit 124 91 b w refl h.first) (word_told (b ∷ w) h) rest
  where
    one : (n : ℕ) → 1 + n ≡ suc n
    one n = omega arith

string_token : (p : Place) (b : ℕ) (w r : List ℕ) (ts : List Token) → IsOperationString (b ∷ w) → Stops is_name_byte r →
    IsSpelled false (place_after p (b ∷ w)) r ts → IsSpelled false p ((b ∷ w) ++ r) (token Operation p (b ∷ w) ∷ ts)
string_token p b w r ts h stop rest =
    token_front Operation p (b ∷ w) r ts
    (sign_front b (w ++ r) (first_sign b w h)
    ∙ ap (operation_piece ((b ∷ w) ++ r)) (string_goes (b ∷ w) r h stop)
    ∙ ap (λ z. spelling (operation_kind z) (length (b ∷ w))) (take-append_seam (b ∷ w) r)
    ∙ ap (λ o. spelling (if is_some o then Symbol else Operation) (length (b ∷ w))) (no_symbol (b ∷ w) h))
    (no_begin is_operation_byte 124 91 b w refl (first_sign b w h)) (string_told (b ∷ w) h) rest

pub name_front : (p : Place) (w r : List ℕ) (ts : List Token) → IsPlainName w → Stops is_name_byte r →
    IsSpelled false (place_after p w) r ts → NameFront p w r ts
name_front p [] r ts (inl h) stop rest = absurd h.first
name_front p [] r ts (inr h) stop rest = absurd (let k = h.some in omega (arith, k))
name_front p (b ∷ w) r ts (inl h) stop rest =
    go (is_ascii_digit b) (word_token p b w r ts h stop rest)
  where
    go : (x : Bool) → IsSpelled false p ((b ∷ w) ++ r) (token (if x then Numeral else Identifier) p (b ∷ w) ∷ ts) → NameFront p (b ∷ w) r ts
    go true cut = record { kind = Numeral; mark = inr (inl refl); cut = cut }
    go false cut = record { kind = Identifier; mark = inl refl; cut = cut }
name_front p (b ∷ w) r ts (inr h) stop rest =
    record { kind = Operation; mark = inr (inr refl); cut = string_token p b w r ts h stop rest }

-- an identifier
pub identifier_front : (p : Place) (w r : List ℕ) (ts : List Token) → IsIdentifier w → Stops is_name_byte r →
    IsSpelled false (place_after p w) r ts → IsSpelled false p (w ++ r) (token Identifier p w ∷ ts)
identifier_front p [] r ts h stop rest = absurd h.letter
identifier_front p (b ∷ w) r ts h stop rest =
    subst (λ x. IsSpelled false p ((b ∷ w) ++ r) (token (if x then Numeral else Identifier) p (b ∷ w) ∷ ts)) (no_digit b h.letter)
    (word_token p b w r ts h.word stop rest)
  where
    no_digit : (b : ℕ) → is_ascii_alphabetic b ≡ true → is_ascii_digit b ≡ false
    no_digit b h = grind (arith, nat_tests, h)

-- the bracket that opens, where no `*` follows
abbrev pub NoStar : List ℕ → Type 0
NoStar [] = Unit {0}
NoStar (b ∷ s) = nat_eq 42 b ≡ false

no_comment : (s : List ℕ) → NoStar s → begins (codes "(*") (40 ∷ s) ≡ false
no_comment [] h = refl
no_comment (b ∷ s) h = ap (λ x. x && true) h

pub opening_front : (p : Place) (s : List ℕ) (ts : List Token) → NoStar s → IsSpelled false (place_after p (codes "(")) s ts →
    IsSpelled false p (40 ∷ s) (token Symbol p (codes "(") ∷ ts)
opening_front p s ts h rest =
    token_front Symbol p (codes "(") s ts
    (ap (λ x. if x then comment_piece (40 ∷ s) (comment_length (40 ∷ s)) else spelling Symbol 1) (no_comment s h)) refl (told (codes "(") (omega arith, tt)) rest

pub closing_front : (p : Place) (s : List ℕ) (ts : List Token) → IsSpelled false (place_after p (codes ")")) s ts →
    IsSpelled false p (41 ∷ s) (token Symbol p (codes ")") ∷ ts)
closing_front p s ts rest = token_front Symbol p (codes ")") s ts refl refl (told (codes ")") (omega arith, tt)) rest

pub comma_front : (p : Place) (s : List ℕ) (ts : List Token) → IsSpelled false (place_after p (codes ",")) s ts →
    IsSpelled false p (44 ∷ s) (token Symbol p (codes ",") ∷ ts)
comma_front p s ts rest = token_front Symbol p (codes ",") s ts refl refl (told (codes ",") (omega arith, tt)) rest

pub blank_front : (p : Place) (s : List ℕ) (ts : List Token) → IsSpelled false (place_after p (codes " ")) s ts → IsSpelled false p (32 ∷ s) ts
blank_front p s ts rest = parted 1 refl rest

pub gap_front : (p : Place) (name s : List ℕ) (ts : List Token) → IsSpelled false (place_after p (gap_before name)) s ts →
    IsSpelled false p (gap_before name ++ s) ts
gap_front p [] s ts rest = rest
gap_front p (b ∷ name) s ts rest = go (b == 42) rest
  where
    go : (x : Bool) → IsSpelled false (place_after p (if x then codes " " else [])) s ts → IsSpelled false p ((if x then codes " " else []) ++ s) ts
    go true rest = blank_front p s ts rest
    go false rest = rest

-- the word `of` between two blanks
pub of_front : (p : Place) (s : List ℕ) (ts : List Token) → IsSpelled false (place_after p (codes " of ")) s ts →
    IsSpelled false p (codes " of " ++ s) (token Keyword (place_after p (codes " ")) (codes "of") ∷ ts)
of_front p s ts rest =
    blank_front p (codes "of " ++ s) (token Keyword (place_after p (codes " ")) (codes "of") ∷ ts)
    (token_front Keyword (place_after p (codes " ")) (codes "of") (32 ∷ s) ts refl refl (told (codes "of") (omega arith, (omega arith, tt)))
    (blank_front (place_after (place_after p (codes " ")) (codes "of")) s ts rest))
