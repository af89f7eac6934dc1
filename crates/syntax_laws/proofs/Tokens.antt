-- The tokens of a text.
use Rattle.std.proofs.Common.{ℕ, ◌≡◌, ◌∙◌, ◌<◌, ◌+◌, inl, inr, refl, sym, ap, subst, List, [], ◌∷◌, length, take, Bool, true, false, not, cond, Option, Some, None, is_some, arith}
use Rattle.std.specs.Prelude.{codes}
use Rattle.std.specs.Char.{is_ascii_digit}
use Rattle.std.specs.List.{prefix_len}
use Rattle.std.specs.Str.Lossy.{utf8_lossy}
use Rattle.lotos_ast.specs.declared.place.Place.{Place}
use Rattle.lotos_ast.specs.declared.token.Token.{Token}
use Rattle.lotos_ast.specs.declared.token.TokenKind.{TokenKind}
use Rattle.lotos_ast.specs.declared.token.TokenKind.TheVariants.{Keyword, Identifier, Numeral, Operation, Symbol, ConstructorMark, ExternalMark}
use Rattle.lotos_ast.specs.Bytes.{is_blank, is_letter_or_digit, is_operation_byte}
use Rattle.lotos_ast.specs.Marks.{keyword_of, symbol_of}
use Rattle.lotos_ast.specs.Pieces.{gap, spelling, begins, comment_length, has_word, comment_mark, marked, comment_piece, word_rest, word_kind, operation_kind, symbols_where, first_length, symbol_piece, word_piece, operation_piece, first_piece}
use Rattle.lotos_ast.specs.Tokenizes.{IsSpelled, ends, parted, spelled}
use Rattle.spec_core.specs.Lists.{Each, IsOneOf}
use Rattle.spec_core.proofs.Lists.{each_implied}
use Rattle.syntax_laws.specs.NameLaws.{TokensAreNamed}
use Rattle.syntax_laws.specs.Tokens.{IsNameOf, IsTokenNamed}
use Rattle.syntax_laws.proofs.Bytes.{front-taken, passing-front, one-of-bytes, ascii-told, word-byte-below, among-below, letter-of}
use Rattle.syntax_laws.proofs.Words.{is-word, rest-bytes}

same-kind : (k j : TokenKind) (n m : ℕ) → spelling k n ≡ spelling j m → k ≡ j
same-kind k j n m e = cc

same-length : (k j : TokenKind) (n m : ℕ) → spelling k n ≡ spelling j m → n ≡ m
same-length k j n m e = cc

-- what a piece that spells a token has, with the front of the text that it takes
abbrev Names : List ℕ → TokenKind → ℕ → Type 0
Names s kind n = IsNameOf kind (utf8_lossy (take n s))

-- comments name nothing

no-name : (o : Option TokenKind) (s : List ℕ) (kind : TokenKind) (m n : ℕ) → ((k : TokenKind) → o ≡ Some k → (text : List ℕ) → IsNameOf k text) → marked o m ≡ spelling kind n → Names s kind n
no-name None s kind m n h e = absurd (cc)
no-name (Some k) s kind m n h e = subst (λ j. IsNameOf j (utf8_lossy (take n s))) (same-kind k kind m n e) (h k refl (utf8_lossy (take n s)))

marks-name-nothing : (comment : List ℕ) (k : TokenKind) → comment_mark comment ≡ Some k → (text : List ℕ) → IsNameOf k text
marks-name-nothing comment k e text = by-pragma (not (begins (codes "(*!") comment)) e
  where
    two : (k : TokenKind) → Some k ≡ Some ConstructorMark → IsNameOf k text
    two k q = subst (λ j. IsNameOf j text) (one ConstructorMark k (sym q)) tt
      where
        one : (a b : TokenKind) → Some a ≡ Some b → a ≡ b
        one a b q = cc

    by-constructor : (x : Bool) → cond x (Some ConstructorMark) None ≡ Some k → IsNameOf k text
    by-constructor true q = two k (sym q)
    by-constructor false q = absurd (cc)

    external : (k : TokenKind) → Some k ≡ Some ExternalMark → IsNameOf k text
    external k q = subst (λ j. IsNameOf j text) (one ExternalMark k (sym q)) tt
      where
        one : (a b : TokenKind) → Some a ≡ Some b → a ≡ b
        one a b q = cc

    by-external : (x : Bool) → cond x (Some ExternalMark) (cond (has_word (codes "constructor") comment) (Some ConstructorMark) None) ≡ Some k → IsNameOf k text
    by-external true q = external k (sym q)
    by-external false q = by-constructor (has_word (codes "constructor") comment) q

    by-pragma : (x : Bool) → cond x None (cond (has_word (codes "external") comment) (Some ExternalMark) (cond (has_word (codes "constructor") comment) (Some ConstructorMark) None)) ≡ Some k → IsNameOf k text
    by-pragma true q = absurd (cc)
    by-pragma false q = by-external (has_word (codes "external") comment) q

of-comment : (s : List ℕ) (o : Option ℕ) (kind : TokenKind) (n : ℕ) → comment_piece s o ≡ spelling kind n → Names s kind n
of-comment s None kind n e = absurd (cc)
of-comment s (Some m) kind n e = no-name (comment_mark (take m s)) s kind m n (marks-name-nothing (take m s)) e

-- words

word-named : (b : ℕ) (s : List ℕ) → is_letter_or_digit b ≡ true → IsNameOf (word_kind b (b ∷ take (word_rest s) s)) (b ∷ take (word_rest s) s)
word-named b s h = by-keyword (is_some (keyword_of (b ∷ take (word_rest s) s))) refl
  where
    by-digit : (y : Bool) → is_ascii_digit b ≡ y → is_some (keyword_of (b ∷ take (word_rest s) s)) ≡ false → IsNameOf (cond y Numeral Identifier) (b ∷ take (word_rest s) s)
    by-digit true d e = is-word b s h e
    by-digit false d e = record { word = is-word b s h e; letter = letter-of b h d }

    by-keyword : (x : Bool) → is_some (keyword_of (b ∷ take (word_rest s) s)) ≡ x → IsNameOf (cond x Keyword (cond (is_ascii_digit b) Numeral Identifier)) (b ∷ take (word_rest s) s)
    by-keyword true e = tt
    by-keyword false e = by-digit (is_ascii_digit b) refl e

of-word : (b : ℕ) (s : List ℕ) (kind : TokenKind) (n : ℕ) → is_letter_or_digit b ≡ true → word_piece b (b ∷ s) (1 + word_rest s) ≡ spelling kind n → Names (b ∷ s) kind n
of-word b s kind n h e =
    let many : 1 + word_rest s ≡ n = same-length (word_kind b (take (1 + word_rest s) (b ∷ s))) kind (1 + word_rest s) n e in
    let class : word_kind b (b ∷ take (word_rest s) s) ≡ kind = ap (word_kind b) (sym (front-taken (word_rest s) b s)) ∙ same-kind (word_kind b (take (1 + word_rest s) (b ∷ s))) kind (1 + word_rest s) n e in
    let text : take n (b ∷ s) ≡ b ∷ take (word_rest s) s = ap (λ k. take k (b ∷ s)) (sym many) ∙ front-taken (word_rest s) b s in
    subst (λ k. Names (b ∷ s) k n) class
    (subst (λ zs. IsNameOf (word_kind b (b ∷ take (word_rest s) s)) (utf8_lossy zs)) (sym text)
    (subst (λ zs. IsNameOf (word_kind b (b ∷ take (word_rest s) s)) zs) (sym (ascii-told (b ∷ take (word_rest s) s) (each_implied _ _ (b ∷ take (word_rest s) s) word-byte-below (inl h, rest-bytes s)))) (word-named b s h)))

-- operation strings

string-byte : (b : ℕ) → is_operation_byte b ≡ true → IsOneOf b (codes "#%&*+-./<=>@\\^~{}")
string-byte b e = one-of-bytes (codes "#%&*+-./<=>@\\^~{}") b e

own-symbol : (run : List ℕ) → IsOneOf run (codes "=" ∷ codes "=>" ∷ codes "->" ∷ codes ">>" ∷ []) → is_some (symbol_of run) ≡ true
own-symbol run (inl e) = subst (λ z. is_some (symbol_of z) ≡ true) (sym e) refl
own-symbol run (inr (inl e)) = subst (λ z. is_some (symbol_of z) ≡ true) (sym e) refl
own-symbol run (inr (inr (inl e))) = subst (λ z. is_some (symbol_of z) ≡ true) (sym e) refl
own-symbol run (inr (inr (inr (inl e)))) = subst (λ z. is_some (symbol_of z) ≡ true) (sym e) refl
own-symbol run (inr (inr (inr (inr e)))) = absurd e

string-named : (run : List ℕ) → Each (λ b. IsOneOf b (codes "#%&*+-./<=>@\\^~{}")) run → 0 < length run → IsNameOf (operation_kind run) run
string-named run bytes some = by-symbol (is_some (symbol_of run)) refl
  where
    differ : true ≡ false → ⊥
    differ z = cc

    by-symbol : (x : Bool) → is_some (symbol_of run) ≡ x → IsNameOf (cond x Symbol Operation) run
    by-symbol true e = tt
    by-symbol false e = record { bytes = bytes; some = some; free = λ h. differ (sym (own-symbol run h) ∙ e) }

of-operation : (b : ℕ) (s : List ℕ) (kind : TokenKind) (n : ℕ) → is_operation_byte b ≡ true → operation_piece (b ∷ s) (prefix_len is_operation_byte (b ∷ s)) ≡ spelling kind n → Names (b ∷ s) kind n
of-operation b s kind n h e =
    let m = prefix_len is_operation_byte (b ∷ s) in
    let run = take m (b ∷ s) in
    let bytes : Each (λ c. IsOneOf c (codes "#%&*+-./<=>@\\^~{}")) run = passing-front is_operation_byte string-byte (b ∷ s) in
    subst (λ k. Names (b ∷ s) k n) (same-kind (operation_kind run) kind m n e)
    (subst (λ k. IsNameOf (operation_kind run) (utf8_lossy (take k (b ∷ s)))) (same-length (operation_kind run) kind m n e)
    (subst (λ zs. IsNameOf (operation_kind run) zs) (sym (ascii-told run (each_implied _ _ run (λ c i. among-below (codes "#%&*+-./<=>@\\^~{}") c refl i) bytes))) (string-named run bytes some)))
  where
    by-test : (x : Bool) → is_operation_byte b ≡ x → x ≡ true → 0 < length (take (cond x (1 + prefix_len is_operation_byte s) 0) (b ∷ s))
    by-test true e q = subst (λ (zs : List ℕ). 0 < length zs) (sym (front-taken (prefix_len is_operation_byte s) b s)) (omega arith)
    by-test false e q = absurd (cc)

    some : 0 < length (take (prefix_len is_operation_byte (b ∷ s)) (b ∷ s))
    some = by-test (is_operation_byte b) refl h

of-symbol : (b : ℕ) (s : List ℕ) (o : Option ℕ) (kind : TokenKind) (n : ℕ) → symbol_piece b o ≡ spelling kind n → Names s kind n
of-symbol b s None kind n e = absurd (cc)
of-symbol b s (Some m) kind n e = subst (λ k. Names s k n) (same-kind Symbol kind m n e) tt

-- a token at the front of a text
piece-named : (opened : Bool) (s : List ℕ) (kind : TokenKind) (n : ℕ) → first_piece opened s ≡ spelling kind n → Names s kind n
piece-named opened [] kind n e = absurd (cc)
piece-named opened (b ∷ s) kind n e = by-blank (is_blank b) e
  where
    by-operation : (x : Bool) → is_operation_byte b ≡ x → cond x (operation_piece (b ∷ s) (prefix_len is_operation_byte (b ∷ s))) (symbol_piece b (first_length (b ∷ s) (symbols_where opened))) ≡ spelling kind n → Names (b ∷ s) kind n
    by-operation true h q = of-operation b s kind n h q
    by-operation false h q = of-symbol b (b ∷ s) (first_length (b ∷ s) (symbols_where opened)) kind n q

    by-word : (x : Bool) → is_letter_or_digit b ≡ x →
        cond x (word_piece b (b ∷ s) (1 + word_rest s)) (cond (is_operation_byte b) (operation_piece (b ∷ s) (prefix_len is_operation_byte (b ∷ s))) (symbol_piece b (first_length (b ∷ s) (symbols_where opened)))) ≡ spelling kind n → Names (b ∷ s) kind n
    by-word true h q = of-word b s kind n h q
    by-word false h q = by-operation (is_operation_byte b) refl q

    by-comment : (x : Bool) →
        cond x (comment_piece (b ∷ s) (comment_length (b ∷ s))) (cond (is_letter_or_digit b) (word_piece b (b ∷ s) (1 + word_rest s))
        (cond (is_operation_byte b) (operation_piece (b ∷ s) (prefix_len is_operation_byte (b ∷ s))) (symbol_piece b (first_length (b ∷ s) (symbols_where opened))))) ≡ spelling kind n → Names (b ∷ s) kind n
    by-comment true q = of-comment (b ∷ s) (comment_length (b ∷ s)) kind n q
    by-comment false q = by-word (is_letter_or_digit b) refl q

    by-blank : (x : Bool) →
        cond x (gap 1) (cond (begins (codes "(*") (b ∷ s)) (comment_piece (b ∷ s) (comment_length (b ∷ s))) (cond (is_letter_or_digit b) (word_piece b (b ∷ s) (1 + word_rest s))
        (cond (is_operation_byte b) (operation_piece (b ∷ s) (prefix_len is_operation_byte (b ∷ s))) (symbol_piece b (first_length (b ∷ s) (symbols_where opened)))))) ≡ spelling kind n → Names (b ∷ s) kind n
    by-blank true q = absurd (cc)
    by-blank false q = by-comment (begins (codes "(*") (b ∷ s)) q

all-named : {opened : Bool} {p : Place} {s : List ℕ} {ts : List Token} → IsSpelled opened p s ts → Each IsTokenNamed ts
all-named ends = tt
all-named (parted n e h) = all-named h
all-named {opened = opened} {s = s} (spelled kind n e h) = (piece-named opened s kind n e, all-named h)

pub tokens_are_named : TokensAreNamed
tokens_are_named text tokens h = all-named h
