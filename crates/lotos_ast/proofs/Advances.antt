-- What stands at the front of a text that isn't empty has at least one byte.
use Rattle.std.proofs.Common.{ℕ, ◌+◌, ◌<◌, ◌≡◌, List, [], ◌∷◌, Bool, true, false, if◌then◌else◌, Option, Some, None, option_map, length, take, drop, codes, refl, subst, arith}
use Rattle.std.specs.List.{list_all, prefix_len}
use Rattle.lotos_ast.specs.declared.token.TokenKind.{TokenKind}
use Rattle.lotos_ast.specs.Bytes.{is_blank, is_letter_or_digit, is_operation_byte}
use Rattle.lotos_ast.specs.Pieces.{Piece, nothing, gap, spelling, stray, unclosed, begins, comment_rest, comment_mark, comment_length, comment_piece, marked, word_rest, word_piece, operation_piece, symbol_piece, symbols_where, first_length, first_piece}

abbrev pub Advances : Piece → Type 0
Advances nothing = ⊥
Advances (gap n) = 0 < n
Advances (spelling kind n) = 0 < n
Advances (stray b) = Unit {0}
Advances unclosed = Unit {0}

choice : (b : Bool) (x y : Piece) → (b ≡ true → Advances x) → (b ≡ false → Advances y) → Advances (if b then x else y)
choice true x y h k = h refl
choice false x y h k = k refl

marked_advances : (mark : Option TokenKind) (n : ℕ) → 0 < n → Advances (marked mark n)
marked_advances None n h = h
marked_advances (Some kind) n h = h

comment_advances : (s : List ℕ) (rest : Option ℕ) → Advances (comment_piece s (option_map (λ n. 2 + n) rest))
comment_advances s None = tt
comment_advances s (Some n) = marked_advances (comment_mark (take (2 + n) s)) (2 + n) (omega arith)

run_advances : (test : ℕ → Bool) (b : ℕ) (s : List ℕ) → test b ≡ true → 0 < prefix_len test (b ∷ s)
run_advances test b s e = rw e (omega arith)

abbrev nonempty : List ℕ → Bool
nonempty [] = false
nonempty (c ∷ w) = true

symbol_advances : (b : ℕ) (s : List ℕ) (ws : List (List ℕ)) → list_all nonempty ws ≡ true → Advances (symbol_piece b (first_length s ws))
symbol_advances b s [] h = tt
symbol_advances b s ([] ∷ ws) h = cc
symbol_advances b s ((c ∷ w) ∷ ws) h =
    elim (begins (c ∷ w) s) as (λ t. Advances (symbol_piece b (if t then Some (length (c ∷ w)) else first_length s ws))) [
      | true ↦ omega arith
      | false ↦ symbol_advances b s ws h
    ]

all_nonempty : (opened : Bool) → list_all nonempty (symbols_where opened) ≡ true
all_nonempty true = refl
all_nonempty false = refl

pub advances : (opened : Bool) (b : ℕ) (s : List ℕ) → Advances (first_piece opened (b ∷ s))
advances opened b s =
    let text = b ∷ s in
    let symbol = symbol_piece b (first_length text (symbols_where opened)) in
    let operation = operation_piece text (prefix_len is_operation_byte text) in
    let word = word_piece b text (1 + word_rest s) in
    let comment = comment_piece text (comment_length text) in
    let not_word = if is_operation_byte b then operation else symbol in
    let not_comment = if is_letter_or_digit b then word else not_word in
    let not_blank = if begins (codes "(*") text then comment else not_comment in
    let one : 0 < 1 = omega arith in
    let word_length : 0 < 1 + word_rest s = omega arith in
    choice (is_blank b) (gap 1) not_blank (λ e. one) (λ e.
    choice (begins (codes "(*") text) comment not_comment (λ f. comment_advances text (comment_rest (drop 2 text))) (λ f.
    choice (is_letter_or_digit b) word not_word (λ g. word_length) (λ g.
    choice (is_operation_byte b) operation symbol (λ h. run_advances is_operation_byte b s h) (λ h.
    symbol_advances b text (symbols_where opened) (all_nonempty opened)))))

-- nothing stands at the front of the empty text alone
pub nothing_left : (opened : Bool) (s : List ℕ) → first_piece opened s ≡ nothing → s ≡ []
nothing_left opened [] e = refl
nothing_left opened (b ∷ s) e = absurd (subst Advances e (advances opened b s))
