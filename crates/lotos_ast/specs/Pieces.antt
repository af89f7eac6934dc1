-- What stands at the front of a text: the rules 1 to 5 for tokens of docs/LANGUAGE.md, in their order (ISO 8807's lexical tokens, with
-- this profile's choices). The first rule that fits makes the piece.
use Rattle.std.specs.Prelude.{ℕ, ◌+◌, nat_eq, nat_lt, List, [], ◌∷◌, take, drop, codes, Bool, true, false, ◌&&◌, ◌||◌}
use Rattle.std.specs.Prelude.{not, if◌then◌else◌, Option, Some, None, option_map, is_some, length}
use Rattle.std.specs.List.{list_any, prefix_len, starts_with}
use Rattle.std.specs.Char.{is_ascii_digit}
use Rattle.lotos_ast.specs.declared.token.TokenKind.{TokenKind}
use Rattle.lotos_ast.specs.declared.token.TokenKind.TheVariants.{Keyword, Identifier, Numeral, Operation, Symbol}
use Rattle.lotos_ast.specs.declared.token.TokenKind.TheVariants.{ConstructorMark, ExternalMark}
use Rattle.lotos_ast.specs.Bytes.{is_blank, is_letter_or_digit, is_low_line, is_word_byte, is_operation_byte}
use Rattle.lotos_ast.specs.Marks.{is_same_word, keyword_of, symbol_of}

-- A number is that of the piece's bytes.
pub data Piece : Type 0 where
  nothing : Piece  -- the text is empty
  gap : ℕ → Piece  -- what parts tokens
  spelling : TokenKind → ℕ → Piece  -- a token of this class
  stray : ℕ → Piece  -- a byte, here given, that begins no token
  unclosed : Piece  -- a comment that has no end

-- whether a text begins with these bytes
abbrev pub begins : List ℕ → List ℕ → Bool
begins bytes s = starts_with nat_eq s bytes

-- Comments, rule 2: how many bytes go on a comment, up to the next `*)` and with it, where there is one
abbrev pub comment_rest : List ℕ → Option ℕ
comment_rest [] = None
comment_rest (b ∷ s) = if begins (codes "*)") (b ∷ s) then Some 2 else option_map (λ n. 1 + n) (comment_rest s)

-- the length of a comment, from its `(*` on
abbrev pub comment_length : List ℕ → Option ℕ
comment_length s = option_map (λ n. 2 + n) (comment_rest (drop 2 s))

-- the words of a text, each a run of word bytes that is as long as can be; within: the text stands behind a byte of a word
abbrev pub words_of : Bool → List ℕ → List (List ℕ)
words_of within [] = []
words_of within (b ∷ s) =
    if is_word_byte b && not within then take (prefix_len is_word_byte (b ∷ s)) (b ∷ s) ∷ words_of true s
    else words_of (is_word_byte b) s

-- whether a text has a word; letters compare without case
abbrev pub has_word : List ℕ → List ℕ → Bool
has_word word text = list_any (λ other. is_same_word other word) (words_of false text)

-- what a comment marks: one that begins with `(*!` is a pragma, and marks by the words `external` and `constructor`
abbrev pub comment_mark : List ℕ → Option TokenKind
comment_mark comment =
    if not (begins (codes "(*!") comment) then None
    else if has_word (codes "external") comment then Some ExternalMark
    else if has_word (codes "constructor") comment then Some ConstructorMark
    else None

-- the piece that a comment of this length is: a mark, or a gap
abbrev pub marked : Option TokenKind → ℕ → Piece
marked None n = gap n
marked (Some kind) n = spelling kind n

-- the comment at the front of a text, which has this length if it ends
abbrev pub comment_piece : List ℕ → Option ℕ → Piece
comment_piece s None = unclosed
comment_piece s (Some n) = marked (comment_mark (take n s)) n

-- Words, rule 3: how many bytes go on a word. Letters and digits do, and a `_` does where the word goes on behind it.
abbrev pub word_rest : List ℕ → ℕ
word_rest [] = 0
word_rest (b ∷ s) =
    if is_letter_or_digit b || (is_low_line b && nat_lt 0 (word_rest s)) then 1 + word_rest s else 0

-- the class of a word that begins with this byte
abbrev pub word_kind : ℕ → List ℕ → TokenKind
word_kind first word = if is_some (keyword_of word) then Keyword else if is_ascii_digit first then Numeral else Identifier

-- Operation names, rule 4: the class of a run of operation bytes
abbrev pub operation_kind : List ℕ → TokenKind
operation_kind run = if is_some (symbol_of run) then Symbol else Operation

-- Other symbols, rule 5: each stands before those with which it begins
abbrev pub symbols : List (List ℕ)
symbols =
    codes "[]" ∷ codes "[>" ∷ codes "[" ∷ codes "]" ∷ codes "|||" ∷ codes "||" ∷ codes "|[" ∷ codes ":=" ∷ codes ":" ∷
    codes "(" ∷ codes ")" ∷ codes ";" ∷ codes "," ∷ codes "!" ∷ codes "?" ∷ codes "_" ∷ []

-- these symbols, and `]|` where a `|[` is open
abbrev pub symbols_where : Bool → List (List ℕ)
symbols_where opened = if opened then codes "]|" ∷ symbols else symbols

-- the length of the first of these spellings with which a text begins
abbrev pub first_length : List ℕ → List (List ℕ) → Option ℕ
first_length s [] = None
first_length s (w ∷ ws) = if begins w s then Some (length w) else first_length s ws

-- a symbol of this length, or the byte with which no symbol begins
abbrev pub symbol_piece : ℕ → Option ℕ → Piece
symbol_piece b None = stray b
symbol_piece b (Some n) = spelling Symbol n

-- a word of this length at the front of a text that begins with this byte
abbrev pub word_piece : ℕ → List ℕ → ℕ → Piece
word_piece b s n = spelling (word_kind b (take n s)) n

-- a run of operation bytes of this length at the front of a text
abbrev pub operation_piece : List ℕ → ℕ → Piece
operation_piece s n = spelling (operation_kind (take n s)) n

-- the piece at the front of a text, by the first rule that fits; opened: no `]` has come yet behind the last `|[`
abbrev pub first_piece : Bool → List ℕ → Piece
first_piece opened [] = nothing
first_piece opened (b ∷ s) =
    if is_blank b then gap 1
    else if begins (codes "(*") (b ∷ s) then comment_piece (b ∷ s) (comment_length (b ∷ s))
    else if is_letter_or_digit b then word_piece b (b ∷ s) (1 + word_rest s)
    else if is_operation_byte b then operation_piece (b ∷ s) (prefix_len is_operation_byte (b ∷ s))
    else symbol_piece b (first_length (b ∷ s) (symbols_where opened))
