-- The tokens of a text, and its refusal where it has none (docs/LANGUAGE.md, "Tokens" and "Refusals").
use Rattle.std.specs.Prelude.{ℕ, ◌+◌, ◌/◌, ◌%◌, ◌<◌, ◌≤◌, nat_lt, ◌≡◌, List, [], ◌∷◌, take, drop, length, codes, Bool}
use Rattle.std.specs.Prelude.{true, false, if◌then◌else◌}
use Rattle.std.specs.Str.Lossy.{utf8_lossy}
use Rattle.lotos_ast.specs.declared.place.Place.{Place}
use Rattle.lotos_ast.specs.declared.token.TokenKind.{TokenKind}
use Rattle.lotos_ast.specs.declared.token.Token.{Token}
use Rattle.lotos_ast.specs.declared.refusal.Refusal.{Refusal}
use Rattle.lotos_ast.specs.declared.refusal.RefusalKind.TheVariants.{BadByte, OpenComment, TooLong}
use Rattle.lotos_ast.specs.Places.{start_place, place_after}
use Rattle.lotos_ast.specs.Pieces.{begins, first_piece, gap, spelling, stray, unclosed}

-- the token that these bytes spell; U+FFFD stands for bytes that aren't UTF-8
abbrev pub token_at : TokenKind → Place → List ℕ → Token
token_at kind place bytes = record { kind = kind; place = place; text = utf8_lossy bytes }

-- whether a `|[` is open behind these bytes of a token: `|[` opens one, and `]` or `]|` closes it
abbrev pub open_after : Bool → List ℕ → Bool
open_after opened bytes =
    if begins (codes "|[") bytes then true
    else if begins (codes "]") bytes then false
    else opened

-- the text is gaps and the spellings of these tokens in turn; it begins at this place, where a `|[` is open or not
pub data IsSpelled : Bool → Place → List ℕ → List Token → Type 0 where
  ends : {opened : Bool} {p : Place} → IsSpelled opened p [] []
  parted : {opened : Bool} {p : Place} {s : List ℕ} {ts : List Token} (n : ℕ) →
      first_piece opened s ≡ gap n →
      IsSpelled opened (place_after p (take n s)) (drop n s) ts →
      IsSpelled opened p s ts
  spelled : {opened : Bool} {p : Place} {s : List ℕ} {ts : List Token} (kind : TokenKind) (n : ℕ) →
      first_piece opened s ≡ spelling kind n →
      IsSpelled (open_after opened (take n s)) (place_after p (take n s)) (drop n s) ts →
      IsSpelled opened p s (token_at kind p (take n s) ∷ ts)

-- the tokens of a text
abbrev pub Tokenizes : List ℕ → List Token → Type 0
Tokenizes text tokens = IsSpelled false start_place text tokens

-- the greatest number of bytes in a text, 2^22
abbrev pub text_limit : ℕ
text_limit = 4194304

-- a byte as two hexadecimal digits
abbrev pub hex_digit : ℕ → ℕ
hex_digit n = if nat_lt n 10 then 48 + n else 87 + n

abbrev pub hex_text : ℕ → List ℕ
hex_text b = hex_digit (b / 16) ∷ hex_digit (b % 16) ∷ []

abbrev pub bad_byte : ℕ → Place → Refusal
bad_byte b p = record { kind = BadByte; place = p; names = hex_text b ∷ [] }

abbrev pub open_comment : Place → Refusal
open_comment p = record { kind = OpenComment; place = p; names = [] }

abbrev pub too_long : Refusal
too_long = record { kind = TooLong; place = start_place; names = [] }

-- behind gaps and spellings stands a byte that begins no token, or a comment without an end
pub data IsStopped : Bool → Place → List ℕ → Refusal → Type 0 where
  at_byte : {opened : Bool} {p : Place} {s : List ℕ} (b : ℕ) →
      first_piece opened s ≡ stray b → IsStopped opened p s (bad_byte b p)
  at_comment : {opened : Bool} {p : Place} {s : List ℕ} →
      first_piece opened s ≡ unclosed → IsStopped opened p s (open_comment p)
  behind_gap : {opened : Bool} {p : Place} {s : List ℕ} {r : Refusal} (n : ℕ) →
      first_piece opened s ≡ gap n →
      IsStopped opened (place_after p (take n s)) (drop n s) r →
      IsStopped opened p s r
  behind_token : {opened : Bool} {p : Place} {s : List ℕ} {r : Refusal} (kind : TokenKind) (n : ℕ) →
      first_piece opened s ≡ spelling kind n →
      IsStopped (open_after opened (take n s)) (place_after p (take n s)) (drop n s) r →
      IsStopped opened p s r

-- the refusal of a text that has no tokens
abbrev pub Refuses : List ℕ → Refusal → Type 0
Refuses text refusal = IsStopped false start_place text refusal

-- the refusal of a text that can't be read as tokens: its length first, then the earliest place
pub data IsUnreadable : List ℕ → Refusal → Type 0 where
  by_length : {text : List ℕ} → text_limit < length text → IsUnreadable text too_long
  by_bytes : {text : List ℕ} {r : Refusal} → length text ≤ text_limit → Refuses text r → IsUnreadable text r
