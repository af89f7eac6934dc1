-- What a parser answers of tokens: the tree of a part of the grammar, or the refusal at the token where reading stops.
use Rattle.std.specs.Prelude.{ℕ, ◌+◌, ◌-◌, ◌≤◌, Option, Some, None, slice_get, ◌^◌, nat_lt, Bool, ◌&&◌, if◌then◌else◌}
use Rattle.std.specs.Prelude.{List, [], ◌∷◌, ◌++◌, length, drop, codes, ◌≡◌}
use Rattle.lotos_ast.specs.declared.place.Place.{Place}
use Rattle.lotos_ast.specs.declared.token.Token.{Token}
use Rattle.lotos_ast.specs.declared.refusal.Refusal.{Refusal}
use Rattle.lotos_ast.specs.declared.refusal.RefusalKind.TheVariants.{Unexpected, TooDeep, External}
use Rattle.lotos_ast.specs.Places.{start_place, place_after}
use Rattle.lotos_ast.specs.Notation.{Syntax}
use Rattle.lotos_ast.specs.declared.fault.Fault.{Fault}
use Rattle.lotos_ast.specs.Nesting.{outermost}
use Rattle.lotos_ast.specs.Reads.{Tree, Reads, Stops}
use Rattle.lotos_ast.specs.Spelled.{Spells}
use Rattle.lotos_ast.specs.Fronts.{IsViable, IsLongest}

-- The tokens before the rest are the longest front of the part. They are a whole text of it, which the tree stands for, and
-- nowhere nested too deep.
pub record IsParsed (g : Syntax) (s : List Token) (tree : Tree) (rest : List Token) : Type 0 where
  pub before : List Token
  pub all : s ≡ before ++ rest
  pub spelled : Spells g before
  pub longest : IsLongest g before rest
  pub read : Reads outermost g s tree rest

-- Some text of the part begins with the tokens before the rest. Where the next one isn't nested too deep, they are the longest
-- front of the part, and no whole text of it.
pub record IsRefused (g : Syntax) (s : List Token) (f : Fault) (rest : List Token) : Type 0 where
  pub before : List Token
  pub all : s ≡ before ++ rest
  pub viable : IsViable g before
  pub first : (f ≡ Fault.TooDeep → ⊥) → IsLongest g before rest × (Spells g before → ⊥)
  pub stopped : Stops outermost f g s rest

-- the tokens from one number to another are parsed as the part with this tree
pub record IsParsedBetween (g : Syntax) (tokens : List Token) (from : ℕ) (tree : Tree) (after : ℕ) : Type 0 where
  pub parsed : IsParsed g (drop from tokens) tree (drop after tokens)
  pub forward : from ≤ after
  pub within : after ≤ length tokens

-- whether the place behind so many bytes can be told by two numbers below 2^32
abbrev pub has_room : Place → ℕ → Bool
has_room p n = nat_lt 0 p.column && nat_lt (p.line + p.column + n) (2 ^ 32)

-- the place behind a token; that of the token itself, where it can't be told
abbrev pub place_behind : Token → Place
place_behind t = if has_room t.place (length t.text) then place_after t.place t.text else t.place

-- the place behind the last token, or where a text begins
abbrev pub place_behind_last : Option Token → Place
place_behind_last None = start_place
place_behind_last (Some t) = place_behind t

-- the place behind these tokens
abbrev pub end_place : List Token → Place
end_place tokens = place_behind_last (slice_get tokens (length tokens - 1))

-- the refusal of the tokens, where reading stops before the rest of them for this reason (docs/LANGUAGE.md, "Refusals")
abbrev pub refusal_at : Fault → List Token → List Token → Refusal
refusal_at Fault.Unexpected tokens [] = record { kind = Unexpected; place = end_place tokens; names = codes "end of text" ∷ [] }
refusal_at Fault.Unexpected tokens (t ∷ ts) = record { kind = Unexpected; place = t.place; names = t.text ∷ [] }
refusal_at Fault.TooDeep tokens [] = record { kind = TooDeep; place = end_place tokens; names = [] }
refusal_at Fault.TooDeep tokens (t ∷ ts) = record { kind = TooDeep; place = t.place; names = [] }
refusal_at Fault.External tokens [] = record { kind = External; place = end_place tokens; names = [] }
refusal_at Fault.External tokens (t ∷ ts) = record { kind = External; place = t.place; names = [] }

-- the refusal of the tokens from a number on, read as the part
pub data IsRefusedFrom (g : Syntax) (tokens : List Token) (from : ℕ) : Refusal → Type 0 where
  refused : (f : Fault) (rest : List Token) → IsRefused g (drop from tokens) f rest → IsRefusedFrom g tokens from (refusal_at f tokens rest)
