-- Texts and their tokens, read as a specification.
use Rattle.std.specs.Prelude.{ℕ, ◌≤◌, List, [], ◌∷◌, length, Bool, false, codes, if◌then◌else◌}
use Rattle.std.specs.Str.{bytes_eq}
use Rattle.lotos_ast.specs.declared.refusal.Refusal.{Refusal}
use Rattle.lotos_ast.specs.declared.spec.Spec.{Spec}
use Rattle.lotos_ast.specs.declared.token.Token.{Token}
use Rattle.lotos_ast.specs.Notation.{part, specification}
use Rattle.lotos_ast.specs.Parsing.{IsParsed}
use Rattle.lotos_ast.specs.Places.{start_place, place_after}
use Rattle.lotos_ast.specs.SpecTrees.{spec_tree}
use Rattle.lotos_ast.specs.Tokenizes.{Tokenizes, text_limit}
use Rattle.behaviour_parser.specs.Specifications.{IsNoSpecification}

-- the text isn't too long, and these are its tokens
pub record IsLexed (text : List ℕ) (tokens : List Token) : Type 0 where
  pub short : length text ≤ text_limit
  pub tokenized : Tokenizes text tokens

-- the tokens are this specification, all of them
abbrev pub IsSpecification : List Token → Spec → Type 0
IsSpecification tokens spec = IsParsed (part specification) tokens (spec_tree spec) []

-- whether a refusal names the end of the text; no token is spelled so
abbrev pub names_end : List (List ℕ) → Bool
names_end [] = false
names_end (name ∷ []) = bytes_eq name (codes "end of text")
names_end (name ∷ other ∷ names) = false

-- a refusal at the end of the tokens stands at the end of their text: behind its last byte, gaps and comments counted
abbrev pub in_text : List ℕ → Refusal → Refusal
in_text text r =
    if names_end r.names then record { kind = r.kind; place = place_after start_place text; names = r.names }
    else r

-- the tokens of the text are no specification, and this is its refusal
pub data IsUnparsed (text : List ℕ) (tokens : List Token) : Refusal → Type 0 where
  unparsed : (r : Refusal) → IsNoSpecification tokens r → IsUnparsed text tokens (in_text text r)
