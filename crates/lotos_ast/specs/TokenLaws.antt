-- What holds of the tokens and the refusals of all texts.
use Rattle.std.specs.Prelude.{ℕ, ◌≤◌, ◌≡◌, ◌⊎◌, List, length}
use Rattle.lotos_ast.specs.declared.refusal.Refusal.{Refusal}
use Rattle.lotos_ast.specs.declared.token.Token.{Token}
use Rattle.lotos_ast.specs.Tokenizes.{Tokenizes, IsUnreadable, text_limit}

-- a text isn't too long and has tokens, or it has a refusal
abbrev pub TokensOrRefusal : Type 0
TokensOrRefusal = (text : List ℕ) →
    ((tokens : List Token) × (length text ≤ text_limit) × Tokenizes text tokens) ⊎ ((refusal : Refusal) × IsUnreadable text refusal)

-- a text that isn't too long and has tokens has no refusal
abbrev pub NotBoth : Type 0
NotBoth = (text : List ℕ) (tokens : List Token) (refusal : Refusal) →
    length text ≤ text_limit → Tokenizes text tokens → IsUnreadable text refusal → ⊥

-- a text has one list of tokens
abbrev pub OneTokenList : Type 0
OneTokenList = (text : List ℕ) (tokens others : List Token) → Tokenizes text tokens → Tokenizes text others → tokens ≡ others

-- a text has one refusal
abbrev pub OneRefusal : Type 0
OneRefusal = (text : List ℕ) (refusal other : Refusal) → IsUnreadable text refusal → IsUnreadable text other → refusal ≡ other
