-- Names that the grammar allows, and when two names are one.
use Rattle.std.specs.Prelude.{ℕ, ◌≡◌, ◌⊎◌, ◌++◌, ◌<◌, List, [], ◌∷◌, IsTrue, codes, length, map}
use Rattle.std.specs.Char.{is_ascii_alphabetic, is_ascii_alphanumeric, to_ascii_lowercase}
use Rattle.spec_core.specs.Lists.{Each, IsOneOf}

-- two names are one: letters of ASCII compare without case
abbrev pub IsSameName : List ℕ → List ℕ → Type 0
IsSameName name other = map to_ascii_lowercase name ≡ map to_ascii_lowercase other

abbrev pub IsWordByte : ℕ → Type 0
IsWordByte b = IsTrue (is_ascii_alphanumeric b) ⊎ (b ≡ 95)

-- ends with a letter or a digit
abbrev pub EndsInWord : List ℕ → Type 0
EndsInWord [] = ⊥
EndsInWord (b ∷ []) = IsTrue (is_ascii_alphanumeric b)
EndsInWord (b ∷ c ∷ bs) = EndsInWord (c ∷ bs)

-- begins with a byte with this property
abbrev pub BeginsWith : (ℕ → Type 0) → List ℕ → Type 0
BeginsWith P [] = ⊥
BeginsWith P (b ∷ bs) = P b

-- the reserved words, in their spelling without capitals
abbrev pub reserved_words : List (List ℕ)
reserved_words =
    codes "accept" ∷ codes "actualizedby" ∷ codes "any" ∷ codes "behavior" ∷ codes "behaviour" ∷ codes "choice" ∷ codes "endlib" ∷
    codes "endproc" ∷ codes "endspec" ∷ codes "endtype" ∷ codes "eqns" ∷ codes "exit" ∷ codes "for" ∷ codes "forall" ∷
    codes "formaleqns" ∷ codes "formalopns" ∷ codes "formalsorts" ∷ codes "hide" ∷ codes "i" ∷ codes "in" ∷ codes "is" ∷ codes "let" ∷
    codes "library" ∷ codes "noexit" ∷ codes "of" ∷ codes "ofsort" ∷ codes "opnnames" ∷ codes "opns" ∷ codes "par" ∷ codes "process" ∷
    codes "renamedby" ∷ codes "sortnames" ∷ codes "sorts" ∷ codes "specification" ∷ codes "stop" ∷ codes "type" ∷ codes "using" ∷
    codes "where" ∷ []

-- letters, digits and underscores, with a letter or a digit at both ends, and no reserved word
pub record IsWord (name : List ℕ) : Type 0 where
  pub bytes : Each IsWordByte name
  pub first : BeginsWith (λ b. IsTrue (is_ascii_alphanumeric b)) name
  pub last : EndsInWord name
  pub free : IsOneOf (map to_ascii_lowercase name) reserved_words → ⊥

-- a word that begins with a letter
pub record IsIdentifier (name : List ℕ) : Type 0 where
  pub word : IsWord name
  pub letter : BeginsWith (λ b. IsTrue (is_ascii_alphabetic b)) name

-- a nonempty text over the bytes of operation strings that isn't one of the grammar's own
pub record IsOperationString (name : List ℕ) : Type 0 where
  pub bytes : Each (λ b. IsOneOf b (codes "#%&*+-./<=>@\\^~{}")) name
  pub some : 0 < length name
  pub free : IsOneOf name (codes "=" ∷ codes "=>" ∷ codes "->" ∷ codes ">>" ∷ []) → ⊥

-- a name of an operation without its underscores: an identifier, a word that begins with a digit, or an operation string
abbrev pub IsPlainName : List ℕ → Type 0
IsPlainName name = IsWord name ⊎ IsOperationString name

-- a name of an operation with so many arguments: a plain name, or for two arguments also one between underscores
abbrev pub IsOperationName : ℕ → List ℕ → Type 0
IsOperationName arguments name =
    IsPlainName name ⊎ (arguments ≡ 2) × ((plain : List ℕ) × (name ≡ 95 ∷ (plain ++ 95 ∷ [])) × IsPlainName plain)
