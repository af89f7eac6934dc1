-- The types of the library that a text takes in (this profile).
use Rattle.std.specs.Prelude.{ℕ, ◌≡◌, List, [], ◌∷◌, ◌++◌, map, length, Bool, codes, if◌then◌else◌}
use Rattle.std.specs.List.{flat_map, list_any}
use Rattle.lotos_ast.specs.declared.token.Token.{Token}
use Rattle.lotos_ast.specs.declared.types.TypeDef.{TypeDef}
use Rattle.lotos_ast.specs.ListTrees.{repeated_tree}
use Rattle.lotos_ast.specs.Notation.{part, repeated, type_definition}
use Rattle.lotos_ast.specs.Parsing.{IsParsedBetween}
use Rattle.lotos_ast.specs.Tokenizes.{Tokenizes}
use Rattle.lotos_ast.specs.TypeTrees.{type_def_tree}
use Rattle.library_text.specs.Texts.{boolean_text, natural_text}
use Rattle.sort_overloads.specs.Listed.{is_same_name}
use Rattle.type_names.specs.UnknownTypes.{library_names}

-- whether one of the names is this one; letters of ASCII are the same small or large
abbrev pub is_named : List Token → List ℕ → Bool
is_named names word = list_any (λ t. is_same_name t.text word) names

-- the texts of the library that are taken in where its types are named so: each once, and NaturalNumber behind Boolean, which it imports
abbrev pub library_texts : List Token → List (List ℕ)
library_texts names =
    if is_named names (codes "NaturalNumber") then boolean_text ∷ natural_text ∷ []
    else if is_named names (codes "Boolean") then boolean_text ∷ []
    else []

-- a token of the library stands in line 0, at its column
abbrev pub in_line_0 : Token → Token
in_line_0 t = record { kind = t.kind; place = record { line = 0; column = t.place.column }; text = t.text }

-- the types that a text of the library defines
pub record AreLibraryTypes (text : List ℕ) (types : List TypeDef) : Type 0 where
  pub tokens : List Token
  pub lexed : Tokenizes text tokens
  pub read : IsParsedBetween (repeated (part type_definition)) (map in_line_0 tokens) 0 (repeated_tree (map type_def_tree types))
      (length tokens)

-- those of some texts, in their order
abbrev pub AreTakenIn : List (List ℕ) → List TypeDef → Type 0
AreTakenIn [] all = all ≡ []
AreTakenIn (text ∷ texts) all =
    (first : List TypeDef) × (others : List TypeDef) × AreLibraryTypes text first × AreTakenIn texts others × (all ≡ first ++ others)

-- these types, and before them those of the library that they take in
pub record AreWithLibrary (own all : List TypeDef) : Type 0 where
  pub library : List TypeDef
  pub taken_in : AreTakenIn (library_texts (flat_map library_names own)) library
  pub joined : all ≡ library ++ own
