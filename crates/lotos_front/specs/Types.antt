-- The types of a text, in one list (this profile): those of the library that it takes in, and then its own, in the order of the text. They
-- are seen everywhere, also those that stand in `where` parts.
use Rattle.std.specs.Prelude.{◌≡◌, List, [], ◌∷◌, ◌++◌, map}
use Rattle.lotos_ast.specs.declared.token.Token.{Token}
use Rattle.lotos_ast.specs.declared.types.TypeDef.{TypeDef}
use Rattle.lotos_ast.specs.Notation.{part, specification}
use Rattle.lotos_ast.specs.Parsing.{IsParsed}
use Rattle.lotos_ast.specs.Reads.{Tree, both, left, right, present, more, node}
use Rattle.lotos_ast.specs.TypeTrees.{type_def_tree}
use Rattle.lotos_front.specs.Libraries.{AreWithLibrary}

-- What trees of the grammar have of types. Of an item of a `where` part: a type, or those of a process
abbrev mutual
  pub item_types : Tree → List Tree
  item_types (node p (left type)) = type ∷ []
  item_types (node p (right process)) = process_types process
  item_types t = []

  -- of a process: those of its `where` part
  pub process_types : Tree → List Tree
  process_types (node p (both k (both name (both gates (both parameters (both colon (both functionality (both defined (both behaviour
      (both items end)))))))))) = where_types items
  process_types t = []

  -- of a `where` part, if there is one
  pub where_types : Tree → List Tree
  where_types (present (both k items)) = all_types items
  where_types t = []

  pub all_types : Tree → List Tree
  all_types (more item items) = item_types item ++ all_types items
  all_types t = []

-- the trees of a repeated part
abbrev pub repeated_trees : Tree → List Tree
repeated_trees (more t ts) = t ∷ repeated_trees ts
repeated_trees t = []

-- of a specification: the global ones first
abbrev pub types_in : Tree → List Tree
types_in (node p (both k (both name (both gates (both colon (both functionality (both types (both kw (both behaviour
    (both items end)))))))))) = repeated_trees types ++ where_types items
types_in t = []

-- the list of types of a text with these tokens. Its `library` parts stay in it
pub record AreTypesOf (tokens : List Token) (types : List TypeDef) : Type 0 where
  pub tree : Tree
  pub read : IsParsed (part specification) tokens tree []
  pub own : List TypeDef
  pub trees : map type_def_tree own ≡ types_in tree
  pub with_library : AreWithLibrary own types
