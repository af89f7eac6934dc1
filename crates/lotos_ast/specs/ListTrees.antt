-- Trees of repeated, optional and listed parts. A value that no text spells, as an empty list of names, has a tree that is never read.
use Rattle.std.specs.Prelude.{List, [], ◌∷◌, map, Option, Some, None, Vec}
use Rattle.std.specs.declared.alloc.Global.{Global}
use Rattle.lotos_ast.specs.declared.place.Place.{Place}
use Rattle.lotos_ast.specs.declared.token.Token.{Token}
use Rattle.lotos_ast.specs.Begins.{no_place}
use Rattle.lotos_ast.specs.Reads.{Tree, unkept, leaf, both, absent, present, no_more, more, node}

-- the place of a tree that has one
abbrev pub tree_place : Tree → Place
tree_place (node p x) = p
tree_place x = no_place

-- a repeated part
abbrev pub repeated_tree : List Tree → Tree
repeated_tree [] = no_more
repeated_tree (x ∷ xs) = more x (repeated_tree xs)

-- behind a token that isn't kept
abbrev pub behind : Tree → Tree
behind x = both unkept x

-- between two tokens that aren't kept
abbrev pub between : Tree → Tree
between x = both unkept (both x unkept)

-- one or more with commas between them
abbrev pub list_tree : List Tree → Tree
list_tree [] = unkept
list_tree (x ∷ xs) = both x (repeated_tree (map behind xs))

-- an optional part
abbrev pub optional_tree : Option Tree → Tree
optional_tree None = absent
optional_tree (Some x) = present x

-- tokens in a list
abbrev pub token_list_tree : List Token → Tree
token_list_tree tokens = list_tree (map leaf tokens)

abbrev pub optional_token_tree : Option Token → Tree
optional_token_tree None = absent
optional_token_tree (Some token) = present (leaf token)

-- tokens in a list that may be left out
abbrev pub optional_list_tree : Option (Vec Token Global) → Tree
optional_list_tree None = absent
optional_list_tree (Some tokens) = present (token_list_tree tokens.items)
