-- The types of a text: those that stand in `where` parts too, and those of the library.
use Rattle.std.proofs.Common.{ℕ, sym, subst, List, [], ◌∷◌, map, length}
use Rattle.lotos_ast.specs.declared.token.Token.{Token}
use Rattle.lotos_ast.specs.declared.types.TypeDef.{TypeDef}
use Rattle.lotos_ast.specs.Notation.{part, type_definition}
use Rattle.lotos_ast.specs.TypeTrees.{type_def_tree}
use Rattle.spec_core.specs.Lists.{Each}
use Rattle.type_names.specs.UnknownTypes.{library_names}
use Rattle.syntax_laws.proofs.Tokens.{tokens_are_named}
use Rattle.std.specs.List.{flat_map}
use Rattle.spec_core.proofs.Lists.{each_append}
use Rattle.lotos_front.specs.Libraries.{in_line_0, AreTakenIn, library_texts}
use Rattle.static_laws.specs.NamedTypes.{IsTypeNamed}
use Rattle.syntax_laws.specs.Tokens.{IsTokenNamed}
use Rattle.front_laws.proofs.Trees.{IsKept, IsTreeOf, tree-read}
use Rattle.front_laws.proofs.TypeTrees.{trees-in}
use Rattle.front_laws.proofs.Types.{type-named, types_are_named}
use Rattle.front_laws.specs.Named.{TextTypesAreNamed}

own-named : (types : List TypeDef) → Each (IsTreeOf (part type_definition)) (map type_def_tree types) → Each IsTypeNamed types
own-named [] h = tt
own-named (d ∷ ds) h = (type-named d h.0, own-named ds h.1)

each-in-line-0 : (ts : List Token) → Each IsTokenNamed ts → Each IsTokenNamed (map in_line_0 ts)
each-in-line-0 [] h = tt
each-in-line-0 (t ∷ ts) h = (h.0, each-in-line-0 ts h.1)

taken-named : (texts : List (List ℕ)) (all : List TypeDef) → AreTakenIn texts all → Each IsTypeNamed all
taken-named [] all h = subst (Each IsTypeNamed) (sym h) tt
taken-named (text ∷ texts) all (first, others, l, taken, e) =
    subst (Each IsTypeNamed) (sym e)
    (each_append IsTypeNamed first others
    (types_are_named (map in_line_0 l.tokens) 0 (length l.tokens) first (each-in-line-0 l.tokens (tokens_are_named text l.tokens l.lexed)) l.read)
    (taken-named texts others taken))

pub text_types_are_named : TextTypesAreNamed
text_types_are_named tokens types named a =
    subst (Each IsTypeNamed) (sym a.with_library.joined)
    (each_append IsTypeNamed a.with_library.library a.own
    (taken-named (library_texts (flat_map library_names a.own)) a.with_library.library a.with_library.taken_in)
    (own-named a.own (subst (Each (IsTreeOf (part type_definition))) (sym a.trees) (trees-in IsKept a.tree (tree-read a.read.read named).0))))
