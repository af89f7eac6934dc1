-- The types of a text are alike, whatever list of the program they are kept in.
use Rattle.std.proofs.Common.{ℕ, ◌≡◌, ◌∙◌, sym, ap, subst, List, [], ◌∷◌, ◌++◌, map, length, drop}
use Rattle.std.specs.List.{flat_map}
use Rattle.lotos_ast.specs.declared.token.Token.{Token}
use Rattle.lotos_ast.specs.declared.types.TypeDef.{TypeDef}
use Rattle.lotos_ast.specs.GrammarLaws.{OneTree}
use Rattle.lotos_ast.specs.ListTrees.{repeated_tree}
use Rattle.lotos_ast.specs.Nesting.{outermost}
use Rattle.lotos_ast.specs.Notation.{repeated, part, specification, type_definition}
use Rattle.lotos_ast.specs.Reads.{Reads}
use Rattle.lotos_ast.specs.TokenLaws.{OneTokenList}
use Rattle.lotos_ast.specs.TypeTrees.{type_def_tree}
use Rattle.spec_core.specs.Lists.{Each}
use Rattle.type_names.specs.UnknownTypes.{library_names}
use Rattle.lotos_front.specs.Libraries.{in_line_0, library_texts, AreLibraryTypes, AreTakenIn, AreWithLibrary}
use Rattle.lotos_front.specs.Types.{types_in, AreTypesOf}
use Rattle.syntax_laws.specs.Alike.{AreAlike, AreTypesAlike}
use Rattle.syntax_laws.proofs.Trees.{IsTreeOf, tree-read, repeated-alike}
use Rattle.front_laws.proofs.TypeTrees.{trees-in}
use Rattle.syntax_laws.proofs.Types.{types-alike}
use Rattle.static_uniqueness.proofs.Lists.{flat-same, append-alike}
use Rattle.static_uniqueness.proofs.Names.{library-names-same}

-- types of the same trees are alike
each-alike : (xs ys : List TypeDef) → Each (IsTreeOf (part type_definition)) (map type_def_tree xs) → map type_def_tree xs ≡ map type_def_tree ys → AreAlike AreTypesAlike xs ys
each-alike [] [] h e = tt
each-alike [] (y ∷ ys) h e = absurd (cc)
each-alike (x ∷ xs) [] h e = absurd (cc)
each-alike (x ∷ xs) (y ∷ ys) h e =
    let first : type_def_tree x ≡ type_def_tree y = cc in
    let rest : map type_def_tree xs ≡ map type_def_tree ys = cc in
    (types-alike x y h.0 first, each-alike xs ys h.1 rest)

-- tokens of the library are read as these types
abbrev AreReadAs : List TypeDef → List Token → Type 0
AreReadAs types z = Reads outermost (repeated (part type_definition)) (drop 0 (map in_line_0 z)) (repeated_tree (map type_def_tree types)) (drop (length z) (map in_line_0 z))

module _ (one_tree : OneTree) (one_list : OneTokenList) where
  library-alike : (text : List ℕ) (xs ys : List TypeDef) → AreLibraryTypes text xs → AreLibraryTypes text ys → AreAlike AreTypesAlike xs ys
  library-alike text xs ys h k =
      let tokens : h.tokens ≡ k.tokens = one_list text h.tokens k.tokens h.lexed k.lexed in
      let other = subst (AreReadAs ys) (sym tokens) k.read.parsed.read in
      let tree = one_tree outermost (repeated (part type_definition)) (drop 0 (map in_line_0 h.tokens)) (drop (length h.tokens) (map in_line_0 h.tokens)) (drop (length h.tokens) (map in_line_0 h.tokens))
      (repeated_tree (map type_def_tree xs)) (repeated_tree (map type_def_tree ys)) h.read.parsed.read other in
      repeated-alike AreTypesAlike type_def_tree (part type_definition) types-alike xs ys (tree-read h.read.parsed.read) tree.0

  taken-alike : (texts : List (List ℕ)) (xs ys : List TypeDef) → AreTakenIn texts xs → AreTakenIn texts ys → AreAlike AreTypesAlike xs ys
  taken-alike [] xs ys h k = subst (λ z. AreAlike AreTypesAlike z ys) (sym h) (subst (AreAlike AreTypesAlike []) (sym k) tt)
  taken-alike (text ∷ texts) xs ys (first, others, l, taken, e) (start, rest, m, used, f) =
      subst (λ z. AreAlike AreTypesAlike z ys) (sym e) (subst (AreAlike AreTypesAlike (first ++ others)) (sym f)
      (append-alike AreTypesAlike first start others rest (library-alike text first start l m) (taken-alike texts others rest taken used)))

  with-library-alike : (own other xs ys : List TypeDef) → AreAlike AreTypesAlike own other → AreWithLibrary own xs → AreWithLibrary other ys → AreAlike AreTypesAlike xs ys
  with-library-alike own other xs ys a h k =
      let names = flat-same AreTypesAlike library_names library_names library-names-same own other a in
      let taken = subst (λ z. AreTakenIn (library_texts z) h.library) names h.taken_in in
      subst (λ z. AreAlike AreTypesAlike z ys) (sym h.joined) (subst (AreAlike AreTypesAlike (h.library ++ own)) (sym k.joined)
      (append-alike AreTypesAlike h.library k.library own other (taken-alike (library_texts (flat_map library_names other)) h.library k.library taken k.taken_in) a))

  pub types-of-alike : (tokens : List Token) (xs ys : List TypeDef) → AreTypesOf tokens xs → AreTypesOf tokens ys → AreAlike AreTypesAlike xs ys
  types-of-alike tokens xs ys h k =
      let tree = (one_tree outermost (part specification) tokens [] [] h.tree k.tree h.read.read k.read.read).0 in
      let same : map type_def_tree h.own ≡ map type_def_tree k.own = h.trees ∙ ap types_in tree ∙ sym k.trees in
      let read = subst (Each (IsTreeOf (part type_definition))) (sym h.trees) (trees-in (λ w t. Unit {0}) h.tree (tree-read h.read.read)) in
      with-library-alike h.own k.own xs ys (each-alike h.own k.own read same) h.with_library k.with_library
