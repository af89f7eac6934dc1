-- Types whose trees are read of tokens that are named.
use Rattle.std.proofs.Common.{ℕ, ◌≡◌, refl, List, [], ◌∷◌, map, length, drop, zero, suc, Option, Some, None, Vec, Global}
use Rattle.std.specs.Prelude.{option_to_list}
use Rattle.lotos_ast.specs.declared.declaration.Declaration.{Declaration}
use Rattle.lotos_ast.specs.declared.declaration.GateList.{GateList}
use Rattle.lotos_ast.specs.declared.mark.Mark.{Mark}
use Rattle.lotos_ast.specs.declared.place.Place.{Place}
use Rattle.lotos_ast.specs.declared.token.Token.{Token}
use Rattle.lotos_ast.specs.declared.types.DeclaredName.{DeclaredName}
use Rattle.lotos_ast.specs.declared.types.EquationBody.{EquationBody}
use Rattle.lotos_ast.specs.declared.types.EquationPart.{EquationPart}
use Rattle.lotos_ast.specs.declared.types.ForAll.{ForAll}
use Rattle.lotos_ast.specs.declared.types.Formals.{Formals}
use Rattle.lotos_ast.specs.declared.types.OperationDecl.{OperationDecl}
use Rattle.lotos_ast.specs.declared.types.OperationName.{OperationName}
use Rattle.lotos_ast.specs.declared.types.OperationName.TheVariants.{Prefix, Infix}
use Rattle.lotos_ast.specs.declared.types.OperationPair.{OperationPair}
use Rattle.lotos_ast.specs.declared.types.OperationPart.{OperationPart}
use Rattle.lotos_ast.specs.declared.types.Pairs.{Pairs}
use Rattle.lotos_ast.specs.declared.types.SortEquations.{SortEquations}
use Rattle.lotos_ast.specs.declared.types.SortList.{SortList}
use Rattle.lotos_ast.specs.declared.types.SortPair.{SortPair}
use Rattle.lotos_ast.specs.declared.types.SortPart.{SortPart}
use Rattle.lotos_ast.specs.declared.types.TypeBody.{TypeBody}
use Rattle.lotos_ast.specs.declared.types.TypeBody.TheVariants.{Declared, Renamed, Actualized}
use Rattle.lotos_ast.specs.declared.types.TypeDef.{TypeDef}
use Rattle.lotos_ast.specs.declared.types.TypeDef.TheVariants.{Library, Definition}
use Rattle.lotos_ast.specs.DeclarationTrees.{declaration_tree, optional_gates_tree}
use Rattle.lotos_ast.specs.Grammar.{sort_list, operation_declaration, equation_body, declared_items, pairs, type_body, infix_end}
use Rattle.lotos_ast.specs.ListTrees.{repeated_tree}
use Rattle.lotos_ast.specs.Notation.{quoted, optional, repeated, reduced, presence, part, list, identifier, specification, gate_list, type_definition, sort_part, operation_part, operation_names, operation_name, equation_part, sort_equations, for_all, declaration, sort_pair, operation_pair, sequence, either}
use Rattle.lotos_ast.specs.Reads.{leaf, right, node}
use Rattle.lotos_ast.specs.SpecTrees.{spec_tree}
use Rattle.lotos_ast.specs.TypeTrees.{sort_list_tree, operation_name_tree, two_sorts_tree, both_sorts_tree, infix_end_tree, first_name_tree, prefix_end_tree, names_tree, operation_decl_tree, for_all_tree, sort_equations_tree, equation_body_tree, formal_sorts_tree, formal_operations_tree, formal_equations_tree, sort_pair_tree, operation_pair_tree, sort_pairs_tree, operation_pairs_tree, pairs_tree, optional_sort_part_tree, optional_operation_part_tree, optional_equation_part_tree, declared_items_tree, imports_tree, type_body_tree, type_def_tree}
use Rattle.spec_core.specs.Lists.{Each}
use Rattle.spec_core.proofs.Lists.{each_append}
use Rattle.static_constructs.specs.Written.{gates_in}
use Rattle.static_equations.specs.Variables as variables
use Rattle.type_contents.specs.Lists.{listed}
use Rattle.type_contents.specs.Own.{sort_names, part_sort_names, part_operations}
use Rattle.static_presentation.specs.Own.{part_body}
use Rattle.static_laws.specs.NamedTypes.{IsNamed, IsOperationNamed, HasPlaces, IsDeclarationNamed, AreVariablesNamed, AreEquationsNamed, ArePairsNamed, AreItemsNamed, IsBodyNamed, IsTypeNamed}
use Rattle.syntax_laws.specs.Tokens.{IsTokenNamed}
use Rattle.front_laws.specs.Named.{TypesAreNamed, SpecificationsAreNamed}
use Rattle.syntax_laws.proofs.Trees.{parts}
use Rattle.front_laws.proofs.Trees.{IsTreeOf, tree-read, identifier-at, name-at, repeated-each, listed-each}

-- sorts

sorts-named : (l : SortList) → IsTreeOf sort_list (sort_list_tree l) → Each IsNamed l.names.items
sorts-named l h = listed-each IsNamed (reduced presence (optional (quoted Mark.Comma))) identifier leaf identifier-at l.names.items (parts h)

-- operations

operation-named : (m : OperationName) → IsTreeOf (part operation_name) (operation_name_tree m) → IsOperationNamed m
operation-named (Prefix place n) h = name-at n (parts (parts h))
operation-named (Infix place n) h = name-at n (parts (parts (parts (parts h))).1).0

two-sorts : (sorts : Option (Vec Token Global)) (result : Token) → IsTreeOf infix_end (right (both_sorts_tree sorts result)) → length (listed sorts) ≡ 2
two-sorts None result h = absurd (parts (parts h))
two-sorts (Some sorts) result h = by-list sorts.items h
  where
    by-list : (ts : List Token) → IsTreeOf infix_end (right (two_sorts_tree ts result)) → length ts ≡ 2
    by-list [] h = absurd (parts (parts h))
    by-list (a ∷ []) h = absurd (parts (parts h))
    by-list (a ∷ b ∷ []) h = refl
    by-list (a ∷ b ∷ c ∷ ts) h = absurd (parts (parts h))

-- where one that stands between its arguments is among the names so far
infix-names : (ns : List DeclaredName) (sorts : Option (Vec Token Global)) (result : Token) → IsTreeOf infix_end (infix_end_tree ns sorts result) → Each (λ (n : DeclaredName). IsOperationNamed n.name) ns × (length (listed sorts) ≡ 2)
infix-names [] sorts result h = (tt, two-sorts sorts result h)
infix-names (n ∷ ns) sorts result h =
    let a = parts (parts (parts (parts h)).1) in
    let b = parts a.1 in
    let more = infix-names ns sorts result b.1 in
    ((operation-named n.name a.0, more.0), more.1)

places-of : (m : OperationName) (k : ℕ) → k ≡ 2 → HasPlaces m k
places-of (Prefix place n) k e = tt
places-of (Infix place n) k e = e

all-places : (ns : List DeclaredName) (k : ℕ) → k ≡ 2 → Each (λ (n : DeclaredName). IsOperationNamed n.name) ns → Each (λ (n : DeclaredName). IsOperationNamed n.name × HasPlaces n.name k) ns
all-places [] k e h = tt
all-places (n ∷ ns) k e h = ((h.0, places-of n.name k e), all-places ns k e h.1)

module _ (sorts : Option (Vec Token Global)) (result : Token) where
  abbrev AreDeclared : List DeclaredName → Type 0
  AreDeclared ns = Each (λ (n : DeclaredName). IsOperationNamed n.name × HasPlaces n.name (length (listed sorts))) ns

  -- a name, and those behind it in either case
  first-names : (place : Place) (m : OperationName) (mark : Option Token) (ns : List DeclaredName) →
      (IsTreeOf (either (sequence (quoted Mark.Comma) (part operation_names)) (sequence (quoted Mark.Colon) (sequence (optional (list identifier)) (sequence (quoted Mark.Arrow) identifier)))) (prefix_end_tree ns sorts result) → AreDeclared ns) →
      IsTreeOf (part operation_names) (first_name_tree place m mark (prefix_end_tree ns sorts result) (infix_end_tree ns sorts result)) →
      (IsOperationNamed m × HasPlaces m (length (listed sorts))) × AreDeclared ns
  first-names place (Prefix p n) mark ns later h =
      let a = parts (parts (parts h)) in
      let b = parts a.1 in
      ((name-at n (parts a.0), tt), later b.1)
  first-names place (Infix p n) mark ns later h =
      let a = parts (parts (parts h)) in
      let b = parts a.1 in
      let c = parts (parts (parts a.0)).1 in
      let more = infix-names ns sorts result b.1 in
      ((name-at n c.0, more.1), all-places ns (length (listed sorts)) more.1 more.0)

  prefix-names : (ns : List DeclaredName) →
      IsTreeOf (either (sequence (quoted Mark.Comma) (part operation_names)) (sequence (quoted Mark.Colon) (sequence (optional (list identifier)) (sequence (quoted Mark.Arrow) identifier)))) (prefix_end_tree ns sorts result) → AreDeclared ns
  prefix-names [] h = tt
  prefix-names (n ∷ ns) h = first-names n.place n.name n.mark ns (prefix-names ns) (parts (parts h)).1

  names-named : (ns : List DeclaredName) → IsTreeOf (part operation_names) (names_tree ns sorts result) → AreDeclared ns
  names-named [] h = tt
  names-named (n ∷ ns) h = first-names n.place n.name n.mark ns (prefix-names ns) h

declaration-named : (d : OperationDecl) → IsTreeOf operation_declaration (operation_decl_tree d) → IsDeclarationNamed d
declaration-named d h = names-named d.arguments d.result d.names.items (parts h)

-- variables

of-declaration : (d : Declaration) → IsTreeOf (part declaration) (declaration_tree d) → Each IsNamed d.names.items
of-declaration d h = listed-each IsNamed (quoted Mark.Comma) identifier leaf identifier-at d.names.items (parts (parts h)).0

of-list : (f : ForAll) → IsTreeOf (part for_all) (for_all_tree f) → Each (λ (d : Declaration). Each IsNamed d.names.items) f.declarations.list.items
of-list f h =
    listed-each (λ (d : Declaration). Each IsNamed d.names.items) (quoted Mark.Comma) (part declaration) declaration_tree of-declaration f.declarations.list.items (parts (parts (parts h)).1)

all-variables : (lists : List ForAll) → Each (λ (f : ForAll). Each (λ (d : Declaration). Each IsNamed d.names.items) f.declarations.list.items) lists → AreVariablesNamed lists
all-variables [] h = tt
all-variables (f ∷ fs) h = each_append (λ (d : Declaration). Each IsNamed d.names.items) f.declarations.list.items (variables.declarations fs) h.0 (all-variables fs h.1)

lists-named : (lists : List ForAll) → IsTreeOf (repeated (part for_all)) (repeated_tree (map for_all_tree lists)) → AreVariablesNamed lists
lists-named lists h = all-variables lists (repeated-each (λ (f : ForAll). Each (λ (d : Declaration). Each IsNamed d.names.items) f.declarations.list.items) (part for_all) for_all_tree of-list lists h)

part-named : (e : SortEquations) → IsTreeOf (part sort_equations) (sort_equations_tree e) → AreVariablesNamed e.variables.items
part-named e h =
    let a = parts (parts h) in
    let b = parts a.1 in
    lists-named e.variables.items (parts b.1).0

equations-named : (body : EquationBody) → IsTreeOf equation_body (equation_body_tree body) → AreEquationsNamed body
equations-named body h =
    let a = parts (parts h) in
    record {
      variables = lists-named body.variables.items a.0;
      parts = repeated-each (λ (part : SortEquations). AreVariablesNamed part.variables.items) (part sort_equations) sort_equations_tree part-named body.parts.items a.1;
    }

-- what a type declares

formal-sorts : (o : Option SortList) → IsTreeOf (optional (sequence (quoted Mark.FormalSorts) sort_list)) (formal_sorts_tree o) → Each IsNamed (sort_names o)
formal-sorts None h = tt
formal-sorts (Some sorts) h = sorts-named sorts (parts (parts h)).1

formal-operations : (o : Option (Vec OperationDecl Global)) → IsTreeOf (optional (sequence (quoted Mark.FormalOpns) (repeated operation_declaration))) (formal_operations_tree o) → Each IsDeclarationNamed (listed o)
formal-operations None h = tt
formal-operations (Some ds) h = repeated-each IsDeclarationNamed operation_declaration operation_decl_tree declaration-named ds.items (parts (parts h)).1

formal-equations : (o : Option EquationBody) → IsTreeOf (optional (sequence (quoted Mark.FormalEqns) equation_body)) (formal_equations_tree o) → Each AreEquationsNamed (option_to_list o)
formal-equations None h = tt
formal-equations (Some body) h = (equations-named body (parts (parts h)).1, tt)

of-sorts : (o : Option SortPart) → IsTreeOf (optional (part sort_part)) (optional_sort_part_tree o) → Each IsNamed (part_sort_names o)
of-sorts None h = tt
of-sorts (Some s) h = sorts-named s.sorts (parts (parts (parts h))).1

of-operations : (o : Option OperationPart) → IsTreeOf (optional (part operation_part)) (optional_operation_part_tree o) → Each IsDeclarationNamed (part_operations o)
of-operations None h = tt
of-operations (Some o) h = repeated-each IsDeclarationNamed operation_declaration operation_decl_tree declaration-named o.operations.items (parts (parts (parts h))).1

of-equations : (o : Option EquationPart) → IsTreeOf (optional (part equation_part)) (optional_equation_part_tree o) → Each AreEquationsNamed (part_body o)
of-equations None h = tt
of-equations (Some e) h = (equations-named e.body (parts (parts (parts h))).1, tt)

items-named : (f : Formals) (sorts : Option SortPart) (operations : Option OperationPart) (equations : Option EquationPart) → IsTreeOf declared_items (declared_items_tree f sorts operations equations) →
    AreItemsNamed f sorts operations equations
items-named f sorts operations equations h =
    let a = parts h in
    let b = parts a.1 in
    let c = parts b.1 in
    let d = parts (parts a.0) in
    let e = parts d.1 in
    record {
      formal_sorts = formal-sorts f.sorts d.0;
      sorts_named = of-sorts sorts b.0;
      formal_operations = formal-operations f.operations e.0;
      operations_named = of-operations operations c.0;
      equations_named = each_append AreEquationsNamed (option_to_list f.equations) (part_body equations) (formal-equations f.equations e.1) (of-equations equations c.1);
    }

-- pairs

sort-pair-named : (p : SortPair) → IsTreeOf (part sort_pair) (sort_pair_tree p) → IsNamed p.new
sort-pair-named p h = identifier-at p.new (parts (parts h)).0

operation-pair-named : (p : OperationPair) → IsTreeOf (part operation_pair) (operation_pair_tree p) → IsOperationNamed p.new
operation-pair-named p h = operation-named p.new (parts (parts h)).0

sort-pairs-named : (o : Option (Vec SortPair Global)) → IsTreeOf (optional (sequence (quoted Mark.SortNames) (sequence (part sort_pair) (repeated (sequence (reduced presence (optional (quoted Mark.Comma))) (part sort_pair)))))) (sort_pairs_tree o) →
    Each (λ (p : SortPair). IsNamed p.new) (listed o)
sort-pairs-named None h = tt
sort-pairs-named (Some ps) h = listed-each (λ (p : SortPair). IsNamed p.new) (reduced presence (optional (quoted Mark.Comma))) (part sort_pair) sort_pair_tree sort-pair-named ps.items (parts (parts h)).1

operation-pairs-named : (o : Option (Vec OperationPair Global)) → IsTreeOf (optional (sequence (quoted Mark.OpnNames) (sequence (part operation_pair) (repeated (sequence (reduced presence (optional (quoted Mark.Comma))) (part operation_pair)))))) (operation_pairs_tree o) →
    Each (λ (p : OperationPair). IsOperationNamed p.new) (listed o)
operation-pairs-named None h = tt
operation-pairs-named (Some ps) h =
    listed-each (λ (p : OperationPair). IsOperationNamed p.new) (reduced presence (optional (quoted Mark.Comma))) (part operation_pair) operation_pair_tree operation-pair-named ps.items (parts (parts h)).1

pairs-named : (p : Pairs) → IsTreeOf pairs (pairs_tree p) → ArePairsNamed p
pairs-named p h =
    let a = parts (parts h) in
    record { sorts = sort-pairs-named p.sorts a.0; operations = operation-pairs-named p.operations a.1 }

-- bodies

imported-named : (place : Place) (ts : List Token) (f : Formals) (sorts : Option SortPart) (operations : Option OperationPart) (equations : Option EquationPart) →
    IsTreeOf type_body (node place (imports_tree ts (declared_items_tree f sorts operations equations))) → AreItemsNamed f sorts operations equations
imported-named place [] f sorts operations equations h = absurd (parts (parts h))
imported-named place (t ∷ ts) f sorts operations equations h =
    let a = parts (parts (parts h)) in
    let b = parts (parts (parts a.1)) in
    items-named f sorts operations equations b.1

body-named : (body : TypeBody) → IsTreeOf type_body (type_body_tree body) → IsBodyNamed body
body-named (Declared place None f sorts operations equations) h = items-named f sorts operations equations (parts (parts h))
body-named (Declared place (Some imports) f sorts operations equations) h = imported-named place imports.items f sorts operations equations h
body-named (Renamed place source p) h =
    let a = parts (parts (parts h)) in
    pairs-named p (parts (parts a.1)).1
body-named (Actualized place source actuals p) h =
    let a = parts (parts (parts h)) in
    let b = parts (parts (parts a.1)) in
    let c = parts b.1 in
    pairs-named p (parts c.1).1

pub type-named : (d : TypeDef) → IsTreeOf (part type_definition) (type_def_tree d) → IsTypeNamed d
type-named (Library place names) h = tt
type-named (Definition place n body) h =
    let a = parts (parts (parts h)) in
    let b = parts a.1 in
    let c = parts b.1 in
    body-named body (parts c.1).0

all-named : (types : List TypeDef) → IsTreeOf (repeated (part type_definition)) (repeated_tree (map type_def_tree types)) → Each IsTypeNamed types
all-named types h = repeated-each IsTypeNamed (part type_definition) type_def_tree type-named types h

each-dropped : (n : ℕ) (ts : List Token) → Each IsTokenNamed ts → Each IsTokenNamed (drop n ts)
each-dropped zero ts h = h
each-dropped (suc n) [] h = tt
each-dropped (suc n) (t ∷ ts) h = each-dropped n ts h.1

pub types_are_named : TypesAreNamed
types_are_named tokens from after types named p = all-named types (tree-read p.parsed.read (each-dropped from tokens named)).0

gates-named : (o : Option GateList) → IsTreeOf (optional (part gate_list)) (optional_gates_tree o) → Each IsNamed (gates_in o)
gates-named None h = tt
gates-named (Some g) h = listed-each IsNamed (quoted Mark.Comma) identifier leaf identifier-at g.gates.items (parts (parts (parts (parts h))).1).0

pub specifications_are_named : SpecificationsAreNamed
specifications_are_named tokens spec named p =
    let h : IsTreeOf (part specification) (spec_tree spec) = (tree-read p.read named).0 in
    let a = parts (parts h) in
    let b = parts a.1 in
    let c = parts b.1 in
    let d = parts c.1 in
    let e = parts d.1 in
    let f = parts e.1 in
    (gates-named spec.gates c.0, all-named spec.types.items f.0)
