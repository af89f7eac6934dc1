-- Types of one tree are alike.
use Rattle.std.proofs.Common.{◌≡◌, refl, sym, ap, subst, List, [], ◌∷◌, map, Option, Some, None, Vec, Global}
use Rattle.lotos_ast.specs.declared.declaration.Declaration.{Declaration}
use Rattle.lotos_ast.specs.declared.expression.Expr.{Expr}
use Rattle.lotos_ast.specs.declared.expression.Premiss.{Premiss}
use Rattle.lotos_ast.specs.declared.mark.Mark.{Mark}
use Rattle.lotos_ast.specs.declared.place.Place.{Place}
use Rattle.lotos_ast.specs.declared.token.Token.{Token}
use Rattle.lotos_ast.specs.declared.types.DeclaredName.{DeclaredName}
use Rattle.lotos_ast.specs.declared.types.Equation.{Equation}
use Rattle.lotos_ast.specs.declared.types.EquationBody.{EquationBody}
use Rattle.lotos_ast.specs.declared.types.EquationPart.{EquationPart}
use Rattle.lotos_ast.specs.declared.types.ForAll.{ForAll}
use Rattle.lotos_ast.specs.declared.types.Formals.{Formals}
use Rattle.lotos_ast.specs.declared.types.OperationDecl.{OperationDecl}
use Rattle.lotos_ast.specs.declared.types.OperationName.{OperationName}
use Rattle.lotos_ast.specs.declared.types.OperationName.TheVariants.{Prefix, Infix}
use Rattle.lotos_ast.specs.declared.types.OperationPair.{OperationPair}
use Rattle.lotos_ast.specs.declared.types.OperationPart.{OperationPart}
use Rattle.lotos_ast.specs.declared.types.Pairs.{Pairs}
use Rattle.lotos_ast.specs.declared.types.SortEquations.{SortEquations}
use Rattle.lotos_ast.specs.declared.types.SortList.{SortList}
use Rattle.lotos_ast.specs.declared.types.SortPair.{SortPair}
use Rattle.lotos_ast.specs.declared.types.SortPart.{SortPart}
use Rattle.lotos_ast.specs.declared.types.TypeBody.{TypeBody}
use Rattle.lotos_ast.specs.declared.types.TypeBody.TheVariants.{Declared, Renamed, Actualized}
use Rattle.lotos_ast.specs.declared.types.TypeDef.{TypeDef}
use Rattle.lotos_ast.specs.declared.types.TypeDef.TheVariants.{Library, Definition}
use Rattle.lotos_ast.specs.DeclarationTrees.{declaration_tree}
use Rattle.lotos_ast.specs.ExpressionTrees.{expr_tree, premiss_tree, optional_right_tree}
use Rattle.lotos_ast.specs.Grammar.{rule, operation_declaration, equation_body, formals, declared_items, pairs, type_body, infix_end}
use Rattle.lotos_ast.specs.ListTrees.{tree_place, repeated_tree, list_tree, token_list_tree, optional_token_tree, optional_list_tree, behind}
use Rattle.lotos_ast.specs.Notation.{Syntax, last_mark, quoted, optional, repeated, part, list, identifier, type_definition, operation_part, operation_names, equation_part, sort_equations, equations, equation, sequence, either}
use Rattle.lotos_ast.specs.Reads.{Tree, unkept, leaf, both, left, right, absent, node, reduce}
use Rattle.lotos_ast.specs.TypeTrees.{sort_list_tree, operation_name_tree, two_sorts_tree, both_sorts_tree, infix_end_tree, first_name_tree, prefix_end_tree, names_tree, operation_decl_tree, operation_part_tree, sort_part_tree, for_all_tree, conclusion_tree, first_premiss_tree, premisses_tree, sides_tree, equation_tree, equations_tree, sort_equations_tree, equation_body_tree, equation_part_tree, formal_sorts_tree, formal_operations_tree, formal_equations_tree, formals_tree, sort_pair_tree, operation_pair_tree, sort_pairs_tree, operation_pairs_tree, pairs_tree, optional_sort_part_tree, optional_operation_part_tree, optional_equation_part_tree, declared_items_tree, imports_tree, declared_body_tree, type_body_tree, type_def_tree}
use Rattle.syntax_laws.specs.Alike.{AreAlike, IfThere, HaveSame, HaveAlike, AreDeclarationsAlike, AreVariablesAlike, AreSortListsAlike, AreSortPartsAlike, AreOperationsAlike, AreOperationPartsAlike, ArePremissesAlike, AreEquationsAlike, AreSortEquationsAlike, AreEquationBodiesAlike, AreEquationPartsAlike, AreFormalsAlike, ArePairsAlike, AreItemsAlike, AreBodiesAlike, AreTypesAlike}
use Rattle.syntax_laws.specs.Laws.{TreesDetermineTypes, TreesDetermineTypeLists}
use Rattle.syntax_laws.proofs.Trees.{IsTreeOf, of_absent, of_present, of_sequence, tree-read, parts, repeated-alike, all-alike, listed-alike, behind-list-alike, same-list, tokens-one, further-tokens-one}

optional-token-one : (o p : Option Token) → optional_token_tree o ≡ optional_token_tree p → o ≡ p
optional-token-one None None e = refl
optional-token-one None (Some t) e = absurd (cc)
optional-token-one (Some t) None e = absurd (cc)
optional-token-one (Some t) (Some u) e = cc

optional-list-one : (o p : Option (Vec Token Global)) → optional_list_tree o ≡ optional_list_tree p → IfThere HaveSame o p
optional-list-one None None e = tt
optional-list-one None (Some w) e = absurd (cc)
optional-list-one (Some v) None e = absurd (cc)
optional-list-one (Some v) (Some w) e = tokens-one v.items w.items (let k : token_list_tree v.items ≡ token_list_tree w.items = cc in k)

-- sorts

sort-lists-alike : (l m : SortList) → sort_list_tree l ≡ sort_list_tree m → AreSortListsAlike l m
sort-lists-alike l m e = record {
  place = cc;
  names = tokens-one l.names.items m.names.items (let k : token_list_tree l.names.items ≡ token_list_tree m.names.items = cc in k);
}

sort-parts-alike : (s t : SortPart) → sort_part_tree s ≡ sort_part_tree t → AreSortPartsAlike s t
sort-parts-alike s t e = record { place = cc; sorts = sort-lists-alike s.sorts t.sorts (let k : sort_list_tree s.sorts ≡ sort_list_tree t.sorts = cc in k) }

-- operations

operation-name-one : (m n : OperationName) → operation_name_tree m ≡ operation_name_tree n → m ≡ n
operation-name-one (Prefix p a) (Prefix q b) e = cc
operation-name-one (Prefix p a) (Infix q b) e = absurd (cc)
operation-name-one (Infix p a) (Prefix q b) e = absurd (cc)
operation-name-one (Infix p a) (Infix q b) e = cc

declared-name-one : (n m : DeclaredName) → n.place ≡ m.place → n.name ≡ m.name → n.mark ≡ m.mark → n ≡ m
declared-name-one n m a b c = λ i. record { place = a i; name = b i; mark = c i }

two-sorts-one : (xs ys : List Token) (r u : Token) → IsTreeOf infix_end (right (two_sorts_tree xs r)) → two_sorts_tree xs r ≡ two_sorts_tree ys u → (xs ≡ ys) × (r ≡ u)
two-sorts-one [] ys r u h e = absurd (parts (parts h))
two-sorts-one (a ∷ []) ys r u h e = absurd (parts (parts h))
two-sorts-one (a ∷ b ∷ x ∷ xs) ys r u h e = absurd (parts (parts h))
two-sorts-one (a ∷ b ∷ []) [] r u h e = absurd (cc)
two-sorts-one (a ∷ b ∷ []) (c ∷ []) r u h e = absurd (cc)
two-sorts-one (a ∷ b ∷ []) (c ∷ d ∷ []) r u h e = (cc, cc)
two-sorts-one (a ∷ b ∷ []) (c ∷ d ∷ y ∷ ys) r u h e = absurd (cc)

not-unkept : (xs : List Token) (r : Token) → IsTreeOf infix_end (right (two_sorts_tree xs r)) → two_sorts_tree xs r ≡ unkept → ⊥
not-unkept xs r h e = parts (parts (subst (λ z. IsTreeOf infix_end (right z)) e h))

both-sorts-one : (o p : Option (Vec Token Global)) (r u : Token) → IsTreeOf infix_end (right (both_sorts_tree o r)) → both_sorts_tree o r ≡ both_sorts_tree p u → IfThere HaveSame o p × (r ≡ u)
both-sorts-one None p r u h e = absurd (parts (parts h))
both-sorts-one (Some v) (Some w) r u h e = two-sorts-one v.items w.items r u h e
both-sorts-one (Some v) None r u h e = absurd (not-unkept v.items r h e)

first-is-there : (p : Place) (m : OperationName) (k : Option Token) (x y : Tree) → unkept ≡ first_name_tree p m k x y → ⊥
first-is-there p (Prefix a n) k x y e = cc
first-is-there p (Infix a n) k x y e = cc

module _ (s t : Option (Vec Token Global)) (r u : Token) where
  -- the names are the same, and so is what follows them
  record AreSame (ns ms : List DeclaredName) : Type 0 where
    pub names : ns ≡ ms
    pub arguments : IfThere HaveSame s t
    pub result : r ≡ u

  more-same : (n m : DeclaredName) (ns ms : List DeclaredName) → n ≡ m → AreSame ns ms → AreSame (n ∷ ns) (m ∷ ms)
  more-same n m ns ms e h = let k = h.names in record { names = cc; arguments = h.arguments; result = h.result }

  -- where one that stands between its arguments is among the names so far
  infix-ends : (ns ms : List DeclaredName) → IsTreeOf infix_end (infix_end_tree ns s r) → infix_end_tree ns s r ≡ infix_end_tree ms t u → AreSame ns ms
  infix-ends [] [] h e =
      let k : both_sorts_tree s r ≡ both_sorts_tree t u = cc in
      let both = both-sorts-one s t r u h k in
      record { names = refl; arguments = both.0; result = both.1 }
  infix-ends [] (m ∷ ms) h e = absurd (cc)
  infix-ends (n ∷ ns) [] h e = absurd (cc)
  infix-ends (n ∷ ns) (m ∷ ms) h e =
      let a = parts (parts (parts (parts h)).1) in
      let b = parts a.1 in
      let place : n.place ≡ m.place = cc in
      let name : operation_name_tree n.name ≡ operation_name_tree m.name = cc in
      let mark : optional_token_tree n.mark ≡ optional_token_tree m.mark = cc in
      let rest : infix_end_tree ns s r ≡ infix_end_tree ms t u = cc in
      more-same n m ns ms (declared-name-one n m place (operation-name-one n.name m.name name) (optional-token-one n.mark m.mark mark)) (infix-ends ns ms b.1 rest)

  abbrev prefix_end : Syntax
  prefix_end = either (sequence (quoted Mark.Comma) (part operation_names)) (sequence (quoted Mark.Colon) (sequence (optional (list identifier)) (sequence (quoted Mark.Arrow) identifier)))

  -- a name, and what follows it
  record IsFirstSame (p q : Place) (m l : OperationName) (k j : Option Token) (ns ms : List DeclaredName) : Type 0 where
    pub place : p ≡ q
    pub name : m ≡ l
    pub mark : k ≡ j
    pub rest : AreSame ns ms

  first-same : (p q : Place) (m l : OperationName) (k j : Option Token) (ns ms : List DeclaredName) →
      (IsTreeOf prefix_end (prefix_end_tree ns s r) → prefix_end_tree ns s r ≡ prefix_end_tree ms t u → AreSame ns ms) →
      IsTreeOf (part operation_names) (first_name_tree p m k (prefix_end_tree ns s r) (infix_end_tree ns s r)) →
      first_name_tree p m k (prefix_end_tree ns s r) (infix_end_tree ns s r) ≡ first_name_tree q l j (prefix_end_tree ms t u) (infix_end_tree ms t u) →
      IsFirstSame p q m l k j ns ms
  first-same p q (Prefix a n) (Prefix b o) k j ns ms later h e =
      let x = parts (parts (parts h)) in
      let y = parts x.1 in
      let mark : optional_token_tree k ≡ optional_token_tree j = cc in
      let rest : prefix_end_tree ns s r ≡ prefix_end_tree ms t u = cc in
      record { place = cc; name = cc; mark = optional-token-one k j mark; rest = later y.1 rest }
  first-same p q (Prefix a n) (Infix b o) k j ns ms later h e = absurd (cc)
  first-same p q (Infix a n) (Prefix b o) k j ns ms later h e = absurd (cc)
  first-same p q (Infix a n) (Infix b o) k j ns ms later h e =
      let x = parts (parts (parts h)) in
      let y = parts x.1 in
      let mark : optional_token_tree k ≡ optional_token_tree j = cc in
      let rest : infix_end_tree ns s r ≡ infix_end_tree ms t u = cc in
      record { place = cc; name = cc; mark = optional-token-one k j mark; rest = infix-ends ns ms y.1 rest }

  with-first : (n m : DeclaredName) (ns ms : List DeclaredName) → IsFirstSame n.place m.place n.name m.name n.mark m.mark ns ms → AreSame (n ∷ ns) (m ∷ ms)
  with-first n m ns ms h = more-same n m ns ms (declared-name-one n m h.place h.name h.mark) h.rest

  prefix-ends : (ns ms : List DeclaredName) → IsTreeOf prefix_end (prefix_end_tree ns s r) → prefix_end_tree ns s r ≡ prefix_end_tree ms t u → AreSame ns ms
  prefix-ends [] [] h e =
      let k : optional_list_tree s ≡ optional_list_tree t = cc in
      record { names = refl; arguments = optional-list-one s t k; result = cc }
  prefix-ends [] (m ∷ ms) h e = absurd (cc)
  prefix-ends (n ∷ ns) [] h e = absurd (cc)
  prefix-ends (n ∷ ns) (m ∷ ms) h e =
      let k : first_name_tree n.place n.name n.mark (prefix_end_tree ns s r) (infix_end_tree ns s r) ≡ first_name_tree m.place m.name m.mark (prefix_end_tree ms t u) (infix_end_tree ms t u) = cc in
      with-first n m ns ms (first-same n.place m.place n.name m.name n.mark m.mark ns ms (prefix-ends ns ms) (parts (parts h)).1 k)

  names-same : (ns ms : List DeclaredName) → IsTreeOf (part operation_names) (names_tree ns s r) → names_tree ns s r ≡ names_tree ms t u → AreSame ns ms
  names-same [] ms h e = absurd (parts h)
  names-same (n ∷ ns) [] h e = absurd (first-is-there n.place n.name n.mark (prefix_end_tree ns s r) (infix_end_tree ns s r) (sym e))
  names-same (n ∷ ns) (m ∷ ms) h e = with-first n m ns ms (first-same n.place m.place n.name m.name n.mark m.mark ns ms (prefix-ends ns ms) h e)

operations-alike : (d e : OperationDecl) → IsTreeOf operation_declaration (operation_decl_tree d) → operation_decl_tree d ≡ operation_decl_tree e → AreOperationsAlike d e
operations-alike d e h k =
    let names : names_tree d.names.items d.arguments d.result ≡ names_tree e.names.items e.arguments e.result = cc in
    let same = names-same d.arguments e.arguments d.result e.result d.names.items e.names.items (parts h) names in
    record { place = cc; names = same.names; arguments = same.arguments; result = same.result }

operation-parts-alike : (o p : OperationPart) → IsTreeOf (part operation_part) (operation_part_tree o) → operation_part_tree o ≡ operation_part_tree p → AreOperationPartsAlike o p
operation-parts-alike o p h e =
    let k : repeated_tree (map operation_decl_tree o.operations.items) ≡ repeated_tree (map operation_decl_tree p.operations.items) = cc in
    record { place = cc; operations = repeated-alike AreOperationsAlike operation_decl_tree operation_declaration operations-alike o.operations.items p.operations.items (parts (parts h)).1 k }

-- variables

pub declarations-alike : (d e : Declaration) → declaration_tree d ≡ declaration_tree e → AreDeclarationsAlike d e
declarations-alike d e k =
    let names : token_list_tree d.names.items ≡ token_list_tree e.names.items = cc in
    record { place = cc; names = tokens-one d.names.items e.names.items names; sort = cc }

variables-alike : (f h : ForAll) → for_all_tree f ≡ for_all_tree h → AreVariablesAlike f h
variables-alike f h e =
    let k : list_tree (map declaration_tree f.declarations.list.items) ≡ list_tree (map declaration_tree h.declarations.list.items) = cc in
    record { place = cc; list_place = cc; list = listed-alike AreDeclarationsAlike declaration_tree declarations-alike f.declarations.list.items h.declarations.list.items k }

-- equations

first-premiss-one : (o q : Option Expr) (x y : Tree) → first_premiss_tree o x ≡ first_premiss_tree q y → (optional_right_tree o ≡ optional_right_tree q) × (x ≡ y)
first-premiss-one None None x y e = (refl, cc)
first-premiss-one None (Some b) x y e = absurd (cc)
first-premiss-one (Some a) None x y e = absurd (cc)
first-premiss-one (Some a) (Some b) x y e =
    let k : expr_tree a ≡ expr_tree b = cc in
    ((let z : optional_right_tree (Some a) ≡ optional_right_tree (Some b) = cc in z), cc)

no-premiss : (o : Option Expr) (x y : Tree) → left (behind (both y absent)) ≡ first_premiss_tree o x → ⊥
no-premiss None x y e = cc
no-premiss (Some a) x y e = cc

-- the parts of an equation
record AreSidesAlike (o p : Option (Vec Premiss Global)) (l m r s : Expr) : Type 0 where
  pub premisses : IfThere (HaveAlike ArePremissesAlike) o p
  pub left_same : expr_tree l ≡ expr_tree m
  pub right_same : expr_tree r ≡ expr_tree s

record ArePremissedAlike (ps qs : List Premiss) (l m r s : Expr) : Type 0 where
  pub premisses : AreAlike ArePremissesAlike ps qs
  pub left_same : expr_tree l ≡ expr_tree m
  pub right_same : expr_tree r ≡ expr_tree s

premissed-alike : (ps qs : List Premiss) (l m r s : Expr) → (premisses_tree ps l r ≡ unkept → ⊥) → premisses_tree ps l r ≡ premisses_tree qs m s → ArePremissedAlike ps qs l m r s
premissed-alike [] qs l m r s h e = absurd (h refl)
premissed-alike (p ∷ ps) [] l m r s h e = absurd (cc)
premissed-alike (p ∷ ps) (q ∷ qs) l m r s h e =
    let place : p.place ≡ q.place = cc in
    let first : expr_tree p.left ≡ expr_tree q.left = cc in
    let rest : first_premiss_tree p.right (conclusion_tree (map premiss_tree ps) l r) ≡ first_premiss_tree q.right (conclusion_tree (map premiss_tree qs) m s) = cc in
    let k = first-premiss-one p.right q.right (conclusion_tree (map premiss_tree ps) l r) (conclusion_tree (map premiss_tree qs) m s) rest in
    let second : optional_right_tree p.right ≡ optional_right_tree q.right = k.0 in
    let conclusion : conclusion_tree (map premiss_tree ps) l r ≡ conclusion_tree (map premiss_tree qs) m s = k.1 in
    let others : repeated_tree (map behind (map premiss_tree ps)) ≡ repeated_tree (map behind (map premiss_tree qs)) = cc in
    record {
      premisses = ((let z : premiss_tree p ≡ premiss_tree q = cc in z), behind-list-alike ArePremissesAlike premiss_tree (λ x y a. a) ps qs others);
      left_same = cc;
      right_same = cc;
    }

no-premisses : (qs : List Premiss) (x y : Tree) (m s : Expr) (p : Place) → node p (both x (left (behind (both y absent)))) ≡ premisses_tree qs m s → ⊥
no-premisses [] x y m s p e = cc
no-premisses (q ∷ qs) x y m s p e = no-premiss q.right (conclusion_tree (map premiss_tree qs) m s) y (let k : left (behind (both y absent)) ≡ first_premiss_tree q.right (conclusion_tree (map premiss_tree qs) m s) = cc in k)

sides-alike : (o p : Option (Vec Premiss Global)) (l m r s : Expr) → (sides_tree o l r ≡ unkept → ⊥) → sides_tree o l r ≡ sides_tree p m s → AreSidesAlike o p l m r s
sides-alike None None l m r s h e = record { premisses = tt; left_same = cc; right_same = cc }
sides-alike None (Some w) l m r s h e = absurd (no-premisses w.items (expr_tree l) (expr_tree r) m s (tree_place (expr_tree l)) e)
sides-alike (Some v) None l m r s h e = absurd (no-premisses v.items (expr_tree m) (expr_tree s) l r (tree_place (expr_tree m)) (sym e))
sides-alike (Some v) (Some w) l m r s h e =
    let k = premissed-alike v.items w.items l m r s h e in
    record { premisses = k.premisses; left_same = k.left_same; right_same = k.right_same }

equation-alike : (e d : Equation) → IsTreeOf (part equation) (equation_tree e) → equation_tree e ≡ equation_tree d → AreEquationsAlike e d
equation-alike e d h k =
    let sides : sides_tree e.premisses e.left e.right ≡ sides_tree d.premisses d.left d.right = cc in
    let s = sides-alike e.premisses d.premisses e.left d.left e.right d.right (λ z. parts (subst (IsTreeOf (rule equation)) z (parts h))) sides in
    record { place = cc; premisses = s.premisses; left = s.left_same; right = s.right_same }

behind-mark : {k : Mark} {g : Syntax} {y : Tree} → IsTreeOf (optional (sequence (quoted k) (optional g))) y → (rest : Tree) → reduce last_mark y ≡ rest → IsTreeOf (optional g) rest
behind-mark {g = g} of_absent rest e = subst (IsTreeOf (optional g)) e of_absent
behind-mark {g = g} (of_present (of_sequence a b)) rest e = subst (IsTreeOf (optional g)) e b

equations-alike : (es ds : List Equation) → IsTreeOf (optional (part equations)) (equations_tree (map equation_tree es)) → equations_tree (map equation_tree es) ≡ equations_tree (map equation_tree ds) → AreAlike AreEquationsAlike es ds
equations-alike [] [] h e = tt
equations-alike [] (d ∷ ds) h e = absurd (cc)
equations-alike (x ∷ es) [] h e = absurd (cc)
equations-alike (x ∷ es) (d ∷ ds) h e =
    let a = parts (parts (parts h)) in
    let b = parts a.1 in
    let first : equation_tree x ≡ equation_tree d = cc in
    let rest : equations_tree (map equation_tree es) ≡ equations_tree (map equation_tree ds) = cc in
    (equation-alike x d a.0 first, equations-alike es ds (behind-mark b.2 (equations_tree (map equation_tree es)) b.1) rest)

sort-equations-alike : (e d : SortEquations) → IsTreeOf (part sort_equations) (sort_equations_tree e) → sort_equations_tree e ≡ sort_equations_tree d → AreSortEquationsAlike e d
sort-equations-alike e d h k =
    let a = parts (parts h) in
    let b = parts a.1 in
    let c = parts b.1 in
    let variables : repeated_tree (map for_all_tree e.variables.items) ≡ repeated_tree (map for_all_tree d.variables.items) = cc in
    let all : equations_tree (map equation_tree e.equations.items) ≡ equations_tree (map equation_tree d.equations.items) = cc in
    record {
      place = cc;
      sort = cc;
      variables = all-alike AreVariablesAlike for_all_tree variables-alike e.variables.items d.variables.items variables;
      equations = equations-alike e.equations.items d.equations.items c.1 all;
    }

equation-bodies-alike : (b c : EquationBody) → IsTreeOf equation_body (equation_body_tree b) → equation_body_tree b ≡ equation_body_tree c → AreEquationBodiesAlike b c
equation-bodies-alike b c h k =
    let a = parts (parts h) in
    let variables : repeated_tree (map for_all_tree b.variables.items) ≡ repeated_tree (map for_all_tree c.variables.items) = cc in
    let all : repeated_tree (map sort_equations_tree b.parts.items) ≡ repeated_tree (map sort_equations_tree c.parts.items) = cc in
    record {
      place = cc;
      variables = all-alike AreVariablesAlike for_all_tree variables-alike b.variables.items c.variables.items variables;
      parts = repeated-alike AreSortEquationsAlike sort_equations_tree (part sort_equations) sort-equations-alike b.parts.items c.parts.items a.1 all;
    }

equation-parts-alike : (e d : EquationPart) → IsTreeOf (part equation_part) (equation_part_tree e) → equation_part_tree e ≡ equation_part_tree d → AreEquationPartsAlike e d
equation-parts-alike e d h k =
    let body : equation_body_tree e.body ≡ equation_body_tree d.body = cc in
    record { place = cc; body = equation-bodies-alike e.body d.body (parts (parts h)).1 body }

-- what types declare

formal-sorts-alike : (o p : Option SortList) → formal_sorts_tree o ≡ formal_sorts_tree p → IfThere AreSortListsAlike o p
formal-sorts-alike None None e = tt
formal-sorts-alike None (Some m) e = absurd (cc)
formal-sorts-alike (Some l) None e = absurd (cc)
formal-sorts-alike (Some l) (Some m) e = sort-lists-alike l m (let k : sort_list_tree l ≡ sort_list_tree m = cc in k)

formal-operations-alike : (o p : Option (Vec OperationDecl Global)) → IsTreeOf (optional (sequence (quoted Mark.FormalOpns) (repeated operation_declaration))) (formal_operations_tree o) → formal_operations_tree o ≡ formal_operations_tree p →
    IfThere (HaveAlike AreOperationsAlike) o p
formal-operations-alike None None h e = tt
formal-operations-alike None (Some ws) h e = absurd (cc)
formal-operations-alike (Some vs) None h e = absurd (cc)
formal-operations-alike (Some vs) (Some ws) h e =
    let k : repeated_tree (map operation_decl_tree vs.items) ≡ repeated_tree (map operation_decl_tree ws.items) = cc in
    repeated-alike AreOperationsAlike operation_decl_tree operation_declaration operations-alike vs.items ws.items (parts (parts h)).1 k

formal-equations-alike : (o p : Option EquationBody) → IsTreeOf (optional (sequence (quoted Mark.FormalEqns) equation_body)) (formal_equations_tree o) → formal_equations_tree o ≡ formal_equations_tree p →
    IfThere AreEquationBodiesAlike o p
formal-equations-alike None None h e = tt
formal-equations-alike None (Some c) h e = absurd (cc)
formal-equations-alike (Some b) None h e = absurd (cc)
formal-equations-alike (Some b) (Some c) h e = equation-bodies-alike b c (parts (parts h)).1 (let k : equation_body_tree b ≡ equation_body_tree c = cc in k)

of-sorts-alike : (o p : Option SortPart) → optional_sort_part_tree o ≡ optional_sort_part_tree p → IfThere AreSortPartsAlike o p
of-sorts-alike None None e = tt
of-sorts-alike None (Some t) e = absurd (cc)
of-sorts-alike (Some s) None e = absurd (cc)
of-sorts-alike (Some s) (Some t) e = sort-parts-alike s t (let k : sort_part_tree s ≡ sort_part_tree t = cc in k)

of-operations-alike : (o p : Option OperationPart) → IsTreeOf (optional (part operation_part)) (optional_operation_part_tree o) → optional_operation_part_tree o ≡ optional_operation_part_tree p → IfThere AreOperationPartsAlike o p
of-operations-alike None None h e = tt
of-operations-alike None (Some t) h e = absurd (cc)
of-operations-alike (Some s) None h e = absurd (cc)
of-operations-alike (Some s) (Some t) h e = operation-parts-alike s t (parts h) (let k : operation_part_tree s ≡ operation_part_tree t = cc in k)

of-equations-alike : (o p : Option EquationPart) → IsTreeOf (optional (part equation_part)) (optional_equation_part_tree o) → optional_equation_part_tree o ≡ optional_equation_part_tree p → IfThere AreEquationPartsAlike o p
of-equations-alike None None h e = tt
of-equations-alike None (Some t) h e = absurd (cc)
of-equations-alike (Some s) None h e = absurd (cc)
of-equations-alike (Some s) (Some t) h e = equation-parts-alike s t (parts h) (let k : equation_part_tree s ≡ equation_part_tree t = cc in k)

formals-alike : (f g : Formals) → IsTreeOf formals (formals_tree f) → formals_tree f ≡ formals_tree g → AreFormalsAlike f g
formals-alike f g h k =
    let a = parts (parts h) in
    let b = parts a.1 in
    let sorts : formal_sorts_tree f.sorts ≡ formal_sorts_tree g.sorts = cc in
    let operations : formal_operations_tree f.operations ≡ formal_operations_tree g.operations = cc in
    let all : formal_equations_tree f.equations ≡ formal_equations_tree g.equations = cc in
    record {
      place = cc;
      sorts = formal-sorts-alike f.sorts g.sorts sorts;
      operations = formal-operations-alike f.operations g.operations b.0 operations;
      equations = formal-equations-alike f.equations g.equations b.1 all;
    }

items-alike : (f g : Formals) (s t : Option SortPart) (o p : Option OperationPart) (c d : Option EquationPart) → IsTreeOf declared_items (declared_items_tree f s o c) →
    declared_items_tree f s o c ≡ declared_items_tree g t p d → AreItemsAlike f g s t o p c d
items-alike f g s t o p c d h k =
    let a = parts h in
    let b = parts a.1 in
    let e = parts b.1 in
    let formal : formals_tree f ≡ formals_tree g = cc in
    let sorts : optional_sort_part_tree s ≡ optional_sort_part_tree t = cc in
    let operations : optional_operation_part_tree o ≡ optional_operation_part_tree p = cc in
    let all : optional_equation_part_tree c ≡ optional_equation_part_tree d = cc in
    record {
      formals = formals-alike f g a.0 formal;
      sorts_alike = of-sorts-alike s t sorts;
      operations_alike = of-operations-alike o p e.0 operations;
      equations_alike = of-equations-alike c d e.1 all;
    }

-- pairs

sort-pair-one : (p q : SortPair) → sort_pair_tree p ≡ sort_pair_tree q → p ≡ q
sort-pair-one p q e =
    let a : p.place ≡ q.place = cc in
    let b : p.new ≡ q.new = cc in
    let c : p.old ≡ q.old = cc in
    λ i. record { place = a i; new = b i; old = c i }

operation-pair-one : (p q : OperationPair) → operation_pair_tree p ≡ operation_pair_tree q → p ≡ q
operation-pair-one p q e =
    let a : p.place ≡ q.place = cc in
    let m : operation_name_tree p.new ≡ operation_name_tree q.new = cc in
    let n : operation_name_tree p.old ≡ operation_name_tree q.old = cc in
    let b : p.new ≡ q.new = operation-name-one p.new q.new m in
    let c : p.old ≡ q.old = operation-name-one p.old q.old n in
    λ i. record { place = a i; new = b i; old = c i }

sort-pairs-alike : (o p : Option (Vec SortPair Global)) → sort_pairs_tree o ≡ sort_pairs_tree p → IfThere HaveSame o p
sort-pairs-alike None None e = tt
sort-pairs-alike None (Some w) e = absurd (cc)
sort-pairs-alike (Some v) None e = absurd (cc)
sort-pairs-alike (Some v) (Some w) e =
    let k : list_tree (map sort_pair_tree v.items) ≡ list_tree (map sort_pair_tree w.items) = cc in
    same-list v.items w.items (listed-alike (λ x y. x ≡ y) sort_pair_tree sort-pair-one v.items w.items k)

operation-pairs-alike : (o p : Option (Vec OperationPair Global)) → operation_pairs_tree o ≡ operation_pairs_tree p → IfThere HaveSame o p
operation-pairs-alike None None e = tt
operation-pairs-alike None (Some w) e = absurd (cc)
operation-pairs-alike (Some v) None e = absurd (cc)
operation-pairs-alike (Some v) (Some w) e =
    let k : list_tree (map operation_pair_tree v.items) ≡ list_tree (map operation_pair_tree w.items) = cc in
    same-list v.items w.items (listed-alike (λ x y. x ≡ y) operation_pair_tree operation-pair-one v.items w.items k)

pairs-alike : (p q : Pairs) → pairs_tree p ≡ pairs_tree q → ArePairsAlike p q
pairs-alike p q e =
    let sorts : sort_pairs_tree p.sorts ≡ sort_pairs_tree q.sorts = cc in
    let operations : operation_pairs_tree p.operations ≡ operation_pairs_tree q.operations = cc in
    record { place = cc; sorts = sort-pairs-alike p.sorts q.sorts sorts; operations = operation-pairs-alike p.operations q.operations operations }

-- bodies

-- imports, and what the type declares
record AreImportsAlike (o p : Option (Vec Token Global)) (x y : Tree) : Type 0 where
  pub imports : IfThere HaveSame o p
  pub items : x ≡ y
  pub read : IsTreeOf declared_items x

some-imports : (place : Place) (ts us : List Token) (x y : Tree) → IsTreeOf type_body (node place (imports_tree ts x)) → imports_tree ts x ≡ imports_tree us y → (ts ≡ us) × (x ≡ y) × IsTreeOf declared_items x
some-imports place [] us x y h e = absurd (parts (parts h))
some-imports place (t ∷ ts) [] x y h e = absurd (cc)
some-imports place (t ∷ ts) (u ∷ us) x y h e =
    let a = parts (parts (parts h)) in
    let b = parts (parts (parts a.1)) in
    let first : t ≡ u = cc in
    let others : repeated_tree (map behind (map leaf ts)) ≡ repeated_tree (map behind (map leaf us)) = cc in
    let rest : ts ≡ us = further-tokens-one ts us others in
    ((let k : t ∷ ts ≡ u ∷ us = cc in k), cc, b.1)

imports-alike : (place : Place) (o p : Option (Vec Token Global)) (x y : Tree) → IsTreeOf type_body (node place (declared_body_tree o x)) → declared_body_tree o x ≡ declared_body_tree p y → AreImportsAlike o p x y
imports-alike place None None x y h e = record { imports = tt; items = cc; read = parts (parts h) }
imports-alike place None (Some w) x y h e = absurd (right-is-no-import w.items e)
  where
    right-is-no-import : (us : List Token) → right x ≡ imports_tree us y → ⊥
    right-is-no-import [] e = cc
    right-is-no-import (u ∷ us) e = cc
imports-alike place (Some v) None x y h e = absurd (no-import-is-right v.items h e)
  where
    no-import-is-right : (ts : List Token) → IsTreeOf type_body (node place (imports_tree ts x)) → imports_tree ts x ≡ right y → ⊥
    no-import-is-right [] h e = cc
    no-import-is-right (t ∷ ts) h e = cc
imports-alike place (Some v) (Some w) x y h e =
    let k = some-imports place v.items w.items x y h e in
    record { imports = k.0; items = k.1; read = k.2 }

-- a type that copies another has none of its own
declared-is-no-copy : (o : Option (Vec Token Global)) (x y z : Tree) → declared_body_tree o x ≡ left (both y (left z)) → ⊥
declared-is-no-copy None x y z e = cc
declared-is-no-copy (Some v) x y z e = by-list v.items e
  where
    by-list : (ts : List Token) → imports_tree ts x ≡ left (both y (left z)) → ⊥
    by-list [] e = cc
    by-list (t ∷ ts) e = cc

declared-is-no-instance : (o : Option (Vec Token Global)) (x y z : Tree) → declared_body_tree o x ≡ left (both y (right (left z))) → ⊥
declared-is-no-instance None x y z e = cc
declared-is-no-instance (Some v) x y z e = by-list v.items e
  where
    by-list : (ts : List Token) → imports_tree ts x ≡ left (both y (right (left z))) → ⊥
    by-list [] e = cc
    by-list (t ∷ ts) e = cc

inside : {p q : Place} {x y : Tree} → node p x ≡ node q y → x ≡ y
inside e = cc

bodies-alike : (b c : TypeBody) → IsTreeOf type_body (type_body_tree b) → type_body_tree b ≡ type_body_tree c → AreBodiesAlike b c
bodies-alike (Declared p imports f s o e) (Declared q others g t r d) h k =
    let i = imports-alike p imports others (declared_items_tree f s o e) (declared_items_tree g t r d) h (inside k) in
    ((let z : p ≡ q = cc in z), i.imports, items-alike f g s t o r e d i.read i.items)
bodies-alike (Declared p imports f s o e) (Renamed q source pairs) h k = declared-is-no-copy imports (declared_items_tree f s o e) _ _ (inside k)
bodies-alike (Declared p imports f s o e) (Actualized q source actuals pairs) h k = declared-is-no-instance imports (declared_items_tree f s o e) _ _ (inside k)
bodies-alike (Renamed q source pairs) (Declared p imports f s o e) h k = declared-is-no-copy imports (declared_items_tree f s o e) _ _ (sym (inside k))
bodies-alike (Renamed p source pairs) (Renamed q other news) h k =
    let z : pairs_tree pairs ≡ pairs_tree news = cc in
    ((let y : p ≡ q = cc in y), (let x : source ≡ other = cc in x), pairs-alike pairs news z)
bodies-alike (Renamed p source pairs) (Actualized q other actuals news) h k = absurd (cc)
bodies-alike (Actualized q source actuals pairs) (Declared p imports f s o e) h k = declared-is-no-instance imports (declared_items_tree f s o e) _ _ (sym (inside k))
bodies-alike (Actualized p source actuals pairs) (Renamed q other news) h k = absurd (cc)
bodies-alike (Actualized p source actuals pairs) (Actualized q other items news) h k =
    let z : pairs_tree pairs ≡ pairs_tree news = cc in
    let w : token_list_tree actuals.items ≡ token_list_tree items.items = cc in
    ((let y : p ≡ q = cc in y), (let x : source ≡ other = cc in x), tokens-one actuals.items items.items w, pairs-alike pairs news z)

pub types-alike : (a b : TypeDef) → IsTreeOf (part type_definition) (type_def_tree a) → type_def_tree a ≡ type_def_tree b → AreTypesAlike a b
types-alike (Library p names) (Library q others) h k =
    let w : token_list_tree names.items ≡ token_list_tree others.items = cc in
    ((let y : p ≡ q = cc in y), tokens-one names.items others.items w)
types-alike (Library p names) (Definition q other content) h k = absurd (cc)
types-alike (Definition p name body) (Library q others) h k = absurd (cc)
types-alike (Definition p name body) (Definition q other content) h k =
    let a = parts (parts (parts h)) in
    let b = parts a.1 in
    let c = parts b.1 in
    let d = parts c.1 in
    let z : type_body_tree body ≡ type_body_tree content = cc in
    ((let y : p ≡ q = cc in y), (let x : name ≡ other = cc in x), bodies-alike body content d.0 z)

lists-alike : (xs ys : List TypeDef) → IsTreeOf (repeated (part type_definition)) (repeated_tree (map type_def_tree xs)) → map type_def_tree xs ≡ map type_def_tree ys → AreAlike AreTypesAlike xs ys
lists-alike xs ys h e = repeated-alike AreTypesAlike type_def_tree (part type_definition) types-alike xs ys h (ap repeated_tree e)

pub trees_determine_types : TreesDetermineTypes
trees_determine_types d s r a b h e = types-alike a b (tree-read h) e

pub trees_determine_type_lists : TreesDetermineTypeLists
trees_determine_type_lists d s r xs ys h e = lists-alike xs ys (tree-read h) e
