-- Parts of behaviours with one tree are alike.
use Rattle.std.proofs.Common.{◌≡◌, refl, List, [], ◌∷◌, map, Option, Some, None, Vec, Global}
use Rattle.lotos_ast.specs.declared.behaviour.Binding.{Binding}
use Rattle.lotos_ast.specs.declared.behaviour.ExitValue.{ExitValue}
use Rattle.lotos_ast.specs.declared.behaviour.ExitValue.TheVariants.{Any}
use Rattle.lotos_ast.specs.declared.behaviour.GateChoice.{GateChoice}
use Rattle.lotos_ast.specs.declared.behaviour.Offer.{Offer}
use Rattle.lotos_ast.specs.declared.behaviour.Offer.TheVariants.{Variables}
use Rattle.lotos_ast.specs.declared.behaviour.Operator.{Operator}
use Rattle.lotos_ast.specs.declared.behaviour.Operator.TheVariants.{Interleave, Synchronise, Shared}
use Rattle.lotos_ast.specs.declared.declaration.Declaration.{Declaration}
use Rattle.lotos_ast.specs.declared.declaration.Declarations.{Declarations}
use Rattle.lotos_ast.specs.declared.declaration.Functionality.{Functionality}
use Rattle.lotos_ast.specs.declared.declaration.Functionality.TheVariants.{NoExit, Exit}
use Rattle.lotos_ast.specs.declared.declaration.GateList.{GateList}
use Rattle.lotos_ast.specs.declared.expression.Expr.{Expr}
use Rattle.lotos_ast.specs.declared.expression.Premiss.{Premiss}
use Rattle.lotos_ast.specs.declared.place.Place.{Place}
use Rattle.lotos_ast.specs.declared.token.Token.{Token}
use Rattle.lotos_ast.specs.BehaviourTrees.{accepts_tree, operator_tree, predicate_tree, optional_predicate_tree, offer_tree, offers_tree}
use Rattle.lotos_ast.specs.BehaviourTrees.{exit_value_tree, exit_values_tree, binding_tree, gate_choice_tree, choice_declarations_tree, first_names_tree, choice_gates_tree}
use Rattle.lotos_ast.specs.DeclarationTrees.{declaration_tree, declarations_tree, gate_list_tree, optional_gates_tree, functionality_tree}
use Rattle.lotos_ast.specs.ExpressionTrees.{expr_tree, values_tree}
use Rattle.lotos_ast.specs.ListTrees.{token_list_tree, list_tree, repeated_tree, behind}
use Rattle.lotos_ast.specs.Reads.{Tree, unkept, leaf}
use Rattle.lotos_ast.specs.SpecTrees.{parameters_tree}
use Rattle.static_constructs.specs.Written.{listed, gates_in, declarations_in}
use Rattle.syntax_laws.specs.Alike.{AreAlike, IfThere, AreDeclarationsAlike, ArePremissesAlike}
use Rattle.syntax_laws.proofs.Trees.{tokens-one, further-tokens-one, listed-alike, all-alike, behind-list-alike}
use Rattle.syntax_laws.proofs.Types.{declarations-alike}
use Rattle.static_uniqueness.specs.ConstructsAlike.{AreExpressionsAlike, AreExitValuesAlike, AreOffersAlike, AreOperatorsAlike, AreBindingsAlike, AreGateChoicesAlike}
use Rattle.static_uniqueness.specs.SpecificationsAlike.{AreFunctionalitiesAlike}

-- the declarations in parentheses, and behind `accept`
listed-declarations : (d e : Declarations) → declarations_tree d ≡ declarations_tree e → AreAlike AreDeclarationsAlike d.list.items e.list.items
listed-declarations d e k =
    let lists : list_tree (map declaration_tree d.list.items) ≡ list_tree (map declaration_tree e.list.items) = cc in
    listed-alike AreDeclarationsAlike declaration_tree declarations-alike d.list.items e.list.items lists

pub accepted-alike : (o p : Option Declarations) → accepts_tree o ≡ accepts_tree p → AreAlike AreDeclarationsAlike (declarations_in o) (declarations_in p)
accepted-alike None None k = tt
accepted-alike None (Some e) k = absurd (cc)
accepted-alike (Some d) None k = absurd (cc)
accepted-alike (Some d) (Some e) k = listed-declarations d e (let same : declarations_tree d ≡ declarations_tree e = cc in same)

pub parameters-alike : (o p : Option Declarations) → parameters_tree o ≡ parameters_tree p → AreAlike AreDeclarationsAlike (declarations_in o) (declarations_in p)
parameters-alike None None k = tt
parameters-alike None (Some e) k = absurd (cc)
parameters-alike (Some d) None k = absurd (cc)
parameters-alike (Some d) (Some e) k = listed-declarations d e (let same : declarations_tree d ≡ declarations_tree e = cc in same)

pub operators-alike : (o p : Operator) → operator_tree o ≡ operator_tree p → AreOperatorsAlike o p
operators-alike (Interleave p) (Interleave q) k = cc
operators-alike (Interleave p) (Synchronise q) k = absurd (cc)
operators-alike (Interleave p) (Shared q others) k = absurd (cc)
operators-alike (Synchronise p) (Interleave q) k = absurd (cc)
operators-alike (Synchronise p) (Synchronise q) k = cc
operators-alike (Synchronise p) (Shared q others) k = absurd (cc)
operators-alike (Shared p gates) (Interleave q) k = absurd (cc)
operators-alike (Shared p gates) (Synchronise q) k = absurd (cc)
operators-alike (Shared p gates) (Shared q others) k =
    let lists : token_list_tree gates.items ≡ token_list_tree others.items = cc in
    (cc, tokens-one gates.items others.items lists)

pub premisses-alike : (p q : Premiss) → predicate_tree p ≡ predicate_tree q → ArePremissesAlike p q
premisses-alike p q k = cc

pub predicates-alike : (o p : Option Premiss) → optional_predicate_tree o ≡ optional_predicate_tree p → IfThere ArePremissesAlike o p
predicates-alike None None k = tt
predicates-alike None (Some q) k = absurd (cc)
predicates-alike (Some p) None k = absurd (cc)
predicates-alike (Some p) (Some q) k = cc

offer-alike : (o p : Offer) → offer_tree o ≡ offer_tree p → AreOffersAlike o p
offer-alike (Offer.Value p e) (Offer.Value q d) k = (cc, cc)
offer-alike (Offer.Value p e) (Variables q others other) k = absurd (cc)
offer-alike (Variables p names sort) (Offer.Value q d) k = absurd (cc)
offer-alike (Variables p names sort) (Variables q others other) k =
    let lists : token_list_tree names.items ≡ token_list_tree others.items = cc in
    (cc, tokens-one names.items others.items lists, cc)

pub offers-alike : (os ps : List Offer) → offers_tree os unkept ≡ offers_tree ps unkept → AreAlike AreOffersAlike os ps
offers-alike [] [] k = tt
offers-alike [] (p ∷ ps) k = absurd (cc)
offers-alike (o ∷ os) [] k = absurd (cc)
offers-alike (o ∷ os) (p ∷ ps) k =
    let first : offer_tree o ≡ offer_tree p = cc in
    let further : repeated_tree (map offer_tree os) ≡ repeated_tree (map offer_tree ps) = cc in
    (offer-alike o p first, all-alike AreOffersAlike offer_tree offer-alike os ps further)

pub gates-same : (o p : Option GateList) → optional_gates_tree o ≡ optional_gates_tree p → gates_in o ≡ gates_in p
gates-same None None k = refl
gates-same None (Some q) k = absurd (cc)
gates-same (Some p) None k = absurd (cc)
gates-same (Some p) (Some q) k = tokens-one p.gates.items q.gates.items (let same : token_list_tree p.gates.items ≡ token_list_tree q.gates.items = cc in same)

pub gate-lists-same : (g h : GateList) → gate_list_tree g ≡ gate_list_tree h → g.gates.items ≡ h.gates.items
gate-lists-same g h k = tokens-one g.gates.items h.gates.items (let same : token_list_tree g.gates.items ≡ token_list_tree h.gates.items = cc in same)

same-tree : (e d : Expr) → expr_tree e ≡ expr_tree d → AreExpressionsAlike e d
same-tree e d k = k

pub values-alike : (v w : Option (Vec Expr Global)) → values_tree v ≡ values_tree w → AreAlike AreExpressionsAlike (listed v) (listed w)
values-alike None None k = tt
values-alike None (Some w) k = absurd (cc)
values-alike (Some v) None k = absurd (cc)
values-alike (Some v) (Some w) k =
    let lists : list_tree (map expr_tree v.items) ≡ list_tree (map expr_tree w.items) = cc in
    listed-alike AreExpressionsAlike expr_tree same-tree v.items w.items lists

exit-value-alike : (v w : ExitValue) → exit_value_tree v ≡ exit_value_tree w → AreExitValuesAlike v w
exit-value-alike (Any p sort) (Any q other) k = (cc, cc)
exit-value-alike (Any p sort) (ExitValue.Value q d) k = absurd (cc)
exit-value-alike (ExitValue.Value p e) (Any q other) k = absurd (cc)
exit-value-alike (ExitValue.Value p e) (ExitValue.Value q d) k = (cc, cc)

pub exit-values-alike : (v w : Option (Vec ExitValue Global)) → exit_values_tree v ≡ exit_values_tree w → AreAlike AreExitValuesAlike (listed v) (listed w)
exit-values-alike None None k = tt
exit-values-alike None (Some w) k = absurd (cc)
exit-values-alike (Some v) None k = absurd (cc)
exit-values-alike (Some v) (Some w) k =
    let lists : list_tree (map exit_value_tree v.items) ≡ list_tree (map exit_value_tree w.items) = cc in
    listed-alike AreExitValuesAlike exit_value_tree exit-value-alike v.items w.items lists

binding-alike : (b c : Binding) → binding_tree b ≡ binding_tree c → AreBindingsAlike b c
binding-alike b c k = record { place = cc; name = cc; sort = cc; value = cc }

pub bindings-alike : (bs cs : List Binding) → list_tree (map binding_tree bs) ≡ list_tree (map binding_tree cs) → AreAlike AreBindingsAlike bs cs
bindings-alike bs cs k = listed-alike AreBindingsAlike binding_tree binding-alike bs cs k

gate-choice-alike : (c d : GateChoice) → gate_choice_tree c ≡ gate_choice_tree d → AreGateChoicesAlike c d
gate-choice-alike c d k =
    let lists : gate_list_tree c.gates ≡ gate_list_tree d.gates = cc in
    record { place = cc; gate = cc; list_place = cc; gates = gate-lists-same c.gates d.gates lists }

pub gate-choices-alike : (cs ds : List GateChoice) → choice_gates_tree cs unkept ≡ choice_gates_tree ds unkept → AreAlike AreGateChoicesAlike cs ds
gate-choices-alike [] [] k = tt
gate-choices-alike [] (d ∷ ds) k = absurd (cc)
gate-choices-alike (c ∷ cs) [] k = absurd (cc)
gate-choices-alike (c ∷ cs) (d ∷ ds) k =
    let lists : gate_list_tree c.gates ≡ gate_list_tree d.gates = cc in
    let further : repeated_tree (map behind (map gate_choice_tree cs)) ≡ repeated_tree (map behind (map gate_choice_tree ds)) = cc in (
      record { place = cc; gate = cc; list_place = cc; gates = gate-lists-same c.gates d.gates lists },
      behind-list-alike AreGateChoicesAlike gate_choice_tree gate-choice-alike cs ds further,
    )

-- the first declaration of a choice, and what follows it
record AreFirstSame (p q : Place) (ts us : List Token) (x y : Tree) : Type 0 where
  pub place : p ≡ q
  pub names : ts ≡ us
  pub rest : x ≡ y

first-names-same : (p q : Place) (ts us : List Token) (x y : Tree) → (first_names_tree p ts x ≡ unkept → ⊥) → first_names_tree p ts x ≡ first_names_tree q us y → AreFirstSame p q ts us x y
first-names-same p q [] us x y there k = absurd (there refl)
first-names-same p q (t ∷ ts) [] x y there k = absurd (there k)
first-names-same p q (t ∷ ts) (u ∷ us) x y there k =
    let further : repeated_tree (map behind (map leaf ts)) ≡ repeated_tree (map behind (map leaf us)) = cc in
    let names = further-tokens-one ts us further in
    let first : t ≡ u = cc in
    record { place = cc; names = cc; rest = cc }

pub chosen-alike : (ds es : List Declaration) → (choice_declarations_tree ds unkept ≡ unkept → ⊥) → choice_declarations_tree ds unkept ≡ choice_declarations_tree es unkept → AreAlike AreDeclarationsAlike ds es
chosen-alike [] es there k = absurd (there refl)
chosen-alike (d ∷ ds) [] there k = absurd (there k)
chosen-alike (d ∷ ds) (e ∷ es) there k =
    let first = first-names-same d.place e.place d.names.items e.names.items _ _ there k in
    let rest = first.rest in
    let sort : d.sort ≡ e.sort = cc in
    let further : repeated_tree (map behind (map declaration_tree ds)) ≡ repeated_tree (map behind (map declaration_tree es)) = cc in
    (record { place = first.place; names = first.names; sort = sort }, behind-list-alike AreDeclarationsAlike declaration_tree declarations-alike ds es further)

pub functionalities-alike : (f g : Functionality) → functionality_tree f ≡ functionality_tree g → AreFunctionalitiesAlike f g
functionalities-alike (NoExit p) (NoExit q) k = cc
functionalities-alike (NoExit p) (Exit q others) k = absurd (cc)
functionalities-alike (Exit p sorts) (NoExit q) k = absurd (cc)
functionalities-alike (Exit p None) (Exit q None) k = (cc, tt)
functionalities-alike (Exit p None) (Exit q (Some others)) k = absurd (cc)
functionalities-alike (Exit p (Some sorts)) (Exit q None) k = absurd (cc)
functionalities-alike (Exit p (Some sorts)) (Exit q (Some others)) k =
    let lists : token_list_tree sorts.items ≡ token_list_tree others.items = cc in
    (cc, tokens-one sorts.items others.items lists)
