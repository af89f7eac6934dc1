-- Which construct a tree of the grammar says. A tree that no text spells says none.
use Rattle.std.proofs.Common.{◌≡◌, List, [], Option, None, Vec, Global}
use Rattle.lotos_ast.specs.declared.behaviour.Binding.{Binding}
use Rattle.lotos_ast.specs.declared.behaviour.ExitValue.{ExitValue}
use Rattle.lotos_ast.specs.declared.behaviour.GateChoice.{GateChoice}
use Rattle.lotos_ast.specs.declared.behaviour.Offer.{Offer}
use Rattle.lotos_ast.specs.declared.behaviour.Operator.{Operator}
use Rattle.lotos_ast.specs.declared.declaration.Declaration.{Declaration}
use Rattle.lotos_ast.specs.declared.declaration.Declarations.{Declarations}
use Rattle.lotos_ast.specs.declared.declaration.GateList.{GateList}
use Rattle.lotos_ast.specs.declared.expression.Expr.{Expr}
use Rattle.lotos_ast.specs.declared.expression.Premiss.{Premiss}
use Rattle.lotos_ast.specs.declared.token.Token.{Token}
use Rattle.lotos_ast.specs.BehaviourTrees.{accepts_tree, operator_tree, predicate_tree, optional_predicate_tree, offers_tree}
use Rattle.lotos_ast.specs.BehaviourTrees.{exit_values_tree, binding_tree, choice_declarations_tree, choice_gates_tree}
use Rattle.lotos_ast.specs.DeclarationTrees.{gate_list_tree, optional_gates_tree}
use Rattle.lotos_ast.specs.ExpressionTrees.{values_tree}
use Rattle.lotos_ast.specs.ListTrees.{token_list_tree, list_tree}
use Rattle.lotos_ast.specs.Reads.{Tree, unkept, leaf, both, left, right, absent, present, node}
use Rattle.std.specs.Prelude.{map}
use Rattle.static_constructs.specs.Constructs.{Construct, stops, exits, acts_inside, acts, chooses, asks, binds, chooses_values, chooses_gates}
use Rattle.static_constructs.specs.Constructs.{composes, hides, enables, disables, calls, copies}
use Rattle.static_constructs.specs.Written.{listed, gates_in, declarations_in}

abbrev mutual
  pub SaysBehaviour : Tree → Construct → Type 0
  SaysBehaviour (node p (both x absent)) c = SaysDisable x c
  SaysBehaviour (node p (both x (present (node q (both unkept (both variables y)))))) c =
      (a b : Construct) × (o : Option Declarations) × SaysDisable x a × SaysBehaviour y b × (accepts_tree o ≡ variables) ×
      (c ≡ enables q a (declarations_in o) b)
  SaysBehaviour _ c = ⊥

  pub SaysDisable : Tree → Construct → Type 0
  SaysDisable (node p (both x absent)) c = SaysParallel x c
  SaysDisable (node p (both x (present (node q (both unkept y))))) c =
      (a b : Construct) × SaysParallel x a × SaysDisable y b × (c ≡ disables q a b)
  SaysDisable _ c = ⊥

  pub SaysParallel : Tree → Construct → Type 0
  SaysParallel (node p (both x absent)) c = SaysChoice x c
  SaysParallel (node p (both x (present (node q (both operator y))))) c =
      (a b : Construct) × (o : Operator) × SaysChoice x a × SaysParallel y b × (operator_tree o ≡ operator) × (c ≡ composes q o a b)
  SaysParallel _ c = ⊥

  pub SaysChoice : Tree → Construct → Type 0
  SaysChoice (node p (both x absent)) c = SaysUnary x c
  SaysChoice (node p (both x (present (node q (both unkept y))))) c =
      (a b : Construct) × SaysUnary x a × SaysChoice y b × (c ≡ chooses q a b)
  SaysChoice _ c = ⊥

  -- a guard; an internal action; an action at a gate; one with offers; a process; an atom
  pub SaysUnary : Tree → Construct → Type 0
  SaysUnary (node p (left (both predicate (both unkept x)))) c =
      (b : Construct) × (guard : Premiss) × SaysUnary x b × (predicate_tree guard ≡ predicate) × (c ≡ asks guard b)
  SaysUnary (node p (right (left (both (node q unkept) (both unkept x))))) c = (b : Construct) × SaysUnary x b × (c ≡ acts_inside b)
  SaysUnary (node p (right (right (left (node q (both (leaf gate) (left (both unkept x)))))))) c =
      (b : Construct) × SaysUnary x b × (c ≡ acts gate [] None b)
  SaysUnary (node p (right (right (left (node q (both (leaf gate) (right (left (both first (both further (both predicate (both unkept x)))))))))))) c =
      (b : Construct) × (offers : List Offer) × (o : Option Premiss) × SaysUnary x b × (offers_tree offers unkept ≡ both first (both further unkept)) ×
      (optional_predicate_tree o ≡ predicate) × (c ≡ acts gate offers o b)
  SaysUnary (node p (right (right (left (node q (both (leaf name) (right (right (both gates values))))))))) c =
      (o : Option GateList) × (v : Option (Vec Expr Global)) × (optional_gates_tree o ≡ gates) × (values_tree v ≡ values) ×
      (c ≡ calls name (gates_in o) (listed v))
  SaysUnary (node p (right (right (right (node q x))))) c = SaysAtom x c
  SaysUnary _ c = ⊥

  -- parentheses, `hide`, `let`, `choice` over gates and over values, `par`, `exit`, `stop`
  pub SaysAtom : Tree → Construct → Type 0
  SaysAtom (left (both unkept (both x unkept))) c = SaysBehaviour x c
  SaysAtom (right (left (both unkept (both gates (both unkept x))))) c =
      (b : Construct) × (tokens : List Token) × SaysBehaviour x b × (token_list_tree tokens ≡ gates) × (c ≡ hides tokens b)
  SaysAtom (right (right (left (both unkept (both bindings (both unkept x)))))) c =
      (b : Construct) × (bound : List Binding) × SaysBehaviour x b × (list_tree (map binding_tree bound) ≡ bindings) × (c ≡ binds bound b)
  SaysAtom (right (right (right (left (both unkept (node q (node r (both (leaf gate) (left (both unkept (both gates (both further (both (node s unkept) x))))))))))))) c =
      (b : Construct) × (choices : List GateChoice) × SaysBehaviour x b ×
      (choice_gates_tree choices unkept ≡ node q (node r (both (leaf gate) (left (both unkept (both gates (both further unkept))))))) ×
      (c ≡ chooses_gates choices b)
  SaysAtom (right (right (right (left (both unkept (node q (node r (both (leaf first) (right (both names (both unkept (both (leaf sort) (both further (both (node s unkept) x)))))))))))))) c =
      (b : Construct) × (declarations : List Declaration) × SaysBehaviour x b ×
      (choice_declarations_tree declarations unkept ≡ node r (both (leaf first) (right (both names (both unkept (both (leaf sort) (both further unkept))))))) ×
      (c ≡ chooses_values declarations b)
  SaysAtom (right (right (right (right (left (both unkept (both (leaf gate) (both unkept (both gates (both operator x)))))))))) c =
      (b : Construct) × (g : GateList) × (o : Operator) × SaysBehaviour x b × (gate_list_tree g ≡ gates) × (operator_tree o ≡ operator) ×
      (c ≡ copies gate g.gates.items o b)
  SaysAtom (right (right (right (right (right (left (both unkept values))))))) c =
      (v : Option (Vec ExitValue Global)) × (exit_values_tree v ≡ values) × (c ≡ exits (listed v))
  SaysAtom (right (right (right (right (right (right unkept)))))) c = c ≡ stops
  SaysAtom _ c = ⊥
