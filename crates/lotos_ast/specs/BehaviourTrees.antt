-- The trees of behaviours.
use Rattle.std.specs.Prelude.{List, [], ◌∷◌, map, Option, Some, None, Vec, box_value}
use Rattle.std.specs.declared.alloc.Global.{Global}
use Rattle.lotos_ast.specs.declared.place.Place.{Place}
use Rattle.lotos_ast.specs.declared.token.Token.{Token}
use Rattle.lotos_ast.specs.declared.expression.Premiss.{Premiss}
use Rattle.lotos_ast.specs.declared.declaration.Declarations.{Declarations}
use Rattle.lotos_ast.specs.declared.declaration.Declaration.{Declaration}
use Rattle.lotos_ast.specs.declared.behaviour.Behaviour.{Behaviour, Behaviour-F, fold-Behaviour}
use Rattle.lotos_ast.specs.declared.behaviour.Enabling.{Enabling, Enabling-F, fold-Enabling}
use Rattle.lotos_ast.specs.declared.behaviour.Disable.{Disable, Disable-F, fold-Disable}
use Rattle.lotos_ast.specs.declared.behaviour.Disabling.{Disabling, Disabling-F, fold-Disabling}
use Rattle.lotos_ast.specs.declared.behaviour.Parallel.{Parallel, Parallel-F, fold-Parallel}
use Rattle.lotos_ast.specs.declared.behaviour.Composing.{Composing, Composing-F, fold-Composing}
use Rattle.lotos_ast.specs.declared.behaviour.Choice.{Choice, Choice-F, fold-Choice}
use Rattle.lotos_ast.specs.declared.behaviour.Choosing.{Choosing, Choosing-F, fold-Choosing}
use Rattle.lotos_ast.specs.declared.behaviour.Operator.{Operator}
use Rattle.lotos_ast.specs.declared.behaviour.Operator.TheVariants.{Interleave, Synchronise, Shared}
use Rattle.lotos_ast.specs.declared.behaviour.Action.{Action}
use Rattle.lotos_ast.specs.declared.behaviour.Action.TheVariants.{Internal, Plain, Offering}
use Rattle.lotos_ast.specs.declared.behaviour.Offer.{Offer}
use Rattle.lotos_ast.specs.declared.behaviour.Offer.TheVariants.{Variables}
use Rattle.lotos_ast.specs.declared.behaviour.ExitValue.{ExitValue}
use Rattle.lotos_ast.specs.declared.behaviour.ExitValue.TheVariants.{Any}
use Rattle.lotos_ast.specs.declared.behaviour.Binding.{Binding}
use Rattle.lotos_ast.specs.declared.behaviour.GateChoice.{GateChoice}
use Rattle.lotos_ast.specs.declared.behaviour.Unary.{Unary}
use Rattle.lotos_ast.specs.declared.behaviour.Atom.{Atom}
use Rattle.lotos_ast.specs.declared.behaviour.Atom.TheOpen.{Atom-F, Unary-F, Stop, Exit, Call, Group, Hide, Let}
use Rattle.lotos_ast.specs.declared.behaviour.Atom.TheOpen.{ChoiceOfValues, ChoiceOfGates, Par, Guarded, Prefixed}
use Rattle.lotos_ast.specs.declared.behaviour.Atom.TheOpen.{Atomic}
use Rattle.lotos_ast.specs.declared.behaviour.Atom.TheFolds.{fold-Atom, fold-Unary}
use Rattle.lotos_ast.specs.Reads.{Tree, unkept, leaf, both, left, right, absent, present, node}
use Rattle.lotos_ast.specs.ListTrees.{repeated_tree, list_tree, token_list_tree, optional_tree, behind, between}
use Rattle.lotos_ast.specs.ExpressionTrees.{expr_tree, values_tree, premiss_tree}
use Rattle.lotos_ast.specs.DeclarationTrees.{declaration_tree, declarations_tree, gate_list_tree, optional_gates_tree}

abbrev pub operator_tree : Operator → Tree
operator_tree (Interleave place) = node place (left unkept)
operator_tree (Synchronise place) = node place (right (left unkept))
operator_tree (Shared place gates) = node place (right (right (between (token_list_tree gates.items))))

-- a condition in brackets
abbrev pub predicate_tree : Premiss → Tree
predicate_tree p = between (premiss_tree p)

abbrev pub optional_predicate_tree : Option Premiss → Tree
optional_predicate_tree None = absent
optional_predicate_tree (Some p) = present (predicate_tree p)

abbrev pub offer_tree : Offer → Tree
offer_tree (Offer.Value place value) = node place (left (behind (expr_tree value)))
offer_tree (Variables place names sort) = node place (right (behind (both (token_list_tree names.items) (behind (leaf sort)))))

abbrev pub offers_tree : List Offer → Tree → Tree
offers_tree [] rest = unkept
offers_tree (offer ∷ offers) rest = both (offer_tree offer) (both (repeated_tree (map offer_tree offers)) rest)

-- an action and the behaviour behind it
abbrev pub action_tree : Action → Tree → Tree
action_tree (Internal place) rest = right (left (both (node place unkept) (behind rest)))
action_tree (Plain place gate) rest = right (right (left (node place (both (leaf gate) (left (behind rest))))))
action_tree (Offering place gate offers predicate) rest = right (right (left (node place (both (leaf gate)
    (right (left (offers_tree offers.items (both (optional_predicate_tree predicate) (behind rest)))))))))

abbrev pub exit_value_tree : ExitValue → Tree
exit_value_tree (Any place sort) = node place (left (behind (leaf sort)))
exit_value_tree (ExitValue.Value place value) = node place (right (expr_tree value))

abbrev pub exit_values_tree : Option (Vec ExitValue Global) → Tree
exit_values_tree None = absent
exit_values_tree (Some values) = present (between (list_tree (map exit_value_tree values.items)))

abbrev pub binding_tree : Binding → Tree
binding_tree b = node b.place (both (leaf b.name) (behind (both (leaf b.sort) (behind (expr_tree b.value)))))

abbrev pub gate_choice_tree : GateChoice → Tree
gate_choice_tree c = node c.place (both (leaf c.gate) (behind (gate_list_tree c.gates)))

-- the `[]` of a choice, and the behaviour behind it
abbrev pub brackets_tree : Place → Tree → Tree
brackets_tree place inner = both (node place unkept) inner

-- variables of a choice, and what follows them; the first declaration begins with the first variable
abbrev pub first_names_tree : Place → List Token → Tree → Tree
first_names_tree place [] rest = unkept
first_names_tree place (t ∷ ts) rest = node place (both (leaf t) (right (both (repeated_tree (map behind (map leaf ts))) rest)))

abbrev pub choice_declarations_tree : List Declaration → Tree → Tree
choice_declarations_tree [] rest = unkept
choice_declarations_tree (d ∷ ds) rest = first_names_tree d.place d.names.items
    (behind (both (leaf d.sort) (both (repeated_tree (map behind (map declaration_tree ds))) rest)))

-- gates of a choice, and what follows them
abbrev pub choice_gates_tree : List GateChoice → Tree → Tree
choice_gates_tree [] rest = unkept
choice_gates_tree (c ∷ cs) rest = node c.place (node c.place (both (leaf c.gate)
    (left (behind (both (gate_list_tree c.gates) (both (repeated_tree (map behind (map gate_choice_tree cs))) rest))))))

-- a behaviour that is an atom of its own rule
abbrev pub atomic_tree : Place → Tree → Tree
atomic_tree place x = node place (right (right (right (node place x))))

-- an atom, as the behaviour that it is
abbrev pub atom_step : Atom-F Tree Tree Tree Tree Tree Tree Tree Tree Tree Tree → Tree
atom_step (Group place inner) = atomic_tree place (left (between (box_value inner)))
atom_step (Hide place gates inner) = atomic_tree place
    (right (left (behind (both (token_list_tree gates.items) (behind (box_value inner))))))
atom_step (Let place bindings inner) = atomic_tree place
    (right (right (left (behind (both (list_tree (map binding_tree bindings.items)) (behind (box_value inner)))))))
atom_step (ChoiceOfValues place declarations brackets inner) = atomic_tree place (right (right (right (left (behind
    (node declarations.place (choice_declarations_tree declarations.list.items (brackets_tree brackets (box_value inner)))))))))
atom_step (ChoiceOfGates place choices brackets inner) = atomic_tree place
    (right (right (right (left (behind (choice_gates_tree choices.items (brackets_tree brackets (box_value inner))))))))
atom_step (Par place gate gates operator inner) = atomic_tree place (right (right (right (right (left (behind
    (both (leaf gate) (behind (both (gate_list_tree gates) (both (operator_tree operator) (box_value inner)))))))))))
atom_step (Exit place values) = atomic_tree place (right (right (right (right (right (left (behind (exit_values_tree values))))))))
atom_step (Stop place) = atomic_tree place (right (right (right (right (right (right unkept))))))
atom_step (Call place name gates values) = node place
    (right (right (left (node place (both (leaf name) (right (right (both (optional_gates_tree gates) (values_tree values)))))))))

abbrev pub unary_step : Unary-F Tree Tree Tree Tree Tree Tree Tree Tree Tree Tree → Tree
unary_step (Guarded place guard rest) = node place (left (both (predicate_tree guard) (behind (box_value rest))))
unary_step (Prefixed place action rest) = node place (action_tree action (box_value rest))
unary_step (Atomic atom) = atom

abbrev pub behaviour_step : Behaviour-F Tree Tree Tree Tree Tree Tree Tree Tree Tree Tree → Tree
behaviour_step b = node b.place (both b.first (optional_tree b.rest))

abbrev pub choice_step : Choice-F Tree Tree Tree Tree Tree Tree Tree Tree Tree Tree → Tree
choice_step c = node c.place (both c.first (optional_tree c.rest))

abbrev pub choosing_step : Choosing-F Tree Tree Tree Tree Tree Tree Tree Tree Tree Tree → Tree
choosing_step c = node c.place (behind (box_value c.right))

abbrev pub composing_step : Composing-F Tree Tree Tree Tree Tree Tree Tree Tree Tree Tree → Tree
composing_step c = node c.place (both (operator_tree c.operator) (box_value c.right))

abbrev pub disable_step : Disable-F Tree Tree Tree Tree Tree Tree Tree Tree Tree Tree → Tree
disable_step d = node d.place (both d.first (optional_tree d.rest))

abbrev pub disabling_step : Disabling-F Tree Tree Tree Tree Tree Tree Tree Tree Tree Tree → Tree
disabling_step d = node d.place (behind (box_value d.right))

-- the variables that take values, behind a `>>`
abbrev pub accepts_tree : Option Declarations → Tree
accepts_tree None = absent
accepts_tree (Some declarations) = present (between (declarations_tree declarations))

abbrev pub enabling_step : Enabling-F Tree Tree Tree Tree Tree Tree Tree Tree Tree Tree → Tree
enabling_step e = node e.place (behind (both (accepts_tree e.accepts) (box_value e.right)))

abbrev pub parallel_step : Parallel-F Tree Tree Tree Tree Tree Tree Tree Tree Tree Tree → Tree
parallel_step p = node p.place (both p.first (optional_tree p.rest))

abbrev pub behaviour_tree : Behaviour → Tree
behaviour_tree = fold-Behaviour Tree Tree Tree Tree Tree Tree Tree Tree Tree Tree atom_step unary_step behaviour_step choice_step
    choosing_step composing_step disable_step disabling_step enabling_step parallel_step

abbrev pub enabling_tree : Enabling → Tree
enabling_tree = fold-Enabling Tree Tree Tree Tree Tree Tree Tree Tree Tree Tree atom_step unary_step behaviour_step choice_step
    choosing_step composing_step disable_step disabling_step enabling_step parallel_step

abbrev pub disable_tree : Disable → Tree
disable_tree = fold-Disable Tree Tree Tree Tree Tree Tree Tree Tree Tree Tree atom_step unary_step behaviour_step choice_step
    choosing_step composing_step disable_step disabling_step enabling_step parallel_step

abbrev pub disabling_tree : Disabling → Tree
disabling_tree = fold-Disabling Tree Tree Tree Tree Tree Tree Tree Tree Tree Tree atom_step unary_step behaviour_step choice_step
    choosing_step composing_step disable_step disabling_step enabling_step parallel_step

abbrev pub parallel_tree : Parallel → Tree
parallel_tree = fold-Parallel Tree Tree Tree Tree Tree Tree Tree Tree Tree Tree atom_step unary_step behaviour_step choice_step
    choosing_step composing_step disable_step disabling_step enabling_step parallel_step

abbrev pub composing_tree : Composing → Tree
composing_tree = fold-Composing Tree Tree Tree Tree Tree Tree Tree Tree Tree Tree atom_step unary_step behaviour_step choice_step
    choosing_step composing_step disable_step disabling_step enabling_step parallel_step

abbrev pub choice_tree : Choice → Tree
choice_tree = fold-Choice Tree Tree Tree Tree Tree Tree Tree Tree Tree Tree atom_step unary_step behaviour_step choice_step
    choosing_step composing_step disable_step disabling_step enabling_step parallel_step

abbrev pub choosing_tree : Choosing → Tree
choosing_tree = fold-Choosing Tree Tree Tree Tree Tree Tree Tree Tree Tree Tree atom_step unary_step behaviour_step choice_step
    choosing_step composing_step disable_step disabling_step enabling_step parallel_step

abbrev pub unary_tree : Unary → Tree
unary_tree = fold-Unary Tree Tree Tree Tree Tree Tree Tree Tree Tree Tree atom_step unary_step behaviour_step choice_step choosing_step
    composing_step disable_step disabling_step enabling_step parallel_step

-- the tree of the behaviour that is this atom
abbrev pub atom_tree : Atom → Tree
atom_tree = fold-Atom Tree Tree Tree Tree Tree Tree Tree Tree Tree Tree atom_step unary_step behaviour_step choice_step choosing_step
    composing_step disable_step disabling_step enabling_step parallel_step

abbrev pub enabling_rest_tree : Option Enabling → Tree
enabling_rest_tree None = absent
enabling_rest_tree (Some rest) = present (enabling_tree rest)

abbrev pub disabling_rest_tree : Option Disabling → Tree
disabling_rest_tree None = absent
disabling_rest_tree (Some rest) = present (disabling_tree rest)

abbrev pub composing_rest_tree : Option Composing → Tree
composing_rest_tree None = absent
composing_rest_tree (Some rest) = present (composing_tree rest)

abbrev pub choosing_rest_tree : Option Choosing → Tree
choosing_rest_tree None = absent
choosing_rest_tree (Some rest) = present (choosing_tree rest)
