-- The construct that a part of a syntax tree is.
use Rattle.std.specs.Prelude.{List, [], Option, Some, None, Vec, box_value}
use Rattle.std.specs.declared.alloc.Global.{Global}
use Rattle.lotos_ast.specs.declared.behaviour.Action.{Action}
use Rattle.lotos_ast.specs.declared.behaviour.Action.TheVariants.{Internal, Plain, Offering}
use Rattle.lotos_ast.specs.declared.behaviour.Atom.{Atom}
use Rattle.lotos_ast.specs.declared.behaviour.Atom.TheOpen.{Atom-F, Unary-F, Stop, Exit, Call, Group, Hide, Let}
use Rattle.lotos_ast.specs.declared.behaviour.Atom.TheOpen.{ChoiceOfValues, ChoiceOfGates, Par, Guarded, Prefixed, Atomic}
use Rattle.lotos_ast.specs.declared.behaviour.Atom.TheFolds.{fold-Atom, fold-Unary}
use Rattle.lotos_ast.specs.declared.behaviour.Behaviour.{Behaviour, Behaviour-F, fold-Behaviour}
use Rattle.lotos_ast.specs.declared.behaviour.Choice.{Choice, Choice-F, fold-Choice}
use Rattle.lotos_ast.specs.declared.behaviour.Choosing.{Choosing-F}
use Rattle.lotos_ast.specs.declared.behaviour.Composing.{Composing-F}
use Rattle.lotos_ast.specs.declared.behaviour.Disable.{Disable, Disable-F, fold-Disable}
use Rattle.lotos_ast.specs.declared.behaviour.Disabling.{Disabling-F}
use Rattle.lotos_ast.specs.declared.behaviour.Enabling.{Enabling-F}
use Rattle.lotos_ast.specs.declared.behaviour.Parallel.{Parallel, Parallel-F, fold-Parallel}
use Rattle.lotos_ast.specs.declared.behaviour.Unary.{Unary}
use Rattle.lotos_ast.specs.declared.declaration.Declaration.{Declaration}
use Rattle.lotos_ast.specs.declared.declaration.Declarations.{Declarations}
use Rattle.lotos_ast.specs.declared.declaration.GateList.{GateList}
use Rattle.lotos_ast.specs.declared.token.Token.{Token}
use Rattle.static_constructs.specs.Constructs.{Construct, stops, exits, acts_inside, acts, chooses, asks, binds, chooses_values, chooses_gates}
use Rattle.static_constructs.specs.Constructs.{composes, hides, enables, disables, calls, copies}

-- the parts of a list that may be left out
abbrev pub listed : {A : Type 0} → Option (Vec A Global) → List A
listed None = []
listed (Some all) = all.items

abbrev pub gates_in : Option GateList → List Token
gates_in None = []
gates_in (Some list) = list.gates.items

abbrev pub declarations_in : Option Declarations → List Declaration
declarations_in None = []
declarations_in (Some declarations) = declarations.list.items

-- what an operator makes of the behaviour before it
abbrev pub Joined : Type 0
Joined = Construct → Construct

-- a behaviour, and the operator behind it if there is one
abbrev pub joined : Construct → Option Joined → Construct
joined first None = first
joined first (Some join) = join first

abbrev pub action_written : Action → Construct → Construct
action_written (Internal place) rest = acts_inside rest
action_written (Plain place gate) rest = acts gate [] None rest
action_written (Offering place gate offers predicate) rest = acts gate offers.items predicate rest

abbrev pub atom_step :
    Atom-F Construct Construct Construct Construct Joined Joined Construct Joined Joined Construct → Construct
atom_step (Stop place) = stops
atom_step (Exit place values) = exits (listed values)
atom_step (Call place name gates values) = calls name (gates_in gates) (listed values)
atom_step (Group place inner) = box_value inner
atom_step (Hide place gates inner) = hides gates.items (box_value inner)
atom_step (Let place bindings inner) = binds bindings.items (box_value inner)
atom_step (ChoiceOfValues place declarations brackets inner) = chooses_values declarations.list.items (box_value inner)
atom_step (ChoiceOfGates place choices brackets inner) = chooses_gates choices.items (box_value inner)
atom_step (Par place gate gates operator inner) = copies gate gates.gates.items operator (box_value inner)

abbrev pub unary_step :
    Unary-F Construct Construct Construct Construct Joined Joined Construct Joined Joined Construct → Construct
unary_step (Guarded place guard rest) = asks guard (box_value rest)
unary_step (Prefixed place action rest) = action_written action (box_value rest)
unary_step (Atomic atom) = atom

abbrev pub behaviour_step :
    Behaviour-F Construct Construct Construct Construct Joined Joined Construct Joined Joined Construct → Construct
behaviour_step b = joined b.first b.rest

abbrev pub choice_step :
    Choice-F Construct Construct Construct Construct Joined Joined Construct Joined Joined Construct → Construct
choice_step c = joined c.first c.rest

abbrev pub choosing_step :
    Choosing-F Construct Construct Construct Construct Joined Joined Construct Joined Joined Construct → Joined
choosing_step c = λ first. chooses c.place first (box_value c.right)

abbrev pub composing_step :
    Composing-F Construct Construct Construct Construct Joined Joined Construct Joined Joined Construct → Joined
composing_step c = λ first. composes c.place c.operator first (box_value c.right)

abbrev pub disable_step :
    Disable-F Construct Construct Construct Construct Joined Joined Construct Joined Joined Construct → Construct
disable_step d = joined d.first d.rest

abbrev pub disabling_step :
    Disabling-F Construct Construct Construct Construct Joined Joined Construct Joined Joined Construct → Joined
disabling_step d = λ first. disables d.place first (box_value d.right)

abbrev pub enabling_step :
    Enabling-F Construct Construct Construct Construct Joined Joined Construct Joined Joined Construct → Joined
enabling_step e = λ first. enables e.place first (declarations_in e.accepts) (box_value e.right)

abbrev pub parallel_step :
    Parallel-F Construct Construct Construct Construct Joined Joined Construct Joined Joined Construct → Construct
parallel_step p = joined p.first p.rest

abbrev pub behaviour_written : Behaviour → Construct
behaviour_written = fold-Behaviour Construct Construct Construct Construct Joined Joined Construct Joined Joined Construct
    atom_step unary_step behaviour_step choice_step choosing_step composing_step disable_step disabling_step enabling_step parallel_step

abbrev pub disable_written : Disable → Construct
disable_written = fold-Disable Construct Construct Construct Construct Joined Joined Construct Joined Joined Construct
    atom_step unary_step behaviour_step choice_step choosing_step composing_step disable_step disabling_step enabling_step parallel_step

abbrev pub parallel_written : Parallel → Construct
parallel_written = fold-Parallel Construct Construct Construct Construct Joined Joined Construct Joined Joined Construct
    atom_step unary_step behaviour_step choice_step choosing_step composing_step disable_step disabling_step enabling_step parallel_step

abbrev pub choice_written : Choice → Construct
choice_written = fold-Choice Construct Construct Construct Construct Joined Joined Construct Joined Joined Construct
    atom_step unary_step behaviour_step choice_step choosing_step composing_step disable_step disabling_step enabling_step parallel_step

abbrev pub unary_written : Unary → Construct
unary_written = fold-Unary Construct Construct Construct Construct Joined Joined Construct Joined Joined Construct
    atom_step unary_step behaviour_step choice_step choosing_step composing_step disable_step disabling_step enabling_step parallel_step

abbrev pub atom_written : Atom → Construct
atom_written = fold-Atom Construct Construct Construct Construct Joined Joined Construct Joined Joined Construct
    atom_step unary_step behaviour_step choice_step choosing_step composing_step disable_step disabling_step enabling_step parallel_step
