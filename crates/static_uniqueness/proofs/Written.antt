-- The tree of a behaviour that is read says the construct that is written.
use Rattle.std.proofs.Common.{◌≡◌, refl, sym, ap, subst, List, [], ◌∷◌, map, Option, Some, None, Vec, Global, Box, box_value}
use Rattle.lotos_ast.specs.declared.behaviour.Behaviour.{Behaviour, Behaviour-F, roll-Behaviour, map-Behaviour, ind-Behaviour}
use Rattle.lotos_ast.specs.declared.behaviour.Choice.{Choice, Choice-F, roll-Choice, map-Choice}
use Rattle.lotos_ast.specs.declared.behaviour.Choosing.{Choosing, Choosing-F, roll-Choosing, map-Choosing, fold-Choosing}
use Rattle.lotos_ast.specs.declared.behaviour.Composing.{Composing, Composing-F, roll-Composing, map-Composing, fold-Composing}
use Rattle.lotos_ast.specs.declared.behaviour.Disable.{Disable, Disable-F, roll-Disable, map-Disable}
use Rattle.lotos_ast.specs.declared.behaviour.Disabling.{Disabling, Disabling-F, roll-Disabling, map-Disabling, fold-Disabling}
use Rattle.lotos_ast.specs.declared.behaviour.Enabling.{Enabling, Enabling-F, roll-Enabling, map-Enabling, fold-Enabling}
use Rattle.lotos_ast.specs.declared.behaviour.Parallel.{Parallel, Parallel-F, roll-Parallel, map-Parallel}
use Rattle.lotos_ast.specs.declared.behaviour.Atom.{Atom, roll-Atom, map-Atom}
use Rattle.lotos_ast.specs.declared.behaviour.Atom.TheOpen.{Atom-F, Unary-F, Stop, Exit, Call, Group, Hide, Let, ChoiceOfValues, ChoiceOfGates, Par, Guarded, Prefixed, Atomic}
use Rattle.lotos_ast.specs.declared.behaviour.Unary.{Unary, roll-Unary, map-Unary}
use Rattle.lotos_ast.specs.declared.behaviour.Action.{Action}
use Rattle.lotos_ast.specs.declared.behaviour.Action.TheVariants.{Internal, Plain, Offering}
use Rattle.lotos_ast.specs.declared.behaviour.Atom.TheFolds.{the_lemmas}
use Rattle.lotos_ast.specs.declared.behaviour.Binding.{Binding}
use Rattle.lotos_ast.specs.declared.behaviour.ExitValue.{ExitValue}
use Rattle.lotos_ast.specs.declared.behaviour.GateChoice.{GateChoice}
use Rattle.lotos_ast.specs.declared.behaviour.Offer.{Offer}
use Rattle.lotos_ast.specs.declared.behaviour.Operator.{Operator}
use Rattle.lotos_ast.specs.declared.declaration.Declaration.{Declaration}
use Rattle.lotos_ast.specs.declared.declaration.Declarations.{Declarations}
use Rattle.lotos_ast.specs.declared.declaration.GateList.{GateList}
use Rattle.lotos_ast.specs.declared.expression.Expr.{Expr}
use Rattle.lotos_ast.specs.declared.expression.Premiss.{Premiss}
use Rattle.lotos_ast.specs.declared.mark.Mark.{Mark}
use Rattle.lotos_ast.specs.declared.place.Place.{Place}
use Rattle.lotos_ast.specs.declared.token.Token.{Token}
use Rattle.lotos_ast.specs.Grammar.{rule, choice_brackets, predicate, prefixed}
use Rattle.lotos_ast.specs.ListTrees.{repeated_tree, list_tree, behind}
use Rattle.lotos_ast.specs.Notation as notation
use Rattle.lotos_ast.specs.Notation.{Syntax, part, sequence, either, placed, optional, repeated, quoted, identifier}
use Rattle.lotos_ast.specs.Reads.{Tree, unkept, leaf, both, left, right, absent, present, node}
use Rattle.lotos_ast.specs.BehaviourTrees.{behaviour_tree, enabling_tree, disable_tree, disabling_tree, parallel_tree, composing_tree, choice_tree, choosing_tree, unary_tree, atom_tree}
use Rattle.lotos_ast.specs.BehaviourTrees.{accepts_tree, operator_tree, predicate_tree, optional_predicate_tree, offers_tree, action_tree, exit_values_tree, binding_tree, choice_declarations_tree, first_names_tree, choice_gates_tree, atomic_tree}
use Rattle.lotos_ast.specs.DeclarationTrees.{declaration_tree, gate_list_tree, optional_gates_tree}
use Rattle.lotos_ast.specs.ExpressionTrees.{values_tree}
use Rattle.lotos_ast.specs.ListTrees.{token_list_tree, between}
use Rattle.static_constructs.specs.Constructs.{Construct, stops, exits, acts, chooses, asks, binds, chooses_values, chooses_gates}
use Rattle.static_constructs.specs.Constructs.{composes, hides, enables, disables, calls, copies}
use Rattle.static_constructs.specs.Written as written
use Rattle.static_constructs.specs.Written.{Joined, listed, gates_in, declarations_in, action_written}
use Rattle.static_constructs.specs.Written.{behaviour_written, disable_written, parallel_written, choice_written, unary_written, atom_written}
use Rattle.syntax_laws.proofs.Trees.{IsTreeOf, parts}
use Rattle.static_uniqueness.proofs.Meanings.{SaysBehaviour, SaysDisable, SaysParallel, SaysChoice, SaysUnary, SaysAtom}

-- what follows an operator makes a construct of the one before it

abbrev choosing_written : Choosing → Joined
choosing_written = fold-Choosing Construct Construct Construct Construct Joined Joined Construct Joined Joined Construct
    written.atom_step written.unary_step written.behaviour_step written.choice_step written.choosing_step written.composing_step
    written.disable_step written.disabling_step written.enabling_step written.parallel_step

abbrev composing_written : Composing → Joined
composing_written = fold-Composing Construct Construct Construct Construct Joined Joined Construct Joined Joined Construct
    written.atom_step written.unary_step written.behaviour_step written.choice_step written.choosing_step written.composing_step
    written.disable_step written.disabling_step written.enabling_step written.parallel_step

abbrev disabling_written : Disabling → Joined
disabling_written = fold-Disabling Construct Construct Construct Construct Joined Joined Construct Joined Joined Construct
    written.atom_step written.unary_step written.behaviour_step written.choice_step written.choosing_step written.composing_step
    written.disable_step written.disabling_step written.enabling_step written.parallel_step

abbrev enabling_written : Enabling → Joined
enabling_written = fold-Enabling Construct Construct Construct Construct Joined Joined Construct Joined Joined Construct
    written.atom_step written.unary_step written.behaviour_step written.choice_step written.choosing_step written.composing_step
    written.disable_step written.disabling_step written.enabling_step written.parallel_step

-- what is shown of each part of a behaviour

abbrev IsSaidBehaviour : Behaviour → Type 0
IsSaidBehaviour b = IsTreeOf (part notation.behaviour) (behaviour_tree b) → SaysBehaviour (behaviour_tree b) (behaviour_written b)

abbrev IsSaidDisable : Disable → Type 0
IsSaidDisable b = IsTreeOf (part notation.disable) (disable_tree b) → SaysDisable (disable_tree b) (disable_written b)

abbrev IsSaidParallel : Parallel → Type 0
IsSaidParallel b = IsTreeOf (part notation.parallel) (parallel_tree b) → SaysParallel (parallel_tree b) (parallel_written b)

abbrev IsSaidChoice : Choice → Type 0
IsSaidChoice b = IsTreeOf (part notation.choice) (choice_tree b) → SaysChoice (choice_tree b) (choice_written b)

abbrev IsSaidUnary : Unary → Type 0
IsSaidUnary b = IsTreeOf (part notation.unary) (unary_tree b) → SaysUnary (unary_tree b) (unary_written b)

abbrev IsSaidAtom : Atom → Type 0
IsSaidAtom a = IsTreeOf (part notation.unary) (atom_tree a) → SaysUnary (atom_tree a) (atom_written a)

abbrev IsSaidEnabling : Enabling → Type 0
IsSaidEnabling e = (p : Place) (x : Tree) (a : Construct) → IsTreeOf (part notation.enabling) (enabling_tree e) → SaysDisable x a →
    SaysBehaviour (node p (both x (present (enabling_tree e)))) (enabling_written e a)

abbrev IsSaidDisabling : Disabling → Type 0
IsSaidDisabling e = (p : Place) (x : Tree) (a : Construct) → IsTreeOf (part notation.disabling) (disabling_tree e) → SaysParallel x a →
    SaysDisable (node p (both x (present (disabling_tree e)))) (disabling_written e a)

abbrev IsSaidComposing : Composing → Type 0
IsSaidComposing e = (p : Place) (x : Tree) (a : Construct) → IsTreeOf (part notation.composing) (composing_tree e) → SaysChoice x a →
    SaysParallel (node p (both x (present (composing_tree e)))) (composing_written e a)

abbrev IsSaidChoosing : Choosing → Type 0
IsSaidChoosing e = (p : Place) (x : Tree) (a : Construct) → IsTreeOf (part notation.choosing) (choosing_tree e) → SaysUnary x a →
    SaysChoice (node p (both x (present (choosing_tree e)))) (choosing_written e a)

-- a value of a type, with what is shown of it
abbrev Held : {T : Type 0} → (T → Type 0) → Type 0
Held {T = T} P = (x : T) × P x

-- it is said of one tree and one construct, and so of those that equal them
carry : (Says : Tree → Construct → Type 0) {g : Syntax} {t u : Tree} {c d : Construct} → t ≡ u → c ≡ d → (IsTreeOf g u → Says u d) → IsTreeOf g t → Says t c
carry Says {g = g} {t = t} {u = u} {c = c} {d = d} e f k h = subst (λ z. Says t z) (sym f) (subst (λ z. Says z d) (sym e) (k (subst (IsTreeOf g) e h)))

behaviour-alone : (p : Place) (d : Disable) → IsSaidDisable d → IsSaidBehaviour (roll-Behaviour (record { place = p; first = d; rest = None }))
behaviour-alone p d h =
    let b = roll-Behaviour (record { place = p; first = d; rest = None }) in
    let t : behaviour_tree b ≡ node p (both (disable_tree d) absent) = search (the_lemmas) in
    let w : behaviour_written b ≡ disable_written d = search (the_lemmas) in
    carry SaysBehaviour t w (λ k. let q = parts (parts k) in h q.0)

behaviour-followed : (p : Place) (d : Disable) (e : Enabling) → IsSaidDisable d → IsSaidEnabling e → IsSaidBehaviour (roll-Behaviour (record { place = p; first = d; rest = Some e }))
behaviour-followed p d e h f =
    let b = roll-Behaviour (record { place = p; first = d; rest = Some e }) in
    let t : behaviour_tree b ≡ node p (both (disable_tree d) (present (enabling_tree e))) = search (the_lemmas) in
    let w : behaviour_written b ≡ enabling_written e (disable_written d) = search (the_lemmas) in
    carry SaysBehaviour t w (λ k. let q = parts (parts k) in f p (disable_tree d) (disable_written d) (parts q.1) (h q.0))

disable-alone : (p : Place) (d : Parallel) → IsSaidParallel d → IsSaidDisable (roll-Disable (record { place = p; first = d; rest = None }))
disable-alone p d h =
    let b = roll-Disable (record { place = p; first = d; rest = None }) in
    let t : disable_tree b ≡ node p (both (parallel_tree d) absent) = search (the_lemmas) in
    let w : disable_written b ≡ parallel_written d = search (the_lemmas) in
    carry SaysDisable t w (λ k. let q = parts (parts k) in h q.0)

disable-followed : (p : Place) (d : Parallel) (e : Disabling) → IsSaidParallel d → IsSaidDisabling e → IsSaidDisable (roll-Disable (record { place = p; first = d; rest = Some e }))
disable-followed p d e h f =
    let b = roll-Disable (record { place = p; first = d; rest = Some e }) in
    let t : disable_tree b ≡ node p (both (parallel_tree d) (present (disabling_tree e))) = search (the_lemmas) in
    let w : disable_written b ≡ disabling_written e (parallel_written d) = search (the_lemmas) in
    carry SaysDisable t w (λ k. let q = parts (parts k) in f p (parallel_tree d) (parallel_written d) (parts q.1) (h q.0))

parallel-alone : (p : Place) (d : Choice) → IsSaidChoice d → IsSaidParallel (roll-Parallel (record { place = p; first = d; rest = None }))
parallel-alone p d h =
    let b = roll-Parallel (record { place = p; first = d; rest = None }) in
    let t : parallel_tree b ≡ node p (both (choice_tree d) absent) = search (the_lemmas) in
    let w : parallel_written b ≡ choice_written d = search (the_lemmas) in
    carry SaysParallel t w (λ k. let q = parts (parts k) in h q.0)

parallel-followed : (p : Place) (d : Choice) (e : Composing) → IsSaidChoice d → IsSaidComposing e → IsSaidParallel (roll-Parallel (record { place = p; first = d; rest = Some e }))
parallel-followed p d e h f =
    let b = roll-Parallel (record { place = p; first = d; rest = Some e }) in
    let t : parallel_tree b ≡ node p (both (choice_tree d) (present (composing_tree e))) = search (the_lemmas) in
    let w : parallel_written b ≡ composing_written e (choice_written d) = search (the_lemmas) in
    carry SaysParallel t w (λ k. let q = parts (parts k) in f p (choice_tree d) (choice_written d) (parts q.1) (h q.0))

choice-alone : (p : Place) (d : Unary) → IsSaidUnary d → IsSaidChoice (roll-Choice (record { place = p; first = d; rest = None }))
choice-alone p d h =
    let b = roll-Choice (record { place = p; first = d; rest = None }) in
    let t : choice_tree b ≡ node p (both (unary_tree d) absent) = search (the_lemmas) in
    let w : choice_written b ≡ unary_written d = search (the_lemmas) in
    carry SaysChoice t w (λ k. let q = parts (parts k) in h q.0)

choice-followed : (p : Place) (d : Unary) (e : Choosing) → IsSaidUnary d → IsSaidChoosing e → IsSaidChoice (roll-Choice (record { place = p; first = d; rest = Some e }))
choice-followed p d e h f =
    let b = roll-Choice (record { place = p; first = d; rest = Some e }) in
    let t : choice_tree b ≡ node p (both (unary_tree d) (present (choosing_tree e))) = search (the_lemmas) in
    let w : choice_written b ≡ choosing_written e (unary_written d) = search (the_lemmas) in
    carry SaysChoice t w (λ k. let q = parts (parts k) in f p (unary_tree d) (unary_written d) (parts q.1) (h q.0))

-- atoms: what stands in the parentheses is read, and so it says what is written

-- an atom that is read
in-atom : {p q : Place} {x : Tree} → IsTreeOf (part notation.unary) (node p (right (right (right (node q x))))) → IsTreeOf (rule notation.atom) x
in-atom h = parts (parts (parts (parts (parts h))))

stop-said : (p : Place) → IsSaidAtom (roll-Atom (Stop p))
stop-said p =
    let t : atom_tree (roll-Atom (Stop p)) ≡ atomic_tree p (right (right (right (right (right (right unkept)))))) = search (the_lemmas) in
    let w : atom_written (roll-Atom (Stop p)) ≡ stops = search (the_lemmas) in
    carry SaysUnary t w (λ k. refl)

exit-said : (p : Place) (v : Option (Vec ExitValue Global)) → IsSaidAtom (roll-Atom (Exit p v))
exit-said p v =
    let t : atom_tree (roll-Atom (Exit p v)) ≡ atomic_tree p (right (right (right (right (right (left (behind (exit_values_tree v)))))))) = search (the_lemmas) in
    let w : atom_written (roll-Atom (Exit p v)) ≡ exits (listed v) = search (the_lemmas) in
    carry SaysUnary t w (λ k. (v, refl, refl))

call-said : (p : Place) (name : Token) (o : Option GateList) (v : Option (Vec Expr Global)) → IsSaidAtom (roll-Atom (Call p name o v))
call-said p name o v =
    let t : atom_tree (roll-Atom (Call p name o v)) ≡ node p (right (right (left (node p (both (leaf name) (right (right (both (optional_gates_tree o) (values_tree v))))))))) = search (the_lemmas) in
    let w : atom_written (roll-Atom (Call p name o v)) ≡ calls name (gates_in o) (listed v) = search (the_lemmas) in
    carry SaysUnary t w (λ k. (o, v, refl, refl, refl))

group-said : (p : Place) (b : Box Behaviour Global) → IsSaidBehaviour (box_value b) → IsSaidAtom (roll-Atom (Group p b))
group-said p b h =
    let t : atom_tree (roll-Atom (Group p b)) ≡ atomic_tree p (left (between (behaviour_tree (box_value b)))) = search (the_lemmas) in
    let w : atom_written (roll-Atom (Group p b)) ≡ behaviour_written (box_value b) = search (the_lemmas) in
    carry SaysUnary t w (λ k. let q = parts (parts (parts (in-atom k))) in h (parts q.1).0)

-- a construct of its own, behind its first token
in-hide : {x : Tree} → IsTreeOf (rule notation.atom) (right (left x)) → IsTreeOf (sequence (quoted Mark.Hide) (sequence (notation.list identifier) (sequence (quoted Mark.In) (part notation.behaviour)))) x
in-hide h = parts (parts (parts h))

hide-said : (p : Place) (gates : Vec Token Global) (b : Box Behaviour Global) → IsSaidBehaviour (box_value b) → IsSaidAtom (roll-Atom (Hide p gates b))
hide-said p gates b h =
    let t : atom_tree (roll-Atom (Hide p gates b)) ≡ atomic_tree p (right (left (behind (both (token_list_tree gates.items) (behind (behaviour_tree (box_value b))))))) = search (the_lemmas) in
    let w : atom_written (roll-Atom (Hide p gates b)) ≡ hides gates.items (behaviour_written (box_value b)) = search (the_lemmas) in
    carry SaysUnary t w (λ k.
    let q = parts (in-hide (in-atom k)) in
    let r = parts q.1 in
    let s = parts r.1 in
    (behaviour_written (box_value b), gates.items, h s.1, refl, refl))

in-let : {x : Tree} → IsTreeOf (rule notation.atom) (right (right (left x))) → IsTreeOf (sequence (quoted Mark.Let) (sequence (notation.list (part notation.binding)) (sequence (quoted Mark.In) (part notation.behaviour)))) x
in-let h = parts (parts (parts (parts h)))

let-said : (p : Place) (bindings : Vec Binding Global) (b : Box Behaviour Global) → IsSaidBehaviour (box_value b) → IsSaidAtom (roll-Atom (Let p bindings b))
let-said p bindings b h =
    let t : atom_tree (roll-Atom (Let p bindings b)) ≡ atomic_tree p (right (right (left (behind (both (list_tree (map binding_tree bindings.items)) (behind (behaviour_tree (box_value b)))))))) = search (the_lemmas) in
    let w : atom_written (roll-Atom (Let p bindings b)) ≡ binds bindings.items (behaviour_written (box_value b)) = search (the_lemmas) in
    carry SaysUnary t w (λ k.
    let q = parts (in-let (in-atom k)) in
    let r = parts q.1 in
    let s = parts r.1 in
    (behaviour_written (box_value b), bindings.items, h s.1, refl, refl))

par-said : (p : Place) (gate : Token) (gates : GateList) (o : Operator) (b : Box Behaviour Global) → IsSaidBehaviour (box_value b) → IsSaidAtom (roll-Atom (Par p gate gates o b))
par-said p gate gates o b h =
    let t : atom_tree (roll-Atom (Par p gate gates o b)) ≡ atomic_tree p (right (right (right (right (left (behind (both (leaf gate) (behind (both (gate_list_tree gates) (both (operator_tree o) (behaviour_tree (box_value b)))))))))))) = search (the_lemmas) in
    let w : atom_written (roll-Atom (Par p gate gates o b)) ≡ copies gate gates.gates.items o (behaviour_written (box_value b)) = search (the_lemmas) in
    carry SaysUnary t w (λ k.
    let q = parts (in-par (in-atom k)) in
    let r = parts q.1 in
    let s = parts r.1 in
    let u = parts s.1 in
    let v = parts u.1 in
    (behaviour_written (box_value b), gates, o, h v.1, refl, refl, refl))
  where
    in-par : {x : Tree} → IsTreeOf (rule notation.atom) (right (right (right (right (left x))))) → IsTreeOf (sequence (quoted Mark.Par) (sequence identifier (sequence (quoted Mark.In) (sequence (part notation.gate_list) (sequence (part notation.operator) (part notation.behaviour)))))) x
    in-par h = parts (parts (parts (parts (parts (parts h)))))

-- choices over gates and over values: the tree of no gates and of no variables is read nowhere

-- what stands behind `choice`
abbrev over-gates : Syntax
over-gates = sequence (quoted Mark.In) (sequence (part notation.gate_list) (sequence (repeated (sequence (quoted Mark.Comma) (part notation.gate_choice))) (sequence choice_brackets (part notation.behaviour))))

abbrev over-values : Syntax
over-values = sequence (repeated (sequence (quoted Mark.Comma) identifier)) (sequence (quoted Mark.Colon) (sequence identifier (sequence (repeated (sequence (quoted Mark.Comma) (part notation.declaration))) (sequence choice_brackets (part notation.behaviour)))))

abbrev behind-choice : Syntax
behind-choice = placed (placed (sequence identifier (either over-gates over-values)))

in-choice : {x : Tree} → IsTreeOf (rule notation.atom) (right (right (right (left (behind x))))) → IsTreeOf behind-choice x
in-choice h = let q = parts (parts (parts (parts (parts (parts h))))) in q.1

gates-said : (q s : Place) (cs : List GateChoice) (x : Tree) (c : Construct) →
    IsTreeOf behind-choice (choice_gates_tree cs (both (node s unkept) x)) → (IsTreeOf (part notation.behaviour) x → SaysBehaviour x c) →
    SaysAtom (right (right (right (left (behind (choice_gates_tree cs (both (node s unkept) x))))))) (chooses_gates cs c)
gates-said q s [] x c k h = absurd (parts k)
gates-said q s (d ∷ ds) x c k h =
    let m = parts (parts (parts k)) in
    let n = parts m.1 in
    let o = parts n in
    let r = parts o.1 in
    let u = parts r.1 in
    let v = parts u.1 in
    (c, d ∷ ds, h v.1, refl, refl)

choice-of-gates-said : (p : Place) (choices : Vec GateChoice Global) (s : Place) (b : Box Behaviour Global) → IsSaidBehaviour (box_value b) → IsSaidAtom (roll-Atom (ChoiceOfGates p choices s b))
choice-of-gates-said p choices s b h =
    let t : atom_tree (roll-Atom (ChoiceOfGates p choices s b)) ≡ atomic_tree p (right (right (right (left (behind (choice_gates_tree choices.items (both (node s unkept) (behaviour_tree (box_value b))))))))) = search (the_lemmas) in
    let w : atom_written (roll-Atom (ChoiceOfGates p choices s b)) ≡ chooses_gates choices.items (behaviour_written (box_value b)) = search (the_lemmas) in
    carry SaysUnary t w (λ k. gates-said p s choices.items (behaviour_tree (box_value b)) (behaviour_written (box_value b)) (in-choice (in-atom k)) h)

-- the names of the first declaration, of which there is one at least
names-said : (q s : Place) (names : List Token) (d : Declaration) (ds : List Declaration) (x : Tree) (c : Construct) → d.names.items ≡ names →
    IsTreeOf behind-choice (node q (first_names_tree d.place names (behind (both (leaf d.sort) (both (repeated_tree (map behind (map declaration_tree ds))) (both (node s unkept) x)))))) →
    (IsTreeOf (part notation.behaviour) x → SaysBehaviour x c) →
    SaysAtom (right (right (right (left (behind (node q (first_names_tree d.place names (behind (both (leaf d.sort) (both (repeated_tree (map behind (map declaration_tree ds))) (both (node s unkept) x)))))))))))
    (chooses_values (d ∷ ds) c)
names-said q s [] d ds x c e k h = absurd (parts (parts k))
names-said q s (t ∷ ts) d ds x c e k h =
    let m = parts (parts (parts k)) in
    let n = parts m.1 in
    let o = parts n in
    let r = parts o.1 in
    let u = parts r.1 in
    let v = parts u.1 in
    let z = parts v.1 in
    (c, d ∷ ds, h z.1, ap (λ ns. first_names_tree d.place ns (behind (both (leaf d.sort) (both (repeated_tree (map behind (map declaration_tree ds))) unkept)))) e, refl)

values-said : (q s : Place) (ds : List Declaration) (x : Tree) (c : Construct) →
    IsTreeOf behind-choice (node q (choice_declarations_tree ds (both (node s unkept) x))) → (IsTreeOf (part notation.behaviour) x → SaysBehaviour x c) →
    SaysAtom (right (right (right (left (behind (node q (choice_declarations_tree ds (both (node s unkept) x)))))))) (chooses_values ds c)
values-said q s [] x c k h = absurd (parts (parts k))
values-said q s (d ∷ ds) x c k h = names-said q s d.names.items d ds x c refl k h

choice-of-values-said : (p : Place) (declarations : Declarations) (s : Place) (b : Box Behaviour Global) → IsSaidBehaviour (box_value b) → IsSaidAtom (roll-Atom (ChoiceOfValues p declarations s b))
choice-of-values-said p declarations s b h =
    let t : atom_tree (roll-Atom (ChoiceOfValues p declarations s b)) ≡ atomic_tree p (right (right (right (left (behind (node declarations.place (choice_declarations_tree declarations.list.items (both (node s unkept) (behaviour_tree (box_value b)))))))))) = search (the_lemmas) in
    let w : atom_written (roll-Atom (ChoiceOfValues p declarations s b)) ≡ chooses_values declarations.list.items (behaviour_written (box_value b)) = search (the_lemmas) in
    carry SaysUnary t w (λ k. values-said declarations.place s declarations.list.items (behaviour_tree (box_value b)) (behaviour_written (box_value b)) (in-choice (in-atom k)) h)

-- guards, actions and atoms

guarded-said : (p : Place) (guard : Premiss) (u : Box Unary Global) → IsSaidUnary (box_value u) → IsSaidUnary (roll-Unary (Guarded p guard u))
guarded-said p guard u h =
    let t : unary_tree (roll-Unary (Guarded p guard u)) ≡ node p (left (both (predicate_tree guard) (behind (unary_tree (box_value u))))) = search (the_lemmas) in
    let w : unary_written (roll-Unary (Guarded p guard u)) ≡ asks guard (unary_written (box_value u)) = search (the_lemmas) in
    carry SaysUnary t w (λ k.
    let q = parts (parts (parts k)) in
    let r = parts q.1 in
    (unary_written (box_value u), guard, h (parts r.1), refl, refl))

offering-said : (p q : Place) (gate : Token) (offers : List Offer) (o : Option Premiss) (x : Tree) (c : Construct) →
    IsTreeOf (part notation.unary) (node p (right (right (left (node q (both (leaf gate) (right (left (offers_tree offers (both (optional_predicate_tree o) (behind x))))))))))) →
    (IsTreeOf (part notation.unary) x → SaysUnary x c) →
    SaysUnary (node p (right (right (left (node q (both (leaf gate) (right (left (offers_tree offers (both (optional_predicate_tree o) (behind x))))))))))) (acts gate offers o c)
offering-said p q gate offers o x c k h =
    let m = parts (parts (parts (parts (parts (parts k))))) in
    with-offers p q gate offers o x c (parts (parts m.1)) h
  where
    with-offers : (p q : Place) (gate : Token) (offers : List Offer) (o : Option Premiss) (x : Tree) (c : Construct) →
        IsTreeOf (sequence (part notation.offer) (sequence (repeated (part notation.offer)) (sequence (optional predicate) (sequence (quoted Mark.Semicolon) prefixed)))) (offers_tree offers (both (optional_predicate_tree o) (behind x))) →
        (IsTreeOf (part notation.unary) x → SaysUnary x c) →
        SaysUnary (node p (right (right (left (node q (both (leaf gate) (right (left (offers_tree offers (both (optional_predicate_tree o) (behind x))))))))))) (acts gate offers o c)
    with-offers p q gate [] o x c k h = absurd (parts k)
    with-offers p q gate (f ∷ fs) o x c k h =
        let m = parts k in
        let n = parts m.1 in
        let r = parts n.1 in
        let s = parts r.1 in
        (c, f ∷ fs, o, h (parts s.1), refl, refl, refl)

prefixed-said : (p : Place) (action : Action) (u : Box Unary Global) → IsSaidUnary (box_value u) → IsSaidUnary (roll-Unary (Prefixed p action u))
prefixed-said p action u h =
    let t : unary_tree (roll-Unary (Prefixed p action u)) ≡ node p (action_tree action (unary_tree (box_value u))) = search (the_lemmas) in
    let w : unary_written (roll-Unary (Prefixed p action u)) ≡ action_written action (unary_written (box_value u)) = search (the_lemmas) in
    carry SaysUnary t w (with-action p action (unary_tree (box_value u)) (unary_written (box_value u)) h)
  where
    with-action : (p : Place) (action : Action) (x : Tree) (c : Construct) → (IsTreeOf (part notation.unary) x → SaysUnary x c) →
        IsTreeOf (part notation.unary) (node p (action_tree action x)) → SaysUnary (node p (action_tree action x)) (action_written action c)
    with-action p (Internal q) x c h k =
        let m = parts (parts (parts (parts k))) in
        let n = parts m.1 in
        (c, h (parts n.1), refl)
    with-action p (Plain q gate) x c h k =
        let m = parts (parts (parts (parts (parts (parts k))))) in
        let n = parts (parts m.1) in
        (c, h (parts n.1), refl)
    with-action p (Offering q gate offers o) x c h k = offering-said p q gate offers.items o x c k h

atomic-said : (a : Atom) → IsSaidAtom a → IsSaidUnary (roll-Unary (Atomic a))
atomic-said a h =
    let t : unary_tree (roll-Unary (Atomic a)) ≡ atom_tree a = search (the_lemmas) in
    let w : unary_written (roll-Unary (Atomic a)) ≡ atom_written a = search (the_lemmas) in
    carry SaysUnary t w h

-- what follows an operator

enabling-said : (q : Place) (o : Option Declarations) (b : Box Behaviour Global) → IsSaidBehaviour (box_value b) → IsSaidEnabling (roll-Enabling (record { place = q; accepts = o; right = b }))
enabling-said q o b h p x a k f =
    let e = roll-Enabling (record { place = q; accepts = o; right = b }) in
    let t : enabling_tree e ≡ node q (behind (both (accepts_tree o) (behaviour_tree (box_value b)))) = search (the_lemmas) in
    let w : enabling_written e ≡ (λ (first : Construct). enables q first (declarations_in o) (behaviour_written (box_value b))) = search (the_lemmas) in
    carry (λ y. SaysBehaviour (node p (both x (present y)))) t (ap (λ f. f a) w) (λ k.
    let m = parts (parts k) in
    let n = parts m.1 in
    (a, behaviour_written (box_value b), o, f, h (parts n.1), refl, refl)) k

disabling-said : (q : Place) (b : Box Disable Global) → IsSaidDisable (box_value b) → IsSaidDisabling (roll-Disabling (record { place = q; right = b }))
disabling-said q b h p x a k f =
    let e = roll-Disabling (record { place = q; right = b }) in
    let t : disabling_tree e ≡ node q (behind (disable_tree (box_value b))) = search (the_lemmas) in
    let w : disabling_written e ≡ (λ (first : Construct). disables q first (disable_written (box_value b))) = search (the_lemmas) in
    carry (λ y. SaysDisable (node p (both x (present y)))) t (ap (λ f. f a) w) (λ k.
    let m = parts (parts k) in
    (a, disable_written (box_value b), f, h (parts m.1), refl)) k

composing-said : (q : Place) (o : Operator) (b : Box Parallel Global) → IsSaidParallel (box_value b) → IsSaidComposing (roll-Composing (record { place = q; operator = o; right = b }))
composing-said q o b h p x a k f =
    let e = roll-Composing (record { place = q; operator = o; right = b }) in
    let t : composing_tree e ≡ node q (both (operator_tree o) (parallel_tree (box_value b))) = search (the_lemmas) in
    let w : composing_written e ≡ (λ (first : Construct). composes q o first (parallel_written (box_value b))) = search (the_lemmas) in
    carry (λ y. SaysParallel (node p (both x (present y)))) t (ap (λ f. f a) w) (λ k.
    let m = parts (parts k) in
    (a, parallel_written (box_value b), o, f, h (parts m.1), refl, refl)) k

choosing-said : (q : Place) (b : Box Choice Global) → IsSaidChoice (box_value b) → IsSaidChoosing (roll-Choosing (record { place = q; right = b }))
choosing-said q b h p x a k f =
    let e = roll-Choosing (record { place = q; right = b }) in
    let t : choosing_tree e ≡ node q (behind (choice_tree (box_value b))) = search (the_lemmas) in
    let w : choosing_written e ≡ (λ (first : Construct). chooses q first (choice_written (box_value b))) = search (the_lemmas) in
    carry (λ y. SaysChoice (node p (both x (present y)))) t (ap (λ f. f a) w) (λ k.
    let m = parts (parts k) in
    (a, choice_written (box_value b), f, h (parts m.1), refl)) k

-- all behaviours, by induction on how they are made

abbrev of-Atom : Held IsSaidAtom → Atom
of-Atom h = h.0

abbrev of-Unary : Held IsSaidUnary → Unary
of-Unary h = h.0

abbrev of-Behaviour : Held IsSaidBehaviour → Behaviour
of-Behaviour h = h.0

abbrev of-Choice : Held IsSaidChoice → Choice
of-Choice h = h.0

abbrev of-Choosing : Held IsSaidChoosing → Choosing
of-Choosing h = h.0

abbrev of-Composing : Held IsSaidComposing → Composing
of-Composing h = h.0

abbrev of-Disable : Held IsSaidDisable → Disable
of-Disable h = h.0

abbrev of-Disabling : Held IsSaidDisabling → Disabling
of-Disabling h = h.0

abbrev of-Enabling : Held IsSaidEnabling → Enabling
of-Enabling h = h.0

abbrev of-Parallel : Held IsSaidParallel → Parallel
of-Parallel h = h.0

-- the ten types of one level below
abbrev Bare : (Type 0 → Type 0 → Type 0 → Type 0 → Type 0 → Type 0 → Type 0 → Type 0 → Type 0 → Type 0 → Type 0) → Type 0
Bare F = F Atom Unary Behaviour Choice Choosing Composing Disable Disabling Enabling Parallel

abbrev Shown : (Type 0 → Type 0 → Type 0 → Type 0 → Type 0 → Type 0 → Type 0 → Type 0 → Type 0 → Type 0 → Type 0) → Type 0
Shown F = F (Held IsSaidAtom) (Held IsSaidUnary) (Held IsSaidBehaviour) (Held IsSaidChoice) (Held IsSaidChoosing) (Held IsSaidComposing)
    (Held IsSaidDisable) (Held IsSaidDisabling) (Held IsSaidEnabling) (Held IsSaidParallel)

abbrev bare-Atom : Shown Atom-F → Bare Atom-F
bare-Atom = map-Atom _ _ _ _ _ _ _ _ _ _ _ _ _ _ _ _ _ _ _ _
    of-Atom of-Unary of-Behaviour of-Choice of-Choosing of-Composing of-Disable of-Disabling of-Enabling of-Parallel

abbrev bare-Unary : Shown Unary-F → Bare Unary-F
bare-Unary = map-Unary _ _ _ _ _ _ _ _ _ _ _ _ _ _ _ _ _ _ _ _
    of-Atom of-Unary of-Behaviour of-Choice of-Choosing of-Composing of-Disable of-Disabling of-Enabling of-Parallel

abbrev bare-Behaviour : Shown Behaviour-F → Bare Behaviour-F
bare-Behaviour = map-Behaviour _ _ _ _ _ _ _ _ _ _ _ _ _ _ _ _ _ _ _ _
    of-Atom of-Unary of-Behaviour of-Choice of-Choosing of-Composing of-Disable of-Disabling of-Enabling of-Parallel

abbrev bare-Choice : Shown Choice-F → Bare Choice-F
bare-Choice = map-Choice _ _ _ _ _ _ _ _ _ _ _ _ _ _ _ _ _ _ _ _
    of-Atom of-Unary of-Behaviour of-Choice of-Choosing of-Composing of-Disable of-Disabling of-Enabling of-Parallel

abbrev bare-Choosing : Shown Choosing-F → Bare Choosing-F
bare-Choosing = map-Choosing _ _ _ _ _ _ _ _ _ _ _ _ _ _ _ _ _ _ _ _
    of-Atom of-Unary of-Behaviour of-Choice of-Choosing of-Composing of-Disable of-Disabling of-Enabling of-Parallel

abbrev bare-Composing : Shown Composing-F → Bare Composing-F
bare-Composing = map-Composing _ _ _ _ _ _ _ _ _ _ _ _ _ _ _ _ _ _ _ _
    of-Atom of-Unary of-Behaviour of-Choice of-Choosing of-Composing of-Disable of-Disabling of-Enabling of-Parallel

abbrev bare-Disable : Shown Disable-F → Bare Disable-F
bare-Disable = map-Disable _ _ _ _ _ _ _ _ _ _ _ _ _ _ _ _ _ _ _ _
    of-Atom of-Unary of-Behaviour of-Choice of-Choosing of-Composing of-Disable of-Disabling of-Enabling of-Parallel

abbrev bare-Disabling : Shown Disabling-F → Bare Disabling-F
bare-Disabling = map-Disabling _ _ _ _ _ _ _ _ _ _ _ _ _ _ _ _ _ _ _ _
    of-Atom of-Unary of-Behaviour of-Choice of-Choosing of-Composing of-Disable of-Disabling of-Enabling of-Parallel

abbrev bare-Enabling : Shown Enabling-F → Bare Enabling-F
bare-Enabling = map-Enabling _ _ _ _ _ _ _ _ _ _ _ _ _ _ _ _ _ _ _ _
    of-Atom of-Unary of-Behaviour of-Choice of-Choosing of-Composing of-Disable of-Disabling of-Enabling of-Parallel

abbrev bare-Parallel : Shown Parallel-F → Bare Parallel-F
bare-Parallel = map-Parallel _ _ _ _ _ _ _ _ _ _ _ _ _ _ _ _ _ _ _ _
    of-Atom of-Unary of-Behaviour of-Choice of-Choosing of-Composing of-Disable of-Disabling of-Enabling of-Parallel

atom-step : (y : Shown Atom-F) → IsSaidAtom (roll-Atom (bare-Atom y))
atom-step (Stop p) = stop-said p
atom-step (Exit p v) = exit-said p v
atom-step (Call p name gates values) = call-said p name gates values
atom-step (Group p b) = group-said p _ (box_value b).1
atom-step (Hide p gates b) = hide-said p gates _ (box_value b).1
atom-step (Let p bindings b) = let-said p bindings _ (box_value b).1
atom-step (ChoiceOfValues p declarations s b) = choice-of-values-said p declarations s _ (box_value b).1
atom-step (ChoiceOfGates p choices s b) = choice-of-gates-said p choices s _ (box_value b).1
atom-step (Par p gate gates o b) = par-said p gate gates o _ (box_value b).1

unary-step : (y : Shown Unary-F) → IsSaidUnary (roll-Unary (bare-Unary y))
unary-step (Guarded p guard u) = guarded-said p guard _ (box_value u).1
unary-step (Prefixed p action u) = prefixed-said p action _ (box_value u).1
unary-step (Atomic a) = atomic-said a.0 a.1

behaviour-step : (p : Place) (d : Held IsSaidDisable) (o : Option (Held IsSaidEnabling)) → IsSaidBehaviour (roll-Behaviour (bare-Behaviour (record { place = p; first = d; rest = o })))
behaviour-step p d None = behaviour-alone p d.0 d.1
behaviour-step p d (Some e) = behaviour-followed p d.0 e.0 d.1 e.1

disable-step : (p : Place) (d : Held IsSaidParallel) (o : Option (Held IsSaidDisabling)) → IsSaidDisable (roll-Disable (bare-Disable (record { place = p; first = d; rest = o })))
disable-step p d None = disable-alone p d.0 d.1
disable-step p d (Some e) = disable-followed p d.0 e.0 d.1 e.1

parallel-step : (p : Place) (d : Held IsSaidChoice) (o : Option (Held IsSaidComposing)) → IsSaidParallel (roll-Parallel (bare-Parallel (record { place = p; first = d; rest = o })))
parallel-step p d None = parallel-alone p d.0 d.1
parallel-step p d (Some e) = parallel-followed p d.0 e.0 d.1 e.1

choice-step : (p : Place) (d : Held IsSaidUnary) (o : Option (Held IsSaidChoosing)) → IsSaidChoice (roll-Choice (bare-Choice (record { place = p; first = d; rest = o })))
choice-step p d None = choice-alone p d.0 d.1
choice-step p d (Some e) = choice-followed p d.0 e.0 d.1 e.1

pub behaviour-said : (b : Behaviour) → IsTreeOf (part notation.behaviour) (behaviour_tree b) → SaysBehaviour (behaviour_tree b) (behaviour_written b)
behaviour-said = ind-Behaviour IsSaidAtom IsSaidUnary IsSaidBehaviour IsSaidChoice IsSaidChoosing IsSaidComposing IsSaidDisable IsSaidDisabling IsSaidEnabling IsSaidParallel
    (λ x y is. subst (λ z. IsSaidAtom (roll-Atom z)) is (atom-step y))
    (λ x y is. subst (λ z. IsSaidUnary (roll-Unary z)) is (unary-step y))
    (λ x y is. subst (λ z. IsSaidBehaviour (roll-Behaviour z)) is (behaviour-step y.place y.first y.rest))
    (λ x y is. subst (λ z. IsSaidChoice (roll-Choice z)) is (choice-step y.place y.first y.rest))
    (λ x y is. subst (λ z. IsSaidChoosing (roll-Choosing z)) is (choosing-said y.place _ (box_value y.right).1))
    (λ x y is. subst (λ z. IsSaidComposing (roll-Composing z)) is (composing-said y.place y.operator _ (box_value y.right).1))
    (λ x y is. subst (λ z. IsSaidDisable (roll-Disable z)) is (disable-step y.place y.first y.rest))
    (λ x y is. subst (λ z. IsSaidDisabling (roll-Disabling z)) is (disabling-said y.place _ (box_value y.right).1))
    (λ x y is. subst (λ z. IsSaidEnabling (roll-Enabling z)) is (enabling-said y.place y.accepts _ (box_value y.right).1))
    (λ x y is. subst (λ z. IsSaidParallel (roll-Parallel z)) is (parallel-step y.place y.first y.rest))
