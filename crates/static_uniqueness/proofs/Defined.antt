-- The tree of a specification that is read says its processes.
use Rattle.std.proofs.Common.{ℕ, ◌+◌, ◌≡◌, refl, sym, ap, subst, List, [], ◌∷◌, map, Option, Some, None, Vec, Global}
use Rattle.lotos_ast.specs.declared.behaviour.Behaviour.{Behaviour}
use Rattle.lotos_ast.specs.declared.declaration.Declarations.{Declarations}
use Rattle.lotos_ast.specs.declared.declaration.Functionality.{Functionality}
use Rattle.lotos_ast.specs.declared.declaration.GateList.{GateList}
use Rattle.lotos_ast.specs.declared.place.Place.{Place}
use Rattle.lotos_ast.specs.declared.spec.Process.{Process, Process-F, roll-Process, map-Process}
use Rattle.lotos_ast.specs.declared.spec.WhereItem.{WhereItem, roll-WhereItem, map-WhereItem, ind-WhereItem}
use Rattle.lotos_ast.specs.declared.spec.WhereItem.TheOpen.{WhereItem-F, Types, Definition}
use Rattle.lotos_ast.specs.declared.spec.WhereItem.TheFolds.{the_lemmas, fold-roll-WhereItem}
use Rattle.lotos_ast.specs.declared.token.Token.{Token}
use Rattle.lotos_ast.specs.declared.types.TypeDef.{TypeDef}
use Rattle.lotos_ast.specs.BehaviourTrees.{behaviour_tree}
use Rattle.lotos_ast.specs.DeclarationTrees.{functionality_tree, optional_gates_tree}
use Rattle.lotos_ast.specs.Grammar.{where_part}
use Rattle.lotos_ast.specs.ListTrees.{repeated_tree, tree_place, behind}
use Rattle.lotos_ast.specs.Notation as notation
use Rattle.lotos_ast.specs.Notation.{part, optional, repeated}
use Rattle.lotos_ast.specs.Reads.{Tree, unkept, leaf, both, left, right, node}
use Rattle.lotos_ast.specs.SpecTrees.{where_item_tree, process_tree, items_tree, parameters_tree}
use Rattle.lotos_ast.specs.TypeTrees.{type_def_tree}
use Rattle.spec_core.specs.Lists.{Each}
use Rattle.static_constructs.specs.Written.{listed, gates_in, declarations_in, behaviour_written}
use Rattle.static_processes.specs.Processes.{Defined, Entries, one_after_another, item_entries, process_entries}
use Rattle.syntax_laws.proofs.Trees.{IsTreeOf, parts}
use Rattle.static_uniqueness.proofs.Processes.{IsDefinedBy, SaysItem, SaysProcess, SaysItems, SaysAll}
use Rattle.static_uniqueness.proofs.Written.{behaviour-said}

-- what is shown of each item of a `where` part, and of each process

abbrev IsSaidItem : WhereItem → Type 0
IsSaidItem w = IsTreeOf (part notation.where_item) (where_item_tree w) → SaysItem (where_item_tree w) (item_entries w)

abbrev IsSaidProcess : Process → Type 0
IsSaidProcess p = IsTreeOf (part notation.process) (process_tree p) → SaysProcess (process_tree p) (process_entries p)

types-said : (t : TypeDef) → IsSaidItem (roll-WhereItem (Types t))
types-said t h =
    let e : where_item_tree (roll-WhereItem (Types t)) ≡ node (tree_place (type_def_tree t)) (left (type_def_tree t)) = search (the_lemmas) in
    let w : item_entries (roll-WhereItem (Types t)) ≡ (λ (number : ℕ) (around : List ℕ). []) = search (the_lemmas) in
    subst (λ z. SaysItem z (item_entries (roll-WhereItem (Types t)))) (sym e) (λ number around. ap (λ f. f number around) w)

definition-said : (p : Process) → IsSaidProcess p → IsSaidItem (roll-WhereItem (Definition p))
definition-said p h k =
    let w = roll-WhereItem (Definition p) in
    let e : where_item_tree w ≡ node (tree_place (process_tree p)) (right (process_tree p)) = search (the_lemmas) in
    let f : item_entries w ≡ (λ (number : ℕ) (around : List ℕ). process_entries p number around) = fold-roll-WhereItem _ _ _ _ (Definition p) in
    subst (λ z. SaysItem z (item_entries w)) (sym e) (subst (λ z. SaysProcess (process_tree p) z) (sym f)
    (h (parts (parts (subst (IsTreeOf (part notation.where_item)) e k)))))

all-said : (ws : List WhereItem) → Each IsSaidItem ws → IsTreeOf (repeated (part notation.where_item)) (repeated_tree (map where_item_tree ws)) → SaysAll (repeated_tree (map where_item_tree ws)) (map item_entries ws)
all-said [] each h = refl
all-said (w ∷ ws) each h =
    let m = parts h in
    (item_entries w, map item_entries ws, each.0 m.0, all-said ws each.1 m.1, refl)

abbrev IsSaidOf : Option (Vec WhereItem Global) → Type 0
IsSaidOf None = Unit {0}
IsSaidOf (Some ws) = Each IsSaidItem ws.items

pub items-said : (o : Option (Vec WhereItem Global)) → IsSaidOf o → IsTreeOf (optional where_part) (items_tree o) → SaysItems (items_tree o) (map item_entries (listed o))
items-said None each h = refl
items-said (Some ws) each h = let m = parts (parts h) in all-said ws.items each m.1

module _ (p : Place) (name : Token) (gates : Option GateList) (parameters : Option Declarations) (functionality : Functionality) (behaviour : Behaviour) where
  abbrev made : Option (Vec WhereItem Global) → Process
  made o = roll-Process (record { place = p; name = name; gates = gates; parameters = parameters; functionality = functionality; behaviour = behaviour; items = o })

  abbrev tree-of : Option (Vec WhereItem Global) → Tree
  tree-of o = node p (behind (both (leaf name) (both (optional_gates_tree gates) (both (parameters_tree parameters) (behind (both (functionality_tree functionality) (behind (both (behaviour_tree behaviour) (both (items_tree o) unkept)))))))))

  abbrev defined : Defined
  defined = record { name = name; gates = gates_in gates; parameters = declarations_in parameters; functionality = functionality; body = behaviour_written behaviour }

  abbrev entries-of : Option (Vec WhereItem Global) → Entries
  entries-of o number around = record { process = defined; around = around } ∷ one_after_another (map item_entries (listed o)) (number + 1) (number ∷ around)

  made-tree : (o : Option (Vec WhereItem Global)) → process_tree (made o) ≡ tree-of o
  made-tree None = search (the_lemmas)
  made-tree (Some ws) = search (the_lemmas)

  made-entries : (o : Option (Vec WhereItem Global)) → process_entries (made o) ≡ entries-of o
  made-entries None = search (the_lemmas)
  made-entries (Some ws) = search (the_lemmas)

  process-said : (o : Option (Vec WhereItem Global)) → IsSaidOf o → IsSaidProcess (made o)
  process-said o each h =
      let k = subst (IsTreeOf (part notation.process)) (made-tree o) h in
      let a = parts (parts (parts k)) in
      let b = parts a.1 in
      let c = parts b.1 in
      let d = parts c.1 in
      let e = parts d.1 in
      let f = parts e.1 in
      let g = parts f.1 in
      let i = parts g.1 in
      let j = parts i.1 in
      let by : IsDefinedBy name (optional_gates_tree gates) (parameters_tree parameters) (functionality_tree functionality) (behaviour_tree behaviour) defined = record {
        list = gates;
        variables = parameters;
        named = refl;
        gates_are = refl;
        gates_said = refl;
        parameters_are = refl;
        parameters_said = refl;
        functionality_said = refl;
        body_said = behaviour-said behaviour i.0;
      } in
      subst (λ z. SaysProcess z (process_entries (made o))) (sym (made-tree o))
      (defined, map item_entries (listed o), by, items-said o each j.0, λ number around. ap (λ f. f number around) (made-entries o))

-- all items of a `where` part, by induction on how they are made

abbrev HeldItem : Type 0
HeldItem = (w : WhereItem) × IsSaidItem w

abbrev HeldProcess : Type 0
HeldProcess = (p : Process) × IsSaidProcess p

abbrev of-item : HeldItem → WhereItem
of-item h = h.0

abbrev of-process : HeldProcess → Process
of-process h = h.0

each-held : (hs : List HeldItem) → Each IsSaidItem (map of-item hs)
each-held [] = tt
each-held (h ∷ hs) = (h.1, each-held hs)

abbrev bare-item : WhereItem-F HeldItem HeldProcess → WhereItem-F WhereItem Process
bare-item = map-WhereItem _ _ _ _ of-item of-process

abbrev bare-process : Process-F HeldItem HeldProcess → Process-F WhereItem Process
bare-process = map-Process _ _ _ _ of-item of-process

item-step : (y : WhereItem-F HeldItem HeldProcess) → IsSaidItem (roll-WhereItem (bare-item y))
item-step (Types t) = types-said t
item-step (Definition p) = definition-said p.0 p.1

process-step : (p : Place) (name : Token) (gates : Option GateList) (parameters : Option Declarations) (functionality : Functionality) (behaviour : Behaviour) (o : Option (Vec HeldItem Global)) →
    IsSaidProcess (roll-Process (bare-process (record { place = p; name = name; gates = gates; parameters = parameters; functionality = functionality; behaviour = behaviour; items = o })))
process-step p name gates parameters functionality behaviour None = process-said p name gates parameters functionality behaviour None tt
process-step p name gates parameters functionality behaviour (Some hs) = process-said p name gates parameters functionality behaviour _ (each-held hs.items)

pub item-said : (w : WhereItem) → IsSaidItem w
item-said = ind-WhereItem IsSaidItem IsSaidProcess
    (λ x y is. subst (λ z. IsSaidItem (roll-WhereItem z)) is (item-step y))
    (λ x y is. subst (λ z. IsSaidProcess (roll-Process z)) is (process-step y.place y.name y.gates y.parameters y.functionality y.behaviour y.items))

pub each-said : (ws : List WhereItem) → Each IsSaidItem ws
each-said [] = tt
each-said (w ∷ ws) = (item-said w, each-said ws)

pub of-each : (o : Option (Vec WhereItem Global)) → IsSaidOf o
of-each None = tt
of-each (Some ws) = each-said ws.items
