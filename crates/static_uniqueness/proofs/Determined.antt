-- Specifications that are read of the same tokens are alike.
use Rattle.std.proofs.Common.{◌≡◌, sym, subst, [], map}
use Rattle.lotos_ast.specs.declared.spec.Spec.{Spec}
use Rattle.lotos_ast.specs.BehaviourTrees.{behaviour_tree}
use Rattle.lotos_ast.specs.DeclarationTrees.{functionality_tree, optional_gates_tree}
use Rattle.lotos_ast.specs.Grammar.{where_part}
use Rattle.lotos_ast.specs.GrammarLaws.{OneTree}
use Rattle.lotos_ast.specs.Notation.{part, optional, specification, behaviour}
use Rattle.lotos_ast.specs.SpecTrees.{spec_tree, items_tree}
use Rattle.static_constructs.specs.Written.{listed, behaviour_written}
use Rattle.static_processes.specs.Processes.{item_entries}
use Rattle.static_uniqueness.specs.SpecificationsAlike.{AreSpecificationsAlike}
use Rattle.syntax_laws.proofs.Trees.{IsTreeOf, parts, tree-read}
use Rattle.static_uniqueness.proofs.Defined.{items-said, of-each}
use Rattle.static_uniqueness.proofs.Meanings.{SaysBehaviour}
use Rattle.static_uniqueness.proofs.OneMeaning.{behaviours-alike}
use Rattle.static_uniqueness.proofs.TreeParts.{gates-same, functionalities-alike}
use Rattle.static_uniqueness.proofs.Processes.{SaysItems, items-alike, together}
use Rattle.static_uniqueness.proofs.Written.{behaviour-said}
use Rattle.static_uniqueness.specs.Trees.{TokensDetermineSpecifications}

-- what stands in a specification that is read
record HasParts (s : Spec) : Type 0 where
  pub behaves : IsTreeOf (part behaviour) (behaviour_tree s.behaviour)
  pub defines : IsTreeOf (optional where_part) (items_tree s.items)

has-parts : (s : Spec) → IsTreeOf (part specification) (spec_tree s) → HasParts s
has-parts s h =
    let a = parts (parts h) in
    let b = parts a.1 in
    let c = parts b.1 in
    let d = parts c.1 in
    let e = parts d.1 in
    let f = parts e.1 in
    let g = parts f.1 in
    let i = parts g.1 in
    let j = parts i.1 in
    record { behaves = i.0; defines = j.0 }

of-one-tree : (a b : Spec) → HasParts a → HasParts b → spec_tree a ≡ spec_tree b → AreSpecificationsAlike a b
of-one-tree a b h k e =
    let gates : optional_gates_tree a.gates ≡ optional_gates_tree b.gates = cc in
    let functionality : functionality_tree a.functionality ≡ functionality_tree b.functionality = cc in
    let behaving : behaviour_tree a.behaviour ≡ behaviour_tree b.behaviour = cc in
    let items : items_tree a.items ≡ items_tree b.items = cc in
    let there = subst (λ t. SaysBehaviour t (behaviour_written b.behaviour)) (sym behaving) (behaviour-said b.behaviour k.behaves) in
    let defined = subst (λ t. SaysItems t (map item_entries (listed b.items))) (sym items) (items-said b.items (of-each b.items) k.defines) in
    let all = items-alike (items_tree a.items) (map item_entries (listed a.items)) (map item_entries (listed b.items)) (items-said a.items (of-each a.items) h.defines) defined in
    record {
      name = cc;
      gates = gates-same a.gates b.gates gates;
      functionality = functionalities-alike a.functionality b.functionality functionality;
      processes = together (map item_entries (listed a.items)) (map item_entries (listed b.items)) all 0 [];
      behaviour = behaviours-alike (behaviour_tree a.behaviour) (behaviour_written a.behaviour) (behaviour_written b.behaviour) (behaviour-said a.behaviour h.behaves) there;
    }

pub tokens_determine : OneTree → TokensDetermineSpecifications
tokens_determine one tokens a b h k =
    of-one-tree a b (has-parts a (tree-read h.read)) (has-parts b (tree-read k.read)) (one _ _ _ _ _ _ _ h.read k.read).0
