-- The trees of types in a tree of a specification are trees of types, also those of `where` parts.
use Rattle.lotos_ast.specs.declared.token.Token.{Token}
use Rattle.lotos_ast.specs.Grammar.{where_part}
use Rattle.lotos_ast.specs.Notation.{Wanted, optional, repeated, part, specification, where_item, process, type_definition}
use Rattle.lotos_ast.specs.Reads.{Tree, both, left, right, present, more, node}
use Rattle.spec_core.specs.Lists.{Each}
use Rattle.spec_core.proofs.Lists.{each_append}
use Rattle.lotos_front.specs.Types.{item_types, process_types, where_types, all_types, repeated_trees, types_in}
use Rattle.syntax_laws.proofs.Trees.{IsTreeWith, parts}

module _ (Is : Wanted → Token → Type 0) where
  mutual
    item-trees : (t : Tree) → IsTreeWith Is (part where_item) t → Each (IsTreeWith Is (part type_definition)) (item_types t)
    item-trees (node p (left type)) h = (parts (parts h), tt)
    item-trees (node p (right called)) h = process-trees called (parts (parts h))
    item-trees _ h = tt

    process-trees : (t : Tree) → IsTreeWith Is (part process) t → Each (IsTreeWith Is (part type_definition)) (process_types t)
    process-trees (node p (both k (both name (both gates (both parameters (both colon (both functionality (both defined (both behaviour
        (both items end)))))))))) h =
        let a = parts (parts (parts h)) in
        let b = parts a.1 in
        let c = parts b.1 in
        let d = parts c.1 in
        let e = parts d.1 in
        let f = parts e.1 in
        let g = parts f.1 in
        let i = parts g.1 in
        let j = parts i.1 in
        where-trees items j.0
    process-trees _ h = tt

    where-trees : (t : Tree) → IsTreeWith Is (optional where_part) t → Each (IsTreeWith Is (part type_definition)) (where_types t)
    where-trees (present (both k items)) h = all-trees items (parts (parts h)).1
    where-trees _ h = tt

    all-trees : (t : Tree) → IsTreeWith Is (repeated (part where_item)) t → Each (IsTreeWith Is (part type_definition)) (all_types t)
    all-trees (more item items) h =
        let a = parts h in
        each_append (IsTreeWith Is (part type_definition)) (item_types item) (all_types items) (item-trees item a.0) (all-trees items a.1)
    all-trees _ h = tt

  listed-trees : (t : Tree) → IsTreeWith Is (repeated (part type_definition)) t → Each (IsTreeWith Is (part type_definition)) (repeated_trees t)
  listed-trees (more t ts) h = let a = parts h in (a.0, listed-trees ts a.1)
  listed-trees _ h = tt

  pub trees-in : (t : Tree) → IsTreeWith Is (part specification) t → Each (IsTreeWith Is (part type_definition)) (types_in t)
  trees-in (node p (both k (both name (both gates (both colon (both functionality (both types (both kw (both behaviour
      (both items end)))))))))) h =
      let a = parts (parts h) in
      let b = parts a.1 in
      let c = parts b.1 in
      let d = parts c.1 in
      let e = parts d.1 in
      let f = parts e.1 in
      let g = parts f.1 in
      let i = parts g.1 in
      let j = parts i.1 in
      each_append (IsTreeWith Is (part type_definition)) (repeated_trees types) (where_types items) (listed-trees types f.0) (where-trees items j.0)
  trees-in _ h = tt
