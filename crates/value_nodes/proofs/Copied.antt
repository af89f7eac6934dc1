-- Copies of nodes in another table.
use Rattle.std.proofs.Common.{ℕ, zero, suc, ◌≡◌, ◌<◌, List, [], ◌∷◌, ◌++◌, length, replicate, set, slice_index_or, refl, sym, ap, subst, ◌∙◌}
use Rattle.std.proofs.Common.{arith, inl, inr, ◌⊎◌, Option, Some, None}
use Rattle.std.proofs.lemmas.List.{length-set, length-replicate}
use Rattle.std.specs.Prelude.{option_to_list, unwrap_or}
use Rattle.std.proofs.lemmas.Bool.{cases_eq}
use Rattle.std.proofs.lemmas.Option.{same_Some}
use Rattle.spec_core.specs.Lists.{Each}
use Rattle.value_nodes.proofs.Parts.{each_less}
use Rattle.spec_core.specs.Terms.{apply, no_terms, and_term}
use Rattle.value_nodes.specs.declared.node.Node.{Node}
use Rattle.value_nodes.specs.declared.node.Node.TheVariants.{One, More}
use Rattle.spec_core.specs.declared.items.Op.{Op}
use Rattle.value_nodes.specs.Sizes.{symbols}
use Rattle.value_nodes.specs.Nodes.{arguments, node_tree, trees_of, tree_at, cost_at, IsSeen, IsNode, IsLonger}
use Rattle.value_nodes.specs.Copies.{copy_at, AreCopies, IsRowOf}
use Rattle.value_nodes.proofs.Nodes.{trees-length}

nothing_yet : (m i : ℕ) → copy_at (replicate m None) i ≡ None
nothing_yet zero zero = refl
nothing_yet zero (suc i) = refl
nothing_yet (suc m) zero = refl
nothing_yet (suc m) (suc i) = nothing_yet m i

-- at the start nothing has a copy
pub no_copies : (old : List Node) (copies : List (Option ℕ)) (m : ℕ) → m ≡ length old → copies ≡ replicate m None → AreCopies old [] copies
no_copies old copies m e is = record {
  one_each = ap length is ∙ length-replicate m None ∙ e;
  same = λ i n q. let k : None ≡ Some n = sym (ap (λ c. copy_at c i) is ∙ nothing_yet m i) ∙ q in cc;
  no_other = λ n h. absurd (omega (arith, h));
}

pub read_copy : (copies : List (Option ℕ)) (i : ℕ) (o : Option ℕ) → i < length copies → o ≡ slice_index_or copies i o → copy_at copies i ≡ o
read_copy [] i o h e = absurd (omega arith)
read_copy (c ∷ copies) zero o h e = sym e
read_copy (c ∷ copies) (suc i) o h e = read_copy copies i o (omega arith) e

copied_here : (copies : List (Option ℕ)) (i : ℕ) (o : Option ℕ) → i < length copies → copy_at (set copies i o) i ≡ o
copied_here [] i o h = absurd (omega arith)
copied_here (c ∷ copies) zero o h = refl
copied_here (c ∷ copies) (suc i) o h = copied_here copies i o (omega arith)

copied_elsewhere : (copies : List (Option ℕ)) (i : ℕ) (o : Option ℕ) (j : ℕ) → (j ≡ i → ⊥) → copy_at (set copies i o) j ≡ copy_at copies j
copied_elsewhere [] i o j h = refl
copied_elsewhere (c ∷ copies) zero o zero h = absurd (h refl)
copied_elsewhere (c ∷ copies) zero o (suc j) h = refl
copied_elsewhere (c ∷ copies) (suc i) o zero h = refl
copied_elsewhere (c ∷ copies) (suc i) o (suc j) h = copied_elsewhere copies i o j (λ e. h (ap suc e))

-- one more copy
pub kept : (old new now : List Node) (copies : List (Option ℕ)) (node n : ℕ) → AreCopies old new copies → IsNode old node →
    IsLonger new now →
    IsNode now n → tree_at now n ≡ tree_at old node → cost_at now n ≡ cost_at old node → ((i : ℕ) → IsNode now i → IsNode new i ⊎ (i ≡ n)) →
    AreCopies old now (set copies node (Some n))
kept old new now copies node n h there longer at tree cost others = record {
  one_each = length-set copies node (Some n) ∙ h.one_each;
  same = λ i m q. by_place i m q (cases_eq i node);
  no_other = λ m l. by_number m (others m l);
}
  where
    in_list : node < length copies
    in_list = let e = h.one_each in omega (arith, there, e)

    by_place : (i m : ℕ) → copy_at (set copies node (Some n)) i ≡ Some m → (i ≡ node) ⊎ (i ≡ node → ⊥) →
        IsNode now m × (tree_at now m ≡ tree_at old i) × (cost_at now m ≡ cost_at old i)
    by_place i m q (inl e) =
        let s : n ≡ m = same_Some _ _ (sym (copied_here copies node (Some n) in_list) ∙ ap (copy_at (set copies node (Some n))) (sym e) ∙ q) in (
          subst (IsNode now) s at,
          ap (tree_at now) (sym s) ∙ tree ∙ ap (tree_at old) (sym e),
          ap (cost_at now) (sym s) ∙ cost ∙ ap (cost_at old) (sym e),
        )
    by_place i m q (inr d) =
        let k = h.same i m (sym (copied_elsewhere copies node (Some n) i d) ∙ q) in
        (omega (arith, k.0, longer.at_least), longer.same m k.0 ∙ k.1, longer.costs m k.0 ∙ k.2)

    by_number : (m : ℕ) → IsNode new m ⊎ (m ≡ n) →
        (i : ℕ) × IsNode old i × (tree_at now m ≡ tree_at old i) × (cost_at now m ≡ cost_at old i)
    by_number m (inl l) = let k = h.no_other m l in (k.0, k.1, longer.same m l ∙ k.2, longer.costs m l ∙ k.3)
    by_number m (inr e) = (node, there, ap (tree_at now) e ∙ tree, ap (cost_at now) e ∙ cost)

-- the number that waits last, or another where none waits
pub next_there : (P : ℕ → Type 0) (old new : List ℕ) (o : Option ℕ) (d r : ℕ) →
    Each P old → old ≡ new ++ option_to_list o → P d → r ≡ unwrap_or o d → P r
next_there P old new None d r e q h u = subst P (sym u) h
next_there P old new (Some x) d r e q h u = subst P (sym u) (each_less P new x (subst (Each P) q e)).1

in_trees : (rows : List Node) (n : ℕ) → IsNode rows n → n < length (trees_of rows)
in_trees rows n h = let l = trees-length [] rows in omega (arith, l, h)

module _ (old new : List Node) (copies : List (Option ℕ)) (h : AreCopies old new copies) where
  -- what a node is made of has a place among the copies, and what is read there is the number of its copy
  pub part_there : (i : ℕ) → i < length (trees_of old) → i < length copies
  part_there i l = let n = trees-length [] old in let e = h.one_each in omega (arith, l, n, e)

  pub part_read : (i : ℕ) (o : Option ℕ) → i < length (trees_of old) → o ≡ slice_index_or copies i o → copy_at copies i ≡ o
  part_read i o l e = read_copy copies i o (part_there i l) e

  -- the node of an operation, over the copy of its argument
  pub one_copied : (node : ℕ) (op : Op) (size arg cost n : ℕ) → cost ≡ cost_at old node → IsSeen (trees_of old) node (One op size arg cost) →
      copy_at copies arg ≡ Some n → IsRowOf old new node (One op size n cost)
  one_copied node op size arg cost n kept s q =
      let k = h.same arg n q in
      let e : node_tree (trees_of new) (One op size n cost) ≡ tree_at old node =
      ap (λ t. apply op.0 (and_term t no_terms)) k.1 ∙ sym s.1 in
      ((in_trees new n k.0, s.2 ∙ ap symbols (sym e), s.3), e, kept)

  -- over the copies of its first argument and of the node with the others
  pub more_copied : (node : ℕ) (op : Op) (size arg rest cost n m : ℕ) → cost ≡ cost_at old node → IsSeen (trees_of old) node (More op size arg rest cost) →
      copy_at copies arg ≡ Some n → copy_at copies rest ≡ Some m → IsRowOf old new node (More op size n m cost)
  more_copied node op size arg rest cost n m kept s q r =
      let k = h.same arg n q in
      let l = h.same rest m r in
      let e : node_tree (trees_of new) (More op size n m cost) ≡ tree_at old node =
      ap (λ t. apply op.0 (and_term t (arguments (tree_at new m)))) k.1
      ∙ ap (λ t. apply op.0 (and_term (tree_at old arg) (arguments t))) l.1
      ∙ sym s.2 in
      ((in_trees new n k.0, in_trees new m l.0, s.3 ∙ ap symbols (sym e), s.4, λ z. s.5 (ap arguments (sym l.1) ∙ z)), e, kept)
