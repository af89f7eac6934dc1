-- Tables of nodes.
use Rattle.std.proofs.Common.{ℕ, zero, suc, ◌≡◌, ◌<◌, ◌≤◌, ◌+◌, List, [], ◌∷◌, ◌++◌, length, get_or, refl, sym, ap, subst, ◌∙◌, arith}
use Rattle.std.proofs.Common.{length-append, map, slice_index_or, inl, inr, ◌⊎◌}
use Rattle.std.proofs.lemmas.Bool.{cases_lt}
use Rattle.value_nodes.specs.declared.node.Node.{Node}
use Rattle.value_nodes.specs.declared.node.Node.TheVariants.{Constant, One, More}
use Rattle.spec_core.specs.Lists.{Each}
use Rattle.spec_core.specs.Terms.{TermTree, TermTrees, apply, no_terms, and_term, preorder, preorders}
use Rattle.spec_core.proofs.Lists.{own_default}
use Rattle.value_nodes.specs.Sizes.{symbols}
use Rattle.value_nodes.specs.Nodes.{arguments, tree_in, node_tree, trees_after, trees_of, tree_at, cost_of, cost_at}
use Rattle.value_nodes.specs.Nodes.{IsMade, AreMade, IsSeen, IsNode, IsLonger, AreSmall}

pub in_front : (ts us : List TermTree) (i : ℕ) → i < length ts → tree_in (ts ++ us) i ≡ tree_in ts i
in_front [] us i h = absurd (omega arith)
in_front (t ∷ ts) us zero h = refl
in_front (t ∷ ts) us (suc i) h = in_front ts us i (omega arith)

pub at_end : (ts : List TermTree) (t : TermTree) → tree_in (ts ++ t ∷ []) (length ts) ≡ t
at_end [] t = refl
at_end (u ∷ ts) t = at_end ts t

pub trees-length : (before : List TermTree) (rs : List Node) → length (trees_after before rs) ≡ length before + length rs
trees-length before [] = omega arith
trees-length before (r ∷ rs) =
    let e = trees-length (before ++ node_tree before r ∷ []) rs in
    let l = length-append before (node_tree before r ∷ []) in
    omega (arith, e, l)

-- earlier terms stay
pub stay : (before : List TermTree) (rs : List Node) (i : ℕ) → i < length before → tree_in (trees_after before rs) i ≡ tree_in before i
stay before [] i h = refl
stay before (r ∷ rs) i h =
    let l = length-append before (node_tree before r ∷ []) in
    stay (before ++ node_tree before r ∷ []) rs i (omega (arith, l)) ∙ in_front before (node_tree before r ∷ []) i h

pub trees-push : (before : List TermTree) (rs : List Node) (r : Node) →
    trees_after before (rs ++ r ∷ []) ≡ trees_after before rs ++ node_tree (trees_after before rs) r ∷ []
trees-push before [] r = refl
trees-push before (q ∷ rs) r = trees-push (before ++ node_tree before q ∷ []) rs r

pub made-push : (before : List TermTree) (rs : List Node) (r : Node) → AreMade before rs → IsMade (trees_after before rs) r →
    AreMade before (rs ++ r ∷ [])
made-push before [] r h m = (m, tt)
made-push before (q ∷ rs) r h m = (h.0, made-push (before ++ node_tree before q ∷ []) rs r h.1 m)

more_call : (op : ℕ) (a t : TermTree) (f : ℕ) (ts : TermTrees) → t ≡ apply f ts →
    symbols (apply op (and_term a (arguments t))) ≡ symbols a + symbols t
more_call op a t f ts e =
    let l = length-append (preorder a) (preorders ts) in
    let q : symbols (apply op (and_term a ts)) ≡ symbols a + symbols (apply f ts) = omega (arith, l) in
    ap (λ u. symbols (apply op (and_term a (arguments u)))) e ∙ q ∙ ap (λ u. symbols a + symbols u) (sym e)

module _ (before : List TermTree) (q : Node) (rs : List Node) where
  early : (j : ℕ) → j < length before → tree_in (trees_after before (q ∷ rs)) j ≡ tree_in before j
  early j h = stay before (q ∷ rs) j h

  itself_seen : tree_in (trees_after before (q ∷ rs)) (length before) ≡ node_tree before q
  itself_seen =
      let l = length-append before (node_tree before q ∷ []) in
      stay (before ++ node_tree before q ∷ []) rs (length before) (omega (arith, l)) ∙ at_end before (node_tree before q)

  longer : (j : ℕ) → j < length before → j < length (trees_after before (q ∷ rs))
  longer j h = let l = trees-length before (q ∷ rs) in omega (arith, l)

  first_seen : IsMade before q → IsSeen (trees_after before (q ∷ rs)) (length before) q
  first_seen h = by_kind q refl h itself_seen early longer
    where
      by_kind : (r : Node) → r ≡ q → IsMade before r → tree_in (trees_after before (q ∷ rs)) (length before) ≡ node_tree before q →
          ((j : ℕ) → j < length before → tree_in (trees_after before (q ∷ rs)) j ≡ tree_in before j) →
          ((j : ℕ) → j < length before → j < length (trees_after before (q ∷ rs))) →
          IsSeen (trees_after before (q ∷ rs)) (length before) r
      by_kind (Constant op cost) e m i s l = i ∙ ap (node_tree before) (sym e)
      by_kind (One op size arg cost) e m i s l =
          let k : tree_in (trees_after before (q ∷ rs)) (length before) ≡ node_tree before (One op size arg cost) =
          i ∙ ap (node_tree before) (sym e) in
          (l arg m.0, k ∙ ap (λ t. apply op.0 (and_term t no_terms)) (sym (s arg m.0)), m.1 ∙ ap symbols (sym k), m.2)
      by_kind (More op size arg rest cost) e m i s l =
          let k : tree_in (trees_after before (q ∷ rs)) (length before) ≡ node_tree before (More op size arg rest cost) =
          i ∙ ap (node_tree before) (sym e) in (
            l arg m.0,
            l rest m.1,
            k ∙ ap (λ t. apply op.0 (and_term t (arguments (tree_in before rest)))) (sym (s arg m.0)) ∙ ap
                (λ t. apply op.0 (and_term (tree_in (trees_after before (q ∷ rs)) arg) (arguments t))) (sym (s rest m.1)),
            m.2 ∙ ap symbols (sym k),
            m.3,
            λ q. m.4 (ap arguments (sym (s rest m.1)) ∙ q),
          )

seen : (before : List TermTree) (rs : List Node) (i : ℕ) (d : Node) → AreMade before rs → i < length rs →
    IsSeen (trees_after before rs) (length before + i) (get_or rs i d)
seen before [] i d m h = absurd (omega arith)
seen before (q ∷ rs) zero d m h =
    let e : length before ≡ length before + 0 = omega arith in
    subst (λ n. IsSeen (trees_after before (q ∷ rs)) n q) e (first_seen before q rs m.0)
seen before (q ∷ rs) (suc i) d m h =
    let l = length-append before (node_tree before q ∷ []) in
    let e : length (before ++ node_tree before q ∷ []) + i ≡ length before + suc i = omega (arith, l) in
    subst (λ n. IsSeen (trees_after before (q ∷ rs)) n (get_or rs i d)) e
    (seen (before ++ node_tree before q ∷ []) rs i d m.1 (omega arith))

-- what is read at a place
pub read : (rows : List Node) (i : ℕ) (r : Node) → AreMade [] rows → i < length rows → r ≡ get_or rows i r → IsSeen (trees_of rows) i r
read rows i r m h e =
    let z : 0 + i ≡ i = omega arith in
    subst (λ n. IsSeen (trees_of rows) n r) z (subst (IsSeen (trees_of rows) (0 + i)) (sym e) (seen [] rows i r m h))

-- a node with more arguments has as many symbols as its first argument and the node of the others
pub more_size : (ts : List TermTree) (op : ℕ) (a : TermTree) (rest : ℕ) (r : Node) → IsSeen ts rest r →
    symbols (apply op (and_term a (arguments (tree_in ts rest)))) ≡ symbols a + symbols (tree_in ts rest)
more_size ts op a rest (Constant f cost) s = more_call op a (tree_in ts rest) f.0 no_terms s
more_size ts op a rest (One f size arg cost) s = more_call op a (tree_in ts rest) f.0 (and_term (tree_in ts arg) no_terms) s.1
more_size ts op a rest (More f size arg others cost) s =
    more_call op a (tree_in ts rest) f.0 (and_term (tree_in ts arg) (arguments (tree_in ts others))) s.2

-- one more node
pub pushed : (rows : List Node) (r : Node) → AreMade [] rows → IsMade (trees_of rows) r → AreMade [] (rows ++ r ∷ [])
pushed rows r h m = made-push [] rows r h m

pub pushed_tree : (rows : List Node) (r : Node) → tree_at (rows ++ r ∷ []) (length rows) ≡ node_tree (trees_of rows) r
pushed_tree rows r =
    let l = trees-length [] rows in
    let e : length (trees_of rows) ≡ length rows = omega (arith, l) in
    ap (λ ts. tree_in ts (length rows)) (trees-push [] rows r) ∙ ap (λ n. tree_in (trees_of rows ++ node_tree (trees_of rows) r ∷ []) n)
    (sym e) ∙ at_end (trees_of rows) (node_tree (trees_of rows) r)

abbrev no_node : Node
no_node = Constant (record { 0 = 0 }) 0

row_in_front : (rows others : List Node) (i : ℕ) → i < length rows →
    slice_index_or (rows ++ others) i no_node ≡ slice_index_or rows i no_node
row_in_front [] others i h = absurd (omega arith)
row_in_front (r ∷ rows) others zero h = refl
row_in_front (r ∷ rows) others (suc i) h = row_in_front rows others i (omega arith)

row_at_end : (rows : List Node) (r : Node) → slice_index_or (rows ++ r ∷ []) (length rows) no_node ≡ r
row_at_end [] r = refl
row_at_end (q ∷ rows) r = row_at_end rows r

pub pushed_cost : (rows : List Node) (r : Node) → cost_at (rows ++ r ∷ []) (length rows) ≡ cost_of r
pushed_cost rows r = ap cost_of (row_at_end rows r)

-- what a node that is read keeps
pub read_cost : (rows : List Node) (i : ℕ) (r : Node) → i < length rows → r ≡ get_or rows i r → cost_of r ≡ cost_at rows i
read_cost [] i r h e = absurd (omega arith)
read_cost (q ∷ rows) zero r h e = ap cost_of e
read_cost (q ∷ rows) (suc i) r h e = read_cost rows i r (omega arith) e

pub pushed_longer : (rows : List Node) (r : Node) → IsLonger rows (rows ++ r ∷ [])
pushed_longer rows r = record {
  at_least = let l = length-append rows (r ∷ []) in omega (arith, l);
  same = λ i h. let l = trees-length [] rows in
      ap (λ ts. tree_in ts i) (trees-push [] rows r) ∙ in_front (trees_of rows) (node_tree (trees_of rows) r ∷ []) i (omega (arith, l));
  costs = λ i h. ap cost_of (row_in_front rows (r ∷ []) i h);
}

pub longer_itself : (rows : List Node) → IsLonger rows rows
longer_itself rows = record { at_least = omega arith; same = λ i h. refl; costs = λ i h. refl }

pub longer_on : (a b c : List Node) → IsLonger a b → IsLonger b c → IsLonger a c
longer_on a b c h k = record {
  at_least = omega (arith, h.at_least, k.at_least);
  same = λ i l. k.same i (omega (arith, h.at_least)) ∙ h.same i l;
  costs = λ i l. k.costs i (omega (arith, h.at_least)) ∙ h.costs i l;
}

-- the same terms stand at the nodes that there were
pub same_trees : (old new : List Node) → IsLonger old new → (is : List ℕ) → Each (IsNode old) is →
    map (tree_at new) is ≡ map (tree_at old) is
same_trees old new h [] e = refl
same_trees old new h (i ∷ is) e =
    let a = h.same i e.0 in
    let b = same_trees old new h is e.1 in
    cc

pub still_nodes : (old new : List Node) → IsLonger old new → (is : List ℕ) → Each (IsNode old) is → Each (IsNode new) is
still_nodes old new h [] e = tt
still_nodes old new h (i ∷ is) e = (omega (arith, h.at_least, e.0), still_nodes old new h is e.1)

pub each_first : (P : ℕ → Type 0) (xs : List ℕ) (d : ℕ) → 1 ≤ length xs → Each P xs → P (slice_index_or xs 0 d)
each_first P [] d h e = absurd (omega arith)
each_first P (x ∷ xs) d h e = e.0

pub one_more_node : (old new : List Node) (n : ℕ) → length new ≡ length old + 1 → length new ≡ n + 1 → (i : ℕ) → IsNode new i →
    IsNode old i ⊎ (i ≡ n)
one_more_node old new n count last i h = by_place (cases_lt i (length old))
  where
    by_place : (i < length old) ⊎ (length old ≤ i) → IsNode old i ⊎ (i ≡ n)
    by_place (inl l) = inl l
    by_place (inr l) = inr (omega (arith, h, l, count, last))

pub within : (rows : List Node) (i : ℕ) → i < length (trees_of rows) → IsNode rows i
within rows i h = let l = trees-length [] rows in omega (arith, l, h)

small_seen : (ts : List TermTree) (i : ℕ) (r : Node) → IsSeen ts i r → symbols (tree_in ts i) ≤ 65536
small_seen ts i (Constant op cost) s = let e : symbols (tree_in ts i) ≡ 1 = ap symbols s in omega (arith, e)
small_seen ts i (One op size arg cost) s = omega (arith, s.2, s.3)
small_seen ts i (More op size arg rest cost) s = omega (arith, s.3, s.4)

-- no node of a table stands for what is too large
pub all_small : (rows : List Node) → AreMade [] rows → AreSmall rows
all_small rows m i h big =
    let d : Node = Constant (record { 0 = 0 }) 0 in
    let s = small_seen (trees_of rows) i (get_or rows i d) (read rows i (get_or rows i d) m h (own_default rows i d h)) in
    omega (arith, s, big)
