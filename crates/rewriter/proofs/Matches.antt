-- What a match of a pattern is made of.
use Rattle.std.proofs.Common.{ℕ, zero, suc, ◌≡◌, ◌<◌, List, [], ◌∷◌, length, set, refl, sym, ap, subst, ◌∙◌, arith, inl, inr, ◌≤◌, ◌-◌}
use Rattle.std.proofs.Common.{take, drop, map, Bool, IsFalse, slice_index_or}
use Rattle.spec_core.specs.Terms.{TermTree, TermTrees, variable, apply, no_terms, and_term, instance, instances, Occurs, OccursInAny}
use Rattle.spec_core.specs.Terms.{terms}
use Rattle.std.specs.Bool.{◌==◌}
use Rattle.std.proofs.lemmas.List.{take_all}
use Rattle.spec_core.specs.Orthogonality.{AreLinear}
use Rattle.spec_core.proofs.OneValue.{same_instance}
use Rattle.value_nodes.specs.declared.node.Node.{Node}
use Rattle.value_nodes.specs.Nodes.{arguments, tree_at, IsNode, IsOver}
use Rattle.rewriter.specs.Steps.{bound_at, put_by, IsMatch, AreMatch}

pub set_here : (xs : List ℕ) (i v : ℕ) → i < length xs → bound_at (set xs i v) i ≡ v
set_here [] i v h = absurd (omega arith)
set_here (x ∷ xs) zero v h = refl
set_here (x ∷ xs) (suc i) v h = set_here xs i v (omega arith)

pub set_elsewhere : (xs : List ℕ) (i v j : ℕ) → (j ≡ i → ⊥) → bound_at (set xs i v) j ≡ bound_at xs j
set_elsewhere [] i v j h = refl
set_elsewhere (x ∷ xs) zero v zero h = absurd (h refl)
set_elsewhere (x ∷ xs) zero v (suc j) h = refl
set_elsewhere (x ∷ xs) (suc i) v zero h = refl
set_elsewhere (x ∷ xs) (suc i) v (suc j) h = set_elsewhere xs i v j (λ e. h (ap suc e))

pub variable_match : (rows : List Node) (bound : List ℕ) (x node : ℕ) (t : TermTree) → t ≡ variable x → x < length bound →
    IsNode rows node → IsMatch rows (set bound x node) t (tree_at rows node)
variable_match rows bound x node t e h there = subst (λ u. IsMatch rows (set bound x node) u (tree_at rows node)) (sym e) (record {
  fits = ap (tree_at rows) (set_here bound x node h);
  nodes = λ y o. subst (IsNode rows) (sym (ap (bound_at (set bound x node)) o ∙ set_here bound x node h)) there;
})

pub call_match : (rows : List Node) (bound : List ℕ) (f op : ℕ) (parts : TermTrees) (t v : TermTree) → t ≡ apply op parts → IsOver f v →
    f ≡ op → AreMatch rows bound parts (arguments v) → IsMatch rows bound t v
call_match rows bound f op parts t (variable y) e over same m = absurd over
call_match rows bound f op parts t (apply g ts) e over same m =
    let o : op ≡ g = sym same ∙ over in
    subst (λ u. IsMatch rows bound u (apply g ts)) (sym e)
    (record { fits = ap (λ us. apply op us) m.fits ∙ ap (λ k. apply k ts) o; nodes = m.nodes })

pub other_parts : (f op : ℕ) (parts : TermTrees) (t v : TermTree) → t ≡ apply op parts → IsOver f v →
    ((s : ℕ → TermTree) → instances s parts ≡ arguments v → ⊥) → (s : ℕ → TermTree) → instance s t ≡ v → ⊥
other_parts f op parts t (variable y) e over never s q = over
other_parts f op parts t (apply g ts) e over never s q =
    let k : apply op (instances s parts) ≡ apply g ts = ap (instance s) (sym e) ∙ q in
    never s (cc)

pub other_operation : (f op : ℕ) (parts : TermTrees) (t v : TermTree) → t ≡ apply op parts → IsOver f v → (f ≡ op → ⊥) →
    (s : ℕ → TermTree) → instance s t ≡ v → ⊥
other_operation f op parts t (variable y) e over differ s q = over
other_operation f op parts t (apply g ts) e over differ s q =
    let k : apply op (instances s parts) ≡ apply g ts = ap (instance s) (sym e) ∙ q in
    differ (over ∙ sym (cc))

-- the first pattern's match isn't disturbed by those of the others, since no variable stands twice
pub joined_match : (rows : List Node) (before after : List ℕ) (p a : TermTree) (ps ts : TermTrees) → AreLinear (and_term p ps) →
    IsMatch rows before p a → ((x : ℕ) → (OccursInAny x ps → ⊥) → bound_at after x ≡ bound_at before x) → AreMatch rows after ps ts →
    AreMatch rows after (and_term p ps) (and_term a ts)
joined_match rows before after p a ps ts linear m same rest =
    let apart = λ (x : ℕ) (o : Occurs x p). same x (linear.1 x o) in
    let i : instance (put_by rows after) p ≡ a =
    same_instance (put_by rows after) (put_by rows before) p (λ x o. ap (tree_at rows) (apart x o)) ∙ m.fits in
    record {
      fits = ap (λ u. and_term u (instances (put_by rows after) ps)) i ∙ ap (and_term a) rest.fits;
      nodes = λ x o. by_place x o apart;
    }
  where
    by_place : (x : ℕ) → OccursInAny x (and_term p ps) → ((x : ℕ) → Occurs x p → bound_at after x ≡ bound_at before x) →
        IsNode rows (bound_at after x)
    by_place x (inl o) apart = subst (IsNode rows) (sym (apart x o)) (m.nodes x o)
    by_place x (inr o) apart = rest.nodes x o

pub first_and_rest : (rows : List Node) (xs : List ℕ) (d : ℕ) → 1 ≤ length xs →
    terms (map (tree_at rows) xs) ≡ and_term (tree_at rows (slice_index_or xs 0 d))
    (terms (map (tree_at rows) (take (length xs - 1) (drop 1 xs))))
first_and_rest rows [] d h = absurd (omega arith)
first_and_rest rows (x ∷ xs) d h =
    let n : length xs ≤ length (x ∷ xs) - 1 = omega arith in
    ap (λ ys. and_term (tree_at rows x) (terms (map (tree_at rows) ys))) (sym (take_all (length (x ∷ xs) - 1) xs n))

pub some_left : (rows : List Node) (vs : List ℕ) (b : Bool) → b ≡ (length vs == 0) → IsFalse b →
    no_terms ≡ terms (map (tree_at rows) vs) → ⊥
some_left rows [] b e h q = cc
some_left rows (v ∷ vs) b e h q = cc
