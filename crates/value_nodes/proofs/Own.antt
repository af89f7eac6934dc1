-- A call that stays is its own value.
use Rattle.std.proofs.Common.{ℕ, ◌≡◌, ◌<◌, ◌≤◌, ◌+◌, ◌-◌, List, [], ◌∷◌, length, map, take, drop, slice_index_or, refl, sym, ap, subst, ◌∙◌}
use Rattle.std.proofs.Common.{arith, inl, inr, ◌⊎◌, Result, Ok, Err}
use Rattle.std.specs.Result.{IfOk, OnOk}
use Rattle.std.proofs.lemmas.List.{take_all}
use Rattle.spec_core.specs.Lists.{Each}
use Rattle.spec_core.specs.Orthogonality.{HasNoLooseVariables}
use Rattle.spec_core.specs.Terms.{TermTree, TermTrees, apply, no_terms, and_term, terms, width}
use Rattle.spec_core.specs.Theories.{Theory}
use Rattle.spec_core.specs.Evaluation.{Evaluates, EvaluatesAll, called, none, more, EvaluationMeets, ArgumentsMeet, TriesMeet}
use Rattle.spec_core.specs.Evaluation.{its_value, in_arguments, in_call, first, later}
use Rattle.spec_core.proofs.OneValue.{one_value, one_values}
use Rattle.value_nodes.specs.declared.node.Node.{Node}
use Rattle.value_nodes.specs.Nodes.{arguments, tree_at, cost_at, all_costs, IsNode, IsLonger, AreSmall}
use Rattle.value_nodes.specs.Own.{IsOwnValue, StaysOver, StaysShort, AreOwnValues}
use Rattle.value_nodes.specs.Sizes.{IsTooLarge}

pub width_terms : (ts : List TermTree) → width (terms ts) ≡ length ts
width_terms [] = refl
width_terms (t ∷ ts) = let r = width_terms ts in omega (arith, r)

pub width_nodes : (rows : List Node) (is : List ℕ) → width (terms (map (tree_at rows) is)) ≡ length is
width_nodes rows [] = refl
width_nodes rows (i ∷ is) = let r = width_nodes rows is in omega (arith, r)

-- all but the first
abbrev pub others_of : List ℕ → List ℕ
others_of vs = take (length vs - 1) (drop 1 vs)

the_others : (v : ℕ) (vs : List ℕ) → others_of (v ∷ vs) ≡ vs
the_others v vs = take_all (length (v ∷ vs) - 1) vs (omega arith)

-- what nodes keep together, by parts
pub cost_none : (rows : List Node) (vs : List ℕ) (c m : ℕ) → length vs < 1 → c ≡ m → c ≡ m + all_costs rows vs
cost_none rows [] c m few e = omega (arith, e)
cost_none rows (v ∷ vs) c m few e = absurd (omega (arith, few))

pub cost_one : (rows : List Node) (vs : List ℕ) (d c m : ℕ) → 1 ≤ length vs → length vs < 2 →
    c ≡ m + cost_at rows (slice_index_or vs 0 d) → c ≡ m + all_costs rows vs
cost_one rows [] d c m some few e = absurd (omega (arith, some))
cost_one rows (v ∷ []) d c m some few e = omega (arith, e)
cost_one rows (v ∷ u ∷ vs) d c m some few e = absurd (omega (arith, few))

pub cost_more : (old mid : List Node) (rest : ℕ) (vs : List ℕ) (d c m : ℕ) → 1 ≤ length vs → Each (IsNode old) vs →
    IsLonger old mid → cost_at mid rest ≡ 0 + all_costs old (others_of vs) →
    c ≡ m + (cost_at mid (slice_index_or vs 0 d) + cost_at mid rest) → c ≡ m + all_costs old vs
cost_more old mid rest [] d c m some there grown kept e = absurd (omega (arith, some))
cost_more old mid rest (v ∷ vs) d c m some there grown kept e =
    let a = grown.costs v there.0 in
    let b = ap (all_costs old) (the_others v vs) in
    omega (arith, e, kept, a, b)

module _ (theory : Theory) (closed : Each HasNoLooseVariables theory.equations) where
  -- what an operation over its own values keeps
  pub own_call : (f : ℕ) (vs : TermTrees) (n m : ℕ) → EvaluatesAll theory vs vs n →
      ((w : TermTree) → ArgumentsMeet theory vs w → IsTooLarge w → ⊥) → StaysOver theory f vs m →
      (IsTooLarge (apply f vs) → ⊥) → IsOwnValue theory (apply f vs) (m + n)
  own_call f vs n m all small stays fits = record {
    evaluates = own;
    small = λ w h. met h refl;
  }
    where
      own : Evaluates theory (apply f vs) (apply f vs) (m + n)
      own = called vs n m all stays.tries (omega arith)

      met : {t w : TermTree} → EvaluationMeets theory t w → t ≡ apply f vs → IsTooLarge w → ⊥
      met {t} {w} (its_value {n = k} e) q large =
          let is : apply f vs ≡ w = (one_value theory closed own (subst (λ u. Evaluates theory u w k) q e)).0 in
          fits (subst IsTooLarge (sym is) large)
      met {w = w} (in_arguments {f = g} {ts = ts} h) q large =
          let is : ts ≡ vs = cc in
          small w (subst (λ us. ArgumentsMeet theory us w) is h) large
      met {w = w} (in_call {f = g} {ts = ts} {vs = us} {n = k} a h) q large =
          let head : g ≡ f = cc in
          let is : ts ≡ vs = cc in
          let same : vs ≡ us = (one_values theory closed all (subst (λ x. EvaluatesAll theory x us k) is a)).0 in
          stays.small w (subst (λ x. TriesMeet theory theory.equations x vs w) head
          (subst (λ x. TriesMeet theory theory.equations g x w) (sym same) h)) large

  module _ (rows : List Node) (own : AreOwnValues theory rows) where
    -- nodes' terms evaluate to themselves, at what they keep together
    pub own_all : (is : List ℕ) → Each (IsNode rows) is →
        EvaluatesAll theory (terms (map (tree_at rows) is)) (terms (map (tree_at rows) is)) (all_costs rows is)
    own_all [] h = none refl
    own_all (i ∷ is) h =
        more (cost_at rows i) (all_costs rows is) (own i h.0).evaluates (own_all is h.1) refl

    pub all_small : (is : List ℕ) → Each (IsNode rows) is → (w : TermTree) →
        ArgumentsMeet theory (terms (map (tree_at rows) is)) w → IsTooLarge w → ⊥
    all_small [] h w m large = no_argument m refl
      where
        no_argument : {ts : TermTrees} → ArgumentsMeet theory ts w → ts ≡ no_terms → ⊥
        no_argument (first e) q = let n : ⊥ = cc in n
        no_argument (later e l) q = let n : ⊥ = cc in n
    all_small (i ∷ is) h w m large = by_place m refl (all_small is h.1 w)
      where
        by_place : {ts : TermTrees} → ArgumentsMeet theory ts w →
            ts ≡ and_term (tree_at rows i) (terms (map (tree_at rows) is)) →
            (ArgumentsMeet theory (terms (map (tree_at rows) is)) w → IsTooLarge w → ⊥) → ⊥
        by_place (first {t = t} e) q others =
            let is : t ≡ tree_at rows i = cc in
            (own i h.0).small w (subst (λ u. EvaluationMeets theory u w) is e) large
        by_place (later {ts = us} e l) q others =
            let rest : us ≡ terms (map (tree_at rows) is) = cc in
            others (subst (λ u. ArgumentsMeet theory u w) rest l) large

  -- one more node, of a call over nodes that stays
  pub own_node : (old mid new : List Node) (f n m : ℕ) (is : List ℕ) → Each (IsNode old) is → AreOwnValues theory old →
      AreOwnValues theory mid → IsLonger mid new → ((i : ℕ) → IsNode new i → IsNode mid i ⊎ (i ≡ n)) → AreSmall new → IsNode new n →
      tree_at new n ≡ apply f (terms (map (tree_at old) is)) → cost_at new n ≡ m + all_costs old is →
      StaysOver theory f (terms (map (tree_at old) is)) m → AreOwnValues theory new
  own_node old mid new f n m is there own before longer others small at tree cost stays i h = by_place (others i h)
    where
      fits : IsTooLarge (apply f (terms (map (tree_at old) is))) → ⊥
      fits large = small n at (subst IsTooLarge (sym tree) large)

      by_place : IsNode mid i ⊎ (i ≡ n) → IsOwnValue theory (tree_at new i) (cost_at new i)
      by_place (inl l) =
          subst (λ t. IsOwnValue theory t (cost_at new i)) (sym (longer.same i l))
          (subst (IsOwnValue theory (tree_at mid i)) (sym (longer.costs i l)) (before i l))
      by_place (inr e) =
          let k = own_call f (terms (map (tree_at old) is)) (all_costs old is) m (own_all old own is there) (all_small old own is there)
          stays fits in
          subst (λ j. IsOwnValue theory (tree_at new j) (cost_at new j)) (sym e)
          (subst (λ t. IsOwnValue theory t (cost_at new n)) (sym tree)
          (subst (IsOwnValue theory (apply f (terms (map (tree_at old) is)))) (sym cost) k))

  -- the same of an operation over no node
  pub own_none : (old new : List Node) (f n m : ℕ) (vs : List ℕ) → length vs < 1 → AreOwnValues theory old → IsLonger old new →
      ((i : ℕ) → IsNode new i → IsNode old i ⊎ (i ≡ n)) → AreSmall new → IsNode new n → tree_at new n ≡ apply f no_terms →
      cost_at new n ≡ m → StaysOver theory f (terms (map (tree_at old) vs)) m → AreOwnValues theory new
  own_none old new f n m [] few own longer others small at tree cost stays =
      own_node old old new f n m [] tt own own longer others small at tree (cost_none old [] (cost_at new n) m few cost) stays
  own_none old new f n m (v ∷ vs) few own longer others small at tree cost stays = absurd (omega (arith, few))

  -- over one
  pub own_one : (old new : List Node) (f n m d : ℕ) (vs : List ℕ) → 1 ≤ length vs → length vs < 2 → Each (IsNode old) vs →
      AreOwnValues theory old → IsLonger old new → ((i : ℕ) → IsNode new i → IsNode old i ⊎ (i ≡ n)) → AreSmall new → IsNode new n →
      tree_at new n ≡ apply f (and_term (tree_at old (slice_index_or vs 0 d)) no_terms) →
      cost_at new n ≡ m + cost_at old (slice_index_or vs 0 d) → StaysOver theory f (terms (map (tree_at old) vs)) m →
      AreOwnValues theory new
  own_one old new f n m d [] some few there own longer others small at tree cost stays = absurd (omega (arith, some))
  own_one old new f n m d (v ∷ []) some few there own longer others small at tree cost stays =
      own_node old old new f n m (v ∷ []) there own own longer others small at tree (cost_one old (v ∷ []) d (cost_at new n) m some few cost) stays
  own_one old new f n m d (v ∷ u ∷ vs) some few there own longer others small at tree cost stays = absurd (omega (arith, few))

  -- over one and the arguments of another, which is over the others
  pub own_more : (old mid new : List Node) (f rest n m d : ℕ) (vs : List ℕ) → 1 ≤ length vs → Each (IsNode old) vs → IsLonger old mid →
      tree_at mid rest ≡ apply f (terms (map (tree_at old) (others_of vs))) → cost_at mid rest ≡ 0 + all_costs old (others_of vs) →
      AreOwnValues theory old → AreOwnValues theory mid → IsLonger mid new → ((i : ℕ) → IsNode new i → IsNode mid i ⊎ (i ≡ n)) →
      AreSmall new → IsNode new n →
      tree_at new n ≡ apply f (and_term (tree_at mid (slice_index_or vs 0 d)) (arguments (tree_at mid rest))) →
      cost_at new n ≡ m + (cost_at mid (slice_index_or vs 0 d) + cost_at mid rest) →
      StaysOver theory f (terms (map (tree_at old) vs)) m → AreOwnValues theory new
  own_more old mid new f rest n m d [] some there grown whole kept own before longer others small at tree cost stays =
      absurd (omega (arith, some))
  own_more old mid new f rest n m d (v ∷ vs) some there grown whole kept own before longer others small at tree cost stays =
      let e = tree ∙ ap (λ x. apply f (and_term x (arguments (tree_at mid rest)))) (grown.same v there.0)
      ∙ ap (λ r. apply f (and_term (tree_at old v) (arguments r))) whole
      ∙ ap (λ us. apply f (and_term (tree_at old v) (terms (map (tree_at old) us)))) (the_others v vs) in
      own_node old mid new f n m (v ∷ vs) there own before longer others small at e
      (cost_more old mid rest (v ∷ vs) d (cost_at new n) m some there grown kept cost) stays

-- a call over the others is shorter
pub shorter : (theory : Theory) (f : ℕ) (rows : List Node) (vs : List ℕ) → 1 ≤ length vs → StaysShort theory f (length vs) →
    StaysOver theory f (terms (map (tree_at rows) (others_of vs))) 0 × StaysShort theory f (length (others_of vs))
shorter theory f rows [] some h = absurd (omega (arith, some))
shorter theory f rows (v ∷ vs) some h =
    let n = ap length (the_others v vs) in
    let w = width_nodes rows (others_of (v ∷ vs)) in
    (h (terms (map (tree_at rows) (others_of (v ∷ vs)))) (omega (arith, n, w)), λ us l. h us (omega (arith, n, l)))

-- of a node that was made
pub if_made : {E : Type 0} {P Q R S T U : ℕ → Type 0} {V : Type 0} (r : Result ℕ E) →
    ((n : ℕ) → P n → Q n → R n → S n → T n → V → U n) → IfOk r P → IfOk r Q → IfOk r R → IfOk r S → IfOk r T → OnOk r V → IfOk r U
if_made (Ok n) f p q r s t v = f n p q r s t v
if_made (Err e) f p q r s t v = tt
