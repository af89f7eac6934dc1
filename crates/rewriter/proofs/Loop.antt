-- What the main loop keeps.
use Rattle.std.proofs.Common.{ℕ, ◌≡◌, ◌<◌, ◌≤◌, ◌+◌, ◌∙◌, inl, inr, List, [], ◌∷◌, map, refl, sym, subst, arith, Bool, true, false}
use Rattle.std.proofs.Common.{IsTrue, IsFalse}
use Rattle.spec_core.specs.Terms.{TermTree}
use Rattle.spec_core.specs.Theories.{Theory}
use Rattle.spec_core.specs.Budgets.{IsBeyond}
use Rattle.spec_core.specs.Evaluation.{Evaluates, its_value}
use Rattle.spec_core.specs.Lists.{Each}
use Rattle.spec_core.specs.Orthogonality.{HasNoLooseVariables}
use Rattle.spec_core.proofs.OneValue.{one_value}
use Rattle.value_nodes.specs.declared.node.Node.{Node}
use Rattle.rewriter.specs.declared.step.Step.{Step}
use Rattle.value_nodes.specs.Nodes.{tree_at, cost_at, IsNode}
use Rattle.value_nodes.specs.Own.{IsOwnValue}
use Rattle.value_nodes.specs.Sizes.{IsTooLarge}
use Rattle.rewriter.specs.Machine.{Outcome, gives, meets, Evaluating, Through, Comes, Keeps, Exceeds, AreCounted}
use Rattle.rewriter.specs.Steps.{task_of, IsStep}
use Rattle.rewriter.specs.Runs.{Coming, IsReady, MeetsLarge}
use Rattle.rewriter.specs.declared.step.Step.TheVariants.{Put}
use Rattle.rewriter.proofs.Counted.{own_comes}

pub one_of_map : (f : ℕ → TermTree) (xs : List ℕ) (v : TermTree) → map f xs ≡ v ∷ [] → (n : ℕ) × (xs ≡ n ∷ [])
one_of_map f [] v e = cc
one_of_map f (x ∷ []) v e = (x, refl)
one_of_map f (x ∷ y ∷ xs) v e = cc

head_one : {a b : TermTree} → a ∷ [] ≡ b ∷ [] → a ≡ b
head_one e = cc

module _ (theory : Theory) (t : TermTree) (rows : List Node) (todo : List Step) (there : List ℕ) (uses : ℕ)
    (kept : Keeps (Evaluating theory t) 0 (Coming theory rows todo there) uses) where
  pub before_step : (step : Step) (others : List Step) → todo ≡ step ∷ others →
      Keeps (Evaluating theory t) 0 (Coming theory rows (step ∷ others) there) uses
  before_step step others e = subst (λ steps. Keeps (Evaluating theory t) 0 (Coming theory rows steps there) uses) e kept

  pub ended_at : (n budget : ℕ) → todo ≡ [] → there ≡ n ∷ [] → uses ≤ budget →
      (k : ℕ) × Evaluates theory t (tree_at rows n) k × (k ≤ budget)
  ended_at n budget e q within =
      let k = subst (λ vs. Keeps (Evaluating theory t) 0 (Coming theory rows [] vs) uses) q
      (subst (λ steps. Keeps (Evaluating theory t) 0 (Coming theory rows steps there) uses) e kept) in
      let x = k.back (tree_at rows n) 0 (refl, refl) in
      (x.0, x.1, omega (arith, x.2, within))

  pub met_none : (n : ℕ) → todo ≡ [] → there ≡ n ∷ [] → MeetsLarge (Evaluating theory t) → ⊥
  met_none n e q m =
      let k = subst (λ steps. Keeps (Evaluating theory t) 0 (Coming theory rows steps there) uses) e kept in
      k.large m.0 m.2 m.1

  pub never_ended : (budget : ℕ) → todo ≡ [] → ((n : ℕ) → there ≡ n ∷ [] → ⊥) → IsBeyond theory t budget
  never_ended budget e no_one v n p =
      let k = subst (λ steps. Keeps (Evaluating theory t) 0 (Coming theory rows steps there) uses) e kept in
      let x = k.on v n p in
      let o = one_of_map (tree_at rows) there v x.1.0 in
      absurd (no_one o.0 o.1)

  pub spent_at : (step : Step) (others : List Step) (budget : ℕ) → todo ≡ step ∷ others →
      Exceeds (Coming theory rows (step ∷ others) there) uses budget → IsBeyond theory t budget
  spent_at step others budget e h v n p =
      let x = (before_step step others e).on v n p in
      let y = h v x.0 x.1 in
      omega (arith, x.2, y)

  pub large_at : (step : Step) (others : List Step) → todo ≡ step ∷ others → MeetsLarge (Coming theory rows (step ∷ others) there) →
      MeetsLarge (Evaluating theory t)
  large_at step others e h = (h.0, (before_step step others e).met h.0 h.1, h.2)

-- the node of a value that is to be put is of the table
pub step_node : {theory : Theory} {rows : List Node} {todo : List Step} {there : List ℕ} {uses : ℕ} (step : Step) (node : ℕ) →
    step ≡ Put node → IsReady theory rows (step ∷ todo) there uses → IsNode rows node
step_node {theory} {rows} step node e r = subst (IsStep theory rows) e r.steps.0

-- what comes of steps over values once there is one value more
abbrev After : Theory → List Node → List Step → List ℕ → TermTree → Outcome → Type 0
After theory rows todo there w o = Comes theory (map (task_of theory rows) todo) (w ∷ map (tree_at rows) there) o

-- a value is put on those that are there, after as many uses as it keeps
pub put_kept : (theory : Theory) (rows : List Node) (step : Step) (node : ℕ) (todo : List Step) (there now : List ℕ) (uses after : ℕ) →
    Each HasNoLooseVariables theory.equations → IsOwnValue theory (tree_at rows node) (cost_at rows node) →
    step ≡ Put node → now ≡ node ∷ there → after ≡ uses + cost_at rows node →
    Keeps (Coming theory rows (step ∷ todo) there) uses (Coming theory rows todo now) after
put_kept theory rows step node todo there now uses after tights own e q n =
    subst (λ k. Keeps (Coming theory rows (step ∷ todo) there) uses (Coming theory rows todo now) k) (sym n)
    (subst (λ vs. Keeps (Coming theory rows (step ∷ todo) there) uses (Coming theory rows todo vs) (uses + cost_at rows node)) (sym q)
    (subst (λ s. Keeps (Coming theory rows (s ∷ todo) there) uses (Coming theory rows todo (node ∷ there)) (uses + cost_at rows node))
    (sym e) put))
  where
    met : (u : TermTree) → IsTooLarge u → Through (Evaluating theory (tree_at rows node)) (After theory rows todo there) (meets u) →
        After theory rows todo there (tree_at rows node) (meets u)
    met u big (inl m) = absurd (own.small u m big)
    met u big (inr (w, k, p, inl i)) =
        let o = one_value theory tights own.evaluates p in
        absurd (own.small (tree_at rows node) (its_value own.evaluates) (subst IsTooLarge (i ∙ sym o.0) big))
    met u big (inr (w, k, p, inr l)) =
        let o = one_value theory tights own.evaluates p in
        subst (λ x. After theory rows todo there x (meets u)) (sym o.0) l

    on : (x : TermTree) (m : ℕ) (w : TermTree) (k i : ℕ) → Evaluates theory (tree_at rows node) w k →
        After theory rows todo there w (gives x i) → m ≡ k + i →
        (j : ℕ) × After theory rows todo there (tree_at rows node) (gives x j) × (uses + m ≡ uses + cost_at rows node + j)
    on x m w k i p l h =
        let o = one_value theory tights own.evaluates p in
        (i, subst (λ y. After theory rows todo there y (gives x i)) (sym o.0) l, omega (arith, o.1, h))

    put : Keeps (Coming theory rows (Put node ∷ todo) there) uses (Coming theory rows todo (node ∷ there)) (uses + cost_at rows node)
    put = record {
      back = λ x n l. (cost_at rows node + n, (tree_at rows node, cost_at rows node, n, own.evaluates, l, refl), omega arith);
      on = λ x m l. on x m l.0 l.1 l.2 l.3 l.4 l.5;
      met = λ u l. inr (tree_at rows node, cost_at rows node, own.evaluates, inr l);
      large = λ u big l. met u big l;
    }

-- where the uses that are left are fewer than it keeps, whatever comes of it takes too many
pub put_spent : (theory : Theory) (rows : List Node) (step : Step) (node : ℕ) (todo : List Step) (there : List ℕ) (uses budget : ℕ) →
    Each HasNoLooseVariables theory.equations → IsOwnValue theory (tree_at rows node) (cost_at rows node) →
    step ≡ Put node → budget < uses + cost_at rows node → Exceeds (Coming theory rows (step ∷ todo) there) uses budget
put_spent theory rows step node todo there uses budget tights own e few x n l =
    let k = put_kept theory rows step node todo there (node ∷ there) uses (uses + cost_at rows node) tights own e refl refl in
    let i = k.on x n l in
    omega (arith, few, i.2)

-- and all is counted
pub put_counted : (theory : Theory) (rows : List Node) (step : Step) (node : ℕ) (todo : List Step) (there now : List ℕ) (uses after : ℕ) →
    IsOwnValue theory (tree_at rows node) (cost_at rows node) → step ≡ Put node → now ≡ node ∷ there → after ≡ uses + cost_at rows node →
    AreCounted theory uses (map (task_of theory rows) (step ∷ todo)) (map (tree_at rows) there) →
    AreCounted theory after (map (task_of theory rows) todo) (map (tree_at rows) now)
put_counted theory rows step node todo there now uses after own e q n h =
    let c = subst (λ s. AreCounted theory uses (map (task_of theory rows) (s ∷ todo)) (map (tree_at rows) there)) e h in
    subst (λ k. AreCounted theory k (map (task_of theory rows) todo) (map (tree_at rows) now)) (sym n)
    (subst (λ vs. AreCounted theory (uses + cost_at rows node) (map (task_of theory rows) todo) (map (tree_at rows) vs)) (sym q)
    (c (tree_at rows node) (cost_at rows node) (own_comes theory (tree_at rows node) (cost_at rows node) own)))

-- what comes of steps and values that stand for the same in another table
pub moved_kept : (P : Outcome → Type 0) (theory : Theory) (rows new : List Node) (todo now : List Step) (there values : List ℕ) (a u : ℕ) →
    map (task_of theory new) now ≡ map (task_of theory rows) todo → map (tree_at new) values ≡ map (tree_at rows) there →
    Keeps P a (Coming theory rows todo there) u → Keeps P a (Coming theory new now values) u
moved_kept P theory rows new todo now there values a u e q k =
    let i = subst (λ tasks. Keeps P a (Comes theory tasks (map (tree_at rows) there)) u) (sym e)
    (record { back = k.back; on = k.on; met = k.met; large = k.large }) in
    let j = subst (λ vals. Keeps P a (Comes theory (map (task_of theory new) now) vals) u) (sym q) i in
    record { back = j.back; on = j.on; met = j.met; large = j.large }

pub not_both : (b : Bool) → IsTrue b → IsFalse b → ⊥
not_both true t f = cc
not_both false t f = cc
