-- The nodes of a construct name nodes before them, and processes that are defined.
use Rattle.std.proofs.Common.{ℕ, zero, suc, ◌≡◌, ◌<◌, ◌+◌, List, [], ◌∷◌, ◌++◌, length, sym, subst, arith}
use Rattle.std.proofs.Common.{length-append, append_assoc}
use Rattle.std.specs.Prelude.{pred, Some}
use Rattle.std.specs.List.{slice_get}
use Rattle.spec_core.specs.Code.{Node, Program}
use Rattle.spec_core.specs.Functionality.{Functionality}
use Rattle.spec_core.specs.Lists.{Each}
use Rattle.spec_core.specs.Ready.{PartsFit, NamesBehaviour, CallsProcess, IsProcess, parts_of}
use Rattle.static_readings.specs.Joins.{Read, root, single, around, over}
use Rattle.static_laws.specs.Standing.{StandAt}
use Rattle.static_laws.proofs.Codes.{in-front, behind, last-at}

-- a node that is no process, whose parts fit at its number
abbrev pub IsBehaviourNode : Program → ℕ → Node → Type 0
IsBehaviourNode program number node = PartsFit program number node × (IsProcess node → ⊥)

-- nodes of behaviour, the first of which has this number
abbrev pub AreBehaviourNodes : Program → ℕ → List Node → Type 0
AreBehaviourNodes program from [] = Unit {0}
AreBehaviourNodes program from (n ∷ ns) = IsBehaviourNode program from n × AreBehaviourNodes program (suc from) ns

-- the nodes of a construct, wherever they stand in the program, are nodes of behaviour, and so is the last
pub record NodesFit (program : Program) (from : ℕ) (r : Read) : Type 0 where
  pub filled : 0 < length r.nodes
  pub nodes : StandAt program from r.nodes → AreBehaviourNodes program from r.nodes
  pub last : StandAt program from r.nodes → NamesBehaviour program (root from r)

below-root : (m n : ℕ) → 0 < n → pred (m + n) < m + n
below-root m zero h = absurd (omega arith)
below-root m (suc n) h =
    let e : m + suc n ≡ suc (m + n) = omega arith in
    subst (λ k. pred k < k) (sym e) (omega arith)

module _ (program : Program) where
  pub append-fit : (from : ℕ) (xs ys : List Node) → AreBehaviourNodes program from xs → AreBehaviourNodes program (from + length xs) ys →
      AreBehaviourNodes program from (xs ++ ys)
  append-fit from [] ys hx hy = subst (λ n. AreBehaviourNodes program n ys) (omega arith) hy
  append-fit from (x ∷ xs) ys hx hy =
      (hx.0, append-fit (suc from) xs ys hx.1 (subst (λ n. AreBehaviourNodes program n ys) (omega arith) hy))

  -- the node of a number
  pub node-fits : (from : ℕ) (ns : List Node) (k : ℕ) (node : Node) → AreBehaviourNodes program from ns → slice_get ns k ≡ Some node →
      IsBehaviourNode program (from + k) node
  node-fits from [] k node h e = absurd (cc)
  node-fits from (n ∷ ns) zero node h e =
      let same : n ≡ node = cc in
      subst (λ m. IsBehaviourNode program m node) (omega arith) (subst (IsBehaviourNode program from) same h.0)
  node-fits from (n ∷ ns) (suc k) node h e =
      subst (λ m. IsBehaviourNode program m node) (omega arith) (node-fits (suc from) ns k node h.1 e)

  -- a node over one part, and over two
  pub over-one : (node : Node) (part number : ℕ) → parts_of node ≡ part ∷ [] → CallsProcess program node → (IsProcess node → ⊥) →
      NamesBehaviour program part → part < number → IsBehaviourNode program number node
  over-one node part number e calls other names below = (
    record {
      names = subst (λ l. Each (NamesBehaviour program) l) (sym e) (names, tt);
      calls = calls;
      below = λ _. subst (λ l. Each (λ part. part < number) l) (sym e) (below, tt);
    },
    other,
  )

  pub over-two : (node : Node) (left right number : ℕ) → parts_of node ≡ left ∷ right ∷ [] → CallsProcess program node → (IsProcess node → ⊥) →
      NamesBehaviour program left → left < number → NamesBehaviour program right → right < number → IsBehaviourNode program number node
  over-two node left right number e calls other names-left below-left names-right below-right = (
    record {
      names = subst (λ l. Each (NamesBehaviour program) l) (sym e) (names-left, (names-right, tt));
      calls = calls;
      below = λ _. subst (λ l. Each (λ part. part < number) l) (sym e) (below-left, (below-right, tt));
    },
    other,
  )

  pub fits-single : (from : ℕ) (n : Node) (f : Functionality) → IsBehaviourNode program from n → NodesFit program from (single n f)
  fits-single from n f h = record {
    filled = omega arith;
    nodes = λ at. (h, tt);
    last = λ at. (n, last-at [] n at, h.1);
  }

  pub fits-around : (from : ℕ) (make : ℕ → Node) (r : Read) → ((part : ℕ) → parts_of (make part) ≡ part ∷ []) →
      ((part : ℕ) → CallsProcess program (make part)) → ((part : ℕ) → IsProcess (make part) → ⊥) →
      NodesFit program from r → NodesFit program from (around from make r)
  fits-around from make r parts calls other fit =
      let n : Node = make (root from r) in
      record {
        filled = omega (arith, length-append r.nodes (n ∷ []));
        nodes = λ at.
            let front : StandAt program from r.nodes = in-front r.nodes (n ∷ []) at in
            append-fit from r.nodes (n ∷ []) (fit.nodes front) (
              over-one n (root from r) (from + length r.nodes) (parts (root from r)) (calls (root from r)) (other (root from r)) (fit.last front)
                  (below-root from (length r.nodes) fit.filled),
              tt,
            );
        last = λ at. (n, last-at r.nodes n at, other (root from r));
      }

  pub fits-over : (from : ℕ) (make : ℕ → ℕ → Node) (x y : Read) (f : Functionality) →
      ((left right : ℕ) → parts_of (make left right) ≡ left ∷ right ∷ []) →
      ((left right : ℕ) → CallsProcess program (make left right)) → ((left right : ℕ) → IsProcess (make left right) → ⊥) →
      NodesFit program from x → NodesFit program (from + length x.nodes) y → NodesFit program from (over from make x y f)
  fits-over from make x y f parts calls other fx fy =
      let left : ℕ = root from x in
      let right : ℕ = root (from + length x.nodes) y in
      let n : Node = make left right in
      record {
        filled = omega (arith, length-append x.nodes (y.nodes ++ (n ∷ [])), fx.filled);
        nodes = λ at.
            let front : StandAt program from x.nodes = in-front x.nodes (y.nodes ++ (n ∷ [])) at in
            let more : StandAt program (from + length x.nodes) y.nodes =
            in-front y.nodes (n ∷ []) (behind x.nodes (y.nodes ++ (n ∷ [])) at) in
            append-fit from x.nodes (y.nodes ++ (n ∷ [])) (fx.nodes front)
            (append-fit (from + length x.nodes) y.nodes (n ∷ []) (fy.nodes more) (
              over-two n left right (from + length x.nodes + length y.nodes) (parts left right) (calls left right) (other left right)
                  (fx.last front) (omega (arith, below-root from (length x.nodes) fx.filled))
                  (fy.last more) (below-root (from + length x.nodes) (length y.nodes) fy.filled),
              tt,
            ));
        last = λ at. (
          n,
          subst (λ l. slice_get program.code (pred (from + length l)) ≡ Some n) (append_assoc x.nodes y.nodes (n ∷ []))
              (last-at (x.nodes ++ y.nodes) n (subst (StandAt program from) (sym (append_assoc x.nodes y.nodes (n ∷ []))) at)),
          other left right,
        );
      }
