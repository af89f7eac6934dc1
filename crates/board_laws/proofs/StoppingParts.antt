-- The parts of a tree of rules that are missing at nodes are those by which the origins of these nodes act.
use Rattle.std.proofs.Common.{◌≡◌, inl, inr, ⊎_elim, List, [], ◌∷◌, refl, sym, ap, subst, Some, None}
use Rattle.spec_core.specs.Code.{Program}
use Rattle.spec_core.specs.Lists.{IsOneOf}
use Rattle.spec_core.proofs.Members.{one_parts}
use Rattle.rule_model.specs.Behaviours.{Behaviour}
use Rattle.rule_model.specs.Derivations.{Derivation, chl, chr, parl, parr, both, hiding, pass, enstep, enend, disstep, disend, distake, rel}
use Rattle.decision_trees.specs.Known.{unless_known}
use Rattle.node_trees.specs.Origins.{meaning}
use Rattle.node_trees.specs.Shapes.{Above, Held, Shape, leaf, ended, over, between, Unary, hidden, relabelled, enabled, Binary, choosing}
use Rattle.node_trees.specs.Shapes.{beside, disabling, under, first_of, second_of, Stands, stands_for}
use Rattle.candidate_verdicts.specs.Parts.{part_under, sides_under}
use Rattle.candidate_verdicts.specs.Known.{KnownShow, Pieces, NodePart, node_part, parts_under, parts_between, missing_parts}
use Rattle.board_laws.specs.Participants as acting
use Rattle.board_laws.specs.Participants.{ActsIn, itself}

module _ (program : Program) where
  -- by the tree d of rules the origin of the part's node acts by the part
  pub record IsByNode (t : Shape) (d : Derivation) (q : NodePart) : Type 0 where
    pub up : List Above
    pub node : Held
    pub stands : Stands t up node
    pub same : node.generation ≡ q.generation
    pub acts : ActsIn (meaning program node.source) q.rules (stands_for program t) d

  abbrev Parts : Type 0
  Parts = Derivation → List NodePart

  -- each part of a tree of rules for the tree of nodes is one
  abbrev AreByNodes : Shape → Parts → Type 0
  AreByNodes t parts = (d : Derivation) (q : NodePart) → IsOneOf q (parts d) → IsByNode t d q

  below : (o : Unary) (x : Shape) (d f : Derivation) (q : NodePart) →
      ((c : Behaviour) → ActsIn c q.rules (stands_for program x) d → ActsIn c q.rules (stands_for program (over o x)) f) → IsByNode x d q →
      IsByNode (over o x) f q
  below o x d f q h a = record {
    up = under o ∷ a.up;
    node = a.node;
    stands = (refl, a.stands);
    same = a.same;
    acts = h (meaning program a.node.source) a.acts;
  }

  at_first : (o : Binary) (x y : Shape) (d f : Derivation) (q : NodePart) →
      ((c : Behaviour) → ActsIn c q.rules (stands_for program x) d → ActsIn c q.rules (stands_for program (between o x y)) f) →
      IsByNode x d q → IsByNode (between o x y) f q
  at_first o x y d f q h a = record {
    up = first_of o ∷ a.up;
    node = a.node;
    stands = (refl, a.stands);
    same = a.same;
    acts = h (meaning program a.node.source) a.acts;
  }

  at_second : (o : Binary) (x y : Shape) (d f : Derivation) (q : NodePart) →
      ((c : Behaviour) → ActsIn c q.rules (stands_for program y) d → ActsIn c q.rules (stands_for program (between o x y)) f) →
      IsByNode y d q → IsByNode (between o x y) f q
  at_second o x y d f q h a = record {
    up = second_of o ∷ a.up;
    node = a.node;
    stands = (refl, a.stands);
    same = a.same;
    acts = h (meaning program a.node.source) a.acts;
  }

  under_one : (o : Unary) (x : Shape) (parts : Parts) → AreByNodes x parts → (d : Derivation) (q : NodePart) →
      IsOneOf q (parts_under (part_under o d) parts) → IsByNode (over o x) d q
  under_one (hidden gates) x parts h (hiding d) q i =
      below (hidden gates) x d (hiding d) q (λ c a. acting.hidden_action gates (stands_for program x) d a) (h d q i)
  under_one (hidden gates) x parts h (pass d) q i =
      below (hidden gates) x d (pass d) q (λ c a. acting.seen_action gates (stands_for program x) d a) (h d q i)
  under_one (relabelled pairs) x parts h (rel d) q i =
      below (relabelled pairs) x d (rel d) q (λ c a. acting.renamed pairs (stands_for program x) d a) (h d q i)
  under_one (enabled xs right values) x parts h (enstep d) q i =
      below (enabled xs right values) x d (enstep d) q (λ c a. acting.before_end (stands_for program x) xs _ d a) (h d q i)
  under_one (enabled xs right values) x parts h (enend d) q i =
      below (enabled xs right values) x d (enend d) q (λ c a. acting.at_end (stands_for program x) xs _ d a) (h d q i)
  under_one _ x parts h d q i = absurd i

  module _ (x y : Shape) (parts others : Parts) (h : AreByNodes x parts) (k : AreByNodes y others) where
    abbrev left : Behaviour
    left = stands_for program x

    abbrev right : Behaviour
    right = stands_for program y

    under_two : (o : Binary) (d : Derivation) (q : NodePart) → IsOneOf q (parts_between (sides_under o d) parts others) →
        IsByNode (between o x y) d q
    under_two choosing (chl d) q i = at_first choosing x y d (chl d) q (λ c a. acting.first_chosen left right d a) (h d q i)
    under_two choosing (chr d) q i = at_second choosing x y d (chr d) q (λ c a. acting.second_chosen left right d a) (k d q i)
    under_two (beside gates) (parl d) q i =
        at_first (beside gates) x y d (parl d) q (λ c a. acting.first_alone gates left right d a) (h d q i)
    under_two (beside gates) (parr d) q i =
        at_second (beside gates) x y d (parr d) q (λ c a. acting.second_alone gates left right d a) (k d q i)
    under_two (beside gates) (both d e) q i =
        ⊎_elim (λ l. at_first (beside gates) x y d (both d e) q (λ c a. acting.first_of_both gates left right d e a) (h d q l))
        (λ r. at_second (beside gates) x y e (both d e) q (λ c a. acting.second_of_both gates left right d e a) (k e q r))
        (one_parts q (parts d) (others e) i)
    under_two disabling (disstep d) q i = at_first disabling x y d (disstep d) q (λ c a. acting.undisabled left right d a) (h d q i)
    under_two disabling (disend d) q i = at_first disabling x y d (disend d) q (λ c a. acting.undisabled_end left right d a) (h d q i)
    under_two disabling (distake d) q i = at_second disabling x y d (distake d) q (λ c a. acting.disabling left right d a) (k d q i)
    under_two _ d q i = absurd i

  module _ (pieces : Pieces) where
    at_node : (n : Held) (d : Derivation) (o : KnownShow) (q : NodePart) → IsOneOf q (unless_known o (node_part n.generation d) []) →
        q ≡ node_part n.generation d
    at_node n d None q (inl e) = e
    at_node n d None q (inr i) = absurd i
    at_node n d (Some o) q i = absurd i

    pub missing_are_by_nodes : (t : Shape) (d : Derivation) (q : NodePart) → IsOneOf q (missing_parts pieces t d) → IsByNode t d q
    missing_are_by_nodes (leaf n) d q i =
        let e : q ≡ node_part n.generation d = at_node n d (pieces n.generation d) q i in record {
          up = [];
          node = n;
          stands = refl;
          same = sym (ap (λ (z : NodePart). z.generation) e);
          acts =
              subst (λ (z : NodePart). ActsIn (meaning program n.source) z.rules (stands_for program (leaf n)) d) (sym e) itself;
        }
    missing_are_by_nodes ended d q i = absurd i
    missing_are_by_nodes (over o x) d q i =
        under_one o x (λ e. missing_parts pieces x e) (λ e p j. missing_are_by_nodes x e p j) d q i
    missing_are_by_nodes (between o x y) d q i =
        under_two x y (λ e. missing_parts pieces x e) (λ e. missing_parts pieces y e) (λ e p j. missing_are_by_nodes x e p j)
        (λ e p j. missing_are_by_nodes y e p j) o d q i
