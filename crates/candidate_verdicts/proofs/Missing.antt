-- What is missing where it isn't known what a tree of nodes shows.
use Rattle.std.proofs.Common.{ℕ, ◌≡◌, inl, inr, ⊎_elim, ◌∙◌, List, [], ◌∷◌, ◌++◌, refl, sym, ap, subst, Option, Some, None}
use Rattle.spec_core.specs.Lists.{IsOneOf}
use Rattle.spec_core.specs.Code.{Synchronised}
use Rattle.spec_core.specs.Theories.{Theory}
use Rattle.spec_core.proofs.Lists.{left_empty, right_empty}
use Rattle.spec_core.proofs.Members.{one_parts}
use Rattle.rule_model.specs.Derivations.{Derivation}
use Rattle.symbolic_rules.specs.Windows.{Windows}
use Rattle.decision_trees.specs.Known.{unless_known}
use Rattle.symbolic_actions.specs.Shows.{Show, PartRule, over_part, over_both}
use Rattle.node_trees.specs.Shapes.{Held, Shape, leaf, ended, over, between, Unary, Binary, under, first_of, second_of, Lives}
use Rattle.candidate_verdicts.specs.Parts.{RuledPart, part_under, Sides, neither, left_side, right_side, both_sides, sides_under}
use Rattle.candidate_verdicts.specs.Known.{KnownShow, Pieces, known_over, known_together, known_under, known_between, known_show, NodePart}
use Rattle.candidate_verdicts.specs.Known.{node_part, parts_under, parts_between, missing_parts}
use Rattle.candidate_verdicts.specs.Laws.{MissingPartsAreMissing}

lives_under : (o : Unary) (x : Shape) (g : ℕ) → Lives x g → Lives (over o x) g
lives_under o x g h =
    record { node = h.node; is = record { up = under o ∷ h.is.up; stands = (refl, h.is.stands); same = h.is.same } }

lives_left : (o : Binary) (x y : Shape) (g : ℕ) → Lives x g → Lives (between o x y) g
lives_left o x y g h =
    record { node = h.node; is = record { up = first_of o ∷ h.is.up; stands = (refl, h.is.stands); same = h.is.same } }

lives_right : (o : Binary) (x y : Shape) (g : ℕ) → Lives y g → Lives (between o x y) g
lives_right o x y g h =
    record { node = h.node; is = record { up = second_of o ∷ h.is.up; stands = (refl, h.is.stands); same = h.is.same } }

-- where no part is missing, something is known
abbrev HaveKnown : KnownShow → List NodePart → Type 0
HaveKnown None parts = parts ≡ [] → ⊥
HaveKnown (Some o) parts = Unit {0}

-- where something is shown, no part is missing
abbrev AreWhole : KnownShow → List NodePart → Type 0
AreWhole None parts = Unit {0}
AreWhole (Some None) parts = Unit {0}
AreWhole (Some (Some s)) parts = parts ≡ []

-- In this module: P holds of what is known and what is missing, whatever the tree of rules.
module _ (theory : Theory) (w : Windows) where
  have_over : (r : PartRule) (o : KnownShow) (parts : List NodePart) → HaveKnown o parts →
      HaveKnown (known_over theory w r o) parts
  have_over r None parts h = h
  have_over r (Some o) parts h = tt

  have_together : (gates : Synchronised) (o q : KnownShow) (parts others : List NodePart) → HaveKnown o parts → HaveKnown q others →
      HaveKnown (known_together theory w gates o q) (parts ++ others)
  have_together gates (Some None) q parts others g h = tt
  have_together gates None (Some None) parts others g h = tt
  have_together gates (Some (Some s)) (Some None) parts others g h = tt
  have_together gates (Some (Some s)) (Some (Some t)) parts others g h = tt
  have_together gates None None parts others g h = λ e. g (left_empty parts others e)
  have_together gates None (Some (Some t)) parts others g h = λ e. g (left_empty parts others e)
  have_together gates (Some (Some s)) None parts others g h = λ e. h (right_empty parts others e)

  have_under : (p : Option RuledPart) (part : Derivation → KnownShow) (parts : Derivation → List NodePart) →
      ((d : Derivation) → HaveKnown (part d) (parts d)) → HaveKnown (known_under theory w p part) (parts_under p parts)
  have_under None part parts h = tt
  have_under (Some p) part parts h = have_over p.rule (part p.rules) (parts p.rules) (h p.rules)

  have_between : (s : Sides) (left right : Derivation → KnownShow) (parts others : Derivation → List NodePart) →
      ((d : Derivation) → HaveKnown (left d) (parts d)) → ((d : Derivation) → HaveKnown (right d) (others d)) →
      HaveKnown (known_between theory w s left right) (parts_between s parts others)
  have_between neither left right parts others g h = tt
  have_between (left_side p) left right parts others g h = have_over p.rule (left p.rules) (parts p.rules) (g p.rules)
  have_between (right_side p) left right parts others g h = have_over p.rule (right p.rules) (others p.rules) (h p.rules)
  have_between (both_sides gates d e) left right parts others g h =
      have_together gates (left d) (right e) (parts d) (others e) (g d) (h e)

  whole_over : (r : PartRule) (o : KnownShow) (parts : List NodePart) → AreWhole o parts →
      AreWhole (known_over theory w r o) parts
  whole_over r None parts h = tt
  whole_over r (Some None) parts h = tt
  whole_over r (Some (Some s)) parts h = by_show (over_part theory w r s)
    where
      by_show : (o : Option Show) → AreWhole (Some o) parts
      by_show None = tt
      by_show (Some t) = h

  whole_together : (gates : Synchronised) (o q : KnownShow) (parts others : List NodePart) → AreWhole o parts → AreWhole q others →
      AreWhole (known_together theory w gates o q) (parts ++ others)
  whole_together gates (Some None) q parts others g h = tt
  whole_together gates None (Some None) parts others g h = tt
  whole_together gates (Some (Some s)) (Some None) parts others g h = tt
  whole_together gates (Some (Some s)) (Some (Some t)) parts others g h = by_show (over_both theory gates s t)
    where
      by_show : (o : Option Show) → AreWhole (Some o) (parts ++ others)
      by_show None = tt
      by_show (Some r) = ap (λ z. z ++ others) g ∙ h
  whole_together gates None None parts others g h = tt
  whole_together gates None (Some (Some t)) parts others g h = tt
  whole_together gates (Some (Some s)) None parts others g h = tt

  whole_under : (p : Option RuledPart) (part : Derivation → KnownShow) (parts : Derivation → List NodePart) →
      ((d : Derivation) → AreWhole (part d) (parts d)) → AreWhole (known_under theory w p part) (parts_under p parts)
  whole_under None part parts h = tt
  whole_under (Some p) part parts h = whole_over p.rule (part p.rules) (parts p.rules) (h p.rules)

  whole_between : (s : Sides) (left right : Derivation → KnownShow) (parts others : Derivation → List NodePart) →
      ((d : Derivation) → AreWhole (left d) (parts d)) → ((d : Derivation) → AreWhole (right d) (others d)) →
      AreWhole (known_between theory w s left right) (parts_between s parts others)
  whole_between neither left right parts others g h = tt
  whole_between (left_side p) left right parts others g h = whole_over p.rule (left p.rules) (parts p.rules) (g p.rules)
  whole_between (right_side p) left right parts others g h = whole_over p.rule (right p.rules) (others p.rules) (h p.rules)
  whole_between (both_sides gates d e) left right parts others g h =
      whole_together gates (left d) (right e) (parts d) (others e) (g d) (h e)

-- each part is one of which P holds
module _ (P : NodePart → Type 0) where
  each_under : (p : Option RuledPart) (parts : Derivation → List NodePart) →
      ((d : Derivation) (q : NodePart) → IsOneOf q (parts d) → P q) → (q : NodePart) → IsOneOf q (parts_under p parts) → P q
  each_under None parts h q i = absurd i
  each_under (Some p) parts h q i = h p.rules q i

  each_between : (s : Sides) (parts others : Derivation → List NodePart) → ((d : Derivation) (q : NodePart) → IsOneOf q (parts d) → P q) →
      ((d : Derivation) (q : NodePart) → IsOneOf q (others d) → P q) → (q : NodePart) → IsOneOf q (parts_between s parts others) → P q
  each_between neither parts others g h q i = absurd i
  each_between (left_side p) parts others g h q i = g p.rules q i
  each_between (right_side p) parts others g h q i = h p.rules q i
  each_between (both_sides gates d e) parts others g h q i =
      ⊎_elim (λ l. g d q l) (λ r. h e q r) (one_parts q (parts d) (others e) i)

module _ (pieces : Pieces) where
  at_node : (n : Held) (d : Derivation) (o : KnownShow) (q : NodePart) → IsOneOf q (unless_known o (node_part n.generation d) []) →
      (o ≡ None) × (q ≡ node_part n.generation d)
  at_node n d None q (inl e) = (refl, e)
  at_node n d None q (inr i) = absurd i
  at_node n d (Some o) q i = absurd i

  parts_live : (t : Shape) (d : Derivation) (q : NodePart) → IsOneOf q (missing_parts pieces t d) → Lives t q.generation
  parts_live (leaf n) d q i =
      let at : (pieces n.generation d ≡ None) × (q ≡ node_part n.generation d) = at_node n d (pieces n.generation d) q i in
      record { node = n; is = record { up = []; stands = refl; same = sym (ap (λ (z : NodePart). z.generation) at.1) } }
  parts_live ended d q i = absurd i
  parts_live (over o x) d q i =
      each_under (λ z. Lives (over o x) z.generation) (part_under o d) (λ f. missing_parts pieces x f)
      (λ f z j. lives_under o x z.generation (parts_live x f z j)) q i
  parts_live (between o x y) d q i =
      each_between (λ z. Lives (between o x y) z.generation) (sides_under o d) (λ f. missing_parts pieces x f)
      (λ f. missing_parts pieces y f) (λ f z j. lives_left o x y z.generation (parts_live x f z j))
      (λ f z j. lives_right o x y z.generation (parts_live y f z j)) q i

  parts_unknown : (t : Shape) (d : Derivation) (q : NodePart) → IsOneOf q (missing_parts pieces t d) → pieces q.generation q.rules ≡ None
  parts_unknown (leaf n) d q i =
      let at : (pieces n.generation d ≡ None) × (q ≡ node_part n.generation d) = at_node n d (pieces n.generation d) q i in
      ap (λ (z : NodePart). pieces z.generation z.rules) at.1 ∙ at.0
  parts_unknown ended d q i = absurd i
  parts_unknown (over o x) d q i =
      each_under (λ z. pieces z.generation z.rules ≡ None) (part_under o d) (λ f. missing_parts pieces x f)
      (λ f z j. parts_unknown x f z j) q i
  parts_unknown (between o x y) d q i =
      each_between (λ z. pieces z.generation z.rules ≡ None) (sides_under o d) (λ f. missing_parts pieces x f)
      (λ f. missing_parts pieces y f) (λ f z j. parts_unknown x f z j) (λ f z j. parts_unknown y f z j) q i

  module _ (theory : Theory) (w : Windows) where
    have_node : (n : Held) (d : Derivation) (o : KnownShow) → HaveKnown o (unless_known o (node_part n.generation d) [])
    have_node n d None = λ e. absurd cc
    have_node n d (Some o) = tt

    have_known : (t : Shape) (d : Derivation) → HaveKnown (known_show theory w pieces t d) (missing_parts pieces t d)
    have_known (leaf n) d = have_node n d (pieces n.generation d)
    have_known ended d = tt
    have_known (over o x) d =
        have_under theory w (part_under o d) (λ f. known_show theory w pieces x f) (λ f. missing_parts pieces x f) (λ f. have_known x f)
    have_known (between o x y) d =
        have_between theory w (sides_under o d) (λ f. known_show theory w pieces x f) (λ f. known_show theory w pieces y f)
        (λ f. missing_parts pieces x f) (λ f. missing_parts pieces y f) (λ f. have_known x f) (λ f. have_known y f)

    whole_node : (n : Held) (d : Derivation) (o : KnownShow) → AreWhole o (unless_known o (node_part n.generation d) [])
    whole_node n d None = tt
    whole_node n d (Some None) = tt
    whole_node n d (Some (Some s)) = refl

    are_whole : (t : Shape) (d : Derivation) → AreWhole (known_show theory w pieces t d) (missing_parts pieces t d)
    are_whole (leaf n) d = whole_node n d (pieces n.generation d)
    are_whole ended d = tt
    are_whole (over o x) d =
        whole_under theory w (part_under o d) (λ f. known_show theory w pieces x f) (λ f. missing_parts pieces x f) (λ f. are_whole x f)
    are_whole (between o x y) d =
        whole_between theory w (sides_under o d) (λ f. known_show theory w pieces x f) (λ f. known_show theory w pieces y f)
        (λ f. missing_parts pieces x f) (λ f. missing_parts pieces y f) (λ f. are_whole x f) (λ f. are_whole y f)

pub missing_parts_are_missing : MissingPartsAreMissing
missing_parts_are_missing theory w pieces t d = record {
  lives = parts_live pieces t d;
  unknown = parts_unknown pieces t d;
  some = λ e. subst (λ z. HaveKnown z (missing_parts pieces t d)) e (have_known pieces theory w t d);
  none = λ s e. subst (λ z. AreWhole z (missing_parts pieces t d)) e (are_whole pieces theory w t d);
}
