-- What is added for two expressions.
use Rattle.std.proofs.Common.{Option, Some, None, ◌≡◌, List, [], ◌++◌, refl, ap, sym, subst, ◌∙◌, append_assoc}
use Rattle.std.proofs.lemmas.List.{append-nil}
use Rattle.lotos_ast.specs.declared.place.Place.{Place}
use Rattle.lotos_ast.specs.declared.refusal.Refusal.{Refusal}
use Rattle.spec_core.specs.declared.items.Sort.{Sort}
use Rattle.spec_core.specs.Theories.{premise}
use Rattle.sort_overloads.specs.Expressions.{Expression}
use Rattle.sort_overloads.specs.Judged.{Adds, IsJudged}
use Rattle.sort_overloads.specs.Judged as judged
use Rattle.sort_overloads.specs.Listed.{Typed}
use Rattle.sort_overloads.specs.Readings.{Context}
use Rattle.sort_overloads.specs.Refused.{unknowns}
use Rattle.static_equations.specs.Equalities.{Sides, IsEqualityJudged, read, right_unread, left_unread}

-- what is read has no refusals
nothing : {c : Context} {e : Expression} {w : Option Sort} {p : Place} {x : Typed} (rs : List Refusal) → IsJudged c e w p (Some x) rs → rs ≡ []
nothing rs (judged.read x u o) = refl

same-behind : {c : Context} {e : Expression} {w : Option Sort} {p : Place} {x : Typed} {before after : List Refusal} → Adds (IsJudged c e w p (Some x)) before after → after ≡ before
same-behind {before = before} h = h.behind ∙ ap (λ z. before ++ z) (nothing h.refusals h.such) ∙ append-nil before

alone : {c : Context} {e : Expression} {w : Option Sort} {p : Place} {x : Typed} {before after : List Refusal} → Adds (IsJudged c e w p (Some x)) before after → IsJudged c e w p (Some x) []
alone {c = c} {e = e} {w = w} {p = p} {x = x} h = subst (IsJudged c e w p (Some x)) (nothing h.refusals h.such) h.such

module _ (c : Context) (sides : Sides) (old new now : List Refusal) where
  pub left-unread : Adds (IsJudged c sides.left None sides.left_place None) old new → now ≡ new ++ unknowns c sides.right → Adds (IsEqualityJudged c sides None) old now
  left-unread h e = record {
    refusals = h.refusals ++ unknowns c sides.right;
    such = left_unread h.refusals h.such;
    behind = e ∙ ap (λ z. z ++ unknowns c sides.right) h.behind ∙ append_assoc old h.refusals (unknowns c sides.right);
  }

  pub right-unread : (x : Typed) (sort : Sort) → sort.0 ≡ x.sort → Adds (IsJudged c sides.left None sides.left_place (Some x)) old new →
      Adds (IsJudged c sides.right (Some sort) sides.right_place None) new now → Adds (IsEqualityJudged c sides None) old now
  right-unread x sort e h k = record {
    refusals = k.refusals;
    such = right_unread x sort k.refusals e (alone h) k.such;
    behind = k.behind ∙ ap (λ z. z ++ k.refusals) (same-behind h);
  }

  pub both-read : (x y : Typed) (sort : Sort) → sort.0 ≡ x.sort → Adds (IsJudged c sides.left None sides.left_place (Some x)) old new →
      Adds (IsJudged c sides.right (Some sort) sides.right_place (Some y)) new now → Adds (IsEqualityJudged c sides (Some (premise x.term y.term))) old now
  both-read x y sort e h k = record {
    refusals = [];
    such = read x y sort e (alone h) (alone k);
    behind = same-behind k ∙ same-behind h ∙ sym (append-nil old);
  }
