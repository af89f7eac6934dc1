-- Searches in one list with gaps behind another.
use Rattle.std.proofs.Common.{◌≡◌, ◌++◌, List, [], ◌∷◌, filter, refl, sym, ap, ◌∙◌, Option, Some, None, option_map, is_some, Bool, true, false, if◌then◌else◌}
use Rattle.std.proofs.lemmas.List.Elements.{filter-append}
use Rattle.decision_trees.specs.Decisions.{Question, expand, judge}
use Rattle.decision_trees.specs.Known.{where_known, known_or, unless_known}
use Rattle.decision_trees.specs.Lazy.{first}
use Rattle.decision_trees.specs.Gaps.{OrGap, element, gap, elements, first_known, all_known, missing_to_first, all_missing, known_to_hold}
use Rattle.decision_trees.specs.Rules.{if_there, when}
use Rattle.decision_trees.specs.Laws.{SearchesInParts}

elements_append : {A : Type 0} (l m : List (OrGap A)) → elements (l ++ m) ≡ elements l ++ elements m
elements_append [] m = refl
elements_append (element a ∷ l) m = ap (λ xs. a ∷ xs) (elements_append l m)
elements_append (gap g ∷ l) m = elements_append l m

option_same : {X : Type 0} (o : Option X) → option_map (λ x. x) o ≡ o
option_same None = refl
option_same (Some x) = refl

module _ {A : Type 0} (verdict : A → Option Bool) where
  first_case : (a : A) (o : Option Bool) (r s rest : Option (Option A)) →
      r ≡ where_known s (λ x. if_there x (λ b. Some (Some b)) rest) →
      where_known o (λ holds. if holds then Some (Some a) else r) ≡
      where_known (where_known o (λ holds. if holds then Some (Some a) else s)) (λ x. if_there x (λ b. Some (Some b)) rest)
  first_case a None r s rest e = refl
  first_case a (Some true) r s rest e = refl
  first_case a (Some false) r s rest e = e

  firsts : (l m : List (OrGap A)) → first_known verdict (l ++ m) ≡
      where_known (first_known verdict l) (λ r. if_there r (λ a. Some (Some a)) (first_known verdict m))
  firsts [] m = refl
  firsts (gap g ∷ l) m = refl
  firsts (element a ∷ l) m =
      first_case a (verdict a) (first_known verdict (l ++ m)) (first_known verdict l) (first_known verdict m) (firsts l m)

  put_before : (a : A) (o rest : Option (List A)) →
      option_map (λ xs. a ∷ xs) (where_known o (λ xs. option_map (λ ys. xs ++ ys) rest)) ≡
      where_known (option_map (λ xs. a ∷ xs) o) (λ xs. option_map (λ ys. xs ++ ys) rest)
  put_before a None rest = refl
  put_before a (Some xs) None = refl
  put_before a (Some xs) (Some ys) = refl

  all_case : (a : A) (o : Option Bool) (r s rest : Option (List A)) →
      r ≡ where_known s (λ xs. option_map (λ ys. xs ++ ys) rest) →
      where_known o (λ holds. if holds then option_map (λ xs. a ∷ xs) r else r) ≡
      where_known (where_known o (λ holds. if holds then option_map (λ xs. a ∷ xs) s else s)) (λ xs. option_map (λ ys. xs ++ ys) rest)
  all_case a None r s rest e = refl
  all_case a (Some true) r s rest e = ap (option_map (λ xs. a ∷ xs)) e ∙ put_before a s rest
  all_case a (Some false) r s rest e = e

  alls : (l m : List (OrGap A)) → all_known verdict (l ++ m) ≡
      where_known (all_known verdict l) (λ xs. option_map (λ ys. xs ++ ys) (all_known verdict m))
  alls [] m = sym (option_same (all_known verdict m))
  alls (gap g ∷ l) m = refl
  alls (element a ∷ l) m =
      all_case a (verdict a) (all_known verdict (l ++ m)) (all_known verdict l) (all_known verdict m) (alls l m)

  missing_case : (a : A) (o : Option Bool) (held : List A) (r s rest : List (Question A)) →
      r ≡ s ++ when (is_some (first held)) [] rest →
      unless_known o (judge a) (if known_or o false then [] else r) ≡
      unless_known o (judge a) (if known_or o false then [] else s) ++
      when (is_some (first (if known_or o false then a ∷ held else held))) [] rest
  missing_case a None held r s rest e = ap (λ qs. judge a ∷ qs) e
  missing_case a (Some true) held r s rest e = refl
  missing_case a (Some false) held r s rest e = e

  missing_to_firsts : (l m : List (OrGap A)) → missing_to_first verdict (l ++ m) ≡
      missing_to_first verdict l ++ when (is_some (first (known_to_hold verdict l))) [] (missing_to_first verdict m)
  missing_to_firsts [] m = refl
  missing_to_firsts (gap g ∷ l) m = ap (λ qs. expand g ∷ qs) (missing_to_firsts l m)
  missing_to_firsts (element a ∷ l) m =
      missing_case a (verdict a) (known_to_hold verdict l) (missing_to_first verdict (l ++ m)) (missing_to_first verdict l)
      (missing_to_first verdict m) (missing_to_firsts l m)

  every_case : (a : A) (o : Option Bool) (r s rest : List (Question A)) → r ≡ s ++ rest →
      unless_known o (judge a) r ≡ unless_known o (judge a) s ++ rest
  every_case a None r s rest e = ap (λ qs. judge a ∷ qs) e
  every_case a (Some x) r s rest e = e

  all_missings : (l m : List (OrGap A)) → all_missing verdict (l ++ m) ≡ all_missing verdict l ++ all_missing verdict m
  all_missings [] m = refl
  all_missings (gap g ∷ l) m = ap (λ qs. expand g ∷ qs) (all_missings l m)
  all_missings (element a ∷ l) m =
      every_case a (verdict a) (all_missing verdict (l ++ m)) (all_missing verdict l) (all_missing verdict m) (all_missings l m)

  held : (l m : List (OrGap A)) → known_to_hold verdict (l ++ m) ≡ known_to_hold verdict l ++ known_to_hold verdict m
  held l m =
      ap (filter (λ a. known_or (verdict a) false)) (elements_append l m)
      ∙ filter-append (λ a. known_or (verdict a) false) (elements l) (elements m)

pub searches_in_parts : (A : Type 0) → SearchesInParts A
searches_in_parts A =
    record { firsts = firsts; alls = alls; missing_to_firsts = missing_to_firsts; all_missings = all_missings; held = held }
