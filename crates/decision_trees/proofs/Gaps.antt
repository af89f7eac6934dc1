-- Searches in lists that wait, read off the lists with their gaps.
use Rattle.std.proofs.Common.{ℕ, ◌≡◌, ◌++◌, List, [], ◌∷◌, map, filter, refl, sym, ap, ◌∙◌, Option, Some, None, option_map, Bool, true, false, if◌then◌else◌}
use Rattle.std.specs.Prelude.{flat_map}
use Rattle.decision_trees.specs.Decisions.{Question, expand, judge, Decision, ends, asks_items, asks_verdict, result, after}
use Rattle.decision_trees.specs.Known.{Knowledge, where_known, decided, known_or, unless_known, found, completed}
use Rattle.decision_trees.specs.Lazy.{Lazy, nil, cons, waits, whole, of_list, joined, each, first, stops_at, first_holding, keeps, all_holding}
use Rattle.decision_trees.specs.Gaps.{OrGap, element, gap, with_gaps, in_its_place, elements, first_known, all_known, missing_to_first}
use Rattle.decision_trees.specs.Gaps.{all_missing, known_to_hold}
use Rattle.decision_trees.specs.Laws.{GapsAreSo, PartsAreSo}
use Rattle.decision_trees.proofs.Searching as searching

-- what an unknown or a known answer makes of both sides
node_decided : {X A R : Type 0} (o : Option X) (y : X) (g : ℕ) (d : X → Option R) (n : X → List (OrGap A)) (read : List (OrGap A) → Option R) →
    ((l : List (OrGap A)) → read (gap g ∷ l) ≡ None) → ((x : X) → d x ≡ read (n x)) →
    where_known o d ≡ read (unless_known o (gap g) (n (known_or o y)))
node_decided None y g d n read at_gap h = sym (at_gap (n y))
node_decided (Some x) y g d n read at_gap h = h x

node_found : {X A : Type 0} (o : Option X) (y : X) (g : ℕ) (d : X → List (Question A)) (n : X → List (OrGap A))
    (read : List (OrGap A) → List (Question A)) →
    ((l : List (OrGap A)) → read (gap g ∷ l) ≡ expand g ∷ read l) → ((x : X) → d x ≡ read (n x)) →
    unless_known o (expand g) (d (known_or o y)) ≡ read (unless_known o (gap g) (n (known_or o y)))
node_found None y g d n read at_gap h = ap (λ qs. expand g ∷ qs) (h y) ∙ sym (at_gap (n y))
node_found (Some x) y g d n read at_gap h = h x

known_same : {X R : Type 0} (o : Option X) (f g : X → Option R) → ((x : X) → f x ≡ g x) → where_known o f ≡ where_known o g
known_same None f g h = refl
known_same (Some x) f g h = h x

map_known : {X R S : Type 0} (o : Option X) (f : X → Option S) (g : X → Option R) (h : R → S) → ((x : X) → f x ≡ option_map h (g x)) →
    where_known o f ≡ option_map h (where_known o g)
map_known None f g h e = refl
map_known (Some x) f g h e = e x

module _ {I A : Type 0} (known : Knowledge I A) where
  first_case : (a : A) (rest : Decision I A (Option A)) (o : Option (Option A)) (b : Bool) → decided known rest ≡ o →
      decided known (stops_at a rest b) ≡ (if b then Some (Some a) else o)
  first_case a rest o true e = refl
  first_case a rest o false e = e

  firsts : (l : Lazy I A) → decided known (first_holding l) ≡ first_known known.verdict (with_gaps known.items l)
  firsts nil = refl
  firsts (cons a l) =
      known_same (known.verdict a) (λ b. decided known (stops_at a (first_holding l) b))
      (λ b. if b then Some (Some a) else first_known known.verdict (with_gaps known.items l))
      (λ b. first_case a (first_holding l) (first_known known.verdict (with_gaps known.items l)) b (firsts l))
  firsts (waits g k) =
      node_decided (known.items g) [] g (λ xs. decided known (first_holding (k xs))) (λ xs. with_gaps known.items (k xs))
      (first_known known.verdict) (λ l. refl) (λ xs. firsts (k xs))

  one_more : (a : A) (c : Decision I A (List A)) → decided known (after c (λ xs. ends (a ∷ xs))) ≡ option_map (λ xs. a ∷ xs) (decided known c)
  one_more a (ends r) = refl
  one_more a (asks_items g k) =
      map_known (known.items g) (λ xs. decided known (after (k xs) (λ ys. ends (a ∷ ys)))) (λ xs. decided known (k xs)) (λ ys. a ∷ ys)
      (λ xs. one_more a (k xs))
  one_more a (asks_verdict b k) =
      map_known (known.verdict b) (λ x. decided known (after (k x) (λ ys. ends (a ∷ ys)))) (λ x. decided known (k x)) (λ ys. a ∷ ys)
      (λ x. one_more a (k x))

  all_case : (a : A) (rest : Decision I A (List A)) (o : Option (List A)) (b : Bool) → decided known rest ≡ o →
      decided known (keeps a rest b) ≡ (if b then option_map (λ xs. a ∷ xs) o else o)
  all_case a rest o true e = one_more a rest ∙ ap (option_map (λ xs. a ∷ xs)) e
  all_case a rest o false e = e

  alls : (l : Lazy I A) → decided known (all_holding l) ≡ all_known known.verdict (with_gaps known.items l)
  alls nil = refl
  alls (cons a l) =
      known_same (known.verdict a) (λ b. decided known (keeps a (all_holding l) b))
      (λ b. if b then option_map (λ xs. a ∷ xs) (all_known known.verdict (with_gaps known.items l))
      else all_known known.verdict (with_gaps known.items l))
      (λ b. all_case a (all_holding l) (all_known known.verdict (with_gaps known.items l)) b (alls l))
  alls (waits g k) =
      node_decided (known.items g) [] g (λ xs. decided known (all_holding (k xs))) (λ xs. with_gaps known.items (k xs))
      (all_known known.verdict) (λ l. refl) (λ xs. alls (k xs))

  first_found : (a : A) (rest : Decision I A (Option A)) (qs : List (Question A)) (b : Bool) → found known rest ≡ qs →
      found known (stops_at a rest b) ≡ (if b then [] else qs)
  first_found a rest qs true e = refl
  first_found a rest qs false e = e

  missing_to_firsts : (l : Lazy I A) → found known (first_holding l) ≡ missing_to_first known.verdict (with_gaps known.items l)
  missing_to_firsts nil = refl
  missing_to_firsts (cons a l) =
      ap (unless_known (known.verdict a) (judge a))
      (first_found a (first_holding l) (missing_to_first known.verdict (with_gaps known.items l)) (known_or (known.verdict a) false)
      (missing_to_firsts l))
  missing_to_firsts (waits g k) =
      node_found (known.items g) [] g (λ xs. found known (first_holding (k xs))) (λ xs. with_gaps known.items (k xs))
      (missing_to_first known.verdict) (λ l. refl) (λ xs. missing_to_firsts (k xs))

  -- nothing is asked behind a result
  none_more : (a : A) (c : Decision I A (List A)) → found known (after c (λ xs. ends (a ∷ xs))) ≡ found known c
  none_more a (ends r) = refl
  none_more a (asks_items g k) =
      ap (unless_known (known.items g) (expand g)) (none_more a (k (known_or (known.items g) [])))
  none_more a (asks_verdict b k) =
      ap (unless_known (known.verdict b) (judge b)) (none_more a (k (known_or (known.verdict b) false)))

  all_found : (a : A) (rest : Decision I A (List A)) (b : Bool) → found known (keeps a rest b) ≡ found known rest
  all_found a rest true = none_more a rest
  all_found a rest false = refl

  all_missings : (l : Lazy I A) → found known (all_holding l) ≡ all_missing known.verdict (with_gaps known.items l)
  all_missings nil = refl
  all_missings (cons a l) =
      ap (unless_known (known.verdict a) (judge a)) (all_found a (all_holding l) (known_or (known.verdict a) false) ∙ all_missings l)
  all_missings (waits g k) =
      node_found (known.items g) [] g (λ xs. found known (all_holding (k xs))) (λ xs. with_gaps known.items (k xs))
      (all_missing known.verdict) (λ l. refl) (λ xs. all_missings (k xs))

elements_are : {I A : Type 0} (known : Knowledge I A) (l : Lazy I A) → whole (completed known) l ≡ elements (with_gaps known.items l)
elements_are known nil = refl
elements_are known (cons a l) = ap (λ xs. a ∷ xs) (elements_are known l)
elements_are known (waits g k) =
    passed (known.items g) g (with_gaps known.items (k (known_or (known.items g) []))) (elements_are known (k (known_or (known.items g) [])))
  where
    passed : {X A : Type 0} {xs : List A} (o : Option X) (g : ℕ) (l : List (OrGap A)) → xs ≡ elements l → xs ≡ elements (unless_known o (gap g) l)
    passed None g l e = e
    passed (Some x) g l e = e

pub first_held : {I A : Type 0} (known : Knowledge I A) (l : Lazy I A) →
    result (completed known) (first_holding l) ≡ first (known_to_hold known.verdict (with_gaps known.items l))
first_held {I} {A} known l =
    searching.firsts I A (completed known) l ∙ ap (λ xs. first (filter (completed known).verdict xs)) (elements_are known l)

pub all_held : {I A : Type 0} (known : Knowledge I A) (l : Lazy I A) →
    result (completed known) (all_holding l) ≡ known_to_hold known.verdict (with_gaps known.items l)
all_held {I} {A} known l = searching.alls I A (completed known) l ∙ ap (filter (completed known).verdict) (elements_are known l)

pub gaps_are_so : (I A : Type 0) → GapsAreSo I A
gaps_are_so I A = record {
  firsts = firsts;
  alls = alls;
  missing_to_firsts = missing_to_firsts;
  all_missings = all_missings;
  first_held = first_held;
  all_held = all_held;
}

module _ {I : Type 0} (items : ℕ → Option (List I)) where
  listed : {A : Type 0} (xs : List A) → with_gaps items (of_list xs) ≡ map element xs
  listed [] = refl
  listed (x ∷ xs) = ap (λ l. element x ∷ l) (listed xs)

  -- an unknown node puts the same gap before both
  gap_before : {X A : Type 0} (o : Option X) (y : X) (p : OrGap A) (n m : X → List (OrGap A)) (f : List (OrGap A) → List (OrGap A)) →
      ((l : List (OrGap A)) → f (p ∷ l) ≡ p ∷ f l) → ((x : X) → n x ≡ f (m x)) →
      unless_known o p (n (known_or o y)) ≡ f (unless_known o p (m (known_or o y)))
  gap_before None y p n m f stays h = ap (λ l. p ∷ l) (h y) ∙ sym (stays (m y))
  gap_before (Some x) y p n m f stays h = h x

  joins : {A : Type 0} (l m : Lazy I A) → with_gaps items (joined l m) ≡ with_gaps items l ++ with_gaps items m
  joins nil m = refl
  joins (cons a l) m = ap (λ xs. element a ∷ xs) (joins l m)
  joins (waits g k) m =
      gap_before (items g) [] (gap g) (λ xs. with_gaps items (joined (k xs) m)) (λ xs. with_gaps items (k xs)) (λ l. l ++ with_gaps items m)
      (λ l. refl) (λ xs. joins (k xs) m)

  flat : {A B : Type 0} (f : A → Lazy I B) (l : Lazy I A) →
      with_gaps items (each f l) ≡ flat_map (in_its_place (λ a. with_gaps items (f a))) (with_gaps items l)
  flat f nil = refl
  flat f (cons a l) = joins (f a) (each f l) ∙ ap (λ xs. with_gaps items (f a) ++ xs) (flat f l)
  flat f (waits g k) = flat_gap (items g) [] g (λ a. with_gaps items (f a)) (λ xs. with_gaps items (each f (k xs))) (λ xs. with_gaps items (k xs)) (λ xs. flat f (k xs))
    where
      flat_gap : {X A B : Type 0} (o : Option X) (y : X) (g : ℕ) (f : A → List (OrGap B)) (n : X → List (OrGap B)) (m : X → List (OrGap A)) →
          ((x : X) → n x ≡ flat_map (in_its_place f) (m x)) →
          unless_known o (gap g) (n (known_or o y)) ≡ flat_map (in_its_place f) (unless_known o (gap g) (m (known_or o y)))
      flat_gap None y g f n m h = ap (λ l. gap g ∷ l) (h y)
      flat_gap (Some x) y g f n m h = h x

pub parts_are_so : (I A B : Type 0) → PartsAreSo I A B
parts_are_so I A B = record { listed = λ items. listed items; joins = λ items. joins items; flat = λ items. flat items }
