-- What a search has found are the first trees of the whole list, and by each of them the behaviour may act.
use Rattle.std.proofs.Common.{ℕ, ◌≡◌, ◌+◌, ◌<◌, ◌≤◌, ◌↔◌, ◌⊎◌, ◌++◌, ◌∙◌, inl, inr, List, [], ◌∷◌, length, take, map}
use Rattle.std.proofs.Common.{refl, sym, ap, subst, Option, Some, None, nat_lt, rules, option_map}
use Rattle.std.proofs.Common.{option_to_list, Bool, true, false, IsTrue, append-nil, length-append}
use Rattle.std.proofs.Common.{arith, if◌then◌else◌}
use Rattle.std.proofs.lemmas.List.{take-append-le}
use Rattle.spec_core.specs.Lists.{Each, IsOneOf}
use Rattle.spec_core.specs.Code.{Program}
use Rattle.spec_core.specs.Ready.{IsReady}
use Rattle.spec_core.proofs.Lists.{each_take}
use Rattle.spec_core.proofs.Members.{each_from, one_left}
use Rattle.rule_model.specs.declared.action.Action.{Action}
use Rattle.rule_model.specs.declared.rules.Rules.{Rules}
use Rattle.rule_model.specs.Behaviours.{Behaviour}
use Rattle.rule_model.specs.Derivations.{Derivation, derivation_of}
use Rattle.rule_model.specs.Derives.{Derives}
use Rattle.rule_model.specs.States.{State}
use Rattle.symbolic_rules.proofs.Acting.{windowed_trees_act}
use Rattle.candidate_laws.proofs.Answers.{exact_answers_exist}
use Rattle.decision_trees.specs.Gaps.{OrGap, element, gap, all_known}
use Rattle.decision_trees.specs.Known.{where_known}
use Rattle.decision_trees.specs.Lazy.{first}
use Rattle.decision_trees.specs.Rules.{any, any_beyond}
use Rattle.candidate_laws.specs.Asked.{IsAsked, TestsAsked, TreeQuery}
use Rattle.candidate_laws.specs.TreeLaws.{lists_of}
use Rattle.candidate_laws.proofs.Listed.{asked_trees_are_listed}
use Rattle.candidate_laws.proofs.Testing.{asked_can_be_tested}
use Rattle.candidate_search.specs.Searches.{for_offer}
use Rattle.candidates.specs.Listed.{known_trees}
use Rattle.node_trees.specs.Generations.{AreApart}
use Rattle.node_trees.specs.Shapes.{IsRight, Shape, stands_for}
use Rattle.board_tree.specs.Steps.{Moves}
use Rattle.board_laws.proofs.Following.{searched_trees_follow}
use Rattle.board_core.specs.Boards.{IsBoard}
use Rattle.board_core.specs.Views.{BoardView, pieces, program, state, tree, windows}
use Rattle.board_core.proofs.Due as due
use Rattle.board_lists.specs.declared.list.Listing.{Listing}
use Rattle.board_lists.specs.Listings.{AreFirst, HoldsOfTrees, IsCandidate, IsFirst, IsListing, MayAct, tree_in}
use Rattle.board_lists.specs.Looking.{AreFound}
use Rattle.board_lists.proofs.Listed.{front}

-- the first of some trees are the first of all, where all are known or as many as are asked for
first_of_all : (most : ℕ) (found others : List Derivation) → (others ≡ []) ⊎ (most + 1 ≤ length found) →
    take most found ≡ take most (found ++ others)
first_of_all most found others (inl none) = ap (take most) (sym (ap (λ (z : List Derivation). found ++ z) none ∙ append-nil found))
first_of_all most found others (inr enough) = sym (take-append-le most found others (omega (arith, enough)))

more_of_all : (most : ℕ) (found others : List Derivation) → (others ≡ []) ⊎ (most + 1 ≤ length found) →
    (most < length found) ↔ (most < length (found ++ others))
more_of_all most found others (inl none) =
    let same : length (found ++ others) ≡ length found = ap length (ap (λ (z : List Derivation). found ++ z) none ∙ append-nil found) in
    (λ h. omega (arith, same, h), λ h. omega (arith, same, h))
more_of_all most found others (inr enough) =
    let longer = length-append found others in
    (λ h. omega (arith, longer, h), λ h. omega (arith, enough))

pub are_first : (most : ℕ) (found others : List Derivation) → (others ≡ []) ⊎ (most + 1 ≤ length found) → (trees : List Derivation) →
    trees ≡ take most found → (more : Bool) → (IsTrue more ↔ (most < length found)) → AreFirst most trees more (found ++ others)
are_first most found others enough trees firsts more further =
    let m = more_of_all most found others enough in record {
      first = firsts ∙ first_of_all most found others enough;
      further = (λ h. m.0 (further.0 h), λ h. further.1 (m.1 h));
    }

pub is_first : (found others : List Derivation) → (others ≡ []) ⊎ (1 ≤ length found) → IsFirst (first found) (found ++ others)
is_first [] others (inl none) = ap first (sym none)
is_first [] others (inr enough) = absurd (omega (arith, enough))
is_first (d ∷ found) others enough = refl

pub is_less : (m n k : ℕ) → n ≡ k → IsTrue (nat_lt m n) ↔ (m < k)
is_less m n k e = search rules

-- what is taken of a list of one at most is its first
pub taken_is_first : (xs : List Rules) (r : Option Rules) → take 1 xs ≡ option_to_list r →
    option_map derivation_of r ≡ first (map derivation_of xs)
taken_is_first [] None e = refl
taken_is_first [] (Some z) e = let never : ⊥ = cc in absurd never
taken_is_first (x ∷ xs) None e = let never : ⊥ = cc in absurd never
taken_is_first (x ∷ xs) (Some z) e = let same : z ≡ x = cc in ap (λ (y : Rules). Some (derivation_of y)) same

-- what is found among trees with gaps is one of these
found_among : (verdict : Derivation → Option Bool) (l : List (OrGap Derivation)) (ds : List Derivation) → all_known verdict l ≡ Some ds →
    (d : Derivation) → IsOneOf d ds → IsOneOf (element d) l
found_among verdict [] ds e d i = let none : [] ≡ ds = cc in absurd (subst (IsOneOf d) (sym none) i)
found_among verdict (gap g ∷ l) ds e d i = let never : ⊥ = cc in absurd never
found_among verdict (element f ∷ l) ds e d i = by_verdict (verdict f) e (found_among verdict l)
  where
    found : (o : Option (List Derivation)) → all_known verdict l ≡ o → option_map (λ (xs : List Derivation). f ∷ xs) o ≡ Some ds →
        ((es : List Derivation) → all_known verdict l ≡ Some es → (c : Derivation) → IsOneOf c es → IsOneOf (element c) l) →
        IsOneOf (element d) (element f ∷ l)
    found None g h rest = let never : ⊥ = cc in absurd never
    found (Some es) g h rest =
        let same : f ∷ es ≡ ds = cc in
        by_place (subst (IsOneOf d) (sym same) i) (rest es g d)
      where
        by_place : IsOneOf d (f ∷ es) → (IsOneOf d es → IsOneOf (element d) l) → IsOneOf (element d) (element f ∷ l)
        by_place (inl s) r = inl (ap element s)
        by_place (inr j) r = inr (r j)

    by_verdict : (o : Option Bool) →
        where_known o (λ holds. if holds then option_map (λ xs. f ∷ xs) (all_known verdict l) else all_known verdict l) ≡ Some ds →
        ((es : List Derivation) → all_known verdict l ≡ Some es → (c : Derivation) → IsOneOf c es → IsOneOf (element c) l) →
        IsOneOf (element d) (element f ∷ l)
    by_verdict None h rest = let never : ⊥ = cc in absurd never
    by_verdict (Some true) h rest = found (all_known verdict l) refl h rest
    by_verdict (Some false) h rest = inr (rest ds h d i)

-- the action that a step by the tree would do is the one that the behaviour does by it
pub by_step : (program : Program) (s : State) (t next : Shape) → IsRight program t → s.behaviour ≡ stands_for program t → (d : Derivation)
    (a : Action) (low high : ℕ) → Moves program t d a next low high → (m : MayAct program s t d) →
    Derives program s.behaviour d a m.rest
by_step program s t next right reached d a low high moves m =
    let is =
    moves.becomes.becomes right m.follows m.action m.rest (subst (λ (b : Behaviour). Derives program b d m.action m.rest) reached m.derives)
    in
    subst (λ (z : Action). Derives program s.behaviour d z m.rest) is.0 m.derives

module _ (v : BoardView) (is : IsBoard v) (ready : IsReady (program v)) (apart : AreApart (tree v))
    (reached : (state v).behaviour ≡ stands_for (program v) (tree v)) where
  enough_of : (most : ℕ) (found : List Derivation) (left : List (OrGap Derivation)) (others : List Derivation) →
      (left ≡ []) ⊎ (most ≤ length found) → (left ≡ [] → others ≡ []) → (others ≡ []) ⊎ (most ≤ length found)
  enough_of most found left others (inl e) h = inl (h e)
  enough_of most found left others (inr e) h = inr e

  -- what holds of the list that begins with the trees found holds of the list of all
  pub of_found : (q : TreeQuery) (most : ℕ) (found : List Derivation) → AreFound v (for_offer q) most found →
      (P : List Derivation → Type 0) →
      ((others : List Derivation) → (others ≡ []) ⊎ (most ≤ length found) → P (found ++ others)) →
      HoldsOfTrees (program v) v.settings (state v) q P
  of_found q most found f P h = record {
    windows = windows v;
    of_session = due.of_session v is ready apart reached;
    holds = λ e is_asked exact tests.
        let k = due.known_tree v is ready apart reached e exact in
        let there = subst (λ (b : Behaviour). TestsAsked (program v) (windows v) b is_asked) reached tests in
        let z =
        front (program v) e v.settings.values (windows v) (tree v) (pieces v) k q is_asked there f.passed.passed f.left found f.passed.parts
        (f.passed.known refl)
        in
        subst (λ (b : Behaviour). P (lists_of (program v) e (windows v) b is_asked q)) (sym reached)
        (subst P (sym z.parts) (h z.others (enough_of most found f.left z.others f.enough z.all_of_them)));
  }

  listed : (most : ℕ) (found : List Derivation) → AreFound v any most found → (d : Derivation) → IsOneOf d found →
      IsOneOf (element d) (known_trees (program v).theory (windows v) (tree v) any)
  listed most found f d i =
      subst (IsOneOf (element d)) (sym f.passed.parts)
      (one_left (element d) f.passed.passed f.left (found_among _ f.passed.passed found (f.passed.known refl) d i))

  asked : (most : ℕ) (found : List Derivation) → AreFound v any most found → (d : Derivation) → IsOneOf d found →
      IsAsked (program v) (windows v) (stands_for (program v) (tree v)) any d
  asked most found f d i =
      let exact = exact_answers_exist (program v) ready in
      let test = asked_can_be_tested (program v) exact.0 (windows v) exact.1 (stands_for (program v) (tree v)) in
      let k = due.known_tree v is ready apart reached exact.0 exact.1 in
      let z =
      front (program v) exact.0 v.settings.values (windows v) (tree v) (pieces v) k any test.0 test.1 f.passed.passed f.left found
      f.passed.parts (f.passed.known refl)
      in
      (asked_trees_are_listed (program v) exact.0 v.settings.values (windows v) (stands_for (program v) (tree v)) test.0
      (record { ready = ready; exact = exact.1; windows = k.windows; tests = test.1 }) any d).0
      (subst (IsOneOf d) (sym z.parts) (one_left d found z.others i))

  one_acts : (most : ℕ) (found : List Derivation) → AreFound v any most found → (d : Derivation) → IsOneOf d found →
      MayAct (program v) (state v) (tree v) d
  one_acts most found f d i =
      let h = asked most found f d i in
      let b = stands_for (program v) (tree v) in
      let acts = windowed_trees_act (program v) (windows v) ready.executable.fits b None d h.0 h.1 in record {
        action = acts.0;
        rest = acts.1;
        derives = subst (λ (b : Behaviour). Derives (program v) b d acts.0 acts.1) (sym reached) acts.2;
        follows =
            searched_trees_follow (program v) (windows v) (tree v) is.0.complete any d acts.0 acts.1 (listed most found f d i) acts.2;
      }

  pub all_act : (most few : ℕ) (found : List Derivation) → AreFound v any most found →
      Each (MayAct (program v) (state v) (tree v)) (take few found)
  all_act most few found f =
      each_take (MayAct (program v) (state v) (tree v)) few found
      (each_from (MayAct (program v) (state v) (tree v)) found (λ d i. one_acts most found f d i))

  pub is_listing : (most : ℕ) (found marked : List Derivation) → AreFound v any (most + 1) found → AreFound v any_beyond 1 marked →
      (listing : Listing) → map tree_in listing.candidates.items ≡ take most found → (IsTrue listing.more ↔ (most < length found)) →
      option_map derivation_of listing.beyond ≡ first marked → Each (IsCandidate (program v) (state v) (tree v)) listing.candidates.items →
      IsListing (program v) v.settings (state v) (tree v) most listing
  is_listing most found marked f g listing trees further beyond candidates = record {
    windowed =
        of_found any (most + 1) found f (AreFirst most (map tree_in listing.candidates.items) listing.more)
        (λ others enough. are_first most found others enough (map tree_in listing.candidates.items) trees listing.more further);
    beyond =
        of_found any_beyond 1 marked g (IsFirst (option_map derivation_of listing.beyond))
        (λ others enough. beyond ∙ is_first marked others enough);
    candidates = candidates;
  }
