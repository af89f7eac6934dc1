-- Menus, and the steps that they have.
use Rattle.std.proofs.Common.{ℕ, zero, suc, ◌≡◌, ◌≤◌, ◌<◌, ◌↔◌, ◌++◌, ◌∙◌, refl, sym, ap, subst, arith, List, [], ◌∷◌, length, take, map}
use Rattle.std.proofs.Common.{Option, Some, None, option_map, Bool, true, false, IsTrue, codes}
use Rattle.std.specs.Prelude.{IsSome}
use Rattle.std.proofs.lemmas.List.{length-map}
use Rattle.run_settings.specs.declared.settings.Settings.{Settings}
use Rattle.spec_core.specs.Code.{Program}
use Rattle.spec_core.specs.Lists.{Each}
use Rattle.spec_core.specs.Ready.{IsReady}
use Rattle.rule_model.specs.declared.rules.Rules.{Rules}
use Rattle.rule_model.specs.Derivations.{derivation_of}
use Rattle.rule_model.specs.States.{State}
use Rattle.trace_text.specs.Names.{names_in}
use Rattle.node_trees.specs.Shapes.{Shape}
use Rattle.decision_trees.specs.Lazy.{first}
use Rattle.board_laws.specs.Next.{HasEnded}
use Rattle.decision_trees.specs.Rules.{any, any_beyond}
use Rattle.board_lists.specs.declared.list.Candidate.{Candidate}
use Rattle.board_lists.specs.declared.list.Listing.{Listing}
use Rattle.board_lists.specs.Listings.{AreFirst, IsCandidate, IsFirst, IsListing, tree_in}
use Rattle.simulator_steps.proofs.TwoLists.{both_hold, holds_weaker}
use Rattle.simulator.specs.Menus.{DoesBy, HasSteps, IsMenu, NoTree, action_in, has_ended, is_beyond, is_deadlock, menu_limit, more_line, some_steps, step_lines}

-- lists of at most so many

none_taken : {A : Type 0} (n : ℕ) (all : List A) → 0 < n → [] ≡ take n all → all ≡ []
none_taken zero all h e = absurd (omega (arith, h))
none_taken (suc n) [] h e = refl
none_taken (suc n) (x ∷ all) h e = let never : ⊥ = cc in absurd never

take_few : {A : Type 0} (n : ℕ) (all : List A) → length (take n all) ≤ n
take_few zero [] = omega arith
take_few zero (x ∷ all) = omega arith
take_few (suc n) [] = omega arith
take_few (suc n) (x ∷ all) = let r = take_few n all in omega (arith, r)

pub take_short : {A : Type 0} (n : ℕ) (all : List A) → length (take n all) ≤ length all
take_short zero [] = omega arith
take_short zero (x ∷ all) = omega arith
take_short (suc n) [] = omega arith
take_short (suc n) (x ∷ all) = let r = take_short n all in omega (arith, r)

take_none : {A : Type 0} (n : ℕ) (all : List A) → all ≡ [] → 0 ≡ length (take n all)
take_none zero [] e = refl
take_none (suc n) [] e = refl
take_none n (x ∷ all) e = let never : ⊥ = cc in absurd never

pub none_long : {A : Type 0} (xs : List A) → length xs ≡ 0 → xs ≡ []
none_long [] e = refl
none_long (x ∷ xs) e = absurd (omega (arith, e))

no_first : {A : Type 0} (all : List A) → None ≡ first all → all ≡ []
no_first [] e = refl
no_first (x ∷ all) e = let never : ⊥ = cc in absurd never

some_first : {A : Type 0} (x : A) (all : List A) → Some x ≡ first all → all ≡ [] → ⊥
some_first x all e none = let both : Some x ≡ None = e ∙ ap first none in cc

module _ (program : Program) (settings : Settings) (s : State) where
  does_by : (t : Shape) (cs : List Candidate) → Each (IsCandidate program s t) cs → DoesBy program settings s (map tree_in cs) (map action_in cs)
  does_by t [] h = tt
  does_by t (c ∷ cs) h = ((h.0.rest, h.0.derives), does_by t cs h.1)

  some_actions : (cs : List Candidate) → (cs ≡ [] → ⊥) → map action_in cs ≡ [] → ⊥
  some_actions [] some e = some refl
  some_actions (c ∷ cs) some e = cc

  -- a menu of some steps
  pub menu_of : (t : Shape) (listing : Listing) → IsListing program settings s t menu_limit listing → (listing.candidates.items ≡ [] → ⊥) →
      (text : List ℕ) → text ≡ step_lines (names_in program) 1 (map action_in listing.candidates.items) ++ more_line listing.more →
      IsMenu program settings s text (length listing.candidates.items)
  menu_of t listing is some text e =
      some_steps (map tree_in listing.candidates.items) (map action_in listing.candidates.items) listing.more
      (some_actions listing.candidates.items some) (does_by t listing.candidates.items is.candidates)
      (holds_weaker program settings s any (AreFirst menu_limit (map tree_in listing.candidates.items) listing.more) _
      (λ all h. (h.first, h.further)) is.windowed)
      e (sym (length-map listing.candidates.items tree_in))

  -- a menu of none
  no_tree : (t : Shape) (listing : Listing) → IsListing program settings s t menu_limit listing → listing.candidates.items ≡ [] →
      NoTree program settings s
  no_tree t listing is none =
      holds_weaker program settings s any (AreFirst menu_limit (map tree_in listing.candidates.items) listing.more) (λ all. all ≡ [])
      (λ all h. none_taken menu_limit all (omega arith) (sym (ap (map tree_in) none) ∙ h.first)) is.windowed

  pub menu_of_none : (t : Shape) (listing : Listing) → IsListing program settings s t menu_limit listing → listing.candidates.items ≡ [] →
      (ended : Bool) → (IsTrue ended ↔ HasEnded s.last) → (text : List ℕ) → (IsTrue ended → text ≡ codes "ended\n") →
      (ended ≡ false → IsSome listing.beyond → text ≡ codes "beyond\n") → (ended ≡ false → listing.beyond ≡ None → text ≡ codes "deadlock\n") →
      IsMenu program settings s text (length listing.candidates.items)
  menu_of_none t listing is none ended decides text e b d = by_ended ended refl
    where
      count : length listing.candidates.items ≡ 0
      count = ap length none

      not_ended : ended ≡ false → HasEnded s.last → ⊥
      not_ended f h = let true_too : IsTrue ended = decides.1 h in let both : false ≡ true = sym f ∙ true_too in cc

      by_beyond : ended ≡ false → (o : Option Rules) → listing.beyond ≡ o → IsMenu program settings s text (length listing.candidates.items)
      by_beyond f None e =
          is_deadlock (no_tree t listing is none) (not_ended f)
          (holds_weaker program settings s any_beyond (IsFirst (option_map derivation_of listing.beyond)) (λ all. all ≡ [])
          (λ all h. no_first all (sym (ap (option_map derivation_of) e) ∙ h)) is.beyond)
          (d f e) count
      by_beyond f (Some rules) e =
          is_beyond (no_tree t listing is none) (not_ended f)
          (holds_weaker program settings s any_beyond (IsFirst (option_map derivation_of listing.beyond)) (λ all. all ≡ [] → ⊥)
          (λ all h. some_first (derivation_of rules) all (sym (ap (option_map derivation_of) e) ∙ h)) is.beyond)
          (b f (subst IsSome (sym e) refl)) count

      by_ended : (z : Bool) → ended ≡ z → IsMenu program settings s text (length listing.candidates.items)
      by_ended true f = has_ended (no_tree t listing is none) (decides.0 f) (e f) count
      by_ended false f = by_beyond f listing.beyond refl

  of_no_tree : (count : ℕ) → count ≡ 0 → NoTree program settings s → HasSteps program settings s count
  of_no_tree count z h =
      holds_weaker program settings s any (λ all. all ≡ []) (λ all. count ≡ length (take menu_limit all))
      (λ all f. z ∙ take_none menu_limit all f) h

  -- a menu has as many steps as it says
  pub counted : (text : List ℕ) (count : ℕ) → IsMenu program settings s text count → HasSteps program settings s count
  counted text count (some_steps trees actions more some does holds e n) =
      holds_weaker program settings s any _ (λ all. count ≡ length (take menu_limit all)) (λ all h. n ∙ ap length h.0) holds
  counted text count (has_ended none ended e n) = of_no_tree count n none
  counted text count (is_deadlock none ended beyond e n) = of_no_tree count n none
  counted text count (is_beyond none ended beyond e n) = of_no_tree count n none

  -- at most so many are listed
  pub few_listed : IsReady program → (t : Shape) (most : ℕ) (listing : Listing) → IsListing program settings s t most listing →
      length listing.candidates.items ≤ most
  few_listed ready t most listing is =
      let all =
      both_hold program settings s any (AreFirst most (map tree_in listing.candidates.items) listing.more)
      (AreFirst most (map tree_in listing.candidates.items) listing.more) ready is.windowed is.windowed
      in
      let same = sym (length-map listing.candidates.items tree_in) ∙ ap length all.1.first in
      let few = take_few most all.0 in
      omega (arith, same, few)
