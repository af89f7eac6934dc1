-- The decision of the rules comes to what they say of the whole lists.
use Rattle.std.proofs.Common.{◌≡◌, List, [], ◌∷◌, filter, refl, ap, ◌∙◌, Option, Some, None, Bool, true, false}
use Rattle.decision_trees.specs.Decisions.{Answers, Decision, ends, result, after}
use Rattle.decision_trees.specs.Lazy.{Lazy, whole, first, first_holding, all_holding}
use Rattle.decision_trees.specs.Rules.{Query, meeting, any, unseen, beyond, any_beyond, beyond_or_unseen, Next, takes, is_beyond, is_not_now, goes_on, nothing, Waiting, if_there, if_some, when, first_answered, stalled_next, waiting_next, asked_next, dead_next, first_answers, waiting_decision, asked_decision}
use Rattle.decision_trees.specs.Rules as rules
use Rattle.decision_trees.specs.Laws.{DecisionIsNext}
use Rattle.decision_trees.proofs.Searching.{one_after, firsts, alls}

option_result : {I A R B : Type 0} (s : Answers I A) (o : Option B) (f : B → Decision I A R) (c : Decision I A R) →
    result s (if_there o f c) ≡ if_there o (λ b. result s (f b)) (result s c)
option_result s None f c = refl
option_result s (Some b) f c = refl

list_result : {I A R B : Type 0} (s : Answers I A) (o : List B) (f : List B → Decision I A R) (c : Decision I A R) →
    result s (if_some o f c) ≡ if_some o (λ b. result s (f b)) (result s c)
list_result s [] f c = refl
list_result s (b ∷ bs) f c = refl

when_result : {I A R : Type 0} (s : Answers I A) (b : Bool) (c d : Decision I A R) → result s (when b c d) ≡ when b (result s c) (result s d)
when_result s true c d = refl
when_result s false c d = refl

module _ (I P A : Type 0) (lazy : Query P → Lazy I A) (w : Waiting P) (s : Answers I A) where
  abbrev lists : Query P → List A
  lists q = filter s.verdict (whole s (lazy q))

  search_first : (q : Query P) (f : Option A → Decision I A (Next P A)) →
      result s (after (first_holding (lazy q)) f) ≡ result s (f (first (lists q)))
  search_first q f = one_after I A (Option A) (Next P A) s (first_holding (lazy q)) f ∙ ap (λ r. result s (f r)) (firsts I A s (lazy q))

  answers : (query : P → Query P) (entry : P → A → Next P A) (ps : List P) (rest : Decision I A (Next P A)) (n : Next P A) →
      result s rest ≡ n → result s (first_answers lazy w query entry ps rest) ≡ first_answered lists w query entry ps n
  answers query entry [] rest n e = e
  answers query entry (p ∷ ps) rest n e =
      search_first (query p) (λ r. if_there r (λ a. ends (entry p a)) (first_answers lazy w query entry ps rest))
      ∙ option_result s (first (lists (query p))) (λ a. ends (entry p a)) (first_answers lazy w query entry ps rest)
      ∙ ap (if_there (first (lists (query p))) (entry p)) (answers query entry ps rest n e)

  waiting : result s (waiting_decision lazy w) ≡ waiting_next lists w
  waiting =
      let rest = first_answers lazy w beyond_or_unseen is_beyond w.by_client (ends (stalled_next lists w)) in
      let f : List A → Decision I A (Next P A) = λ all. if_some all (λ bs. ends (goes_on bs)) rest in
      when_result s w.all_wait (after (all_holding (lazy unseen)) f) (ends nothing)
      ∙ ap (λ x. when w.all_wait x nothing)
      (one_after I A (List A) (Next P A) s (all_holding (lazy unseen)) f ∙ ap (λ all. result s (f all)) (alls I A s (lazy unseen))
      ∙ list_result s (lists unseen) (λ bs. ends (goes_on bs)) rest
      ∙ ap (if_some (lists unseen) goes_on) (answers beyond_or_unseen is_beyond w.by_client (ends (stalled_next lists w)) (stalled_next lists w) refl))

  asking : (ps : List P) → result s (asked_decision lazy w ps) ≡ asked_next lists w ps
  asking [] = waiting
  asking (p ∷ ps) = search_first (beyond p) (λ r. ends (if_there r (is_beyond p) (is_not_now p)))

  pub following : result s (rules.decision lazy w) ≡ rules.next_of lists w
  following =
      let dead : Decision I A (Next P A) = ends (dead_next lists w) in
      let g : Option A → Decision I A (Next P A) = λ q. if_there q (λ a. asked_decision lazy w w.asks) dead in
      let f : Option A → Decision I A (Next P A) = λ r. if_there r (λ a. asked_decision lazy w w.asks) (after (first_holding (lazy any_beyond)) g) in
      let n = if_there (first (lists any_beyond)) (λ a. asked_next lists w w.asks) (dead_next lists w) in
      let inner : result s (after (first_holding (lazy any_beyond)) g) ≡ n =
      search_first any_beyond g ∙ option_result s (first (lists any_beyond)) (λ a. asked_decision lazy w w.asks) dead
      ∙ ap (λ x. if_there (first (lists any_beyond)) (λ a. x) (dead_next lists w)) (asking w.asks) in
      answers meeting takes w.pending (after (first_holding (lazy any)) f) (if_there (first (lists any)) (λ a. asked_next lists w w.asks) n)
      (search_first any f ∙ option_result s (first (lists any)) (λ a. asked_decision lazy w w.asks) (after (first_holding (lazy any_beyond)) g)
      ∙ ap (λ x. if_there (first (lists any)) (λ a. x) (result s (after (first_holding (lazy any_beyond)) g))) (asking w.asks)
      ∙ ap (if_there (first (lists any)) (λ a. asked_next lists w w.asks)) inner)

pub decision_is_next : (I P A : Type 0) → DecisionIsNext I P A
decision_is_next I P A lazy w s = following I P A lazy w s
