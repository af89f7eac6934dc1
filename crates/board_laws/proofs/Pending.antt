-- Where nothing comes next, nothing is pending.
use Rattle.std.proofs.Common.{◌≡◌, List, [], ◌∷◌, refl, Option, Some, None, Bool, true, false}
use Rattle.decision_trees.specs.Lazy.{first}
use Rattle.decision_trees.specs.Rules.{Query, meeting, any, unseen, beyond, any_beyond, beyond_or_unseen, Waiting, Next, takes, deadlocks}
use Rattle.decision_trees.specs.Rules.{is_beyond, is_not_now, goes_on, stalls, nothing, if_there, if_some, when, first_answered, stalled_next}
use Rattle.decision_trees.specs.Rules.{asked_next, dead_next, next_of}
use Rattle.board_laws.specs.NeededLaws.{NothingNextNothingPending}

module _ {P A : Type 0} where
  takes_is_some : (p : P) (a : A) → takes p a ≡ nothing → ⊥
  takes_is_some p a e = cc

  beyond_is_some : (p : P) (a : A) → is_beyond p a ≡ nothing → ⊥
  beyond_is_some p a e = cc

  goes_on_is_some : (those : List A) → ◌≡◌ {A = Next P A} (goes_on those) nothing → ⊥
  goes_on_is_some those e = cc

  stalls_is_some : ◌≡◌ {A = Next P A} stalls nothing → ⊥
  stalls_is_some e = cc

  deadlocks_is_some : ◌≡◌ {A = Next P A} deadlocks nothing → ⊥
  deadlocks_is_some e = cc

  not_now_is_some : (p : P) → ◌≡◌ {A = Next P A} (is_not_now p) nothing → ⊥
  not_now_is_some p e = cc

  behind_option : (o : Option A) (f : A → Next P A) (rest : Next P A) → ((a : A) → f a ≡ nothing → ⊥) → if_there o f rest ≡ nothing →
      rest ≡ nothing
  behind_option None f rest some e = e
  behind_option (Some a) f rest some e = absurd (some a e)

  behind_list : (those : List A) (f : List A → Next P A) (rest : Next P A) → ((xs : List A) → f xs ≡ nothing → ⊥) →
      if_some those f rest ≡ nothing → rest ≡ nothing
  behind_list [] f rest some e = e
  behind_list (a ∷ those) f rest some e = absurd (some (a ∷ those) e)

  none_pending : (ps : List P) (n : Next P A) → (n ≡ nothing → ⊥) → if_some ps (λ z. n) nothing ≡ nothing → ps ≡ []
  none_pending [] n some e = refl
  none_pending (p ∷ ps) n some e = absurd (some e)

  module _ (lists : Query P → List A) (w : Waiting P) (waits : w.all_wait ≡ true) where
    behind_answers : (query : P → Query P) (entry : P → A → Next P A) → ((p : P) (a : A) → entry p a ≡ nothing → ⊥) →
        (ps : List P) (rest : Next P A) → first_answered lists w query entry ps rest ≡ nothing → rest ≡ nothing
    behind_answers query entry some [] rest e = e
    behind_answers query entry some (p ∷ ps) rest e =
        behind_answers query entry some ps rest
        (behind_option (first (lists (query p))) (entry p) (first_answered lists w query entry ps rest) (some p) e)

    abbrev beyond_next : Next P A
    beyond_next = first_answered lists w beyond_or_unseen is_beyond w.by_client (stalled_next lists w)

    all_wait : (b : Bool) → b ≡ true → when b (if_some (lists unseen) goes_on beyond_next) nothing ≡ nothing → w.pending ≡ []
    all_wait true h e =
        none_pending w.pending stalls stalls_is_some
        (behind_answers beyond_or_unseen is_beyond beyond_is_some w.by_client (stalled_next lists w)
        (behind_list (lists unseen) goes_on beyond_next goes_on_is_some e))
    all_wait false h e = let no : ⊥ = cc in absurd no

    answered : (p : P) (o : Option A) → if_there o (is_beyond p) (is_not_now p) ≡ nothing → ⊥
    answered p None e = not_now_is_some p e
    answered p (Some a) e = beyond_is_some p a e

    asks : (ps : List P) → asked_next lists w ps ≡ nothing → w.pending ≡ []
    asks [] e = all_wait w.all_wait waits e
    asks (p ∷ ps) e = absurd (answered p (first (lists (beyond p))) e)

    by_search : (o : Option A) (rest : Next P A) → (rest ≡ nothing → w.pending ≡ []) →
        if_there o (λ a. asked_next lists w w.asks) rest ≡ nothing → w.pending ≡ []
    by_search None rest h e = h e
    by_search (Some a) rest h e = asks w.asks e

    pub not_pending : next_of lists w ≡ nothing → w.pending ≡ []
    not_pending e =
        let marked : Next P A = if_there (first (lists any_beyond)) (λ a. asked_next lists w w.asks) (dead_next lists w) in
        by_search (first (lists any)) marked
        (by_search (first (lists any_beyond)) (dead_next lists w) (none_pending w.pending deadlocks deadlocks_is_some))
        (behind_answers meeting takes takes_is_some w.pending (if_there (first (lists any)) (λ a. asked_next lists w w.asks) marked) e)

pub nothing_next_nothing_pending : NothingNextNothingPending
nothing_next_nothing_pending lists state e waits = not_pending lists state waits e
