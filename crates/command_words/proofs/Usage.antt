-- When words are no call of a command.
use Rattle.std.proofs.Common.{ℕ, ◌≡◌, ◌⊎◌, ◌↔◌, ◌∙◌, inl, inr, refl, sym, ap, subst, List, [], ◌∷◌, map, Option, Some, None, is_some, option_map, option_and_then, true, codes}
use Rattle.clap.specs.Simple.{App}
use Rattle.clap.specs.Walk.{Row, Text, first_of}
use Rattle.spec_core.specs.Lists.{OneOf}
use Rattle.command_words.specs.declared.option.Choices.{Choices}
use Rattle.command_words.specs.declared.option.OptionName.{OptionName}
use Rattle.command_words.specs.declared.option.OptionName.TheVariants.{Budget, Values, Steps, Seed, Draw, Workers, Format}
use Rattle.command_words.specs.Commands.{Command, check, migrate, run_by, check_by, equal_by, replay_by, migrate_by, sim_by, selfrun_by}
use Rattle.command_words.specs.Laws.{Number, number_for, seed, size, IsAmiss, IsUsageExactly, UsageIsExact}
use Rattle.command_words.specs.Numbers.{number_at, number_within}
use Rattle.command_words.specs.Options.{chosen_by, choices_of, choosing, name_of, number_of}
use Rattle.command_words.specs.Readers.{run_reader, check_reader, equal_reader, replay_reader, migrate_reader, sim_reader, selfrun_reader, found_in}
use Rattle.command_words.proofs.Wanted.{wanted_words_are_found}

unmapped : {A B : Type 0} (f : A → B) (x : Option A) → option_map f x ≡ None → x ≡ None
unmapped f None e = refl
unmapped f (Some a) e = let never : ⊥ = cc in absurd never

not_both : {A : Type 0} (x : Option A) → is_some x ≡ true → x ≡ None → ⊥
not_both None some none = cc
not_both (Some a) some none = cc

-- options

amiss : (option : OptionName) (rows : List Row) (choices : Choices) (word : Option Text) → first_of (name_of option) rows ≡ word →
    chosen_by option word choices ≡ None → IsAmiss rows (number_for option)
amiss option rows choices None found none = let never : ⊥ = cc in absurd never
amiss option rows choices (Some word) found none = (word, found, unmapped (choosing option choices) (number_of option word) none)

choices_amiss : (known : List OptionName) (rows : List Row) → choices_of known rows ≡ None → OneOf (IsAmiss rows) (map number_for known)
choices_amiss [] rows none = let never : ⊥ = cc in absurd never
choices_amiss (option ∷ others) rows none = go (choices_of others rows) refl none (choices_amiss others rows)
  where
    go : (before : Option Choices) → choices_of others rows ≡ before →
        option_and_then (chosen_by option (first_of (name_of option) rows)) before ≡ None →
        (choices_of others rows ≡ None → OneOf (IsAmiss rows) (map number_for others)) →
        OneOf (IsAmiss rows) (map number_for (option ∷ others))
    go None at e later = inr (later at)
    go (Some choices) at e later = inl (amiss option rows choices (first_of (name_of option) rows) refl e)

none_chosen : (option : OptionName) (rows : List Row) (word : Text) → first_of (name_of option) rows ≡ Some word → number_of option word ≡ None →
    (before : Option Choices) → option_and_then (chosen_by option (first_of (name_of option) rows)) before ≡ None
none_chosen option rows word found none None = refl
none_chosen option rows word found none (Some choices) =
    ap (λ w. chosen_by option w choices) found ∙ ap (option_map (choosing option choices)) none

no_choices : (known : List OptionName) (rows : List Row) → OneOf (IsAmiss rows) (map number_for known) → choices_of known rows ≡ None
no_choices [] rows o = absurd o
no_choices (option ∷ others) rows (inl (word, found, none)) = none_chosen option rows word found none (choices_of others rows)
no_choices (option ∷ others) rows (inr later) =
    ap (option_and_then (chosen_by option (first_of (name_of option) rows))) (no_choices others rows later)

by_choices : (known : List OptionName) (rows : List Row) → (choices_of known rows ≡ None) ↔ OneOf (IsAmiss rows) (map number_for known)
by_choices known rows = (choices_amiss known rows, no_choices known rows)

-- what is told by words that are found

through : {A B : Type 0} (x : Option A) (f : A → Option B) (Q : Type 0) → is_some x ≡ true → ((a : A) → (f a ≡ None) ↔ Q) →
    (option_and_then f x ≡ None) ↔ Q
through None f Q some h = let never : ⊥ = cc in absurd never
through (Some a) f Q some h = h a

mapped : {A B : Type 0} (f : A → B) (x : Option A) (Q : Type 0) → ((x ≡ None) ↔ Q) → (option_map f x ≡ None) ↔ Q
mapped f None Q h = (λ e. h.0 refl, λ q. refl)
mapped f (Some a) Q h = (
  λ e. let never : ⊥ = cc in absurd never,
  λ q. let none = h.1 q in let never : ⊥ = cc in absurd never,
)

numbered : {B : Type 0} (n : Number) (rows : List Row) (f : ℕ → Option B) (others : List Number) → is_some (first_of n.name rows) ≡ true →
    ((k : ℕ) → (f k ≡ None) ↔ OneOf (IsAmiss rows) others) →
    (option_and_then f (number_at n.name n.low n.high rows) ≡ None) ↔ OneOf (IsAmiss rows) (n ∷ others)
numbered {B} n rows f others some h = by_word (first_of n.name rows) refl some
  where
    by_number : (word : Text) → first_of n.name rows ≡ Some word → (x : Option ℕ) → number_within n.low n.high word ≡ x →
        (option_and_then f x ≡ None) ↔ OneOf (IsAmiss rows) (n ∷ others)
    by_number word found None at = (λ e. inl (word, found, at), λ o. refl)
    by_number word found (Some k) at = (
      λ e. inr ((h k).0 e),
      λ o. elim o [
        | inl it ↦
            let same : word ≡ it.0 = let both = sym found ∙ it.1 in cc in
            let none : Some k ≡ None = sym at ∙ (ap (number_within n.low n.high) same ∙ it.2) in
            let never : ⊥ = cc in
            absurd never
        | inr later ↦ (h k).1 later
      ],
    )

    by_word : (w : Option Text) → first_of n.name rows ≡ w → is_some w ≡ true →
        (option_and_then f (option_and_then (number_within n.low n.high) w) ≡ None) ↔ OneOf (IsAmiss rows) (n ∷ others)
    by_word None at some = let never : ⊥ = cc in absurd never
    by_word (Some word) at some = by_number word at (number_within n.low n.high word) refl

exact : (told_by : List Row → Option Command) (reader : App) (numbers : List Number) →
    ((words : List Text) (rows : List Row) → found_in reader words ≡ Some rows → (told_by rows ≡ None) ↔ OneOf (IsAmiss rows) numbers) →
    IsUsageExactly (λ words. option_and_then told_by (found_in reader words)) reader numbers
exact told_by reader numbers h words = go (found_in reader words) (h words)
  where
    go : (r : Option (List Row)) → ((rows : List Row) → r ≡ Some rows → (told_by rows ≡ None) ↔ OneOf (IsAmiss rows) numbers) →
        (option_and_then told_by r ≡ None) ↔ ((r ≡ None) ⊎ ((rows : List Row) × (r ≡ Some rows) × OneOf (IsAmiss rows) numbers))
    go None k = (λ e. inl refl, λ o. refl)
    go (Some rows) k = (
      λ e. inr (rows, refl, (k rows refl).0 e),
      λ o. elim o [
        | inl none ↦ let never : ⊥ = cc in absurd never
        | inr it ↦ let same : it.0 ≡ rows = let e = it.1 in cc in (k rows refl).1 (subst (λ rs. OneOf (IsAmiss rs) numbers) same it.2)
      ],
    )

pub usage_is_exact : UsageIsExact
usage_is_exact =
    let wanted = wanted_words_are_found in
    record {
      run = exact run_by run_reader (map number_for (Workers ∷ Budget ∷ Values ∷ Steps ∷ Seed ∷ Draw ∷ Format ∷ [])) (λ words rows e.
          let found = wanted.run words rows e in
          let Q = OneOf (IsAmiss rows) (map number_for (Workers ∷ Budget ∷ Values ∷ Steps ∷ Seed ∷ Draw ∷ Format ∷ [])) in
          through (first_of (codes "SPEC") rows) _ Q found.0 (λ specification. through (first_of (codes "SCRIPT") rows) _ Q found.1.0 (λ script.
          mapped _ (choices_of (Workers ∷ Budget ∷ Values ∷ Steps ∷ Seed ∷ Draw ∷ Format ∷ []) rows) Q
          (by_choices (Workers ∷ Budget ∷ Values ∷ Steps ∷ Seed ∷ Draw ∷ Format ∷ []) rows))));
      check = exact check_by check_reader [] (λ words rows e.
          let found = wanted.check words rows e in (
            λ none. absurd (not_both (first_of (codes "SPEC") rows) found.0 (unmapped check (first_of (codes "SPEC") rows) none)),
            λ o. absurd o,
          ));
      equal = exact equal_by equal_reader (map number_for (Budget ∷ [])) (λ words rows e.
          let found = wanted.equal words rows e in
          let Q = OneOf (IsAmiss rows) (map number_for (Budget ∷ [])) in
          through (first_of (codes "SPEC") rows) _ Q found.0 (λ specification. through (first_of (codes "FIRST") rows) _ Q found.1.0 (λ first.
          through (first_of (codes "SECOND") rows) _ Q found.1.1.0 (λ second.
          mapped _ (choices_of (Budget ∷ []) rows) Q (by_choices (Budget ∷ []) rows)))));
      replay = exact replay_by replay_reader (map number_for (Budget ∷ [])) (λ words rows e.
          let found = wanted.replay words rows e in
          let Q = OneOf (IsAmiss rows) (map number_for (Budget ∷ [])) in
          through (first_of (codes "SPEC") rows) _ Q found.0 (λ specification. through (first_of (codes "TRACE") rows) _ Q found.1.0 (λ trace.
          mapped _ (choices_of (Budget ∷ []) rows) Q (by_choices (Budget ∷ []) rows))));
      migrate = exact migrate_by migrate_reader [] (λ words rows e.
          let found = wanted.migrate words rows e in
          through (first_of (codes "SPEC") rows) _ ⊥ found.0 (λ specification. (
            λ none. absurd (not_both (first_of (codes "TRACE") rows) found.1.0 (unmapped (migrate specification) (first_of (codes "TRACE") rows) none)),
            λ o. absurd o,
          )));
      sim = exact sim_by sim_reader (map number_for (Budget ∷ Values ∷ Steps ∷ [])) (λ words rows e.
          let found = wanted.sim words rows e in
          let Q = OneOf (IsAmiss rows) (map number_for (Budget ∷ Values ∷ Steps ∷ [])) in
          through (first_of (codes "SPEC") rows) _ Q found.0 (λ specification.
          mapped _ (choices_of (Budget ∷ Values ∷ Steps ∷ []) rows) Q (by_choices (Budget ∷ Values ∷ Steps ∷ []) rows)));
      selfrun = exact selfrun_by selfrun_reader (seed ∷ size ∷ map number_for (Workers ∷ [])) (λ words rows e.
          let found = wanted.selfrun words rows e in
          numbered seed rows _ (size ∷ map number_for (Workers ∷ [])) found.0 (λ s.
          numbered size rows _ (map number_for (Workers ∷ [])) found.1.0 (λ n.
          mapped _ (choices_of (Workers ∷ []) rows) (OneOf (IsAmiss rows) (map number_for (Workers ∷ []))) (by_choices (Workers ∷ []) rows))));
    }
