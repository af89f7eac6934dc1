-- The last of some events.
use Rattle.std.proofs.Common.{ℕ, ◌≡◌, ◌+◌, ◌-◌, ◌∙◌, refl, sym, ap, subst, arith, List, [], ◌∷◌, ◌++◌, length, length-append, map, Option, Some, None}
use Rattle.std.specs.List.{slice_get}
use Rattle.std.proofs.lemmas.List.{length-map}
use Rattle.std.proofs.lemmas.Option.{same_Some}
use Rattle.rule_model.specs.declared.log.Entry.{Entry}
use Rattle.rule_model.specs.Events.{Event, event_of}
use Rattle.simulator_steps.specs.declared.asking.Answered.{Answered}
use Rattle.simulator_steps.specs.Asking.{EndsWith, IsAnswer, TellsLast, TellsOf}

at_end : {A : Type 0} (xs : List A) (x : A) → slice_get (xs ++ x ∷ []) (length xs) ≡ Some x
at_end [] x = refl
at_end (y ∷ xs) x = at_end xs x

there : (entries : List Entry) (before : List Event) (event : Event) → map event_of entries ≡ before ++ event ∷ [] →
    slice_get (map event_of entries) (length entries - 1) ≡ Some event
there entries before event e =
    let long : length entries ≡ length before + 1 =
    sym (length-map entries event_of) ∙ ap length e ∙ length-append before (event ∷ []) in
    let place : length entries - 1 ≡ length before = omega (arith, long) in
    ap (slice_get (map event_of entries)) place ∙ ap (λ (xs : List Event). slice_get xs (length before)) e ∙ at_end before event

pub some_last : (entries : List Entry) (before : List Event) (event : Event) (found : Option Event) →
    map event_of entries ≡ before ++ event ∷ [] → found ≡ slice_get (map event_of entries) (length entries - 1) → found ≡ None → ⊥
some_last entries before event found e at none =
    let both : None ≡ Some event = sym none ∙ at ∙ there entries before event e in cc

pub last_event : (entries : List Entry) (before : List Event) (event : Event) (found : Option Event) (last : Event) →
    map event_of entries ≡ before ++ event ∷ [] → found ≡ slice_get (map event_of entries) (length entries - 1) → found ≡ Some last →
    last ≡ event
last_event entries before event found last e at is = same_Some last event (sym is ∙ at ∙ there entries before event e)

-- what the last entry tells is told of the last event
pub last_told : (entries : List Entry) (log : List Event) (found : Option Event) (last : Event) (answered : Answered) →
    map event_of entries ≡ log → found ≡ slice_get (map event_of entries) (length entries - 1) → found ≡ Some last →
    TellsOf last answered → TellsLast log answered
last_told entries log found last answered e at is tells event (before, ends) =
    subst (λ (z : Event). TellsOf z answered) (last_event entries before event found last (e ∙ ends) at is) tells

pub last_is_answer : (entries : List Entry) (log : List Event) (found : Option Event) (last : Event) →
    map event_of entries ≡ log → found ≡ slice_get (map event_of entries) (length entries - 1) → found ≡ Some last →
    (event : Event) × EndsWith log event × (number : ℕ) × IsAnswer number event → (number : ℕ) × IsAnswer number last
last_is_answer entries log found last e at is (event, (before, ends), n, answers) =
    (n, subst (IsAnswer n) (sym (last_event entries before event found last (e ∙ ends) at is)) answers)

pub some_answer : (entries : List Entry) (log : List Event) (found : Option Event) →
    map event_of entries ≡ log → found ≡ slice_get (map event_of entries) (length entries - 1) → found ≡ None →
    (event : Event) × EndsWith log event × (number : ℕ) × IsAnswer number event → ⊥
some_answer entries log found e at none (event, (before, ends), n, answers) =
    some_last entries before event found (e ∙ ends) at none
