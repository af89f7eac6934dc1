-- Steps of the reading, on stacks whose last element is the first.
use Rattle.std.proofs.Common.{ℕ, ◌≡◌, ◌-◌, List, [], ◌∷◌, ◌++◌, length, take, drop, map, Option, Some, None, option_map, refl, ap, sym, ◌∙◌, reverse, Bool, true, false}
use Rattle.std.specs.List.{slice_get}
use Rattle.std.proofs.lemmas.List.{map-append, reverse-append, length-reverse, length-map}
use Rattle.spec_core.specs.Theories.{Theory}
use Rattle.value_reader.specs.Stands.{Bracket, State, has_term, first_at, is_call, result_of, with_operation, applied, step, step_on, run}
use Rattle.value_reader.specs.Items.{Piece}
use Rattle.value_reader.specs.Views.{Took}

pub pushed_first : {A B : Type 0} (f : A → B) (xs ys : List A) (x : A) → ys ≡ xs ++ x ∷ [] → reverse (map f ys) ≡ f x ∷ reverse (map f xs)
pushed_first f xs ys x e = ap (λ l. reverse (map f l)) e ∙ ap reverse (map-append f xs (x ∷ [])) ∙ reverse-append (map f xs) (f x ∷ [])

pub stack_length : {A B : Type 0} (f : A → B) (xs : List A) → length (reverse (map f xs)) ≡ length xs
stack_length f xs = length-reverse (map f xs) ∙ length-map xs f

-- the operation that was found, over the terms whose sorts were taken
pub made : (theory : Theory) (name : List ℕ) (base n : ℕ) (sort : Option (List ℕ)) (bs : List Bracket) (so va args : List ℕ) (f r : ℕ)
    (news newv : List ℕ) → n ≡ length so - base → args ≡ take n so →
    Some f ≡ first_at (is_call theory.sorts name args sort) theory.operations → r ≡ result_of (slice_get theory.operations f) →
    news ≡ r ∷ drop n so → newv ≡ f ∷ va →
    applied theory name base sort bs so va ≡ Some (record { stand = has_term; brackets = bs; sorts = news; value = newv })
made theory name base n sort bs so va args f r news newv count front found result sorts value =
    ap (λ k. option_map (with_operation theory bs so va k) (first_at (is_call theory.sorts name (take k so) sort) theory.operations)) (sym count)
    ∙ ap (λ l. option_map (with_operation theory bs so va n) (first_at (is_call theory.sorts name l sort) theory.operations)) (sym front)
    ∙ ap (option_map (with_operation theory bs so va n)) (sym found)
    ∙ ap (λ k. Some (record { stand = has_term; brackets = bs; sorts = k ∷ drop n so; value = f ∷ va })) (sym result)
    ∙ ap (λ l. Some (record { stand = has_term; brackets = bs; sorts = l; value = f ∷ va })) (sym sorts)
    ∙ ap (λ l. Some (record { stand = has_term; brackets = bs; sorts = news; value = l })) (sym value)

-- none was found
pub none_made : (theory : Theory) (name : List ℕ) (base n : ℕ) (sort : Option (List ℕ)) (bs : List Bracket) (so va args : List ℕ) →
    n ≡ length so - base → args ≡ take n so → None ≡ first_at (is_call theory.sorts name args sort) theory.operations →
    applied theory name base sort bs so va ≡ None
none_made theory name base n sort bs so va args count front found =
    ap (λ k. option_map (with_operation theory bs so va k) (first_at (is_call theory.sorts name (take k so) sort) theory.operations)) (sym count)
    ∙ ap (λ l. option_map (with_operation theory bs so va n) (first_at (is_call theory.sorts name l sort) theory.operations)) (sym front)
    ∙ ap (option_map (with_operation theory bs so va n)) (sym found)

-- what is read behind the last piece
abbrev pub behind : Theory → List Piece → Option State → Option State
behind theory ps None = None
behind theory ps (Some s) = run theory ps s

run_last : (theory : Theory) (ps : List Piece) (p : Piece) (s : State) → run theory (ps ++ p ∷ []) s ≡ behind theory ps (step theory p s)
run_last theory [] p s = go (step theory p s)
  where
    go : (o : Option State) → o ≡ behind theory [] o
    go None = refl
    go (Some t) = refl
run_last theory (q ∷ ps) p s = ap (step_on theory q) (run_last theory ps p s) ∙ go (step theory p s)
  where
    go : (o : Option State) → step_on theory q (behind theory ps o) ≡ behind theory (q ∷ ps) o
    go None = refl
    go (Some t) = refl

pub taken : (theory : Theory) (ps all : List Piece) (p : Piece) (s t : State) → all ≡ ps ++ p ∷ [] → step theory p s ≡ Some t →
    run theory ps t ≡ run theory all s
taken theory ps all p s t e h = sym (ap (λ l. run theory l s) e ∙ run_last theory ps p s ∙ ap (behind theory ps) h)

pub not_taken : (theory : Theory) (ps all : List Piece) (p : Piece) (s : State) → all ≡ ps ++ p ∷ [] → step theory p s ≡ None →
    None ≡ run theory all s
not_taken theory ps all p s e h = sym (ap (λ l. run theory l s) e ∙ run_last theory ps p s ∙ ap (behind theory ps) h)

pub took : (b : Bool) (o : Option State) (s : State) → Took b o s → b ≡ true → o ≡ Some s
took true o s h e = h
took false o s h e = absurd (cc)

pub took_not : (b : Bool) (o : Option State) (s : State) → Took b o s → b ≡ false → o ≡ None
took_not true o s h e = absurd (cc)
took_not false o s h e = h

pub popped : {A B : Type 0} (f : A → B) (xs ys : List A) (x : A) → xs ≡ ys ++ x ∷ [] → map f xs ≡ map f ys ++ f x ∷ []
popped f xs ys x e = ap (map f) e ∙ map-append f ys (x ∷ [])
