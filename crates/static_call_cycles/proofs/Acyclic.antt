-- Nothing is refused exactly where no process calls itself at once.
use Rattle.std.proofs.Common.{ℕ, zero, suc, ◌≡◌, ◌<◌, ◌≤◌, ◌+◌, inl, inr, List, [], ◌∷◌, ◌++◌, length, arith, ap, sym, ◌∙◌, refl, subst, Option, Some, None}
use Rattle.std.specs.Prelude.{option_map}
use Rattle.std.specs.List.{slice_index_or, Contains, flat_map}
use Rattle.std.specs.Option.{option_or}
use Rattle.std.proofs.lemmas.List.{length-map, get_or_past}
use Rattle.std.proofs.lemmas.List.FromFn.{get_or-map-range_with_len}
use Rattle.std.proofs.lemmas.Bool.{cases_lt}
use Rattle.spec_core.proofs.Lists.{both_empty, cons_not_empty}
use Rattle.spec_core.proofs.Members.{contains_later}
use Rattle.lotos_ast.specs.declared.place.Place.{Place}
use Rattle.lotos_ast.specs.declared.refusal.RefusalKind.TheVariants.{Unguarded}
use Rattle.sort_overloads.specs.Refused.{refused}
use Rattle.type_cycles.specs.Cycles.{first_some, way_from, ways_to, cycle_of}
use Rattle.type_cycles.specs.MadeFrom.{AreAcyclic}
use Rattle.type_cycles.proofs.Acyclic.{no_cycle_where_acyclic}
use Rattle.type_cycles.proofs.Firsts.{first_is_none, none_in_range}
use Rattle.static_call_cycles.specs.Laws.{NothingRefusedWhereAcyclic}
use Rattle.static_call_cycles.specs.Unguarded.{called, links, names_of, way, call_refusals, refused_if, refusals_from, unguarded_refusals}
use Rattle.static_call_cycles.specs.declared.call.Call.{Call}
use Rattle.static_call_cycles.proofs.Cycles.{no_way_back, none_refused}

-- of these calls of a process nothing is refused
abbrev NoneOf : List (List ℕ) → List (List ℕ) → ℕ → List Call → Type 0
NoneOf names links caller calls = flat_map (call_refusals names links caller) calls ≡ []

same_caller : (names links : List (List ℕ)) (m n : ℕ) (calls : List Call) → m ≡ n → NoneOf names links m calls → NoneOf names links n calls
same_caller names links m n calls e h = subst (λ k. NoneOf names links k calls) e h

-- nothing is refused of the calls of each process where nothing is of all, and the other way round

unrefused_at : (names links : List (List ℕ)) (number : ℕ) (all : List (List Call)) → refusals_from names links number all ≡ []
    → (k : ℕ) → NoneOf names links (number + k) (slice_index_or all k [])
unrefused_at names links number [] e k = refl
unrefused_at names links number (calls ∷ all) e zero =
    same_caller names links number (number + zero) calls (omega arith)
    (both_empty (flat_map (call_refusals names links number) calls) (refusals_from names links (number + 1) all) e).0
unrefused_at names links number (calls ∷ all) e (suc k) =
    same_caller names links (number + 1 + k) (number + suc k) (slice_index_or all k []) (omega arith)
    (unrefused_at names links (number + 1) all
    (both_empty (flat_map (call_refusals names links number) calls) (refusals_from names links (number + 1) all) e).1 k)

unrefused_from : (names links : List (List ℕ)) (number : ℕ) (all : List (List Call))
    → ((k : ℕ) → NoneOf names links (number + k) (slice_index_or all k [])) → refusals_from names links number all ≡ []
unrefused_from names links number [] none = refl
unrefused_from names links number (calls ∷ all) none =
    let here : NoneOf names links number calls = same_caller names links (number + zero) number calls (omega arith) (none zero) in
    ap (λ rs. rs ++ refusals_from names links (number + 1) all) here
    ∙ unrefused_from names links (number + 1) all
    (λ k. same_caller names links (number + suc k) (number + 1 + k) (slice_index_or all k []) (omega arith) (none (suc k)))

-- no way leads back from a process whose call isn't refused

not_refused : (names : List (List ℕ)) (caller : ℕ) (place : Place) (o : Option (List ℕ)) → refused_if names caller place o ≡ [] → o ≡ None
not_refused names caller place None e = refl
not_refused names caller place (Some way) e = absurd (cons_not_empty (refused Unguarded place (names_of names (caller ∷ way))) [] e)

none_back : (names links : List (List ℕ)) (caller : ℕ) (calls : List Call) → NoneOf names links caller calls
    → (q : ℕ) → Contains (called calls) q → way links q caller ≡ None
none_back names links caller [] e q (i, within, at) = absurd (omega (arith, within))
none_back names links caller (c ∷ calls) e q (zero, within, at) =
    subst (λ p. way links p caller ≡ None) at (not_refused names caller c.place (way links c.process caller)
    (both_empty (call_refusals names links caller c) (flat_map (call_refusals names links caller) calls) e).0)
none_back names links caller (c ∷ calls) e q (suc i, within, at) =
    none_back names links caller calls
    (both_empty (call_refusals names links caller c) (flat_map (call_refusals names links caller) calls) e).1 q (i, omega (arith, within), at)

-- a process is on no cycle where no way leads back from those that it calls

none_of_all : {A B : Type 0} (f : A → Option B) (xs : List A) → ((x : A) → Contains xs x → f x ≡ None) → first_some f xs ≡ None
none_of_all f [] none = refl
none_of_all f (x ∷ xs) none =
    ap (λ o. option_or o (first_some f xs)) (none x (0, omega arith, refl))
    ∙ none_of_all f xs (λ y h. none y (contains_later x y xs h))

no_cycle_at : (links : List (List ℕ)) (k : ℕ) → k < length links
    → ((q : ℕ) → Contains (slice_index_or links k []) q → way links q k ≡ None) → cycle_of links k ≡ None
no_cycle_at links k inside back = first_is_none (λ n. slice_index_or (ways_to links k n) k None) 1 (length links) by_steps
  where
    by_steps : (n : ℕ) → 1 ≤ n → n < 1 + length links → slice_index_or (ways_to links k n) k None ≡ None
    by_steps zero from less = absurd (omega arith)
    by_steps (suc n) from less =
        get_or-map-range_with_len (λ j. way_from (ways_to links k n) j (slice_index_or links j [])) 0 (length links) k k None inside (omega arith)
        ∙ ap (option_map (λ w. k ∷ w)) (none_of_all (λ j. slice_index_or (ways_to links k n) j None) (slice_index_or links k [])
        (λ q h. none_in_range (λ m. slice_index_or (ways_to links k m) q None) 0 (length links) n (back q h) (omega arith) (omega arith)))

-- the processes that one calls
linked : (all : List (List Call)) (k : ℕ) → slice_index_or (links all) k [] ≡ called (slice_index_or all k [])
linked [] k = refl
linked (calls ∷ all) zero = refl
linked (calls ∷ all) (suc k) = linked all k

refused_none : (names : List (List ℕ)) (all : List (List Call)) → unguarded_refusals names all ≡ [] → AreAcyclic (links all)
refused_none names all e = (no_cycle_where_acyclic (links all)).0 (first_is_none (cycle_of (links all)) 0 (length (links all)) (λ k from inside.
    no_cycle_at (links all) k (omega (arith, inside)) (λ q h. none_back names (links all) k (slice_index_or all k [])
    (same_caller names (links all) (0 + k) k (slice_index_or all k []) (omega arith) (unrefused_at names (links all) 0 all e k)) q (subst (λ zs. Contains zs q) (linked all k) h))))

none_of_these : (names : List (List ℕ)) (all : List (List Call)) (k : ℕ) → AreAcyclic (links all)
    → NoneOf names (links all) k (slice_index_or all k [])
none_of_these names all k acyclic = elim (cases_lt k (length all)) [
  | inl inside ↦ none_refused names (links all) k (slice_index_or all k []) (λ q h. no_way_back (links all) k q
      (none_in_range (cycle_of (links all)) 0 (length (links all)) k ((no_cycle_where_acyclic (links all)).1 acyclic) (omega arith)
      (omega (arith, inside, length-map all called)))
      (subst (λ zs. Contains zs q) (sym (linked all k)) h))
  | inr past ↦ ap (flat_map (call_refusals names (links all) k)) (get_or_past all k [] past)
]

acyclic_none : (names : List (List ℕ)) (all : List (List Call)) → AreAcyclic (links all) → unguarded_refusals names all ≡ []
acyclic_none names all acyclic = unrefused_from names (links all) 0 all
    (λ k. same_caller names (links all) k (0 + k) (slice_index_or all k []) (omega arith) (none_of_these names all k acyclic))

pub nothing_refused_where_acyclic : NothingRefusedWhereAcyclic
nothing_refused_where_acyclic names all = (refused_none names all, acyclic_none names all)
