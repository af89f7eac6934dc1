-- Where no type is made from itself, there is one table of equations that is made from itself: that by rounds.
use Rattle.std.proofs.Common.{ℕ, zero, suc, ◌≡◌, ◌∙◌, ◌<◌, ◌≤◌, ◌⊎◌, inl, inr, refl, sym, ap, subst, List, [], ◌∷◌, length, map, nat_eq, arith, Some}
use Rattle.std.specs.List.{AllByRecursion, Contains, flat_map, slice_get, slice_index_or, zip}
use Rattle.std.proofs.lemmas.List.{ext_get_or, length-map}
use Rattle.std.proofs.lemmas.Option.{same_Some, none-some}
use Rattle.lotos_ast.specs.declared.types.TypeDef.{TypeDef}
use Rattle.spec_core.specs.Lists.{IsOneOf}
use Rattle.spec_core.specs.Theories.{ConditionalEquation}
use Rattle.spec_core.proofs.Members.{from_flat_map}
use Rattle.type_cycles.specs.MadeFrom.{IsMadeFrom, directly, through, AreAcyclic}
use Rattle.static_call_cycles.proofs.Walks.{linked_within}
use Rattle.type_contents.specs.Numbering.{parts_from, parts}
use Rattle.type_contents.specs.Rounds.{rounds}
use Rattle.type_contents.specs.Uses.{links}
use Rattle.type_contents.proofs.Settled.{past_all, rounds_length}
use Rattle.type_equation_copies.specs.Contents.{Equations, no_equations, made_from, equations}
use Rattle.type_equation_copies.specs.Needs.{needs}
use Rattle.type_equation_copies.proofs.Agreeing.{made_agree}
use Rattle.static_laws.specs.Presentation.{EquationsAreByRecursion}
use Rattle.static_laws.proofs.Covered.{graph, graph-length, linked, parts_within}
use Rattle.static_laws.proofs.Membership.{once-from, pair-at}
use Rattle.static_laws.proofs.Walking.{IsShort, all-short, short-next, none-short, IsMadeAt, made, past, made-at}

-- what each type is made of

-- one of which it is made, or what that has by this table
link-made : (types : List TypeDef) (table : List (List ℕ)) (k : ℕ) (d : TypeDef) (j : ℕ) → slice_get types k ≡ Some d →
    ((i : ℕ) → IsOneOf j (slice_index_or table i []) → IsMadeFrom (graph types) i j) →
    IsOneOf j (flat_map (λ i. i ∷ slice_index_or table i []) (links types d)) → IsMadeFrom (graph types) k j
link-made types table k d j at below h = by-link (from_flat_map (λ i. i ∷ slice_index_or table i []) (links types d) j h)
  where
    by-link : (i : ℕ) × IsOneOf i (links types d) × IsOneOf j (i ∷ slice_index_or table i []) → IsMadeFrom (graph types) k j
    by-link (i, l, inl e) = directly (subst (λ z. Contains (slice_index_or (graph types) k []) z) (sym e) (linked types k d i at l))
    by-link (i, l, inr p) = through (linked types k d i at l) (below i p)

none-there : (types : List TypeDef) (k j : ℕ) → IsOneOf j (slice_index_or (map (λ _. []) types) k []) → ⊥
none-there [] k j h = h
none-there (d ∷ ds) zero j h = h
none-there (d ∷ ds) (suc k) j h = none-there ds k j h

-- of what stands among the parts of a type, by any number of rounds, it is made
part-made : (types : List TypeDef) (m k j : ℕ) → IsOneOf j (slice_index_or (parts_within types m) k []) → IsMadeFrom (graph types) k j
part-made types zero k j h = absurd (none-there types k j h)
part-made types (suc m) k j h =
    by-type (made-at [] (parts_from types (parts_within types m)) types (parts_within types (suc m)) refl k) (λ i p. part-made types m i j p)
  where
    by-type : IsMadeAt [] (parts_from types (parts_within types m)) types (parts_within types (suc m)) k →
        ((i : ℕ) → IsOneOf j (slice_index_or (parts_within types m) i []) → IsMadeFrom (graph types) i j) → IsMadeFrom (graph types) k j
    by-type (made d at is) below =
        link-made types (parts_within types m) k d j at below
        (once-from nat_eq (flat_map (λ i. i ∷ slice_index_or (parts_within types m) i []) (links types d)) j (subst (IsOneOf j) is h))
    by-type (past at is) below = absurd (subst (IsOneOf j) is h)

-- of all that a type's equations depend on it is made
need-made : (types : List TypeDef) (k : ℕ) (d : TypeDef) (j : ℕ) → slice_get types k ≡ Some d → IsOneOf j (needs types d) → IsMadeFrom (graph types) k j
need-made types k d j at h = link-made types (parts types) k d j at (λ i p. part-made types (length types) i j p) h

-- from what a type is made of walks are shorter
short-made : (links : List (List ℕ)) (n k j : ℕ) → IsShort links (suc n) k → IsMadeFrom links k j → IsShort links n j
short-made links n k j short (directly c) = short-next links n k j short c
short-made links zero k j short (through {j = i} c m) = absurd (from-made m (λ within. none-short links i within (short-next links zero k i short c)))
  where
    from-made : {to : ℕ} → IsMadeFrom links i to → (i < length links → ⊥) → ⊥
    from-made (directly {j = a} b) none = none (linked_within links i a b)
    from-made (through {j = a} b r) none = none (linked_within links i a b)
short-made links (suc n) k j short (through {j = i} c m) =
    let less : IsShort links n j = short-made links n i j (short-next links (suc n) k i short c) m in
    λ xs to within w. omega (arith, less xs to within w)

each-of : {A : Type 0} (P : A → Type 0) (xs : List A) → ((x : A) → IsOneOf x xs → P x) → AllByRecursion P xs
each-of P [] h = tt
each-of P (x ∷ xs) h = (h x (inl refl), each-of P xs (λ y i. h y (inr i)))

-- tables, each of which is made from the one before

record AreMade (types : List TypeDef) (all : List (TypeDef × List ConditionalEquation)) (tables : ℕ → List Equations) : Type 0 where
  first : length (tables zero) ≡ length all
  next : (n : ℕ) → map (made_from types (tables n)) all ≡ tables (suc n)

module _ (types : List TypeDef) (own : List (List ConditionalEquation)) (same : length own ≡ length types) where
  abbrev all : List (TypeDef × List ConditionalEquation)
  all = zip types own

  zipped : (ds : List TypeDef) (es : List (List ConditionalEquation)) → length es ≡ length ds → length (zip ds es) ≡ length ds
  zipped [] es e = refl
  zipped (d ∷ ds) [] e = absurd (omega (arith, e))
  zipped (d ∷ ds) (x ∷ es) e = ap suc (zipped ds es (omega (arith, e)))

  abbrev Agree : (ℕ → List Equations) → (ℕ → List Equations) → ℕ → ℕ → Type 0
  Agree tables others n k = slice_index_or (tables n) k no_equations ≡ slice_index_or (others n) k no_equations

  -- two such rows of tables agree at a type once no longer walk from it is left
  agree : (tables others : ℕ → List Equations) → AreMade types all tables → AreMade types all others →
      (n k : ℕ) → IsShort (graph types) n k → Agree tables others n k
  agree tables others h i zero k short = at-end (past-end)
    where
      past-end : length types ≤ k
      past-end = grind (arith, none-short (graph types) k, short, graph-length types)

      at-end : length types ≤ k → Agree tables others zero k
      at-end le =
          past_all (tables zero) k no_equations (omega (arith, le, h.first, zipped types own same))
          ∙ sym (past_all (others zero) k no_equations (omega (arith, le, i.first, zipped types own same)))
  agree tables others h i (suc n) k short =
      by-both (made-at no_equations (made_from types (tables n)) all (tables (suc n)) (h.next n) k)
      (made-at no_equations (made_from types (others n)) all (others (suc n)) (i.next n) k)
      (λ j m. agree tables others h i n j (short-made (graph types) n k j short m))
    where
      by-both : IsMadeAt no_equations (made_from types (tables n)) all (tables (suc n)) k →
          IsMadeAt no_equations (made_from types (others n)) all (others (suc n)) k →
          ((j : ℕ) → IsMadeFrom (graph types) k j → Agree tables others n j) → Agree tables others (suc n) k
      by-both (made d at is) (made e there so) below =
          is
          ∙ made_agree types d (tables n) (others n)
          (each-of (λ j. Agree tables others n j) (needs types d.0) (λ j m. below j (need-made types k d.0 j (pair-at types own k d at).0 m)))
          ∙ sym (so ∙ ap (made_from types (others n)) (same_Some e d (sym there ∙ at)))
      by-both (past at is) (past there so) below = is ∙ sym so
      by-both (made d at is) (past there so) below = absurd (none-some d (sym there ∙ at))
      by-both (past at is) (made e there so) below = absurd (none-some e (sym at ∙ there))

  by-rounds : AreMade types all (rounds no_equations (made_from types) all)
  by-rounds = record { first = rounds_length no_equations (made_from types) all zero; next = λ n. refl }

  one-later : AreMade types all (λ n. rounds no_equations (made_from types) all (suc n))
  one-later = record { first = rounds_length no_equations (made_from types) all 1; next = λ n. refl }

  all-way : (table : List Equations) → map (made_from types table) all ≡ table → AreMade types all (λ n. table)
  all-way table e = record { first = sym (ap length e) ∙ length-map all (made_from types table); next = λ n. e }

  module _ (acyclic : AreAcyclic (graph types)) where
    short : (k : ℕ) → IsShort (graph types) (length all) k
    short k = subst (λ n. IsShort (graph types) n k) (graph-length types ∙ sym (zipped types own same)) (all-short (graph types) acyclic k)

    stays : map (made_from types (equations types own)) all ≡ equations types own
    stays =
        ext_get_or no_equations (rounds no_equations (made_from types) all (suc (length all))) (rounds no_equations (made_from types) all (length all))
        (rounds_length no_equations (made_from types) all (suc (length all)) ∙ sym (rounds_length no_equations (made_from types) all (length all)))
        (λ k h. agree (λ n. rounds no_equations (made_from types) all (suc n)) (rounds no_equations (made_from types) all) one-later by-rounds (length all) k (short k))

    only : (table : List Equations) → map (made_from types table) all ≡ table → table ≡ equations types own
    only table e =
        ext_get_or no_equations table (equations types own) ((all-way table e).first ∙ sym (rounds_length no_equations (made_from types) all (length all)))
        (λ k h. agree (λ n. table) (rounds no_equations (made_from types) all) (all-way table e) by-rounds (length all) k (short k))

pub equations_are_by_recursion : EquationsAreByRecursion
equations_are_by_recursion types own same acyclic table =
    (only types own same acyclic table, λ e. subst (λ t. map (made_from types t) (zip types own) ≡ t) (sym e) (stays types own same acyclic))
