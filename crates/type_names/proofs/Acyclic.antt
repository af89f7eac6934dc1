-- What holds of types where none is made from itself.
use Rattle.std.proofs.Common.{ℕ, zero, suc, ◌+◌, ◌≡◌, ◌∙◌, refl, sym, ap, subst, ◌≤◌, List, [], ◌∷◌, ◌++◌, length, map, arith, Option, None, Some}
use Rattle.std.specs.Prelude.{option_map}
use Rattle.std.specs.List.{Contains, slice_index_or, range_with_len, flat_map}
use Rattle.spec_core.proofs.Members.{contains_none}
use Rattle.lotos_ast.specs.declared.token.Token.{Token}
use Rattle.lotos_ast.specs.declared.types.TypeDef.{TypeDef}
use Rattle.lotos_ast.specs.declared.types.TypeDef.TheVariants.{Library, Definition}
use Rattle.type_contents.specs.Contents.{no_content, made_from}
use Rattle.type_contents.specs.Uses.{links}
use Rattle.type_contents.proofs.Looks.{made_agree}
use Rattle.type_cycles.specs.Cycles.{first_some, way_from, ways_to, cycle_of, first_cycle}
use Rattle.type_cycles.specs.MadeFrom.{AreAcyclic}
use Rattle.type_cycles.proofs.Acyclic.{no_cycle_where_acyclic}
use Rattle.type_cycles.proofs.Firsts.{found_in}
use Rattle.type_cycles.proofs.Reached.{Reaches, there, table_at, way_reaches}
use Rattle.type_names.specs.TypeCycles.{name_at, names_on, cycle_refused, cycle_refusals}
use Rattle.type_names.specs.Acyclic.{CyclesAreRefused, ContentsAreMadeFromContents}
use Rattle.type_names.proofs.Rounds.{table_stays}

pub contents_are_made_from_contents : ContentsAreMadeFromContents
contents_are_made_from_contents types acyclic = table_stays no_content (made_from types) (links types) types (made_agree types) acyclic

-- a way begins with its type
way_begins : (links : List (List ℕ)) (to n k : ℕ) (way : List ℕ) → slice_index_or (ways_to links to (suc n)) k None ≡ Some way → (rest : List ℕ) × (way ≡ k ∷ rest)
way_begins links to n k way e = by_first (first_some (λ j. slice_index_or (ways_to links to n) j None) (slice_index_or links k [])) (table_at (λ k. way_from (ways_to links to n) k (slice_index_or links k [])) (length links) k way e)
  where
    by_first : (o : Option (List ℕ)) → option_map (λ w. k ∷ w) o ≡ Some way → (rest : List ℕ) × (way ≡ k ∷ rest)
    by_first None h = absurd (cc)
    by_first (Some w) h = (w, cc)

-- a type that is made of another is a definition, and so has a name
named : (types all : List TypeDef) (k j : ℕ) → Contains (slice_index_or (map (links types) all) k []) j → name_at all k ≡ [] → ⊥
named types [] k j c e = contains_none j c
named types (Library place names ∷ ds) zero j c e = contains_none j c
named types (Definition place name body ∷ ds) zero j c e = cc
named types (d ∷ ds) (suc k) j c e = named types ds k j c e

named_refused : (names others : List Token) → (names ≡ [] → ⊥) → cycle_refused (names ++ others) ≡ [] → ⊥
named_refused [] others some e = some refl
named_refused (t ∷ ts) others some e = cc

in_range : (a n j : ℕ) → Contains (range_with_len a n) j → a ≤ j
in_range a zero j (i, within, at) = absurd (omega (arith, within))
in_range a (suc n) j (zero, within, at) = omega (arith, at)
in_range a (suc n) j (suc i, within, at) = omega (arith, in_range (a + 1) n j (i, omega (arith, within), at))

first_used : {all : List (List ℕ)} {n k to : ℕ} → Reaches all (suc n) k to → (j : ℕ) × Contains (slice_index_or all k []) j
first_used (there {j = j} c r) = (j, c)

-- the first type on a cycle that is found has a name
cycle_refused_at : (types : List TypeDef) (k n : ℕ) (way : List ℕ) → 1 ≤ n → slice_index_or (ways_to (map (links types) types) k n) k None ≡ Some way → cycle_refused (names_on types (Some way)) ≡ [] → ⊥
cycle_refused_at types k zero way from at e = omega (arith, from)
cycle_refused_at types k (suc n) way from at e = by_parts (way_begins (map (links types) types) k n k way at) (first_used (way_reaches (map (links types) types) k (suc n) k way at))
  where
    by_parts : (rest : List ℕ) × (way ≡ k ∷ rest) → (j : ℕ) × Contains (slice_index_or (map (links types) types) k []) j → ⊥
    by_parts (rest, is) (j, c) = named_refused (name_at types k) (flat_map (name_at types) rest) (named types types k j c) (subst (λ w. cycle_refused (names_on types (Some w)) ≡ []) is e)

refused_where_found : (types : List TypeDef) (way : List ℕ) → first_cycle (map (links types) types) ≡ Some way → cycle_refused (names_on types (Some way)) ≡ [] → ⊥
refused_where_found types way found e = by_type (found_in (cycle_of (map (links types) types)) (range_with_len 0 (length (map (links types) types))) way found)
  where
    by_steps : (k : ℕ) → (n : ℕ) × Contains (range_with_len 1 (length (map (links types) types))) n × (slice_index_or (ways_to (map (links types) types) k n) k None ≡ Some way) → ⊥
    by_steps k (n, within, at) = cycle_refused_at types k n way (in_range 1 (length (map (links types) types)) n within) at e

    by_type : (k : ℕ) × Contains (range_with_len 0 (length (map (links types) types))) k × (cycle_of (map (links types) types) k ≡ Some way) → ⊥
    by_type (k, within, at) = by_steps k (found_in (λ n. slice_index_or (ways_to (map (links types) types) k n) k None) (range_with_len 1 (length (map (links types) types))) way at)

pub cycles_are_refused : CyclesAreRefused
cycles_are_refused types = (λ none. by_cycle none (first_cycle (map (links types) types)) refl, λ acyclic. ap (λ o. cycle_refused (names_on types o)) ((no_cycle_where_acyclic (map (links types) types)).1 acyclic))
  where
    by_cycle : cycle_refusals types ≡ [] → (o : Option (List ℕ)) → first_cycle (map (links types) types) ≡ o → AreAcyclic (map (links types) types)
    by_cycle none None h = (no_cycle_where_acyclic (map (links types) types)).0 h
    by_cycle none (Some way) h = absurd (refused_where_found types way h (sym (ap (λ o. cycle_refused (names_on types o)) h) ∙ none))
