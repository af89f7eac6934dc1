-- Ways, and calls from which none leads back.
use Rattle.std.proofs.Common.{ℕ, zero, suc, ◌≡◌, ◌<◌, ◌≤◌, ◌+◌, inl, inr, List, [], ◌∷◌, ◌++◌, length, map, drop, get_or, arith, ap, sym, ◌∙◌, refl, append-nil, append_assoc, subst, Option, None}
use Rattle.std.specs.Prelude.{Vec}
use Rattle.std.specs.declared.alloc.Global.{Global}
use Rattle.std.specs.List.{slice_index_or, slice_get, Contains, flat_map}
use Rattle.std.proofs.lemmas.List.{length-map, drop_all}
use Rattle.std.proofs.lemmas.Option.{slice_get_past}
use Rattle.std.proofs.lemmas.Bool.{cases_lt}
use Rattle.spec_core.proofs.Members.{contains_later}
use Rattle.lotos_ast.specs.declared.refusal.Refusal.{Refusal}
use Rattle.type_cycles.specs.Cycles.{ways_to, cycle_of}
use Rattle.type_cycles.proofs.Firsts.{first_is, first_is_none, none_in_range}
use Rattle.type_cycles.proofs.Reached.{no_more_ways, no_way_onward}
use Rattle.sort_overloads.proofs.Loops.{dropped-next}
use Rattle.static_call_cycles.specs.Unguarded.{called, links, name_of, way, call_refusals, refused_if, refusals_from}
use Rattle.static_call_cycles.specs.declared.call.Call.{Call}

-- the first way is that in so many steps, where there is none in fewer
pub way_is : (links : List (List ℕ)) (from to n : ℕ) (o : Option (List ℕ)) → n < length links
    → ((m : ℕ) → m < n → slice_index_or (ways_to links to m) from None ≡ None)
    → slice_index_or (ways_to links to n) from None ≡ o → (o ≡ None → ⊥) → way links from to ≡ o
way_is links from to n o within none at some =
    first_is (λ m. slice_index_or (ways_to links to m) from None) 0 (length links) n o (omega arith) (omega arith) (λ m h w. none m w) at some

-- there is none where there is none in few steps, and no process has one in more
pub no_way : (links : List (List ℕ)) (from to n : ℕ) → ((m : ℕ) → m < n → slice_index_or (ways_to links to m) from None ≡ None)
    → ((k : ℕ) → slice_index_or (ways_to links to n) k None ≡ None) → way links from to ≡ None
no_way links from to n few more = first_is_none (λ m. slice_index_or (ways_to links to m) from None) 0 (length links) (λ m h w. elim (cases_lt m n) [
  | inl b ↦ few m b
  | inr b ↦ no_more_ways links to n m b more from
])

pub no_way_at_all : (links : List (List ℕ)) (from to n : ℕ) → length links ≤ n
    → ((m : ℕ) → m < n → slice_index_or (ways_to links to m) from None ≡ None) → way links from to ≡ None
no_way_at_all links from to n past few = first_is_none (λ m. slice_index_or (ways_to links to m) from None) 0 (length links) (λ m h w. few m (omega arith))

-- where a process is on no cycle, no way leads back from those that it calls

pub no_way_back : (links : List (List ℕ)) (p q : ℕ) → cycle_of links p ≡ None → Contains (slice_index_or links p []) q → way links q p ≡ None
no_way_back links p q off c = first_is_none (λ n. slice_index_or (ways_to links p n) q None) 0 (length links) (λ n h w.
    no_way_onward links p n p q c
    (none_in_range (λ n. slice_index_or (ways_to links p n) p None) 1 (length links) (suc n) off (omega arith) (omega arith)))

-- nothing is refused of the calls of a process that is on no cycle

pub none_refused : (names links : List (List ℕ)) (caller : ℕ) (calls : List Call) → ((q : ℕ) → Contains (called calls) q → way links q caller ≡ None)
    → flat_map (call_refusals names links caller) calls ≡ []
none_refused names links caller [] none = refl
none_refused names links caller (c ∷ calls) none =
    ap (λ o. refused_if names caller c.place o ++ flat_map (call_refusals names links caller) calls) (none c.process (0, omega arith, refl))
    ∙ none_refused names links caller calls (λ q h. none q (contains_later c.process q (called calls) h))

pub off_cycle : (names links : List (List ℕ)) (caller : ℕ) (calls : List Call) (old : List Refusal) → slice_index_or links caller [] ≡ called calls
    → cycle_of links caller ≡ None → old ≡ old ++ flat_map (call_refusals names links caller) calls
off_cycle names links caller calls old linked off =
    sym (append-nil old) ∙ ap (λ z. old ++ z) (sym (none_refused names links caller calls
    (λ q h. no_way_back links caller q off (subst (λ zs. Contains zs q) (sym linked) h))))

-- the refusals of one more process

pub refused_next : (names links : List (List ℕ)) (all : List (Vec Call Global)) (i : ℕ) (calls : Vec Call Global) (old new whole : List Refusal)
    → i < length all → calls ≡ get_or all i calls
    → old ++ refusals_from names links i (map (λ v. v.items) (drop i all)) ≡ whole
    → new ≡ old ++ flat_map (call_refusals names links i) calls.items
    → new ++ refusals_from names links (i + 1) (map (λ v. v.items) (drop (i + 1) all)) ≡ whole
refused_next names links all i calls old new whole w at before put =
    let here = flat_map (call_refusals names links i) calls.items in
    let rest = refusals_from names links (i + 1) (map (λ v. v.items) (drop (i + 1) all)) in
    ap (λ z. z ++ rest) put ∙ append_assoc old here rest
    ∙ ap (λ zs. old ++ refusals_from names links i (map (λ v. v.items) zs)) (sym (dropped-next all i calls w at)) ∙ before

pub refused_all : (names links : List (List ℕ)) (all : List (Vec Call Global)) (i : ℕ) (new whole : List Refusal) → length all ≤ i
    → new ++ refusals_from names links i (map (λ v. v.items) (drop i all)) ≡ whole → new ≡ whole
refused_all names links all i new whole past h =
    sym (append-nil new) ∙ ap (λ zs. new ++ refusals_from names links i (map (λ v. v.items) zs)) (sym (drop_all i all past)) ∙ h

-- the calls of the process of this number
pub linked_at : (all : List (Vec Call Global)) (i : ℕ) (calls : Vec Call Global) → i < length all → calls ≡ get_or all i calls
    → slice_index_or (links (map (λ v. v.items) all)) i [] ≡ called calls.items
linked_at [] i calls within at = absurd (omega arith)
linked_at (v ∷ all) zero calls within at = ap (λ z. called z.items) (sym at)
linked_at (v ∷ all) (suc i) calls within at = linked_at all i calls (omega arith) at

-- there is no name of a number past the end
pub unnamed : {A : Type 0} (f : A → List ℕ) (names : List A) (n : ℕ) (old : List (List ℕ)) → length names ≤ n
    → old ≡ old ++ name_of (slice_get (map f names) n)
unnamed f names n old past = sym (append-nil old) ∙ ap (λ o. old ++ name_of o) (sym (slice_get_past (map f names) n (omega (arith, length-map names f))))
