-- What types bring in, found one after another.
use Rattle.std.proofs.Common.{◌≡◌, ◌∙◌, refl, sym, ap, subst, List, [], ◌∷◌, ℕ, suc, ◌<◌, ◌≤◌, length, map, set, get_or, Option, None, Some, is_some, option_map, Bool, true, false, ◌||◌, nat_eq}
use Rattle.std.specs.List.{list_all, list_any, filter, flat_map, slice_index_or, range_with_len}
use Rattle.std.proofs.lemmas.List.{length-map}
use Rattle.std.proofs.lemmas.Bool.{eqb-true}
use Rattle.spec_core.proofs.Lists.{flat_map_same}
use Rattle.lotos_ast.specs.declared.types.TypeDef.{TypeDef}
use Rattle.lotos_ast.specs.declared.types.TypeDef.TheVariants.{Library, Definition}
use Rattle.lotos_ast.specs.declared.types.TypeBody.{TypeBody}
use Rattle.lotos_ast.specs.declared.types.TypeBody.TheVariants.{Declared, Renamed, Actualized}
use Rattle.type_contents.specs.declared.order.Brought.{Brought}
use Rattle.type_contents.specs.Items.{Item, Described, is_in, firsts}
use Rattle.type_contents.specs.Images.{renaming_of, described_image}
use Rattle.type_contents.specs.Contents.{contents, items_of, formals_of}
use Rattle.type_contents.specs.Numbering.{brought_by, in_order, itself_and_parts, new_image, new_kept, brings_by, brings, brought, needs_by, needs}
use Rattle.type_contents.specs.Settled.{are_ready, known}
use Rattle.type_contents.specs.Views.{brought_of, brought_at, IsBroughtSettled}
use Rattle.type_contents.proofs.Settled.{all_settled}
use Rattle.type_contents.proofs.Schedules.{each_through}
use Rattle.type_contents.proofs.Standings.{AgreeOn, one_more, none_at}

-- they depend on those that are needed

agree_among : (t u : List (List Described)) (among : List ℕ) (k : ℕ) → AgreeOn [] t u among → list_any (nat_eq k) among ≡ true → slice_index_or t k [] ≡ slice_index_or u k []
agree_among t u [] k h e = absurd (cc)
agree_among t u (j ∷ js) k h e = by_test (λ f. agree_among t u js k h.1 (sym (ap (λ z. z || list_any (nat_eq k) js) f) ∙ e)) (nat_eq k j) refl
  where
    by_test : (nat_eq k j ≡ false → slice_index_or t k [] ≡ slice_index_or u k []) → (b : Bool) → nat_eq k j ≡ b → slice_index_or t k [] ≡ slice_index_or u k []
    by_test later true f = subst (λ z. slice_index_or t z [] ≡ slice_index_or u z []) (sym (eqb-true k j f)) h.0
    by_test later false f = later f

brought_agree : (t u : List (List Described)) (among : List ℕ) (content : List Item) (k : ℕ) → AgreeOn [] t u among → brought_by t among content k ≡ brought_by u among content k
brought_agree t u among content k h = by_test (list_any (nat_eq k) among) refl
  where
    by_test : (b : Bool) → list_any (nat_eq k) among ≡ b → brought_by t among content k ≡ brought_by u among content k
    by_test true e = rw e (ap (filter (λ d. is_in content d.item)) (agree_among t u among k h e))
    by_test false e = rw e refl

order_agrees : (count : ℕ) (t u : List (List Described)) (among : List ℕ) (content : List Item) → AgreeOn [] t u among → in_order count t among content ≡ in_order count u among content
order_agrees count t u among content h = ap firsts (flat_map_same (brought_by t among content) (brought_by u among content) (range_with_len 0 count) (λ k. brought_agree t u among content k h))

brings_agree_by : (types : List TypeDef) (t u : List (List Described)) (body : TypeBody) → AgreeOn [] t u (needs_by types body) → brings_by types t body ≡ brings_by types u body
brings_agree_by types t u (Declared place imports formals sorts operations equations) h = refl
brings_agree_by types t u (Renamed place source pairs) h =
    ap (flat_map (new_image (described_image (renaming_of pairs)))) (order_agrees (length types) t u (itself_and_parts types source) (items_of types (contents types) source) h)
brings_agree_by types t u (Actualized place source actuals pairs) h =
    ap (flat_map (new_kept (formals_of types (contents types) source) (renaming_of pairs))) (order_agrees (length types) t u (itself_and_parts types source) (items_of types (contents types) source) h)

brings_agree : (types : List TypeDef) (d : TypeDef) (t u : List (List Described)) → AgreeOn [] t u (needs types d) → brings types t d ≡ brings types u d
brings_agree types (Library place names) t u h = refl
brings_agree types (Definition place name body) t u h = brings_agree_by types t u body h

-- found one after another

known_brought : (found : List (Option Brought)) → known [] (map (option_map brought_of) found) ≡ map brought_at found
known_brought [] = refl
known_brought (None ∷ xs) = ap (λ z. [] ∷ z) (known_brought xs)
known_brought (Some b ∷ xs) = ap (λ z. brought_of b ∷ z) (known_brought xs)

pub one_brings : (types : List TypeDef) (found : List (Option Brought)) (n k : ℕ) (one : Brought) (d : TypeDef) → length found ≡ length types → k < length types → d ≡ get_or types k d → brought_of one ≡ brings types (map brought_at found) d
    → are_ready found (slice_index_or (map (needs types) types) k []) ≡ true → IsBroughtSettled types found n → IsBroughtSettled types (set found k (Some one)) (suc n)
one_brings types found n k one d same less at is ready settled =
    one_more [] (brings types) brought_of (needs types) types (brings_agree types) found n k one d same less at (is ∙ ap (λ z. brings types z d) (sym (known_brought found))) ready settled

pub all_found : (types : List TypeDef) (found : List (Option Brought)) (n : ℕ) → IsBroughtSettled types found n → n ≤ length types → length found ≡ length types → list_all is_some found ≡ true → map brought_at found ≡ brought types
all_found types found n settled le same each =
    sym (known_brought found) ∙ all_settled [] (brings types) types (map (option_map brought_of) found) n settled le (length-map found (option_map brought_of) ∙ same) (each_through brought_of found ∙ each)

-- nothing is found yet

pub none_brings : (types : List TypeDef) (found : List (Option Brought)) → found ≡ map (λ _. None) types → IsBroughtSettled types found 0
none_brings types found is = none_at [] (brings types) brought_of types found is

nothing_brought : (types : List TypeDef) → map brought_at (map (λ _. None) types) ≡ map (λ _. []) types
nothing_brought [] = refl
nothing_brought (d ∷ ds) = ap (λ z. [] ∷ z) (nothing_brought ds)

pub none_brought : (types : List TypeDef) (found : List (Option Brought)) → found ≡ map (λ _. None) types → map brought_at found ≡ map (λ _. []) types
none_brought types found is = ap (map brought_at) is ∙ nothing_brought types
