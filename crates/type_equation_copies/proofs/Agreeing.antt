-- A type's equations depend on those of the types of which it is made, and of all of which these are made, and on no others.
use Rattle.std.proofs.Common.{◌≡◌, ◌∙◌, refl, sym, ap, subst, List, [], ◌∷◌, ◌++◌, ℕ, length, map, Bool, true, false, ◌||◌, nat_eq}
use Rattle.std.specs.List.{AllByRecursion, list_any, filter, flat_map, slice_index_or, range_with_len}
use Rattle.std.proofs.lemmas.Bool.{eqb-true}
use Rattle.lotos_ast.specs.declared.token.Token.{Token}
use Rattle.lotos_ast.specs.declared.types.TypeDef.{TypeDef}
use Rattle.lotos_ast.specs.declared.types.TypeDef.TheVariants.{Library, Definition}
use Rattle.lotos_ast.specs.declared.types.TypeBody.{TypeBody}
use Rattle.lotos_ast.specs.declared.types.TypeBody.TheVariants.{Declared, Renamed, Actualized}
use Rattle.spec_core.specs.Theories.{ConditionalEquation}
use Rattle.spec_core.proofs.Lists.{flat_map_same}
use Rattle.type_contents.specs.Lists.{listed}
use Rattle.type_contents.specs.Uses.{number_of, uses_by}
use Rattle.type_contents.specs.Numbering.{parts, itself_and_parts}
use Rattle.type_contents.specs.Contents.{contents, formals_of}
use Rattle.type_images.specs.Same.{is_in, firsts}
use Rattle.type_images.specs.Images.{equation_image}
use Rattle.type_equation_copies.specs.Copies.{copy_numbers}
use Rattle.type_equation_copies.specs.Contents.{Equations, no_equations, all_of, brought_by, in_order, source_in_order, new_image, copied, all_by, brings_by, made_by, made_from}
use Rattle.type_equation_copies.specs.Needs.{with_parts, needs}

abbrev pub AgreeOn : List Equations → List Equations → List ℕ → Type 0
AgreeOn t u used = AllByRecursion (λ j. slice_index_or t j no_equations ≡ slice_index_or u j no_equations) used

split : (t u : List Equations) (js ks : List ℕ) → AgreeOn t u (js ++ ks) → AgreeOn t u js × AgreeOn t u ks
split t u [] ks h = (tt, h)
split t u (j ∷ js) ks h = let r : AgreeOn t u js × AgreeOn t u ks = split t u js ks h.1 in ((h.0, r.0), r.1)

-- on types, where they agree on these and all of which these are made
on_types : (t u : List Equations) (table : List (List ℕ)) (ks : List ℕ) → AgreeOn t u (with_parts table ks) → AgreeOn t u ks
on_types t u table [] h = tt
on_types t u table (k ∷ ks) h =
    let r : AgreeOn t u (slice_index_or table k []) × AgreeOn t u (with_parts table ks) = split t u (slice_index_or table k []) (with_parts table ks) h.1 in
    (h.0, on_types t u table ks r.1)

same_all : (types : List TypeDef) (t u : List Equations) (names : List Token) → AgreeOn t u (map (number_of types) names) → flat_map (all_of types t) names ≡ flat_map (all_of types u) names
same_all types t u [] h = refl
same_all types t u (x ∷ xs) h = ap (λ e. e.all ++ flat_map (all_of types t) xs) h.0 ∙ ap (λ z. all_of types u x ++ z) (same_all types t u xs h.1)

-- contents in order

agree_among : (t u : List Equations) (among : List ℕ) (k : ℕ) → AgreeOn t u among → list_any (nat_eq k) among ≡ true → slice_index_or t k no_equations ≡ slice_index_or u k no_equations
agree_among t u [] k h e = absurd (cc)
agree_among t u (j ∷ js) k h e = by_test (λ f. agree_among t u js k h.1 (sym (ap (λ z. z || list_any (nat_eq k) js) f) ∙ e)) (nat_eq k j) refl
  where
    by_test : (nat_eq k j ≡ false → slice_index_or t k no_equations ≡ slice_index_or u k no_equations) → (b : Bool) → nat_eq k j ≡ b → slice_index_or t k no_equations ≡ slice_index_or u k no_equations
    by_test later true f = subst (λ z. slice_index_or t z no_equations ≡ slice_index_or u z no_equations) (sym (eqb-true k j f)) h.0
    by_test later false f = later f

brought_agree : (t u : List Equations) (among : List ℕ) (content : List ConditionalEquation) (k : ℕ) → AgreeOn t u among → brought_by t among content k ≡ brought_by u among content k
brought_agree t u among content k h = by_test (list_any (nat_eq k) among) refl
  where
    by_test : (b : Bool) → list_any (nat_eq k) among ≡ b → brought_by t among content k ≡ brought_by u among content k
    by_test true e = rw e (ap (λ x. filter (is_in content) x.brought) (agree_among t u among k h e))
    by_test false e = rw e refl

order_agrees : (count : ℕ) (t u : List Equations) (among : List ℕ) (content : List ConditionalEquation) → AgreeOn t u among → in_order count t among content ≡ in_order count u among content
order_agrees count t u among content h = ap firsts (flat_map_same (brought_by t among content) (brought_by u among content) (range_with_len 0 count) (λ k. brought_agree t u among content k h))

source_agrees : (types : List TypeDef) (t u : List Equations) (source : Token) → AgreeOn t u (itself_and_parts types source) → source_in_order types t source ≡ source_in_order types u source
source_agrees types t u source h =
    ap (λ e. in_order (length types) t (itself_and_parts types source) e.all) h.0 ∙ order_agrees (length types) t u (itself_and_parts types source) (all_of types u source) h

-- the equations of types

all_agree : (types : List TypeDef) (t u : List Equations) (own : List ConditionalEquation) (body : TypeBody) → AgreeOn t u (map (number_of types) (uses_by body)) → all_by types t own body ≡ all_by types u own body
all_agree types t u own (Declared place imports formals sorts operations equations) h = ap (λ z. z ++ own) (same_all types t u (listed imports) h)
all_agree types t u own (Renamed place source pairs) h = ap (λ e. map (equation_image (copy_numbers types [] pairs)) e.all) h.0
all_agree types t u own (Actualized place source actuals pairs) h =
    let news = copy_numbers types (formals_of types (contents types) source) pairs in
    ap (λ z. z ++ copied types t source news) (same_all types t u actuals.items h.1) ∙ ap (λ e. flat_map (all_of types u) actuals.items ++ map (equation_image news) e.all) h.0

first_chunk : (t u : List Equations) (table : List (List ℕ)) (k : ℕ) (ks : List ℕ) → AgreeOn t u (with_parts table (k ∷ ks)) → AgreeOn t u (k ∷ slice_index_or table k [])
first_chunk t u table k ks h =
    let r : AgreeOn t u (slice_index_or table k []) × AgreeOn t u (with_parts table ks) = split t u (slice_index_or table k []) (with_parts table ks) h.1 in (h.0, r.0)

brings_agree : (types : List TypeDef) (t u : List Equations) (own : List ConditionalEquation) (body : TypeBody) → AgreeOn t u (with_parts (parts types) (map (number_of types) (uses_by body))) → brings_by types t own body ≡ brings_by types u own body
brings_agree types t u own (Declared place imports formals sorts operations equations) h = refl
brings_agree types t u own (Renamed place source pairs) h =
    ap (flat_map (new_image (copy_numbers types [] pairs))) (source_agrees types t u source (first_chunk t u (parts types) (number_of types source) [] h))
brings_agree types t u own (Actualized place source actuals pairs) h =
    ap (flat_map (new_image (copy_numbers types (formals_of types (contents types) source) pairs)))
    (source_agrees types t u source (first_chunk t u (parts types) (number_of types source) (map (number_of types) actuals.items) h))

made_agree_by : (types : List TypeDef) (own : List ConditionalEquation) (d : TypeDef) (t u : List Equations) → AgreeOn t u (needs types d) → made_by types t own d ≡ made_by types u own d
made_agree_by types own (Library place names) t u h = refl
made_agree_by types own (Definition place name body) t u h =
    ap (λ z. record { all = firsts z; brought = brings_by types t own body }) (all_agree types t u own body (on_types t u (parts types) (map (number_of types) (uses_by body)) h))
    ∙ ap (λ z. record { all = firsts (all_by types u own body); brought = z }) (brings_agree types t u own body h)

pub made_agree : (types : List TypeDef) (d : TypeDef × List ConditionalEquation) (t u : List Equations) → AgreeOn t u (needs types d.0) → made_from types t d ≡ made_from types u d
made_agree types d t u h = made_agree_by types d.1 d.0 t u h
