-- The own equations of types.
use Rattle.std.proofs.Common.{ℕ, ◌≡◌, ◌<◌, ◌≤◌, ◌+◌, List, [], ◌∷◌, ◌++◌, length, map, take, get_or, refl, ap, sym, subst, ◌∙◌, arith}
use Rattle.std.specs.Prelude.{Vec, Some}
use Rattle.lotos_ast.specs.FirstRefusals.{first_refusal}
use Rattle.std.specs.declared.alloc.Global.{Global}
use Rattle.std.specs.List.{zip}
use Rattle.std.proofs.lemmas.List.{append-nil, get_or_default, map-append, take_all}
use Rattle.std.proofs.lemmas.Slice.Zip.{get_or-zip, length-zip}
use Rattle.lotos_ast.specs.declared.refusal.Refusal.{Refusal}
use Rattle.lotos_ast.specs.declared.types.EquationBody.{EquationBody}
use Rattle.lotos_ast.specs.declared.types.TypeDef.{TypeDef}
use Rattle.spec_core.specs.declared.equation.Equation.{Equation}
use Rattle.spec_core.specs.Theories.{ConditionalEquation}
use Rattle.spec_core.proofs.Lists.{take_next}
use Rattle.sort_overloads.specs.Judged.{Adds}
use Rattle.static_equations.specs.Bodies.{IsBodyJudged}
use Rattle.static_equations.specs.Gathered.{Gathers, none, AddsBoth}
use Rattle.static_equations.proofs.Gatherings.{adds-more, adds-next, adds-all, from-nothing}
use Rattle.type_contents.specs.Contents.{Content, no_content}
use Rattle.type_contents.specs.Items.{Item, Described}
use Rattle.type_contents.specs.Numbering.{all_sorts, all_operations}
use Rattle.type_contents.specs.Views.{described_of}
use Rattle.type_contents.specs.declared.flat.FlatData.{FlatData}
use Rattle.flattening.specs.Flattens.{Flattens}
use Rattle.static_presentation.specs.Moved.{moved_equation}
use Rattle.static_presentation.specs.Own.{bodies, AreRead, IsOwnOf, AreOwnEquations}
use Rattle.static_presentation.specs.Signatures.{type_context, numbers_had}
use Rattle.static_presentation.specs.Views.{equations_of}

-- one more of a mapped list
pub mapped-more : {A B C : Type 0} (P : A → List B → List Refusal → Type 0) (view : C → A) (xs : List C) (i : ℕ) (x : C) (ys now later : List B) (before mid after : List Refusal) → i < length xs → x ≡ get_or xs i x →
    AddsBoth (Gathers P (map view (take i xs))) ys now before mid → AddsBoth (P (view x)) now later mid after → AddsBoth (Gathers P (map view (take (i + 1) xs))) ys later before after
mapped-more P view xs i x ys now later before mid after within at h k =
    subst (λ z. AddsBoth (Gathers P z) ys later before after) (sym (ap (map view) (take_next xs i x within at) ∙ map-append view (take i xs) (x ∷ [])))
    (adds-more P (map view (take i xs)) (view x) ys now later before mid after h k)

pub mapped-all : {A B C : Type 0} (P : A → List B → List Refusal → Type 0) (view : C → A) (xs : List C) (i : ℕ) (now : List B) (before after : List Refusal) → length xs ≤ i →
    AddsBoth (Gathers P (map view (take i xs))) [] now before after → Adds (Gathers P (map view xs) now) before after
mapped-all P view xs i now before after past h =
    from-nothing (Gathers P (map view xs)) now before after (subst (λ z. AddsBoth (Gathers P (map view z)) [] now before after) (take_all i xs past) h)

module _ (sorts operations : List Described) where
  -- a type without equations
  pub read-nothing : (items : List Item) (written : List EquationBody) (all : List ConditionalEquation) (old : List Refusal) → written ≡ [] → all ≡ [] → Adds (AreRead sorts operations items written all) old old
  read-nothing items written all old e f =
      subst (λ z. Adds (AreRead sorts operations items z all) old old) (sym e)
      (subst (λ z. Adds (AreRead sorts operations items [] z) old old) (sym f)
      (record { refusals = []; such = ([], none, refl); behind = sym (append-nil old) }))

  -- what is read is moved
  pub read-moved : (items : List Item) (written : List EquationBody) (found all : List ConditionalEquation) (old now : List Refusal) → Adds (Gathers (IsBodyJudged (type_context sorts operations items)) written found) old now →
      all ≡ map (moved_equation (numbers_had items sorts) (numbers_had items operations)) found → Adds (AreRead sorts operations items written all) old now
  read-moved items written found all old now h e = record { refusals = h.refusals; such = (found, h.such, e); behind = h.behind }

  own-added : (e : TypeDef × Content) (all more : List (Vec Equation Global)) (v : Vec Equation Global) (old now : List Refusal) → more ≡ all ++ v ∷ [] → Adds (AreRead sorts operations e.1.items (bodies e.0) (equations_of v)) old now →
      AddsBoth (IsOwnOf sorts operations e) (map equations_of all) (map equations_of more) old now
  own-added e all more v old now f h = record {
    found = equations_of v ∷ [];
    refusals = h.refusals;
    such = (equations_of v, refl, h.such);
    found_behind = ap (map equations_of) f ∙ map-append equations_of all (v ∷ []);
    refused_behind = h.behind;
  }

  -- those of one more type
  pub own-next : (types : List TypeDef) (table : List Content) (i : ℕ) (x : TypeDef) (all more : List (Vec Equation Global)) (v : Vec Equation Global) (before mid after : List Refusal) →
      i < length types → length table ≡ length types → x ≡ get_or types i x →
      AddsBoth (Gathers (IsOwnOf sorts operations) (take i (zip types table))) [] (map equations_of all) before mid → more ≡ all ++ v ∷ [] →
      Adds (AreRead sorts operations (get_or table i no_content).items (bodies x) (equations_of v)) mid after →
      AddsBoth (Gathers (IsOwnOf sorts operations) (take (i + 1) (zip types table))) [] (map equations_of more) before after
  own-next types table i x all more v before mid after within same at h f k =
      let c = get_or table i no_content in
      let e : (x, c) ≡ get_or (zip types table) i (x, c) = ap (λ z. (z, c)) at ∙ ap (λ z. (get_or types i x, z)) (get_or_default table i no_content c (omega arith)) ∙ sym (get_or-zip types table i (x, c) within (omega arith)) in
      adds-next (IsOwnOf sorts operations) (zip types table) i (x, c) [] (map equations_of all) (map equations_of more) before mid after (omega (arith, length-zip types table)) e h
      (own-added (x, c) all more v mid after f k)

  pub own-all : (types : List TypeDef) (table : List Content) (i : ℕ) (now : List (List ConditionalEquation)) (before after : List Refusal) → length types ≤ i →
      AddsBoth (Gathers (IsOwnOf sorts operations) (take i (zip types table))) [] now before after → Adds (Gathers (IsOwnOf sorts operations) (zip types table) now) before after
  own-all types table i now before after past h =
      from-nothing (Gathers (IsOwnOf sorts operations) (zip types table)) now before after
      (adds-all (IsOwnOf sorts operations) (zip types table) i [] now before after (omega (arith, length-zip types table)) h)

-- what the types come to is what the definition says
own-of-types : (types : List TypeDef) (flat : FlatData) (own : List (List ConditionalEquation)) (rs : List Refusal) → Flattens types flat →
    Gathers (IsOwnOf (map described_of flat.sorts.items) (map described_of flat.operations.items)) (zip types flat.contents) own rs → AreOwnEquations types own rs
own-of-types types flat own rs f h =
    subst (λ t. Gathers (IsOwnOf (all_sorts types) (all_operations types)) (zip types t) own rs) f.contents
    (subst (λ o. Gathers (IsOwnOf (all_sorts types) o) (zip types flat.contents) own rs) f.operations
    (subst (λ s. Gathers (IsOwnOf s (map described_of flat.operations.items)) (zip types flat.contents) own rs) f.sorts h))

module _ (types : List TypeDef) (flat : FlatData) (own : List (List ConditionalEquation)) (none_yet now : List Refusal) (f : Flattens types flat)
    (h : Adds (Gathers (IsOwnOf (map described_of flat.sorts.items) (map described_of flat.operations.items)) (zip types flat.contents) own) none_yet now) (e : none_yet ≡ []) where
  all-there : AreOwnEquations types own now
  all-there = own-of-types types flat own now f
      (subst (Gathers (IsOwnOf (map described_of flat.sorts.items) (map described_of flat.operations.items)) (zip types flat.contents) own) (sym (h.behind ∙ ap (λ z. z ++ h.refusals) e)) h.such)

  pub none-refused : now ≡ [] → AreOwnEquations types own []
  none-refused n = subst (AreOwnEquations types own) n all-there

  pub some-refused : (r : Refusal) → first_refusal now ≡ Some r → (all : List (List ConditionalEquation)) × (refusals : List Refusal) × AreOwnEquations types all refusals × (first_refusal refusals ≡ Some r)
  some-refused r first = (own, now, all-there, first)
