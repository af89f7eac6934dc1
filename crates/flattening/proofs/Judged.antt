-- What is refused of types is what is refused of what they come to.
use Rattle.std.proofs.Common.{ℕ, zero, suc, ◌≡◌, List, ◌++◌, length, map, ap, sym, ◌∙◌, append_assoc}
use Rattle.std.proofs.lemmas.List.{length-map}
use Rattle.std.proofs.lemmas.List.Concat.{flat_map-append}
use Rattle.lotos_ast.specs.declared.place.Place.{Place}
use Rattle.lotos_ast.specs.declared.refusal.Refusal.{Refusal}
use Rattle.lotos_ast.specs.declared.types.Pairs.{Pairs}
use Rattle.lotos_ast.specs.declared.types.TypeDef.{TypeDef}
use Rattle.type_contents.specs.Items.{Item, Described}
use Rattle.type_contents.specs.Rounds.{rounds}
use Rattle.type_contents.specs.Contents.{contents, no_content, made_from}
use Rattle.type_contents.specs.Numbering.{all_sorts}
use Rattle.type_contents.specs.Views.{described_of}
use Rattle.type_contents.specs.declared.flat.FlatData.{FlatData}
use Rattle.type_copies.specs.BadActuals.{bad_actual, bad_actuals}
use Rattle.flattening.specs.Flattens.{Flattens}
use Rattle.flattening.specs.Refusals.{refusals_by, refusals_of}
use Rattle.flattening.specs.Views.{all_of}

length_rounds : {D A : Type 0} (nothing : A) (make : List A → D → A) (all : List D) (n : ℕ) → length (rounds nothing make all n) ≡ length all
length_rounds nothing make all zero = length-map all (λ _. nothing)
length_rounds nothing make all (suc n) = length-map all (make (rounds nothing make all n))

pub as_many : (types : List TypeDef) (flat : FlatData) → Flattens types flat → length flat.contents ≡ length types
as_many types flat h = ap length h.contents ∙ length_rounds no_content (made_from types) types (length types)

pub judged : (types : List TypeDef) (flat : FlatData) → Flattens types flat → refusals_by types flat.contents (all_of flat) ≡ refusals_of types
judged types flat h =
    ap (λ t. refusals_by types t (all_of flat)) h.contents
    ∙ ap (refusals_by types (contents types)) (ap (λ s. s ++ map described_of flat.operations.items) h.sorts ∙ ap (λ o. all_sorts types ++ o) h.operations)

-- what is refused of sorts, and then of operations
pub both_bad : (place : Place) (pairs : Pairs) (formals actual : List Item) (sorts operations : List Described) (h now then : List Refusal) → now ≡ h ++ bad_actuals place pairs formals actual sorts → then ≡ now ++ bad_actuals place pairs formals actual operations → then ≡ h ++ bad_actuals place pairs formals actual (sorts ++ operations)
both_bad place pairs formals actual sorts operations h now then before more =
    more ∙ ap (λ z. z ++ bad_actuals place pairs formals actual operations) before
    ∙ append_assoc h (bad_actuals place pairs formals actual sorts) (bad_actuals place pairs formals actual operations)
    ∙ ap (λ z. h ++ z) (sym (flat_map-append (bad_actual place pairs formals actual) sorts operations))
