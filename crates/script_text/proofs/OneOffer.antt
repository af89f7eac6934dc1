-- An offer means one thing, or has one fault.
use Rattle.std.proofs.Common.{ℕ, ◌≡◌, ◌<◌, List, [], ◌∷◌, false, ◌||◌, Some, inl, inr, length, refl, sym, ap, ◌∙◌, arith}
use Rattle.std.specs.Prelude.{is_none}
use Rattle.std.specs.List.{list_any, position_or_len}
use Rattle.std.proofs.lemmas.Option.{same_Some}
use Rattle.lotos_ast.specs.declared.text_kind.TextKind.{TextKind}
use Rattle.spec_core.specs.Code.{Program}
use Rattle.spec_core.specs.Lists.{Each, OneOf}
use Rattle.spec_core.specs.Theories.{Theory}
use Rattle.spec_core.proofs.Options.{some_none}
use Rattle.sort_overloads.specs.Listed.{is_same_name}
use Rattle.sort_overloads.specs.Readings.{Context}
use Rattle.script_text.specs.Faults.{IsOfferFault, no_gate, no_sort, no_term}
use Rattle.script_text.specs.Meanings.{context_in, first_named, has_unknown_sort, HasUnclearTerm, FieldMeans, FieldsMean, OfferMeans}
use Rattle.script_text.specs.Scripts.{FieldFits, WishFits}
use Rattle.script_text.specs.Wishes.{WishedField, gives, takes, Wished}
use Rattle.script_text.specs.Written.{Field, given, taken}
use Rattle.script_text.proofs.FirstLines.{some_at}
use Rattle.script_text.proofs.OneReadings.{reading_sorts_known, reading_sort}

-- a field means one thing
one_field : (c : Context) (f : Field) (w v : WishedField) → FieldMeans c f w → FieldMeans c f v → w ≡ v
one_field c (given e) (gives t) (gives u) h k = ap gives ((k.1.only t h.0 tt h.1.reading).0)
one_field c (given e) (gives t) (takes s) h k = absurd k
one_field c (given e) (takes s) v h k = absurd h
one_field c (taken name) (gives t) v h k = absurd h
one_field c (taken name) (takes s) (gives t) h k = absurd k
one_field c (taken name) (takes s) (takes r) h k = ap takes (same_Some _ _ (sym h ∙ k))

one_list : (c : Context) (fs : List Field) (ws vs : List WishedField) → FieldsMean c fs ws → FieldsMean c fs vs → ws ≡ vs
one_list c [] [] [] h k = refl
one_list c [] [] (v ∷ vs) h k = absurd k
one_list c [] (w ∷ ws) vs h k = absurd h
one_list c (f ∷ fs) [] vs h k = absurd h
one_list c (f ∷ fs) (w ∷ ws) [] h k = absurd k
one_list c (f ∷ fs) (w ∷ ws) (v ∷ vs) h k =
    ap (λ z. z ∷ ws) (one_field c f w v h.0 k.0) ∙ ap (λ z. v ∷ z) (one_list c fs ws vs h.1 k.1)

same_wish : (x y : Wished) → x.ask ≡ y.ask → x.gate ≡ y.gate → x.fields ≡ y.fields → x ≡ y
same_wish x y a b c =
    ap (λ k. record { ask = k; gate = x.gate; fields = x.fields }) a
    ∙ ap (λ k. record { ask = y.ask; gate = k; fields = x.fields }) b
    ∙ ap (λ k. record { ask = y.ask; gate = y.gate; fields = k }) c

pub one_offer_meaning : (c : Context) (gates : List (List ℕ)) (name : List ℕ) (fields : List Field) (x y : Wished) → x.ask ≡ y.ask →
    OfferMeans c gates name fields x → OfferMeans c gates name fields y → x ≡ y
one_offer_meaning c gates name fields x y e h k =
    same_wish x y e (same_Some _ _ (sym h.gate ∙ k.gate)) (one_list c fields x.fields y.fields h.meant k.meant)

-- what is wrong with an offer is wrong with nothing that means something
field_known : (c : Context) (f : Field) (w : WishedField) → FieldMeans c f w → has_unknown_sort c f ≡ false
field_known c (given e) (gives t) h = reading_sorts_known c e t h.0 h.1.reading
field_known c (given e) (takes s) h = absurd h
field_known c (taken name) (gives t) h = absurd h
field_known c (taken name) (takes s) h = ap is_none h

fields_known : (c : Context) (fs : List Field) (ws : List WishedField) → FieldsMean c fs ws → list_any (has_unknown_sort c) fs ≡ false
fields_known c [] ws h = refl
fields_known c (f ∷ fs) [] h = absurd h
fields_known c (f ∷ fs) (w ∷ ws) h =
    ap (λ b. b || list_any (has_unknown_sort c) fs) (field_known c f w h.0) ∙ fields_known c fs ws h.1

field_clear : (c : Context) (f : Field) (w : WishedField) → FieldMeans c f w → HasUnclearTerm c f → ⊥
field_clear c (given e) (gives t) h k = k.none t h.0 h.1
field_clear c (given e) (takes s) h k = h
field_clear c (taken name) w h k = k

fields_clear : (c : Context) (fs : List Field) (ws : List WishedField) → FieldsMean c fs ws → OneOf (HasUnclearTerm c) fs → ⊥
fields_clear c [] ws h k = k
fields_clear c (f ∷ fs) [] h k = h
fields_clear c (f ∷ fs) (w ∷ ws) h (inl k) = field_clear c f w h.0 k
fields_clear c (f ∷ fs) (w ∷ ws) h (inr k) = fields_clear c fs ws h.1 k

pub offer_or_fault : (c : Context) (gates : List (List ℕ)) (name : List ℕ) (fields : List Field) (x : Wished) (kind : TextKind) →
    OfferMeans c gates name fields x → IsOfferFault c gates name fields kind → ⊥
offer_or_fault c gates name fields x _ h (no_gate k) = some_none _ h.gate k
offer_or_fault c gates name fields x _ h (no_sort g j k) = let known = fields_known c fields x.fields h.meant in cc
offer_or_fault c gates name fields x _ h (no_term g j k m) = fields_clear c fields x.fields h.meant m

pub one_offer_fault : (c : Context) (gates : List (List ℕ)) (name : List ℕ) (fields : List Field) (kind other : TextKind) →
    IsOfferFault c gates name fields kind → IsOfferFault c gates name fields other → kind ≡ other
one_offer_fault c gates name fields _ _ (no_gate h) (no_gate k) = refl
one_offer_fault c gates name fields _ _ (no_gate h) (no_sort g j k) = absurd (some_none _ j h)
one_offer_fault c gates name fields _ _ (no_gate h) (no_term g j k m) = absurd (some_none _ j h)
one_offer_fault c gates name fields _ _ (no_sort g i h) (no_gate k) = absurd (some_none _ i k)
one_offer_fault c gates name fields _ _ (no_sort g i h) (no_sort q j k) = refl
one_offer_fault c gates name fields _ _ (no_sort g i h) (no_term q j k s) = absurd (cc)
one_offer_fault c gates name fields _ _ (no_term g i h t) (no_gate k) = absurd (some_none _ i k)
one_offer_fault c gates name fields _ _ (no_term g i h t) (no_sort q j k) = absurd (cc)
one_offer_fault c gates name fields _ _ (no_term g i h t) (no_term q j k s) = refl

-- what an offer means fits the specification
named_below : (name : List ℕ) (names : List (List ℕ)) (n : ℕ) → first_named name names ≡ Some n → n < length names
named_below name names n h =
    let r = some_at (position_or_len (λ other. is_same_name other name) names) (length names) n h in omega (arith, r.0, r.1)

field_fits : (theory : Theory) (f : Field) (w : WishedField) → FieldMeans (context_in theory) f w → FieldFits theory w
field_fits theory (given e) (gives t) h = (h.0, reading_sort theory e t h.0 h.1.reading)
field_fits theory (given e) (takes s) h = absurd h
field_fits theory (taken name) (gives t) h = absurd h
field_fits theory (taken name) (takes s) h = named_below name.text theory.sorts s h

fields_fit : (theory : Theory) (fs : List Field) (ws : List WishedField) → FieldsMean (context_in theory) fs ws → Each (FieldFits theory) ws
fields_fit theory [] [] h = tt
fields_fit theory [] (w ∷ ws) h = absurd h
fields_fit theory (f ∷ fs) [] h = absurd h
fields_fit theory (f ∷ fs) (w ∷ ws) h = (field_fits theory f w h.0, fields_fit theory fs ws h.1)

pub offer_fits : (program : Program) (name : List ℕ) (fields : List Field) (w : Wished) →
    OfferMeans (context_in program.theory) program.gates name fields w → WishFits program w
offer_fits program name fields w h = record {
  gate = named_below name program.gates w.gate h.gate;
  fields = fields_fit program.theory fields w.fields h.meant;
}
