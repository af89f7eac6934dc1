-- Fields, one after another.
use Rattle.std.proofs.Common.{◌≡◌, List, [], ◌∷◌, ◌++◌, inl, inr, map, sym, subst, ap, ◌∙◌, append_assoc}
use Rattle.std.proofs.lemmas.List.{append-nil, map-append}
use Rattle.spec_core.specs.Lists.{OneOf}
use Rattle.sort_overloads.specs.Readings.{Context}
use Rattle.script_text.specs.Meanings.{HasUnclearTerm, FieldMeans, FieldsMean}
use Rattle.script_text.specs.declared.wish.WishField.{WishField}
use Rattle.script_text.specs.Wishes.{WishedField, wished_field_of}
use Rattle.script_text.specs.Written.{Field}

-- these are the meanings of the fields before the rest
pub record MeantSoFar (c : Context) (fields : List Field) (done : List WishedField) (rest : List Field) : Type 0 where
  pub all : (ws : List WishedField) → FieldsMean c rest ws → FieldsMean c fields (done ++ ws)
  pub unclear : OneOf (HasUnclearTerm c) rest → OneOf (HasUnclearTerm c) fields

pub meant_begin : (c : Context) (fields : List Field) → MeantSoFar c fields [] fields
meant_begin c fields = record { all = λ ws h. h; unclear = λ h. h }

pub meant_next : (c : Context) (fields : List Field) (before done : List WishedField) (f : Field) (w : WishedField) (here rest : List Field) →
    MeantSoFar c fields before here → here ≡ f ∷ rest → FieldMeans c f w → done ≡ before ++ w ∷ [] → MeantSoFar c fields done rest
meant_next c fields before done f w here rest m is h e = record {
  all = λ ws k. subst (λ z. FieldsMean c fields z) (sym (append_assoc before (w ∷ []) ws) ∙ ap (λ z. z ++ ws) (sym e))
      (m.all (w ∷ ws) (subst (λ z. FieldsMean c z (w ∷ ws)) (sym is) (h, k)));
  unclear = λ k. m.unclear (subst (λ z. OneOf (HasUnclearTerm c) z) (sym is) (inr k));
}

pub meant_stop : (c : Context) (fields : List Field) (done : List WishedField) (f : Field) (here rest : List Field) →
    MeantSoFar c fields done here → here ≡ f ∷ rest → HasUnclearTerm c f → OneOf (HasUnclearTerm c) fields
meant_stop c fields done f here rest m is h = m.unclear (subst (λ z. OneOf (HasUnclearTerm c) z) (sym is) (inl h))

pub meant_finish : (c : Context) (fields : List Field) (done : List WishedField) (here : List Field) → MeantSoFar c fields done here → here ≡ [] →
    FieldsMean c fields done
meant_finish c fields done here m is =
    subst (λ z. FieldsMean c fields z) (append-nil done) (m.all [] (subst (λ z. FieldsMean c z []) (sym is) tt))

-- a field more, pushed
pub meant_push : (c : Context) (fields : List Field) (before after : List WishField) (f : Field) (w : WishField) (here rest : List Field) →
    MeantSoFar c fields (map wished_field_of before) here → here ≡ f ∷ rest → FieldMeans c f (wished_field_of w) → after ≡ before ++ w ∷ [] →
    MeantSoFar c fields (map wished_field_of after) rest
meant_push c fields before after f w here rest m is h e =
    meant_next c fields (map wished_field_of before) (map wished_field_of after) f (wished_field_of w) here rest m is h
    (ap (map wished_field_of) e ∙ map-append wished_field_of before (w ∷ []))

pub ruleset meaning_steps = (meant_begin, meant_finish)
