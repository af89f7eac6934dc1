-- Things read one after another.
use Rattle.std.proofs.Common.{ℕ, ◌≡◌, List, [], ◌∷◌, ◌++◌, Option, Some, None, IsSome, IfSome, refl, sym, ap, subst, ◌∙◌, flat_map, append_assoc}
use Rattle.std.proofs.lemmas.List.{append-nil}
use Rattle.spec_core.specs.Lists.{Each}
use Rattle.spec_core.proofs.Lists.{each_push}
use Rattle.trace_reader.specs.Cursors.{Finds, IsLeft, Reading}

-- one step: what it found, and where the cursor then stands
pub record IsStep {X : Type 0} (text_of : X → List ℕ) (Fits : X → Type 0) (Ends EndsOne : List ℕ → Type 0) (now new : Option (List ℕ)) (o : Option X) :
    Type 0 where
  pub finds : Finds text_of Fits EndsOne now new (λ x. o ≡ Some x)
  pub stops : (rest : List ℕ) → Ends rest → now ≡ Some rest → (o ≡ None) × (new ≡ Some rest)
  pub fits : IsSome new → IfSome o Fits
  pub kept : IsSome new → IsSome now

module _ {X : Type 0} (text_of : X → List ℕ) (Fits : X → Type 0) (Ends EndsOne : List ℕ → Type 0)
    (goes : (ys : List X) (rest : List ℕ) → Ends rest → EndsOne (flat_map text_of ys ++ rest)) where
  pub reading_none : (start : Option (List ℕ)) (before : List X) → Reading text_of Fits Ends start before before start
  reading_none start before = record {
    collects = λ xs rest fits ends e. record { more = xs; fits = fits; whole = refl; left = e };
    fits = λ h k. h;
    kept = λ h. h;
  }

  module _ (start : Option (List ℕ)) (before done : List X) (now new : Option (List ℕ)) (o : Option X)
      (so_far : Reading text_of Fits Ends start before done now) (step : IsStep text_of Fits Ends EndsOne now new o) where
    next_left : (y : X) → o ≡ Some y → (all more : List X) (rest : List ℕ) → Ends rest → Each Fits more → all ≡ done ++ more →
        now ≡ Some (flat_map text_of more ++ rest) → IsLeft text_of Fits all (done ++ y ∷ []) rest new
    next_left y here all [] rest ends f w l = absurd (let k = (step.stops rest ends l).0 in let wrong : None ≡ Some y = sym k ∙ here in cc)
    next_left y here all (x ∷ more) rest ends f w l =
        let k =
        step.finds x (flat_map text_of more ++ rest) f.0 (goes more rest ends) (l ∙ ap Some (append_assoc (text_of x) (flat_map text_of more) rest)) in
        let both : Some x ≡ Some y = sym k.0 ∙ here in
        let same : x ≡ y = cc in
        record {
          more = more;
          fits = f.1;
          whole = w ∙ ap (λ z. done ++ z ∷ more) same ∙ sym (append_assoc done (y ∷ []) more);
          left = k.1;
        }

    -- a step that found one more
    pub reading_next : (y : X) → o ≡ Some y → (after : List X) → after ≡ done ++ y ∷ [] → Reading text_of Fits Ends start before after new
    reading_next y here after e = subst (λ l. Reading text_of Fits Ends start before l new) (sym e) (record {
      collects = λ xs rest fits ends a.
          let k = so_far.collects xs rest fits ends a in next_left y here (before ++ xs) k.more rest ends k.fits k.whole k.left;
      fits = λ h k. each_push Fits done y (so_far.fits h (step.kept k)) (subst (λ z. IfSome z Fits) here (step.fits k));
      kept = λ k. so_far.kept (step.kept k);
    })

    all_left : o ≡ None → (all more : List X) (rest : List ℕ) → Ends rest → Each Fits more → all ≡ done ++ more →
        now ≡ Some (flat_map text_of more ++ rest) → (done ≡ all) × (new ≡ Some rest)
    all_left none all [] rest ends f w l = (sym (w ∙ append-nil done), (step.stops rest ends l).1)
    all_left none all (x ∷ more) rest ends f w l =
        let k =
        (step.finds x (flat_map text_of more ++ rest) f.0 (goes more rest ends) (l ∙ ap Some (append_assoc (text_of x) (flat_map text_of more) rest))).0 in
        absurd (let wrong : None ≡ Some x = sym none ∙ k in cc)

    -- a step that found nothing
    pub reading_all : o ≡ None → Finds (flat_map text_of) (Each Fits) Ends start new (λ xs. done ≡ before ++ xs)
    reading_all none xs rest fits ends e =
        let k = so_far.collects xs rest fits ends e in all_left none (before ++ xs) k.more rest ends k.fits k.whole k.left
