-- What is taken on for a search, and then for what the rules ask behind it.
use Rattle.std.proofs.Common.{◌≡◌, ◌++◌, List, [], refl, sym, ap, ◌∙◌, Bool, true, false}
use Rattle.std.proofs.lemmas.List.Sums.{fold-append}
use Rattle.decision_trees.specs.Rules.{when}
use Rattle.decision_order.specs.Jobs.{taken_on}

module _ {Q : Type 0} (take : List Q → Q → List Q) (old new xs : List Q) (search : new ≡ taken_on take old xs) where
  then : (ys : List Q) → taken_on take old (xs ++ ys) ≡ taken_on take new ys
  then ys = fold-append take old xs ys ∙ ap (λ l. taken_on take l ys) (sym search)

  -- no more is taken on
  pub then_full : (ys : List Q) → ((questions : List Q) → taken_on take new questions ≡ new) → new ≡ taken_on take old (xs ++ ys)
  then_full ys full = sym (then ys ∙ full ys)

  -- a candidate is known to hold, or none is
  pub then_held : (b : Bool) (ys zs last : List Q) → b ≡ true → last ≡ taken_on take new ys → last ≡ taken_on take old (xs ++ when b ys zs)
  then_held b ys zs last t e = e ∙ sym (then (when b ys zs) ∙ ap (λ c. taken_on take new (when c ys zs)) t)

  pub then_unheld : (b : Bool) (ys zs last : List Q) → b ≡ false → last ≡ taken_on take new zs →
      last ≡ taken_on take old (xs ++ when b ys zs)
  then_unheld b ys zs last t e = e ∙ sym (then (when b ys zs) ∙ ap (λ c. taken_on take new (when c ys zs)) t)

  pub then_none : (b : Bool) (ys : List Q) → b ≡ true → new ≡ taken_on take old (xs ++ when b [] ys)
  then_none b ys t = then_held b [] ys new t refl

  pub then_no_more : (b : Bool) (ys : List Q) → b ≡ false → new ≡ taken_on take old (xs ++ when b ys [])
  then_no_more b ys t = then_unheld b ys [] new t refl

pub ruleset skipping = (then_full, then_held, then_unheld, then_none, then_no_more)
