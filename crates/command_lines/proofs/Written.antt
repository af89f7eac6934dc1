-- What a sink has taken after one text and another.
use Rattle.std.proofs.Common.{ℕ, ◌≡◌, ◌+◌, List, [], ◌++◌, Option, Some, None, length, take, refl, ap, sym, subst, ◌∙◌, append_assoc}
use Rattle.std.proofs.Math.Seq.{take-append-add}
use Rattle.std.proofs.lemmas.List.{append-nil}
use Rattle.lotos_outside.specs.Sink.{with_more, AppendsPrefix}

pub more_nothing : (written : Option (List ℕ)) → with_more [] written ≡ written
more_nothing None = refl
more_nothing (Some held) = ap Some (append-nil held)

-- two texts, one behind another, are one text
pub more_both : (first second : List ℕ) (written : Option (List ℕ)) →
    with_more second (with_more first written) ≡ with_more (first ++ second) written
more_both first second None = refl
more_both first second (Some held) = ap Some (append_assoc held first second)

-- nothing is a prefix of each text
pub nothing_more : (text : List ℕ) (before after : Option (List ℕ)) → after ≡ before → AppendsPrefix text before after
nothing_more text before after same = (0, same ∙ sym (more_nothing before))

-- a text behind which a prefix of another was written
pub prefix_both : (first second : List ℕ) (before between after : Option (List ℕ)) → between ≡ with_more first before →
    AppendsPrefix second between after → AppendsPrefix (first ++ second) before after
prefix_both first second before between after is (count, h) = (
  length first + count,
  h ∙ ap (with_more (take count second)) is ∙ more_both first (take count second) before
      ∙ sym (ap (λ l. with_more l before) (take-append-add first second count)),
)
