use Rattle.std.proofs.Common.{◌≡◌, ◌<◌, map, length, sym, subst, inl, inr, ◌∙◌, ap}
use Rattle.std.proofs.lemmas.List.{length-replicate}
use Rattle.path_order.specs.Mentioning.{IsNoted, MentionsAt, HeadIsBelow}
use Rattle.spec_core.specs.Lists.{Each, OneOf}
use Rattle.spec_core.specs.Theories.{equation_of, theory_of}
use Rattle.path_order.proofs.Noting.{noted_next, noted_end, none_in_empty, one_image, image_one}
use Rattle.path_order.proofs.mentions.Mentions.of.Goals as goal

pub loop-equation-preserved : goal.loop-equation-preserved
loop-equation-preserved c =
    noted_next (λ e g h. MentionsAt (equation_of e) g h) c.deref-equation-items.result.now c.loop-equation.equation-index c.equation-item.result
    c.in_ok-mentions.mentions c.loop-equation.mentions c.note_equation.new.self c.loop-equation-test.true c.equation-item.is c.loop-equation.invariant c.in_ok-note_equation.ensures

pub returns : goal.returns
returns c =
    let items = c.deref-equation-items.result.now in
    let value : items ≡ c.args.algebra.now.equations.items = c.deref-equation-items.ensures.value in
    let count = c.heads_bound.result in
    let noted = noted_end (λ e g h. MentionsAt (equation_of e) g h) items c.loop-equation.equation-index c.in_ok-mentions.mentions c.loop-equation.mentions
    c.loop-equation-test.false c.loop-equation.invariant in
    record {
      sound = λ g h i. elim (noted.only g h i) [
        | inl o ↦ absurd (none_in_empty count g h (subst (λ rows. IsNoted rows g h) c.in_ok-mentions.ensures o))
        | inr o ↦ subst (λ es. OneOf (λ e. MentionsAt e g h) (map equation_of es)) value (one_image (λ e. MentionsAt e g h) equation_of items o)
      ];
      whole = λ g h m within. noted.added g h
          (image_one (λ e. MentionsAt e g h) equation_of items (subst (λ es. OneOf (λ e. MentionsAt e g h) (map equation_of es)) (sym value) m))
          (subst (λ k. g < k) noted.sized within);
      bound = subst (λ k. Each (HeadIsBelow k) (theory_of c.args.algebra.now).equations)
          (sym (noted.sized ∙ ap length c.in_ok-mentions.ensures ∙ length-replicate count _)) c.heads_bound.ensures;
    }
