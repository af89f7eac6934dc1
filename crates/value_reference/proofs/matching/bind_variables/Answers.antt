use Rattle.std.proofs.Common.{ℕ, ◌≡◌, ◌<◌, ◌+◌, ◌∷◌, [], map, length, ap, ◌∙◌, arith, below_more, length-append}
use Rattle.spec_core.specs.Substitutions.{substitution_of}
use Rattle.spec_core.specs.Terms.{term_of, Occurs}
use Rattle.value_reference.proofs.TermLists.{substitution-push, substitution-last}
use Rattle.value_reference.proofs.matching.bind_variables.Goals as goal

pub loop-variable-preserved : goal.loop-variable-preserved
loop-variable-preserved c =
    let pushed = c.in_ok-push.ensures.items in
    let counted = c.loop-variable.invariant.counted in
    record {
      counted = ap length pushed ∙ length-append c.loop-variable.bound.items (c.in_ok-bind_variable.field-0 ∷ []) ∙ ap (λ n. n + 1) counted;
      agree = λ s x e o within.
          let P : ℕ → Type 0 = λ y. Occurs y (term_of c.args.pattern.now) → substitution_of (map term_of c.push.new.self.items) y ≡ s y in
          let all : (y : ℕ) → y < c.loop-variable.variable + 1 → P y = below_more P c.loop-variable.variable
          (λ y below o.
          ap (λ ts. substitution_of (map term_of ts) y) pushed
          ∙ substitution-push c.loop-variable.bound.items c.in_ok-bind_variable.field-0 y (omega (arith, counted))
          ∙ c.loop-variable.invariant.agree s y e o below)
          (λ o.
          ap (λ ts. substitution_of (map term_of ts) c.loop-variable.variable) pushed
          ∙ substitution-last c.loop-variable.bound.items c.in_ok-bind_variable.field-0 c.loop-variable.variable counted
          ∙ c.in_ok-bind_variable.ensures s e o)
          in
          all x within o;
    }
