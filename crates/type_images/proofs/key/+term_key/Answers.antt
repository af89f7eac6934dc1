use Rattle.std.proofs.Common.{map, take, ap, sym, ◌∙◌}
use Rattle.std.specs.List.{fold}
use Rattle.std.proofs.lemmas.List.{take_all}
use Rattle.spec_core.specs.Terms.{term_of}
use Rattle.type_images.specs.Groups.{term_key, mixed}
use Rattle.type_images.proofs.Keys.{keys_of_terms}
use Rattle.type_images.proofs.Terms.{app_term}
use Rattle.type_images.proofs.key.+term_key.Goals as goal

pub returns-after-loop-arg-clause-number : goal.returns-after-loop-arg-clause-number
returns-after-loop-arg-clause-number t c =
    c.loop-arg.invariant.number
    ∙ ap (λ z. fold term_key z (map term_of (take c.loop-arg.arg-index c.deref-arg-items.result.now))) c.mixed-now.ensures.number
    ∙ ap (λ ts. fold term_key (mixed c.args.before c.in-App.op.0) (map term_of ts)) (take_all c.loop-arg.arg-index c.deref-arg-items.result.now c.loop-arg-test.false ∙ c.deref-arg-items.ensures.value)
    ∙ sym (keys_of_terms (mixed c.args.before c.in-App.op.0) (map term_of c.in-App.args.items))
    ∙ sym (ap (term_key c.args.before) (ap term_of c.in-App.is ∙ app_term c.in-App.op c.in-App.args))
