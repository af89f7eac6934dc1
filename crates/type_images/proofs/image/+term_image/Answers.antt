use Rattle.std.proofs.Common.{map, ap, sym, ◌∙◌}
use Rattle.std.proofs.lemmas.List.{take_all}
use Rattle.spec_core.specs.Terms.{term_of, apply, terms}
use Rattle.type_images.specs.Images.{term_image, new_number}
use Rattle.type_images.proofs.Terms.{app_term, images_of_terms}
use Rattle.type_images.proofs.image.+term_image.Goals as goal

pub returns-after-loop-arg : goal.returns-after-loop-arg
returns-after-loop-arg t c =
    app_term record { 0 = c.new_number.result } c.loop-arg.all
    ∙ ap (λ z. apply z (terms (map term_of c.loop-arg.all.items))) c.new_number.ensures
    ∙ ap (λ ts. apply (new_number c.args.news.now c.in-App.op.0) (terms ts))
    (c.loop-arg.invariant ∙ ap (λ ts. map (term_image c.args.news.now) (map term_of ts)) (take_all c.loop-arg.arg-index c.deref-arg-items.result.now c.loop-arg-test.false ∙ c.deref-arg-items.ensures.value))
    ∙ ap (apply (new_number c.args.news.now c.in-App.op.0)) (sym (images_of_terms c.args.news.now (map term_of c.in-App.args.items)))
    ∙ sym (ap (term_image c.args.news.now) (ap term_of c.in-App.is ∙ app_term c.in-App.op c.in-App.args))
