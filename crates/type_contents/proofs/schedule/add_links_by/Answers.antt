use Rattle.std.proofs.Common.{◌∙◌, ap, sym, map, ◌++◌, ◌∷◌, [], append_assoc}
use Rattle.type_contents.specs.Uses.{number_of, uses_by}
use Rattle.type_contents.proofs.schedule.add_links_by.Goals as goal

pub returns-in_ok-add_links-in-Actualized : goal.returns-in_ok-add_links-in-Actualized
returns-in_ok-add_links-in-Actualized c = λ types h.
    let old = c.args.all.now.items in
    let f = number_of types in
    let named = c.deref-in-Actualized.result.now in
    c.in_ok-add_links-in-Actualized.ensures types h ∙ ap (λ z. z ++ map f named) (c.in_ok-add_link-in-Actualized.ensures types h)
    ∙ append_assoc old (f c.in-Actualized.source ∷ []) (map f named) ∙ ap (λ z. old ++ f c.in-Actualized.source ∷ map f z) c.deref-in-Actualized.ensures.value
    ∙ ap (λ b. old ++ map f (uses_by b)) (sym c.in-Actualized.is)
