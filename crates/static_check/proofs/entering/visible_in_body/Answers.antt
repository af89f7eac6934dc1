use Rattle.std.proofs.Common.{◌∙◌, ◌++◌, ◌∷◌, [], ap}
use Rattle.static_processes.specs.NamedParts.{headings_at}
use Rattle.static_processes.specs.Processes.{visible_in}
use Rattle.static_check.proofs.entering.visible_in_body.Goals as goal

pub returns : goal.returns
returns c = λ headings table are.
    c.in_ok-all.ensures headings table are
    ∙ ap (λ ns. headings_at headings (visible_in table ns)) (c.deref.ensures.value ∙ c.in_ok-extend_from_slice.ensures.items
    ∙ ap (λ ns. ns ++ c.args.around.now) (c.in_ok-push.ensures.items ∙ ap (λ ns. ns ++ c.args.number ∷ []) c.new-within.ensures.items))
