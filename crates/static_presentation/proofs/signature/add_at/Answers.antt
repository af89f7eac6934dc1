use Rattle.std.proofs.Common.{◌∙◌, ◌++◌, ◌∷◌, [], ap, sym, map}
use Rattle.std.specs.List.{cons_option}
use Rattle.std.proofs.lemmas.List.{map-append, append-nil}
use Rattle.type_contents.specs.Views.{described_of}
use Rattle.static_presentation.proofs.Had.{there, past}
use Rattle.static_presentation.proofs.signature.add_at.Goals as goal

pub returns-in_ok-push : goal.returns-in_ok-push
returns-in_ok-push c =
    let had = c.args.had.now.items in
    let copy = c.in_ok-copied.field-0 in
    ap (map described_of) c.in_ok-push.ensures.items ∙ map-append described_of had (copy ∷ []) ∙ ap (λ d. map described_of had ++ d ∷ []) c.in_ok-copied.ensures
    ∙ ap (λ o. map described_of had ++ cons_option o []) (sym (there described_of c.args.all.now c.args.number c.index-all-number.result c.if-number-all.true c.index-all-number.is))

pub returns-else-number-all : goal.returns-else-number-all
returns-else-number-all c =
    let had = map described_of c.args.had.now.items in
    sym (append-nil had) ∙ ap (λ o. had ++ cons_option o []) (sym (past described_of c.args.all.now c.args.number c.if-number-all.false))
