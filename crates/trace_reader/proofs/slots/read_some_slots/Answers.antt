use Rattle.std.proofs.Common.{◌∙◌, ◌∷◌, ◌++◌, ap, codes}
use Rattle.trace_text.specs.Names.{names_with}
use Rattle.trace_reader.specs.Cursors.{further_texts, past}
use Rattle.trace_reader.proofs.Ends.{slots_go, square_slots}
use Rattle.trace_reader.proofs.slots.read_some_slots.Goals as goal

pub returns-clause-finds : goal.returns-clause-finds
returns-clause-finds c x xs rest fits e =
    let names = names_with c.args.vocabulary.now in
    let one =
    c.in_ok-first.ensures.finds x (further_texts names xs ++ (93 ∷ rest)) fits.0 (slots_go names xs (93 ∷ rest) (square_slots rest)) e in
    let more = c.in_ok-slots.ensures.finds xs (93 ∷ rest) fits.1 (square_slots rest) one.1 in
    (more.0 ∙ ap (λ z. z ∷ xs) one.0, c.skip.ensures ∙ ap (past (codes "]")) more.1)
