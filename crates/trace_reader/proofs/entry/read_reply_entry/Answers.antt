use Rattle.std.proofs.Common.{◌∷◌, ◌++◌, ◌∙◌, [], Some, IsSome, ap, sym, subst, refl, codes}
use Rattle.std.proofs.lemmas.List.{append-nil}
use Rattle.rule_model.specs.Answers.{answer_of}
use Rattle.rule_model.specs.Events.{OfferName, replied}
use Rattle.trace_text.specs.Names.{names_with}
use Rattle.trace_text.specs.Trace.{answer_word, event_line, name_text}
use Rattle.trace_reader.specs.Cursors.{past}
use Rattle.trace_reader.proofs.entry.read_reply_entry.Goals as goal

pub returns-clause-finds : goal.returns-clause-finds
returns-clause-finds c name answer fits fits_answer e =
    let names = names_with c.args.vocabulary.now in
    let one = c.read_name-client.ensures.finds name (32 ∷ answer_word names answer) fits refl e in
    let two = c.skip.ensures ∙ ap (past (codes " ")) one.1 in
    let q = c.in_ok-reply.ensures.finds answer [] fits_answer refl (two ∙ ap Some (sym (append-nil (answer_word names answer)))) in (
      ap (λ (z : OfferName). event_line names (replied z.0 z.1 (answer_of c.in_ok-reply.reply))) one.0
          ∙ ap (λ z. codes "reply " ++ name_text name ++ codes " " ++ z) q.0,
      subst IsSome (sym q.1) refl,
    )
