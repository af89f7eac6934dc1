use Rattle.std.proofs.Common.{◌∷◌, ◌∙◌, [], Some, IsSome, ap, sym, subst, refl, codes}
use Rattle.std.proofs.lemmas.List.{append-nil}
use Rattle.rule_model.specs.Events.{OfferName, pended}
use Rattle.trace_text.specs.Names.{names_with}
use Rattle.trace_text.specs.Trace.{offer_text}
use Rattle.trace_reader.specs.Cursors.{past}
use Rattle.trace_reader.proofs.Ends.{nothing_fields}
use Rattle.trace_reader.proofs.entry.read_offer_entry.Goals as goal

pub returns-clause-finds : goal.returns-clause-finds
returns-clause-finds c name offer fits fits_offer e =
    let names = names_with c.args.vocabulary.now in
    let one = c.read_name-client.ensures.finds name (32 ∷ offer_text names offer) fits refl e in
    let two = c.skip.ensures ∙ ap (past (codes " ")) one.1 in
    let q =
    c.in_ok-offer.ensures.finds offer [] fits_offer (nothing_fields [] refl) (two ∙ ap Some (sym (append-nil (offer_text names offer)))) in (
      ap (λ (z : OfferName). pended z.0 z.1 c.in_ok-offer.offer c.args.ask) one.0 ∙ ap (λ z. pended name.0 name.1 z c.args.ask) q.0,
      subst IsSome (sym q.1) refl,
    )
