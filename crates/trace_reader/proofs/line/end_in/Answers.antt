use Rattle.std.proofs.Common.{rules, ◌≡◌, ◌∙◌, [], Some, true, false, ap, sym, refl, is_none}
use Rattle.std.proofs.lemmas.List.{append-nil}
use Rattle.rule_model.specs.Events.{ending_of}
use Rattle.spec_core.proofs.Lists.{untrue}
use Rattle.trace_text.specs.Names.{names_with}
use Rattle.trace_text.specs.Trace.{end_word}
use Rattle.trace_reader.proofs.line.end_in.Goals as goal

pub returns-then-is_lost-clause-none : goal.returns-then-is_lost-clause-none
returns-then-is_lost-clause-none c ending fits e =
    let names = names_with c.args.vocabulary.now in
    let q = c.in_ok-end.ensures.finds ending [] fits refl (c.new-cursor.ensures ∙ ap Some (e ∙ sym (append-nil (end_word names ending)))) in
    let wrong : true ≡ false = sym c.if-is_lost.true ∙ c.is_lost.ensures ∙ ap is_none q.1 in
    cc

pub returns-else-is_same-clause-none : goal.returns-else-is_same-clause-none
returns-else-is_same-clause-none c ending fits e =
    let names = names_with c.args.vocabulary.now in
    let q = c.in_ok-end.ensures.finds ending [] fits refl (c.new-cursor.ensures ∙ ap Some (e ∙ sym (append-nil (end_word names ending)))) in
    let printed : c.as_bytes.result.now ≡ end_word names (ending_of c.in_ok-end.end) = search rules in
    untrue (c.if-is_same.ensures.1 (e ∙ ap (end_word names) (sym q.0) ∙ sym printed))
