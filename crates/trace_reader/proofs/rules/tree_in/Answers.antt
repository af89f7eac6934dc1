use Rattle.std.proofs.Common.{◌≡◌, ◌∙◌, [], Some, IsSome, true, false, ap, sym, subst, refl, is_none}
use Rattle.std.proofs.lemmas.List.{append-nil}
use Rattle.trace_text.specs.Names.{names_with}
use Rattle.trace_text.specs.Trace.{tree_text}
use Rattle.trace_reader.proofs.Ends.{nothing_tree}
use Rattle.trace_reader.proofs.rules.tree_in.Goals as goal
use Rattle.trace_reader.proofs.rules.tree_in.Goals.{then-is_lost, else-is_lost}

pub returns-clause-finds : goal.returns-clause-finds
returns-clause-finds c d fits e =
    let text = tree_text (names_with c.args.vocabulary.now) d in
    let k = c.in_ok-rules.ensures.finds d [] fits (nothing_tree [] refl) (c.new-inner.ensures ∙ ap Some (e ∙ sym (append-nil text))) in (
      k.0,
      λ some. elim c.if-is_lost.branch [
        | then-is_lost w ↦ let wrong : true ≡ false = sym w.if-is_lost.true ∙ c.is_lost.ensures ∙ ap is_none k.1 in cc
        | else-is_lost w ↦ subst IsSome (sym w.cursor-is) some
      ],
    )
