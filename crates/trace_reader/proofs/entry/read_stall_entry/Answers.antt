use Rattle.std.proofs.Common.{rules, ◌≡◌, ◌∙◌, [], Some, IsSome, ap, sym, subst, refl, length}
use Rattle.std.proofs.lemmas.List.{append-nil, nil_from_length}
use Rattle.rule_model.specs.Events.{stalled}
use Rattle.trace_reader.proofs.entry.read_stall_entry.Goals as goal
use Rattle.trace_reader.proofs.entry.read_stall_entry.Goals.{then-is_empty, else-is_empty}

pub returns-clause-finds : goal.returns-clause-finds
returns-clause-finds c names some fits e =
    let k = c.in_ok-names.ensures.finds names [] fits refl (e ∙ ap Some (sym (append-nil _))) in (
      ap stalled k.0,
      elim c.if-is_empty.branch [
        | then-is_empty w ↦
            let none : length c.in_ok-names.names.items ≡ 0 = search rules in
            absurd (some (sym k.0 ∙ nil_from_length c.in_ok-names.names.items none))
        | else-is_empty w ↦ subst IsSome (sym (w.cursor-is ∙ k.1)) refl
      ],
    )
