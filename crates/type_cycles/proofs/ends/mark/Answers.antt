use Rattle.std.proofs.Common.{subst, sym, ◌∙◌, []}
use Rattle.std.specs.List.{Contains}
use Rattle.std.proofs.lemmas.List.{get_or_default}
use Rattle.type_cycles.proofs.Marks.{one_more}
use Rattle.type_cycles.proofs.ends.mark.Goals as goal

pub returns : goal.returns
returns c =
    one_more c.args.links.now c.args.marks.now c.args.number c.requires.within c.requires.marked
    (λ j h. c.are_marked.ensures c.if-not-are_marked.false j
    (subst (λ zs. Contains zs j) (sym (c.as_slice.ensures ∙ c.index-links-number.is ∙ get_or_default c.args.links.now c.args.number c.index-links-number.result [] c.requires.within)) h))
