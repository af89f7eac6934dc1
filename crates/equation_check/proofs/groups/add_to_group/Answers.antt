use Rattle.std.proofs.Common.{◌<◌, ◌∙◌, ◌∷◌, ◌++◌, [], length, ap, sym, rules}
use Rattle.spec_core.specs.Theories.{equation_of}
use Rattle.equation_check.specs.Groups.{IsIndexed}
use Rattle.equation_check.proofs.Grouping.{group_at, group_set, group_kept}
use Rattle.equation_check.proofs.Indexing.{groups_set, group_of_place}
use Rattle.equation_check.proofs.groups.add_to_group.Goals as goal

pub add-requires : goal.add-requires
add-requires c =
    let groups = c.args.groups.now.items in
    let w : c.args.place < length groups = search rules in
    group_of_place IsIndexed groups c.args.place c.index_mut-group.result.now w c.index_mut-group.ensures.value c.requires.indexed

pub returns-clause-added : goal.returns-clause-added
returns-clause-added c =
    let groups = c.args.groups.now.items in
    let w : c.args.place < length groups = search rules in
    group_set groups c.args.place c.add.new.self w ∙ c.in_ok-add.ensures.added
    ∙ ap (λ es. es ++ equation_of c.args.equation.now ∷ []) (sym (group_at groups c.args.place c.index_mut-group.result.now w c.index_mut-group.ensures.value))

pub returns-clause-others : goal.returns-clause-others
returns-clause-others c f n = group_kept c.args.groups.now.items c.args.place c.add.new.self f n

pub returns-clause-indexed : goal.returns-clause-indexed
returns-clause-indexed c =
    groups_set IsIndexed c.args.groups.now.items c.args.place c.add.new.self c.requires.indexed c.in_ok-add.ensures.indexed
