use Rattle.std.proofs.Common.{◌∙◌, ◌++◌, ◌∷◌, [], ap, map, refl, if◌then◌else◌}
use Rattle.static_processes.specs.Processes.{is_innermost, standing_in}
use Rattle.static_processes.specs.Views.{entry_of}
use Rattle.static_processes.specs.WhereParts.{numbers_at}
use Rattle.static_processes.proofs.Numbered.{standing_next, standing_all}
use Rattle.static_processes.proofs.where_parts.WhereParts.of.Goals as goal

pub loop-number-preserved : goal.loop-number-preserved
loop-number-preserved c = λ within.
    let i = c.loop-number.number in
    let before = numbers_at c.loop-number.parts within in
    standing_next (λ ns. ns) (λ ns ms. refl) within c.args.table.now i c.index-table-number.result before (numbers_at c.add.new.self within) (standing_in (map entry_of c.args.table.now) within)
    c.loop-number-test.true c.index-table-number.is (c.loop-number.invariant within)
    (c.in_ok-add.ensures within ∙ ap (λ around. before ++ (if is_innermost within around then i ∷ [] else [])) c.deref.ensures.value)

pub returns : goal.returns
returns c = λ within.
    standing_all (λ ns. ns) refl within c.args.table.now c.loop-number.number (numbers_at c.loop-number.parts within) (standing_in (map entry_of c.args.table.now) within)
    c.loop-number-test.false (c.loop-number.invariant within)
