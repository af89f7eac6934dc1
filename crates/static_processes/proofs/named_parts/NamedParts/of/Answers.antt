use Rattle.std.proofs.Common.{◌∙◌, ◌++◌, ◌∷◌, [], ap, map, refl, if◌then◌else◌}
use Rattle.static_readings.specs.Views.{heading_of}
use Rattle.static_processes.specs.NamedParts.{processes_at, headings_at}
use Rattle.static_processes.specs.Processes.{is_innermost, standing_in}
use Rattle.static_processes.specs.Views.{entry_of}
use Rattle.static_processes.proofs.Numbered.{standing_next, standing_all}
use Rattle.static_processes.proofs.HeadingsAt.{headings_both}
use Rattle.static_processes.proofs.named_parts.NamedParts.of.Goals as goal

pub loop-number-preserved : goal.loop-number-preserved
loop-number-preserved c = λ within.
    let i = c.loop-number.number in
    let headings = map heading_of c.args.headings.now in
    let before = processes_at c.loop-number.parts within in
    standing_next (headings_at headings) (headings_both headings) within c.args.table.now i c.index-table-number.result before (processes_at c.add_numbered.new.self within)
    (headings_at headings (standing_in (map entry_of c.args.table.now) within))
    c.loop-number-test.true c.index-table-number.is (c.loop-number.invariant within)
    (c.in_ok-add_numbered.ensures within
    ∙ ap (λ around. before ++ headings_at headings (if is_innermost within around then i ∷ [] else [])) c.deref.ensures.value)

pub returns : goal.returns
returns c = λ within.
    let headings = map heading_of c.args.headings.now in
    standing_all (headings_at headings) refl within c.args.table.now c.loop-number.number (processes_at c.loop-number.parts within)
    (headings_at headings (standing_in (map entry_of c.args.table.now) within)) c.loop-number-test.false (c.loop-number.invariant within)
