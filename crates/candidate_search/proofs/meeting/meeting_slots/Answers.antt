use Rattle.std.proofs.Common.{rules}
use Rattle.std.proofs.lemmas.Bool.{ne_eqb}
use Rattle.std.proofs.lemmas.Result.{IfOk-weaker}
use Rattle.spec_core.specs.Theories.{theory_of}
use Rattle.symbolic_plans.specs.Plans.{field_of}
use Rattle.symbolic_rules.specs.Tables.{windows_in}
use Rattle.candidate_search.proofs.Slots.{blank_given, blank_passed, blank_taken}
use Rattle.candidate_search.proofs.meeting.meeting_slots.Goals as goal

pub returns-in-Give : goal.returns-in-Give
returns-in-Give c =
    let theory = theory_of c.args.algebra.now in
    IfOk-weaker c.given_slots.result _ _
    (λ kept h.
    blank_given theory (windows_in c.args.windows.now) (field_of c.args.column.now) c.in-Blank.field-1 c.in-Blank.sort.0 c.args.field.now
    c.in-Give.given kept (search rules) c.in-Give.is c.requires.unmarked (h theory))
    c.given_slots.ensures

pub returns-then-sort-other : goal.returns-then-sort-other
returns-then-sort-other c =
    IfOk-weaker c.slots_of_column.result _ _
    (λ kept h.
    blank_taken (theory_of c.args.algebra.now) (windows_in c.args.windows.now) (field_of c.args.column.now) c.in-Blank.field-1 c.in-Blank.sort.0
    c.args.field.now c.in-Take.other kept (search rules) c.in-Take.is c.if-sort-other.true h)
    c.slots_of_column.ensures

pub returns-else-sort-other : goal.returns-else-sort-other
returns-else-sort-other c =
    blank_passed (theory_of c.args.algebra.now) (windows_in c.args.windows.now) (field_of c.args.column.now) c.in-Blank.field-1
    c.in-Blank.sort.0 c.args.field.now c.in-Take.other c.new-else-sort-other.result (search rules) c.in-Take.is
    (ne_eqb c.in-Blank.sort.0 c.in-Take.other.0 c.if-sort-other.false) (search rules)
