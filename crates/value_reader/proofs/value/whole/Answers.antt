use Rattle.std.proofs.Common.{rules, ◌≡◌, ◌∙◌, ap, sym, length, Some}
use Rattle.spec_core.specs.Numbers.{op_number, sort_number}
use Rattle.value_reader.specs.Views.{bracket_of, stand_of, state_of}
use Rattle.value_reader.proofs.Taking.{stack_length}
use Rattle.value_reader.proofs.Values.{value_so, whole_so}
use Rattle.value_reader.proofs.value.whole.Goals as goal

pub returns-then-len-eq1 : goal.returns-then-len-eq1
returns-then-len-eq1 c =
    let none : length c.args.reading.brackets.items ≡ 0 = search rules in
    let one : length c.args.reading.sorts.items ≡ 1 = search rules in
    whole_so (stand_of c.args.reading.stand) (state_of c.args.reading).brackets (state_of c.args.reading).sorts (state_of c.args.reading).value
    (ap stand_of c.in-HasTerm.is) (stack_length bracket_of c.args.reading.brackets.items ∙ none)
    (stack_length sort_number c.args.reading.sorts.items ∙ one)
    ∙ ap Some (sym (c.new.ensures.spelled ∙ value_so op_number c.args.reading.ops.items c.reverse.new.self.items c.reverse.ensures.items))
