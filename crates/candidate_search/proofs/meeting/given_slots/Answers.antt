use Rattle.std.proofs.Common.{rules, ◌≡◌, arith, length, map}
use Rattle.rule_model.specs.declared.rules.Slot.TheVariants.{Of}
use Rattle.symbolic_rules.specs.Tables.{windows_in}
use Rattle.candidate_search.proofs.Slots.{given_alone, given_listed, same_as}
use Rattle.candidate_search.proofs.meeting.given_slots.Goals as goal

pub returns-then-not-is_empty : goal.returns-then-not-is_empty
returns-then-not-is_empty c = λ theory.
    let w = windows_in c.args.windows.now in
    let u = c.args.given.now in
    let slots : c.new.result ≡ same_as u (map Of (w.values c.args.sort.0)) = search rules in
    given_listed theory w u c.args.sort.0 c.new.result slots (λ none. grind arith)

pub returns : goal.returns
returns c = λ theory.
    let w = windows_in c.args.windows.now in
    let u = c.args.given.now in
    let slots : c.in_ok-all.all.items ≡ same_as u (map Of (w.values c.args.sort.0)) = search rules in
    let none : length c.in_ok-all.all.items ≡ 0 = grind arith in
    given_alone theory w u c.args.sort.0 c.in_ok-all.all.items c.new-2.result slots none (search rules)
