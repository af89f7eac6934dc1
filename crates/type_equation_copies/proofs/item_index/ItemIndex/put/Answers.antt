use Rattle.type_equation_copies.proofs.Named.{found_after}
use Rattle.type_equation_copies.proofs.item_index.ItemIndex.put.Goals as goal

pub returns-clause-numbers : goal.returns-clause-numbers
returns-clause-numbers c = λ other.
    let old = c.args.self.now in
    found_after other c.args.item.now old.numbers.entries c.insert.new.self.entries c.args.number old.count
    (c.in_ok-insert.ensures.updates.0 (record { ref_ptr = (0, 0); now = other }))
