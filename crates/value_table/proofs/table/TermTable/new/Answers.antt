use Rattle.std.proofs.Common.{rules, map, ◌≡◌, [], sym, subst}
use Rattle.value_table.specs.Tables.{application_of, AreMade}
use Rattle.value_table.proofs.Tables.{distinct_rows}
use Rattle.value_table.proofs.table.TermTable.new.Goals as goal

pub invariant_of-result : goal.invariant_of-result
invariant_of-result c =
    let e : c.new.result.keys ≡ [] = search rules in
    record {
      made = subst (λ keys. AreMade 0 (map application_of keys)) (sym e) tt;
      distinct = distinct_rows c.new.result.keys c.new.ensures.unique;
    }
