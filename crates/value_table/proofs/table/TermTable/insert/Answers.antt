use Rattle.std.proofs.Common.{sym, subst, map}
use Rattle.spec_core.specs.Lists.{Each}
use Rattle.value_table.specs.Tables.{application_of, IsRow, HasRow}
use Rattle.value_table.proofs.Tables.{distinct_rows, grown_rows, made_grown, stored_row}
use Rattle.value_table.proofs.table.TermTable.insert.Goals as goal

pub invariant_of-self-2 : goal.invariant_of-self-2
invariant_of-self-2 c = record {
  made =
      made_grown (map application_of c.self.inside.rows.keys) (map application_of c.insert_full.new.self.keys)
      (application_of c.args.row) c.self.invariant.made
      (subst (λ rows. Each (IsRow rows) c.args.row.args.items) (sym c.self.view_is) c.requires.there)
      (grown_rows c.self.inside.rows.keys c.insert_full.new.self.keys c.args.row c.in_ok-place.ensures.keys);
  distinct = distinct_rows c.insert_full.new.self.keys c.insert_full.ensures.unique;
}

pub returns : goal.returns
returns c =
    subst (λ old. HasRow old (application_of c.args.row)
    (map application_of c.insert_full.new.self.keys) c.in_ok-place.place) c.self.view_is
    (record {
      here = stored_row c.insert_full.new.self.keys c.in_ok-place.place c.in_ok-place.ensures.stored.0 c.args.row
          c.in_ok-place.ensures.stored.1 c.in_ok-place.ensures.stored.2;
      grown = grown_rows c.self.inside.rows.keys c.insert_full.new.self.keys c.args.row c.in_ok-place.ensures.keys;
      table = record {
        made =
            made_grown (map application_of c.self.inside.rows.keys) (map application_of c.insert_full.new.self.keys)
            (application_of c.args.row) c.self.invariant.made
            (subst (λ rows. Each (IsRow rows) c.args.row.args.items) (sym c.self.view_is) c.requires.there)
            (grown_rows c.self.inside.rows.keys c.insert_full.new.self.keys c.args.row c.in_ok-place.ensures.keys);
        distinct = distinct_rows c.insert_full.new.self.keys c.insert_full.ensures.unique;
      };
    })
