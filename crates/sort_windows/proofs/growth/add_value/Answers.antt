use Rattle.std.proofs.lemmas.Result.{on_ok_weaker}
use Rattle.sort_windows.proofs.Rows.{gained_at}
use Rattle.sort_windows.proofs.growth.add_value.Goals as goal

pub returns : goal.returns
returns c = record {
  gained =
      on_ok_weaker c.insert.result
      (gained_at c.args.limit c.args.sort.0 c.args.value c.make_room.new.windows.items _ c.index_mut.result.now
      c.insert.new.self c.in_ok-make_room.ensures.room c.index_mut.ensures.value c.in_ok-make_room.ensures.same)
      c.insert.ensures.gained;
}
