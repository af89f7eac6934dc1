use Rattle.std.proofs.Common.{rules, ◌≡◌, ◌<◌, length, get_or}
use Rattle.sort_windows.proofs.Rows.{got_at}
use Rattle.sort_windows.proofs.filling.longer_by.Goals as goal

pub returns : goal.returns
returns c =
    let w = c.index-values-place.result in
    let within : c.args.place < length c.args.values.now = search rules in
    let at : w ≡ get_or c.args.values.now c.args.place w = search rules in
    (w, got_at c.args.values.now c.args.place w within at, c.in_ok-all.ensures)
