use Rattle.std.proofs.Common.{rules, ◌≡◌, length, take}
use Rattle.spec_core.specs.Theories.{theory_of}
use Rattle.sort_windows.specs.Found.{windows_of}
use Rattle.sort_windows.proofs.Cut.{window_of_closed}
use Rattle.sort_windows.proofs.first_values.first_values.Goals as goal

pub returns : goal.returns
returns c =
    let values : c.truncate.new.self.items ≡ take c.args.k (windows_of c.args.windows.now c.args.sort.0) = search rules in
    let many : c.len.result ≡ length (windows_of c.args.windows.now c.args.sort.0) = search rules in
    window_of_closed (theory_of c.args.algebra.now) c.args.k c.args.sort.0 (windows_of c.args.windows.now)
    c.requires.closed c.requires.windows _ _ _ values many c.are_all-complete.ensures
