use Rattle.std.proofs.Common.{◌≡◌, ◌++◌, map, replicate}
use Rattle.script_text.specs.Wishes.{all_wished_of}
use Rattle.script_text.proofs.Grouping.{no_wishes}
use Rattle.script_text.proofs.script.make_room.Given as goal

abbrev pub invariant-missing : goal.invariant-missing
invariant-missing l = map all_wished_of l.clients.items ≡ map all_wished_of l.initial.clients.items ++ replicate l._added no_wishes
