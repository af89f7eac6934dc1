use Rattle.std.proofs.Common.{◌≡◌, map, replicate, []}
use Rattle.path_order.specs.Mentioning.{numbers_of}
use Rattle.path_order.proofs.mentions.Mentions.empty.Given as goal

abbrev pub invariant-loop : goal.invariant-loop
invariant-loop l = map numbers_of l.rows.items ≡ replicate l.counter []
