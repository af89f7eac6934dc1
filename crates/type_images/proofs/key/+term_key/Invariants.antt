use Rattle.std.proofs.Common.{◌≡◌, ◌<◌, map, take}
use Rattle.std.specs.List.{fold}
use Rattle.spec_core.specs.Terms.{term_of}
use Rattle.type_images.specs.Groups as groups
use Rattle.type_images.proofs.key.+term_key.Given as goal

abbrev pub invariant-loop-arg : goal.invariant-loop-arg
invariant-loop-arg l = record {
  number : l.now ≡ fold groups.term_key l.initial.now (map term_of (take l.arg-index l.arg-items));
  bound : l.now < 4294967296;
}
