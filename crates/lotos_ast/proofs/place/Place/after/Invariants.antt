use Rattle.std.proofs.Common.{◌≡◌, ◌+◌, ◌<◌, ◌≤◌, drop}
use Rattle.lotos_ast.specs.Places.{place_after}
use Rattle.lotos_ast.proofs.place.Place.after.Given as goal

abbrev pub invariant-loop-byte : goal.invariant-loop-byte
invariant-loop-byte l = record {
  place : place_after l.fn.self l.bytes ≡ place_after l.place (drop l.byte-index l.bytes);
  column : 0 < l.place.column;
  bound : l.place.line + l.place.column ≤ l.fn.self.line + l.fn.self.column + l.byte-index;
}
