use Rattle.std.proofs.Common.{◌+◌, ◌<◌, ◌≤◌, length}
use Rattle.lotos_lexer.proofs.Steps.{Reading}
use Rattle.lotos_lexer.proofs.tokenize.spelled_tokens.Given as goal

abbrev pub invariant-pieces : goal.invariant-pieces
invariant-pieces l = record {
  reading : Reading l.text l.all.items l.opened l.place l.rest;
  column : 0 < l.place.column;
  bound : l.place.line + l.place.column + length l.rest ≤ length l.text + 2;
}

abbrev pub decreases-pieces : goal.decreases-pieces
decreases-pieces l = length l.rest
