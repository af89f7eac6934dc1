use Rattle.std.proofs.Common.{◌+◌, ◌≤◌, map, length}
use Rattle.sort_overloads.specs.Views.{context_of}
use Rattle.script_text.specs.Wishes.{all_wished_of}
use Rattle.script_text.proofs.Reading.{ReadSoFar}
use Rattle.script_text.proofs.script.read_lines.Given as goal

abbrev pub invariant-lines : goal.invariant-lines
invariant-lines l = record {
  so_far : ReadSoFar (context_of l.vocabulary.scope) l.gates l.text (map all_wished_of l.clients.items) l.number l.rest;
  bound : l.number + length l.rest ≤ length l.text;
}

abbrev pub decreases-lines : goal.decreases-lines
decreases-lines l = length l.rest
