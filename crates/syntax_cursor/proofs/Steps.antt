-- The rows by which what a parser's functions read is put together: for parts of parts, and for one token.
use Rattle.lotos_ast.proofs.Rows.{reads_kept_at, reads_sequence_at, reads_left_at, reads_right_at, reads_absent_at, reads_present_at, reads_no_more_at, reads_more_at, reads_placed_at, reads_reduced_at, reads_bracketed_at, reads_enclosed_at, reads_part_at}
use Rattle.syntax_cursor.proofs.Rows.{reads_passed, reads_unless, reads_if, halts_memory, halts_unexpected, halts_unkept, halts_too_deep, halts_kept_too_deep, halts_first, halts_second, halts_left, halts_right, halts_optional, halts_repeated, halts_later, halts_placed, halts_reduced, halts_bracketed, halts_enclosed, halts_part}

pub ruleset steps = (
  reads_sequence_at,
  reads_left_at,
  reads_right_at,
  reads_absent_at,
  reads_present_at,
  reads_no_more_at,
  reads_more_at,
  reads_placed_at,
  reads_reduced_at,
  reads_bracketed_at,
  reads_enclosed_at,
  reads_part_at,
  reads_unless,
  reads_if,
  halts_memory,
  halts_first,
  halts_second,
  halts_left,
  halts_right,
  halts_optional,
  halts_repeated,
  halts_later,
  halts_placed,
  halts_reduced,
  halts_bracketed,
  halts_enclosed,
  halts_part,
)

pub ruleset token_steps = (reads_passed, reads_kept_at, halts_memory, halts_unexpected, halts_unkept, halts_too_deep, halts_kept_too_deep)
