-- The line that tells of a session. (This profile.)
use Rattle.std.specs.Prelude.{ℕ, List, ◌++◌, codes, decimal}
use Rattle.spec_core.specs.Code.{Program}
use Rattle.rule_model.specs.Events.{Event, Ending}
use Rattle.trace_text.specs.Names.{names_in}
use Rattle.trace_text.specs.Trace.{end_word}
use Rattle.command_selfrun.specs.declared.counts.Counts.{Counts}
use Rattle.command_selfrun.specs.Tallies.{counts_of}

abbrev pub counts_text : Counts → List ℕ
counts_text c =
    codes "actions " ++ decimal c.actions ++ codes " taken " ++ decimal c.taken ++ codes " internal " ++ decimal c.internal ++
    codes " other " ++ decimal c.other ++ codes " end "

-- what there was of each kind, and how the session ended
abbrev pub line_of : Program → List Event → Ending → List ℕ
line_of program log ending = counts_text (counts_of log) ++ end_word (names_in program) ending ++ codes "\n"
