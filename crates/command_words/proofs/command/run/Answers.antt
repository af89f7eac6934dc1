use Rattle.std.proofs.Common.{map, string_bytes, option_map, option_and_then, ◌∙◌, sym, ap}
use Rattle.clap.specs.Words.{found_of, rows_of}
use Rattle.command_words.specs.Commands.{run_by}
use Rattle.command_words.specs.Readers.{found_in}
use Rattle.command_words.proofs.command.run.Goals as goal

pub returns-in-Some-clause-command : goal.returns-in-Some-clause-command
returns-in-Some-clause-command c =
    let found = sym (ap (option_map (λ m. rows_of (found_of m))) c.in-Some.is)
    ∙ (c.in_ok-matches.ensures ∙ ap (λ reader. found_in reader (map string_bytes c.args.words.now)) c.in_ok-run_reader.ensures) in
    c.run_by.ensures.command ∙ ap (option_and_then run_by) found

pub returns-in-None-clause-command : goal.returns-in-None-clause-command
returns-in-None-clause-command c =
    let found = sym (ap (option_map (λ m. rows_of (found_of m))) c.in-None.is)
    ∙ (c.in_ok-matches.ensures ∙ ap (λ reader. found_in reader (map string_bytes c.args.words.now)) c.in_ok-run_reader.ensures) in
    ap (option_and_then run_by) found
