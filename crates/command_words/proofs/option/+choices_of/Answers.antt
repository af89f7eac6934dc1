use Rattle.std.proofs.Common.{option_and_then, ◌∙◌, sym, ap}
use Rattle.clap.specs.Words.{found_of, rows_of}
use Rattle.command_words.proofs.Choices.{first_chosen}
use Rattle.command_words.proofs.option.+choices_of.Goals as goal

pub returns-in-len1-up-clause-choices : goal.returns-in-len1-up-clause-choices
returns-in-len1-up-clause-choices t c =
    c.choose_found.ensures.choices
    ∙ (ap (option_and_then _) c.choices_of.ensures.choices
    ∙ sym (first_chosen c.args.known.now (rows_of (found_of c.args.matches.now)) _ c.in-len1-up.len_at_least))
