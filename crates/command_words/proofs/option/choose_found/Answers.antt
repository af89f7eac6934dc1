use Rattle.std.proofs.Common.{option_and_then, ◌∙◌, sym, ap}
use Rattle.clap.specs.Words.{first_of, found_of, rows_of}
use Rattle.command_words.specs.Options.{chosen_by, name_of}
use Rattle.command_words.proofs.option.choose_found.Goals as goal

pub returns-in-Some-clause-choices : goal.returns-in-Some-clause-choices
returns-in-Some-clause-choices c =
    let rows = rows_of (found_of c.args.matches.now) in
    let word = c.text_at.ensures ∙ ap (λ id. first_of id rows) c.name.ensures in
    c.choose_by.ensures.choices
    ∙ (ap (λ word. chosen_by c.args.option word c.in-Some.choices) word
    ∙ sym (ap (option_and_then (chosen_by c.args.option (first_of (name_of c.args.option) rows))) c.in-Some.is))
