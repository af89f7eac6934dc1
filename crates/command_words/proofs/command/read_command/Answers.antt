use Rattle.std.proofs.Common.{◌≡◌, ◌-◌, ◌∙◌, ap, drop, length, map, option_map, string_bytes, sym, take}
use Rattle.std.proofs.lemmas.Result.{IfOk-weaker}
use Rattle.command_words.specs.Commands.{command_named, command_of, run_of}
use Rattle.command_words.proofs.Named.{run_named}
use Rattle.command_words.proofs.command.read_command.Goals as goal

pub returns-in-run-clause-command : goal.returns-in-run-clause-command
returns-in-run-clause-command c =
    let name = sym (ap string_bytes c.name-item.is) ∙ (sym c.as_str.ensures.value ∙ c.in-run.is) in
    IfOk-weaker c.run.result
    (λ r. option_map command_named r ≡ run_of (map string_bytes (take (length c.args.words.now - 1) (drop 1 c.args.words.now))))
    (λ r. option_map command_named r ≡ command_of (map string_bytes c.args.words.now))
    (λ r h. run_named c.args.words.now c.name-item.result c.in-len1-up.len_at_least name (option_map command_named r) h) c.run.ensures.command
