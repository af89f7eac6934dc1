-- An option, and those behind it.
use Rattle.std.proofs.Common.{◌≡◌, ◌≤◌, ◌-◌, ap, sym, List, [], ◌∷◌, length, take, drop, slice_index_or, option_and_then, arith}
use Rattle.std.proofs.lemmas.List.{take_all}
use Rattle.clap.specs.Walk.{Row, first_of}
use Rattle.command_words.specs.declared.option.OptionName.{OptionName}
use Rattle.command_words.specs.Options.{chosen_by, choices_of, name_of}

pub first_chosen : (known : List OptionName) (rows : List Row) (other : OptionName) → 1 ≤ length known →
    choices_of known rows
    ≡ option_and_then (chosen_by (slice_index_or known 0 other) (first_of (name_of (slice_index_or known 0 other)) rows))
    (choices_of (take (length known - 1) (drop 1 known)) rows)
first_chosen [] rows other h = absurd (omega arith)
first_chosen (option ∷ options) rows other h =
    let all = take_all (length (option ∷ options) - 1) options (omega arith) in
    sym (ap (λ behind. option_and_then (chosen_by option (first_of (name_of option) rows)) (choices_of behind rows)) all)
