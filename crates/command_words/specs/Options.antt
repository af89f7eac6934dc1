-- Options of a command and their numbers (this profile).
use Rattle.std.specs.Prelude.{ℕ, ◌≤◌, nat_eq, if◌then◌else◌, List, [], ◌∷◌, Option, Some, None, option_map, option_and_then, codes}
use Rattle.clap.specs.Walk.{Row, first_of}
use Rattle.run_settings.specs.declared.settings.Draw as draws
use Rattle.run_settings.specs.declared.settings.Draw.TheVariants.{Rotation, Squares}
use Rattle.trace_text.specs.declared.format.Format as formats
use Rattle.trace_text.specs.declared.format.Format.TheVariants.{One, Two}
use Rattle.command_words.specs.Numbers.{number_within}
use Rattle.command_words.specs.declared.option.Choices.{Choices}
use Rattle.command_words.specs.declared.option.OptionName.{OptionName}
use Rattle.command_words.specs.declared.option.OptionName.TheVariants.{Budget, Values, Steps, Seed, Draw, Workers, Format}

-- what stands behind the two hyphens of an option
abbrev pub name_of : OptionName → List ℕ
name_of Budget = codes "budget"
name_of Values = codes "values"
name_of Steps = codes "steps"
name_of Seed = codes "seed"
name_of Draw = codes "draw"
name_of Workers = codes "workers"
name_of Format = codes "format"

-- the least and the greatest number that it may be given
abbrev pub least : OptionName → ℕ
least Budget = 1
least Values = 1
least Steps = 1
least Seed = 0
least Draw = 1
least Workers = 0
least Format = 1

abbrev pub greatest : OptionName → ℕ
greatest Budget = 4294967296
greatest Values = 256
greatest Steps = 1000000
greatest Seed = 4294967295
greatest Draw = 2
greatest Workers = 64
greatest Format = 2

-- what holds where no option is given
abbrev pub usual : Choices
usual = record { settings = record { budget = 1000000; values = 16; steps = 10000; seed = 0; draw = Rotation }; workers = 0; format = One }

-- the draw with a number, 1 or 2
abbrev pub draw_numbered : ℕ → draws.Draw
draw_numbered number = if nat_eq number 1 then Rotation else Squares

-- the format with a number, 1 or 2
abbrev pub format_numbered : ℕ → formats.Format
format_numbered number = if nat_eq number 1 then One else Two

-- the choices with another number for the option
abbrev pub choosing : OptionName → Choices → ℕ → Choices
choosing Budget c number = record c { settings = record c.settings { budget = number } }
choosing Values c number = record c { settings = record c.settings { values = number } }
choosing Steps c number = record c { settings = record c.settings { steps = number } }
choosing Seed c number = record c { settings = record c.settings { seed = number } }
choosing Draw c number = record c { settings = record c.settings { draw = draw_numbered number } }
choosing Workers c number = record c { workers = number }
choosing Format c number = record c { format = format_numbered number }

-- the number that a word gives an option: one in the option's range
abbrev pub number_of : OptionName → List ℕ → Option ℕ
number_of option = number_within (least option) (greatest option)

-- the choices with what a word gives the option; they stay where no word does
abbrev pub chosen_by : OptionName → Option (List ℕ) → Choices → Option Choices
chosen_by option None choices = Some choices
chosen_by option (Some word) choices = option_map (choosing option choices) (number_of option word)

-- the choices by what `clap` finds for these options, where each word is a number for its option
abbrev pub choices_of : List OptionName → List Row → Option Choices
choices_of [] rows = Some usual
choices_of (option ∷ options) rows = option_and_then (chosen_by option (first_of (name_of option) rows)) (choices_of options rows)

-- the number of workers is in its range
abbrev pub HasFewWorkers : Choices → Type 0
HasFewWorkers c = c.workers ≤ greatest Workers
