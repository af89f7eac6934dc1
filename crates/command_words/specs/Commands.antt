-- The commands, and the words that name them (this profile): the command, and behind it what `clap` has matches of, each option with a number
-- in its range.
use Rattle.std.specs.Prelude.{ℕ, ◌<◌, ◌≤◌, List, [], ◌∷◌, if◌then◌else◌, Option, None, option_map, option_and_then, codes}
use Rattle.std.specs.Str.{bytes_eq}
use Rattle.clap.specs.Walk.{Row, first_of}
use Rattle.run_settings.specs.declared.settings.Settings.{Settings}
use Rattle.trace_text.specs.declared.format.Format as formats
use Rattle.command_words.specs.declared.command.Command as words
use Rattle.command_words.specs.declared.command.Command.TheVariants.{Run, Check, Equal, Replay, Migrate, Sim, Selfrun}
use Rattle.command_words.specs.declared.option.Choices.{Choices}
use Rattle.command_words.specs.declared.option.OptionName.TheVariants.{Budget, Values, Steps, Seed, Draw, Workers, Format}
use Rattle.command_words.specs.Numbers.{number_at}
use Rattle.command_words.specs.Options.{choices_of}
use Rattle.command_words.specs.Readers.{run_reader, check_reader, equal_reader, replay_reader, migrate_reader, sim_reader, selfrun_reader, found_in}

pub data Command : Type 0 where
  -- a session of the specification in the first file, whose clients make the offers of the script in the second, by these settings and with
  -- so many workers, and whose trace is in this format
  run : List ℕ → List ℕ → Settings → ℕ → formats.Format → Command
  -- whether the specification in the file is accepted
  check : List ℕ → Command
  -- whether two terms of the specification in the file are equal, with so many uses of equations for each
  equal : List ℕ → List ℕ → List ℕ → ℕ → Command
  -- whether the trace in the second file is a derivation of the specification in the first, with so many uses of equations for each term
  replay : List ℕ → List ℕ → ℕ → Command
  -- the trace in the second file, of the specification in the first, in format 2
  migrate : List ℕ → List ℕ → Command
  -- a simulation of the specification in the file, by these settings
  sim : List ℕ → Settings → Command
  -- a session over the specification that is generated for so many cells, whose client makes the offers of the script that a seed gives for
  -- them, with so many workers: the seed, the cells, the workers
  selfrun : ℕ → ℕ → ℕ → Command

-- what each command is told by what `clap` finds, which is each word that the command names (`WantedWordsAreFound`, in Laws)

abbrev pub run_by : List Row → Option Command
run_by rows =
    option_and_then (λ specification. option_and_then (λ script. option_map (λ (c : Choices). run specification script c.settings c.workers c.format)
    (choices_of (Workers ∷ Budget ∷ Values ∷ Steps ∷ Seed ∷ Draw ∷ Format ∷ []) rows)) (first_of (codes "SCRIPT") rows)) (first_of (codes "SPEC") rows)

abbrev pub check_by : List Row → Option Command
check_by rows = option_map check (first_of (codes "SPEC") rows)

abbrev pub equal_by : List Row → Option Command
equal_by rows =
    option_and_then (λ specification. option_and_then (λ first. option_and_then (λ second. option_map (λ (c : Choices).
    equal specification first second c.settings.budget)
    (choices_of (Budget ∷ []) rows)) (first_of (codes "SECOND") rows)) (first_of (codes "FIRST") rows)) (first_of (codes "SPEC") rows)

abbrev pub replay_by : List Row → Option Command
replay_by rows =
    option_and_then (λ specification. option_and_then (λ trace. option_map (λ (c : Choices). replay specification trace c.settings.budget)
    (choices_of (Budget ∷ []) rows)) (first_of (codes "TRACE") rows)) (first_of (codes "SPEC") rows)

abbrev pub migrate_by : List Row → Option Command
migrate_by rows =
    option_and_then (λ specification. option_map (λ trace. migrate specification trace) (first_of (codes "TRACE") rows)) (first_of (codes "SPEC") rows)

abbrev pub sim_by : List Row → Option Command
sim_by rows =
    option_and_then (λ specification. option_map (λ (c : Choices). sim specification c.settings)
    (choices_of (Budget ∷ Values ∷ Steps ∷ []) rows)) (first_of (codes "SPEC") rows)

abbrev pub selfrun_by : List Row → Option Command
selfrun_by rows =
    option_and_then (λ seed. option_and_then (λ size. option_map (λ (c : Choices). selfrun seed size c.workers)
    (choices_of (Workers ∷ []) rows)) (number_at (codes "SIZE") 1 64 rows)) (number_at (codes "SEED") 0 4294967295 rows)

-- what each command is told by the words behind it

abbrev pub run_of : List (List ℕ) → Option Command
run_of words = option_and_then run_by (found_in run_reader words)

abbrev pub check_of : List (List ℕ) → Option Command
check_of words = option_and_then check_by (found_in check_reader words)

abbrev pub equal_of : List (List ℕ) → Option Command
equal_of words = option_and_then equal_by (found_in equal_reader words)

abbrev pub replay_of : List (List ℕ) → Option Command
replay_of words = option_and_then replay_by (found_in replay_reader words)

abbrev pub migrate_of : List (List ℕ) → Option Command
migrate_of words = option_and_then migrate_by (found_in migrate_reader words)

abbrev pub sim_of : List (List ℕ) → Option Command
sim_of words = option_and_then sim_by (found_in sim_reader words)

abbrev pub selfrun_of : List (List ℕ) → Option Command
selfrun_of words = option_and_then selfrun_by (found_in selfrun_reader words)

-- the command that words name, if they name one
abbrev pub command_of : List (List ℕ) → Option Command
command_of (name ∷ words) = if bytes_eq name (codes "run") then run_of words
    else if bytes_eq name (codes "check") then check_of words
    else if bytes_eq name (codes "equal") then equal_of words
    else if bytes_eq name (codes "replay") then replay_of words
    else if bytes_eq name (codes "migrate") then migrate_of words
    else if bytes_eq name (codes "sim") then sim_of words
    else if bytes_eq name (codes "selfrun") then selfrun_of words
    else None
command_of [] = None

-- what a value of the program stands for
abbrev pub command_named : words.Command → Command
command_named (Run specification script settings workers format) = run specification.now script.now settings workers format
command_named (Check specification) = check specification.now
command_named (Equal specification first second budget) = equal specification.now first.now second.now budget
command_named (Replay specification trace budget) = replay specification.now trace.now budget
command_named (Migrate specification trace) = migrate specification.now trace.now
command_named (Sim specification settings) = sim specification.now settings
command_named (Selfrun seed size workers) = selfrun seed size workers

-- a session has at most 64 workers, and a generated one from 1 to 64 cells
abbrev pub IsWithinRanges : words.Command → Type 0
IsWithinRanges (Run specification script settings workers format) = workers ≤ 64
IsWithinRanges (Check specification) = Unit {0}
IsWithinRanges (Equal specification first second budget) = Unit {0}
IsWithinRanges (Replay specification trace budget) = Unit {0}
IsWithinRanges (Migrate specification trace) = Unit {0}
IsWithinRanges (Sim specification settings) = Unit {0}
IsWithinRanges (Selfrun seed size workers) = (0 < size) × (size ≤ 64) × (workers ≤ 64)
