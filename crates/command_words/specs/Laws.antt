-- What follows from the definitions.
use Rattle.std.specs.Prelude.{ℕ, ◌≡◌, ◌⊎◌, ◌↔◌, List, [], ◌∷◌, map, Option, Some, None, is_some, true, codes}
use Rattle.clap.specs.Simple.{App}
use Rattle.clap.specs.Walk.{Row, Text, first_of}
use Rattle.spec_core.specs.Lists.{Each, OneOf}
use Rattle.command_words.specs.declared.option.OptionName.{OptionName}
use Rattle.command_words.specs.declared.option.OptionName.TheVariants.{Budget, Values, Steps, Seed, Draw, Workers, Format}
use Rattle.command_words.specs.Commands.{Command, run_of, check_of, equal_of, replay_of, migrate_of, sim_of, selfrun_of}
use Rattle.command_words.specs.Numbers.{number_within}
use Rattle.command_words.specs.Options.{name_of, least, greatest}
use Rattle.command_words.specs.Readers.{run_reader, check_reader, equal_reader, replay_reader, migrate_reader, sim_reader, selfrun_reader, found_in}

-- wherever `clap` has matches of words, it finds a word under each of these names
abbrev pub Finds : App → List Text → Type 0
Finds reader ids =
    (words : List Text) (rows : List Row) → found_in reader words ≡ Some rows → Each (λ id. is_some (first_of id rows) ≡ true) ids

-- each command: the words that it names are found
pub record WantedWordsAreFound : Type 0 where
  pub run : Finds run_reader (codes "SPEC" ∷ codes "SCRIPT" ∷ [])
  pub check : Finds check_reader (codes "SPEC" ∷ [])
  pub equal : Finds equal_reader (codes "SPEC" ∷ codes "FIRST" ∷ codes "SECOND" ∷ [])
  pub replay : Finds replay_reader (codes "SPEC" ∷ codes "TRACE" ∷ [])
  pub migrate : Finds migrate_reader (codes "SPEC" ∷ codes "TRACE" ∷ [])
  pub sim : Finds sim_reader (codes "SPEC" ∷ [])
  pub selfrun : Finds selfrun_reader (codes "SEED" ∷ codes "SIZE" ∷ [])

-- a number among the words: the name under which `clap` finds its word, and its range; that of an option
pub record Number : Type 0 where
  pub name : Text
  pub low : ℕ
  pub high : ℕ

abbrev pub number_for : OptionName → Number
number_for option = record { name = name_of option; low = least option; high = greatest option }

-- the numbers that `selfrun` names
abbrev pub seed : Number
seed = record { name = codes "SEED"; low = 0; high = 4294967295 }

abbrev pub size : Number
size = record { name = codes "SIZE"; low = 1; high = 64 }

-- a word is found for the number, and isn't one in its range
abbrev pub IsAmiss : List Row → Number → Type 0
IsAmiss rows number = (word : Text) × (first_of number.name rows ≡ Some word) × (number_within number.low number.high word ≡ None)

-- words are none of a command exactly where `clap` has no matches of them, or a word that it finds for one of these numbers isn't one in its
-- range
abbrev pub IsUsageExactly : (List Text → Option Command) → App → List Number → Type 0
IsUsageExactly told reader numbers =
    (words : List Text) →
    (told words ≡ None) ↔
    ((found_in reader words ≡ None) ⊎ ((rows : List Row) × (found_in reader words ≡ Some rows) × OneOf (IsAmiss rows) numbers))

-- each command
pub record UsageIsExact : Type 0 where
  pub run : IsUsageExactly run_of run_reader (map number_for (Workers ∷ Budget ∷ Values ∷ Steps ∷ Seed ∷ Draw ∷ Format ∷ []))
  pub check : IsUsageExactly check_of check_reader []
  pub equal : IsUsageExactly equal_of equal_reader (map number_for (Budget ∷ []))
  pub replay : IsUsageExactly replay_of replay_reader (map number_for (Budget ∷ []))
  pub migrate : IsUsageExactly migrate_of migrate_reader []
  pub sim : IsUsageExactly sim_of sim_reader (map number_for (Budget ∷ Values ∷ Steps ∷ []))
  pub selfrun : IsUsageExactly selfrun_of selfrun_reader (seed ∷ size ∷ map number_for (Workers ∷ []))
