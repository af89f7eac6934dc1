-- How `clap` reads the words behind each command (this profile): words that the command names, all of them wanted, and options, each with a
-- number, before them, between them or behind them. No word asks for help or for the version.
use Rattle.std.specs.Prelude.{List, [], true, Option, Some, None, if◌then◌else◌, codes}
use Rattle.clap.specs.declared.builder.action.ArgAction.TheVariants.{Set}
use Rattle.clap.specs.Faults.{fault_of}
use Rattle.clap.specs.Simple.{App, matches_of, new_rule, new_shape, with_rule}
use Rattle.clap.specs.Walk.{Row, Rule, Text, is_empty}
use Rattle.command_words.specs.Options.{name_of}
use Rattle.command_words.specs.declared.option.OptionName.TheVariants.{Budget, Values, Steps, Seed, Draw, Workers, Format}

-- a word that the command names
abbrev pub named : Text → Rule
named id = record (new_rule id) { required = true; action = Some Set }

-- an option with a number
abbrev pub numbered : Text → Rule
numbered id = record (new_rule id) { long = Some id; action = Some Set }

-- a command without words; its own name isn't among those that are read
abbrev pub bare : Text → App
bare name = record {
  top = record (new_shape name) { no_binary_name = true; disable_help_flag = true; disable_version_flag = true };
  subs = [];
}

abbrev pub run_reader : App
run_reader = with_rule (with_rule (with_rule (with_rule (with_rule (with_rule (with_rule (with_rule (with_rule (bare (codes "run"))
    (named (codes "SPEC"))) (named (codes "SCRIPT")))
    (numbered (name_of Workers))) (numbered (name_of Budget))) (numbered (name_of Values))) (numbered (name_of Steps))) (numbered (name_of Seed)))
    (numbered (name_of Draw))) (numbered (name_of Format))

abbrev pub check_reader : App
check_reader = with_rule (bare (codes "check")) (named (codes "SPEC"))

abbrev pub equal_reader : App
equal_reader = with_rule (with_rule (with_rule (with_rule (bare (codes "equal"))
    (named (codes "SPEC"))) (named (codes "FIRST"))) (named (codes "SECOND"))) (numbered (name_of Budget))

abbrev pub replay_reader : App
replay_reader = with_rule (with_rule (with_rule (bare (codes "replay"))
    (named (codes "SPEC"))) (named (codes "TRACE"))) (numbered (name_of Budget))

abbrev pub migrate_reader : App
migrate_reader = with_rule (with_rule (bare (codes "migrate")) (named (codes "SPEC"))) (named (codes "TRACE"))

abbrev pub sim_reader : App
sim_reader = with_rule (with_rule (with_rule (with_rule (bare (codes "sim"))
    (named (codes "SPEC"))) (numbered (name_of Budget))) (numbered (name_of Values))) (numbered (name_of Steps))

abbrev pub selfrun_reader : App
selfrun_reader = with_rule (with_rule (with_rule (bare (codes "selfrun"))
    (named (codes "SEED"))) (named (codes "SIZE"))) (numbered (name_of Workers))

-- what `clap` finds in the words, where it has matches of them
abbrev pub found_in : App → List Text → Option (List Row)
found_in reader words = if is_empty (fault_of reader words) then Some (matches_of reader words) else None
