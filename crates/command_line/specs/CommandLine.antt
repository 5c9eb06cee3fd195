-- The commands of the program and their words, as the parser of command lines sees them.
use Rattle.std.specs.Prelude.{ℕ, List, [], ◌∷◌, Some, true, codes}
use Rattle.clap.specs.Walk.{Rule, Text}
use Rattle.clap.specs.Simple.{App, new_app, new_rule, on_top, with_rule, with_subcommand}
use Rattle.clap.specs.declared.builder.action.ArgAction.TheVariants.{Append, Set, SetTrue}
use Rattle.clap.specs.declared.builder.value_parser.ValueParser.TheVariants.{Unsigned}

-- a file, or another word, that has to be given
abbrev pub argument_rule : Text → Rule
argument_rule id = record (new_rule id) { required = true; action = Some Set }

-- an option `--id WORD`, which may be missing
abbrev pub option_rule : Text → Rule
option_rule id = record (new_rule id) { long = Some id; action = Some Set; value_names = 1 }

-- an option `--id A B C`, which may be given any number of times
abbrev pub three_words_rule : Text → Rule
three_words_rule id = record (new_rule id) { long = Some id; action = Some Append; value_names = 3 }

-- an option `--id N`, a number of at most `most`; `default` if it is not given
abbrev pub number_rule : Text → ℕ → Text → Rule
number_rule id most default = record (new_rule id) {
  long = Some id;
  action = Some Set;
  value_names = 1;
  parser = Some (Unsigned 0 most);
  defaults = default ∷ [];
}

-- a number of 32 bits
abbrev pub count_rule : Text → Text → Rule
count_rule id default = number_rule id 4294967295 default

-- a switch `--id`, which may be missing
abbrev pub switch_rule : Text → Rule
switch_rule id = record (new_rule id) { long = Some id; action = Some SetTrue }

-- a command of two files, or other words, that have to be given
abbrev pub two_files : Text → Text → Text → App
two_files name first second = with_rule (with_rule (new_app name) (argument_rule first)) (argument_rule second)

abbrev pub check_command : App
check_command = with_rule (with_rule (new_app (codes "check")) (argument_rule (codes "IMAGE"))) (switch_rule (codes "explain"))

-- with a file for what the maps hold at the end
abbrev pub with_maps : App → App
with_maps app = with_rule app (option_rule (codes "maps"))

-- the files of a run
abbrev pub run_files : App
run_files = with_maps (with_rule (two_files (codes "run") (codes "IMAGE") (codes "FRAME")) (option_rule (codes "journals")))

abbrev pub run_command : App
run_command =
    with_rule
    (with_rule (with_rule run_files (three_words_rule (codes "update"))) (number_rule (codes "now") 18446744073709551615 (codes "0")))
    (count_rule (codes "worker") (codes "0"))

abbrev pub disasm_command : App
disasm_command = with_rule (with_rule (new_app (codes "disasm")) (argument_rule (codes "IMAGE"))) (switch_rule (codes "source"))

abbrev pub asm_command : App
asm_command = with_rule (two_files (codes "asm") (codes "TEXT") (codes "OUT")) (switch_rule (codes "source"))

abbrev pub audit_command : App
audit_command = two_files (codes "audit") (codes "IMAGE") (codes "JOURNALS")

abbrev pub explain_command : App
explain_command = with_rule (new_app (codes "explain")) (argument_rule (codes "FAULT"))

-- the sizes of the lookup table and of the flow table
abbrev pub ring_rule : Rule
ring_rule = count_rule (codes "ring") (codes "251")

abbrev pub flows_rule : Rule
flows_rule = count_rule (codes "flows") (codes "4096")

abbrev pub shipped_command : App
shipped_command = with_rule (with_rule (with_rule (new_app (codes "shipped")) (argument_rule (codes "OUT"))) ring_rule) flows_rule

abbrev pub table_command : App
table_command = with_rule (with_rule (new_app (codes "table")) (argument_rule (codes "SCRIPT"))) ring_rule

-- ---- a replay: its words beside those of its capture and its sent frames, by what they are about

-- the other files that it reads
abbrev pub with_inputs : App → App
with_inputs app = with_rule (with_rule (with_rule app (option_rule (codes "image"))) (option_rule (codes "program"))) (option_rule (codes "script"))

-- the other files that it writes
abbrev pub with_outputs : App → App
with_outputs app = with_maps (with_rule (with_rule app (option_rule (codes "journals"))) (option_rule (codes "report")))

-- its updates, and how its shards are opened
abbrev pub with_shards : App → App
with_shards app =
    with_rule
    (with_rule
    (with_rule (with_rule app (three_words_rule (codes "update"))) (count_rule (codes "workers") (codes "1")))
    (count_rule (codes "shards") (codes "1")))
    (count_rule (codes "journal") (codes "65536"))

abbrev pub with_tables : App → App
with_tables app = with_rule (with_rule app ring_rule) flows_rule

-- whether commands take effect at exact moments, and whether a summary is printed
abbrev pub with_moments : App → App
with_moments app = with_rule (with_rule app (switch_rule (codes "exact"))) (switch_rule (codes "summary"))

-- how what is cut is read: a record, or the end of the capture
abbrev pub with_cuts : App → App
with_cuts app = with_rule (with_rule app (switch_rule (codes "pad-cut"))) (switch_rule (codes "allow-cut"))

-- how the records of the capture are read
abbrev pub with_reading : App → App
with_reading app = with_cuts (with_rule app (switch_rule (codes "skip-long")))

-- which part of them is replayed, and which part is lost
abbrev pub with_parts : App → App
with_parts app = with_rule (with_rule app (option_rule (codes "part"))) (option_rule (codes "lost"))

-- whether nothing may be left out, and no file is written over
abbrev pub with_cares : App → App
with_cares app = with_rule (with_rule app (switch_rule (codes "strict"))) (switch_rule (codes "no-clobber"))

-- whether no rows of journals are kept, and these
abbrev pub with_limits : App → App
with_limits app = with_cares (with_rule app (switch_rule (codes "no-journals")))

abbrev pub with_files : App → App
with_files app = with_outputs (with_inputs app)

abbrev pub replay_command : App
replay_command =
    with_limits (with_parts (with_reading (with_moments (with_tables (with_shards (with_files
    (two_files (codes "replay") (codes "CAPTURE") (codes "SENT"))))))))

abbrev pub script_command : App
script_command = with_reading (two_files (codes "script") (codes "CAPTURE") (codes "TIMED"))

abbrev pub compare_command : App
compare_command = two_files (codes "compare") (codes "FIRST") (codes "SECOND")

-- a command that reads the report of a replay, and its script
abbrev pub looking_back : Text → App
looking_back name = two_files name (codes "REPORT") (codes "SCRIPT")

-- the name, with `--version`; a command has to be given, and `help` describes the commands
abbrev pub program_name : App
program_name =
    on_top (λ s. record s { has_version = true; subcommand_required = true }) (new_app (codes "xlb"))

-- a command with these commands behind those that it has
abbrev pub with_commands : App → List App → App
with_commands app [] = app
with_commands app (command ∷ later) = with_commands (with_subcommand app command.top) later

abbrev pub program : App
program =
    with_commands
    program_name
    (check_command
    ∷ run_command
    ∷ disasm_command
    ∷ asm_command
    ∷ audit_command
    ∷ explain_command
    ∷ replay_command
    ∷ shipped_command
    ∷ table_command
    ∷ script_command
    ∷ compare_command
    ∷ looking_back (codes "flows")
    ∷ looking_back (codes "page")
    ∷ [])
