-- The commands and their arguments, as `clap` reads them.
use Rattle.std.specs.Prelude.{true, Some, codes}
use Rattle.clap.specs.Words.{App, Rule, new_app, new_rule, with_rule, with_subcommand}
use Rattle.clap.specs.declared.builder.ArgAction.TheVariants.{SetTrue}

-- FILE
abbrev pub file_rule : Rule
file_rule = new_rule (codes "file")

-- `-o FILE`
abbrev pub output_rule : Rule
output_rule = record (new_rule (codes "output")) { short = Some 111 }

-- `--export-verilog`
abbrev pub export_verilog_rule : Rule
export_verilog_rule = record (new_rule (codes "export-verilog")) { long = Some (codes "export-verilog"); action = Some SetTrue }

-- `--export-aiger`
abbrev pub export_aiger_rule : Rule
export_aiger_rule = record (new_rule (codes "export-aiger")) { long = Some (codes "export-aiger"); action = Some SetTrue }

-- `--import-aiger`
abbrev pub import_aiger_rule : Rule
import_aiger_rule = record (new_rule (codes "import-aiger")) { long = Some (codes "import-aiger"); action = Some SetTrue }

-- `--pass-pipeline=TEXT`
abbrev pub pipeline_rule : Rule
pipeline_rule = record (new_rule (codes "pass-pipeline")) { long = Some (codes "pass-pipeline") }

-- `--passes=NAMES`, which stands for the passes of flags
abbrev pub passes_rule : Rule
passes_rule = record (new_rule (codes "passes")) { long = Some (codes "passes") }

-- `--lowering-options=TEXT`
abbrev pub options_rule : Rule
options_rule = record (new_rule (codes "lowering-options")) { long = Some (codes "lowering-options") }

-- `--split-input-file`
abbrev pub split_rule : Rule
split_rule = record (new_rule (codes "split-input-file")) { long = Some (codes "split-input-file"); action = Some SetTrue }

-- `--workers N`
abbrev pub workers_rule : Rule
workers_rule = record (new_rule (codes "workers")) { long = Some (codes "workers") }

-- `--mlir-disable-threading`
abbrev pub threading_rule : Rule
threading_rule = record (new_rule (codes "mlir-disable-threading")) { long = Some (codes "mlir-disable-threading"); action = Some SetTrue }

-- SEED, which is asked for
abbrev pub seed_rule : Rule
seed_rule = record (new_rule (codes "seed")) { required = true }

-- N, the number of modules, which is asked for
abbrev pub count_rule : Rule
count_rule = record (new_rule (codes "count")) { required = true }

-- `--verilog`
abbrev pub verilog_rule : Rule
verilog_rule = record (new_rule (codes "verilog")) { long = Some (codes "verilog"); action = Some SetTrue }

-- FILE, which is asked for, and the second FILE
abbrev pub first_file_rule : Rule
first_file_rule = record file_rule { required = true }

abbrev pub second_file_rule : Rule
second_file_rule = new_rule (codes "second-file")

-- the second FILE, which is asked for
abbrev pub other_file_rule : Rule
other_file_rule = record second_file_rule { required = true }

-- `--c1 NAME` and `--c2 NAME`, which are asked for
abbrev pub left_rule : Rule
left_rule = record (new_rule (codes "c1")) { long = Some (codes "c1"); required = true }

abbrev pub right_rule : Rule
right_rule = record (new_rule (codes "c2")) { long = Some (codes "c2"); required = true }

-- `--conflict-limit N`
abbrev pub limit_rule : Rule
limit_rule = record (new_rule (codes "conflict-limit")) { long = Some (codes "conflict-limit") }

-- `--proof FILE`
abbrev pub proof_rule : Rule
proof_rule = record (new_rule (codes "proof")) { long = Some (codes "proof") }

-- with `--workers N` and `--mlir-disable-threading`
abbrev pub with_workers : App → App
with_workers a = with_rule (with_rule a workers_rule) threading_rule

-- with `[FILE] [-o FILE] [--pass-pipeline=TEXT] [--workers N] [--mlir-disable-threading]`
abbrev pub with_common : App → App
with_common a = with_workers (with_rule (with_rule (with_rule (with_rule a file_rule) output_rule) pipeline_rule) passes_rule)

-- `opt [FILE] [-o FILE] [--pass-pipeline=TEXT] [--workers N] [--mlir-disable-threading] [--split-input-file]`
abbrev pub opt_app : App
opt_app = with_rule (with_common (new_app (codes "opt"))) split_rule

-- with `[--export-verilog] [--export-aiger] [--import-aiger]`
abbrev pub with_translations : App → App
with_translations a = with_rule (with_rule (with_rule a export_verilog_rule) export_aiger_rule) import_aiger_rule

-- `translate [FILE] TRANSLATION [-o FILE] [--pass-pipeline=TEXT] [--workers N] [--mlir-disable-threading] [--lowering-options=TEXT]`
abbrev pub translate_app : App
translate_app = with_rule (with_translations (with_common (new_app (codes "translate")))) options_rule

-- `gen SEED N [--verilog] [-o FILE] [--workers N]`
abbrev pub gen_app : App
gen_app = with_rule (with_rule (with_rule (with_rule (with_rule (new_app (codes "gen")) seed_rule) count_rule) verilog_rule) output_rule) workers_rule

-- `lec FILE [FILE] --c1 NAME --c2 NAME [--conflict-limit N] [--proof FILE]`
abbrev pub lec_app : App
lec_app =
    with_rule (with_rule (with_rule (with_rule (with_rule (with_rule (new_app (codes "lec")) first_file_rule) second_file_rule) left_rule) right_rule) limit_rule)
    proof_rule

-- `check CNF PROOF`
abbrev pub check_app : App
check_app = with_rule (with_rule (new_app (codes "check")) first_file_rule) other_file_rule

-- `--top NAME`, which is asked for
abbrev pub top_rule : Rule
top_rule = record (new_rule (codes "top")) { long = Some (codes "top"); required = true }

-- `sim FILE STEPS --top NAME`
abbrev pub sim_app : App
sim_app = with_rule (with_rule (with_rule (new_app (codes "sim")) first_file_rule) other_file_rule) top_rule

-- a command without help and version, of which a subcommand is wanted; its words are those after the program's name
abbrev pub bare : App → App
bare a = record a {
  top = record a.top {
    no_binary_name = true;
    disable_help_flag = true;
    disable_help_subcommand = true;
    subcommand_required = true;
  };
}

-- the program without the commands that take two files
abbrev pub designs_app : App
designs_app = with_subcommand (with_subcommand (with_subcommand (bare (new_app (codes "circt"))) opt_app.top) translate_app.top) gen_app.top

-- the program
abbrev pub circt_app : App
circt_app = with_subcommand (with_subcommand (with_subcommand designs_app lec_app.top) check_app.top) sim_app.top
