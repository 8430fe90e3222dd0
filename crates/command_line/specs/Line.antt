-- What the words of a command line say.
use Rattle.std.specs.Prelude.{ℕ, ◌-◌, ◌&&◌, Bool, true, false, cond, List, [], ◌∷◌, ◌++◌, Option, Some, None, option_map, is_some, Result, Ok, Err, codes, unwrap_or}
use Rattle.std.specs.Str.{bytes_eq}
use Rattle.std.specs.List.{cons_option}
use Rattle.clap.specs.Words.{Row, Text, Kinds, first_of, fault_of, subcommand_of}
use Rattle.lowering_options.specs.declared.lowering.Lowering.{Lowering}
use Rattle.lowering_options.specs.declared.lowering.Lowering.TheVariants.{Plain}
use Rattle.lowering_options.specs.Options.{lowering_named}
use Rattle.pass_pipeline.specs.Pipelines.{passes}
use Rattle.pass_pipeline.specs.declared.pass.Pass.{Pass}
use Rattle.pass_pipeline.specs.declared.pipeline.PipelineFail.{PipelineFail}
use Rattle.pass_pipeline.specs.declared.pipeline.PipelineFail.TheVariants.{UnknownPass, WrongPlace, BadText}
use Rattle.command_line.specs.Normal.{normal}
use Rattle.command_line.specs.Commands.{circt_app}
use Rattle.command_line.specs.Numbers.{number_between}
use Rattle.command_line.specs.declared.translations.Translation.{Translation}
use Rattle.command_line.specs.declared.translations.Translation.TheVariants.{ToVerilog, ToAiger, FromAiger}
use Rattle.command_line.specs.declared.usage.UsageKind.{UsageKind}
use Rattle.command_line.specs.declared.usage.UsageKind.TheVariants.{Words, TwoPipelines, NoTranslation, TwoTranslations, Pipeline, Lowering as UnknownLowering, StdinTwice}

-- what is made of the inputs: MLIR text, or Verilog written in one of two ways, or a text in the AIGER format, of the design that passes make of the one
-- that is read; or MLIR text of the design that they make of the one that a text in the AIGER format says; or MLIR text of the designs that they make of those of the pieces of an input; or, without an input, a summary, or Verilog, of the design that is
-- generated from a seed with so many modules; or a verdict on the module of a name of the first input and that of another of the last one,
-- with so many learnt clauses at most, and a proof of it in the file of a name where one is given; or a verdict on the proof that is the
-- second input, of the formula that is the first; or the outputs of a run of the module of a name of the first input, by the steps of the second
pub data Work : Type 0 where
  mlir : List Pass → Work
  mlir_pieces : List Pass → Work
  verilog : List Pass → Lowering → Work
  aiger_export : List Pass → Work
  aiger_import : List Pass → Work
  generated_summary : ℕ → ℕ → Work
  generated_verilog : ℕ → ℕ → Work
  comparison : Text → Text → ℕ → Option Text → Work
  proof_check : Work
  simulation : Text → Work

-- the files of a proof of this name: its formula's, which is named after it, and its own
abbrev pub proof_files : Option Text → List Text
proof_files None = []
proof_files (Some name) = (name ++ codes ".cnf") ∷ name ∷ []

-- the files that a work writes before its output, in order, where it gives texts for them
abbrev pub files_before : Work → List Text
files_before (comparison left right limit proof) = proof_files proof
files_before _ = []

-- a command: the files that it reads, in order, the one that it writes, its work, and by how many workers; `-` is standard input, no file
-- standard output
pub record Command : Type 0 where
  pub inputs : List Text
  pub output : Option Text
  pub work : Work
  pub workers : ℕ

-- `-o -` counts as no `-o`
abbrev pub unless_dash : Option Text → Option Text
unless_dash None = None
unless_dash (Some text) = cond (bytes_eq text (codes "-")) None (Some text)

-- the file that is read
abbrev pub input_in : List Row → Text
input_in rows = unwrap_or (first_of (codes "file") rows) (codes "-")

-- the second file that is read for a verdict, if one is
abbrev pub second_in : List Row → Option Text
second_in rows = first_of (codes "second-file") rows

-- the files that are read for a work; what is generated is of none, modules that are compared are of one or two, and a proof that is checked and a run are of two
abbrev pub inputs_in : List Row → Work → List Text
inputs_in rows (generated_summary seed count) = []
inputs_in rows (generated_verilog seed count) = []
inputs_in rows (comparison left right limit proof) = input_in rows ∷ cons_option (second_in rows) []
inputs_in rows proof_check = input_in rows ∷ cons_option (second_in rows) []
inputs_in rows (simulation top) = input_in rows ∷ cons_option (second_in rows) []
inputs_in rows _ = input_in rows ∷ []

-- the file that is written
abbrev pub output_in : List Row → Option Text
output_in rows = unless_dash (first_of (codes "output") rows)

-- whether a flag is given
abbrev pub is_true : Option Text → Bool
is_true None = false
is_true (Some text) = bytes_eq text (codes "true")

abbrev pub is_flagged : Text → List Row → Bool
is_flagged id rows = is_true (first_of id rows)

-- how many workers are said: one to 64, and four where nothing is said
abbrev pub workers_said : Option Text → Option ℕ
workers_said None = Some 4
workers_said (Some text) = number_between 1 64 text

-- one where threads are not wanted
abbrev pub workers_in : List Row → Option ℕ
workers_in rows = option_map (λ n. cond (is_flagged (codes "mlir-disable-threading") rows) 1 n) (workers_said (first_of (codes "workers") rows))

-- the list of flags is read as the items of a pipeline: `builtin.module(`, the list, `)`
abbrev pub items_text : Text → Text
items_text items = codes "builtin.module(" ++ (items ++ codes ")")

-- an offset in the list, which stands after 15 bytes
abbrev pub in_items : PipelineFail → PipelineFail
in_items (UnknownPass at) = UnknownPass (at - 15)
in_items (WrongPlace at) = WrongPlace (at - 15)
in_items (BadText at) = BadText (at - 15)

-- what is wrong with a pipeline, and with a list of flags
abbrev pub in_pipeline : Result (List Pass) PipelineFail → Result (List Pass) UsageKind
in_pipeline (Ok ps) = Ok ps
in_pipeline (Err fail) = Err (Pipeline fail)

abbrev pub in_list : Result (List Pass) PipelineFail → Result (List Pass) UsageKind
in_list (Ok ps) = Ok ps
in_list (Err fail) = Err (Pipeline (in_items fail))

-- the passes that are given: by flags, as their list, or by a pipeline
abbrev pub passes_of : List Pass → Option Text → Option Text → Result (List Pass) UsageKind
passes_of offered None None = Ok []
passes_of offered None (Some text) = in_pipeline (passes offered text)
passes_of offered (Some items) pipeline = in_list (passes offered (items_text items))

abbrev pub passes_in : List Pass → List Row → Result (List Pass) UsageKind
passes_in offered rows = passes_of offered (first_of (codes "passes") rows) (first_of (codes "pass-pipeline") rows)

-- passes are given both by flags and by a pipeline
abbrev pub is_given_twice : List Row → Bool
is_given_twice rows = is_some (first_of (codes "passes") rows) && is_some (first_of (codes "pass-pipeline") rows)

-- a work on passes, or what is wrong with these
abbrev pub on_passes : (List Pass → Work) → Result (List Pass) UsageKind → Result Work UsageKind
on_passes work (Ok ps) = Ok (work ps)
on_passes work (Err kind) = Err kind

-- `opt` with `--split-input-file` works on the pieces of the input
abbrev pub mlir_work : Bool → List Pass → Work
mlir_work true passes = mlir_pieces passes
mlir_work false passes = mlir passes

-- the way in which Verilog is written: the one that is named, and the plain one where nothing is said
abbrev pub lowering_in : Option Text → Option Lowering
lowering_in None = Some Plain
lowering_in (Some text) = lowering_named text

-- the translation that is named: to Verilog, to the AIGER format or from it; just one may be
abbrev pub translation_by : Bool → Bool → Bool → Result Translation UsageKind
translation_by false false false = Err NoTranslation
translation_by true false false = Ok ToVerilog
translation_by false true false = Ok ToAiger
translation_by false false true = Ok FromAiger
translation_by true true from_aiger = Err TwoTranslations
translation_by true false true = Err TwoTranslations
translation_by false true true = Err TwoTranslations

-- the translation that flags name
abbrev pub translation_in : List Row → Result Translation UsageKind
translation_in rows = translation_by (is_flagged (codes "export-verilog") rows) (is_flagged (codes "export-aiger") rows) (is_flagged (codes "import-aiger") rows)

-- a translation after passes; the way in which Verilog is written matters to Verilog alone
abbrev pub translated : Translation → List Pass → Lowering → Work
translated ToVerilog passes lowering = verilog passes lowering
translated ToAiger passes lowering = aiger_export passes
translated FromAiger passes lowering = aiger_import passes

-- the same, or no such way of writing Verilog is known
abbrev pub on_lowering : Translation → List Pass → Option Lowering → Result Work UsageKind
on_lowering t passes None = Err UnknownLowering
on_lowering t passes (Some lowering) = Ok (translated t passes lowering)

-- a bad pipeline is wrong before a way that is not known
abbrev pub translated_work : Translation → Option Lowering → Result (List Pass) UsageKind → Result Work UsageKind
translated_work t lowering (Ok ps) = on_lowering t ps lowering
translated_work t lowering (Err kind) = Err kind

-- the work of a translation, if just one is named
abbrev pub on_translation : Option Lowering → Result (List Pass) UsageKind → Result Translation UsageKind → Result Work UsageKind
on_translation lowering passes (Ok t) = translated_work t lowering passes
on_translation lowering passes (Err kind) = Err kind

-- the work of `translate`
abbrev pub translate_work : List Pass → List Row → Result Work UsageKind
translate_work offered rows = on_translation (lowering_in (first_of (codes "lowering-options") rows)) (passes_in offered rows) (translation_in rows)

-- the number from one to another that an argument says
abbrev pub number_in : ℕ → ℕ → Option Text → Option ℕ
number_in least most None = None
number_in least most (Some text) = number_between least most text

-- `gen` with `--verilog` gives Verilog, and without it a summary
abbrev pub generated_work : Bool → ℕ → ℕ → Work
generated_work true seed count = generated_verilog seed count
generated_work false seed count = generated_summary seed count

-- the work on the design of a seed and a number of modules, where both are such numbers
abbrev pub on_numbers : Bool → Option ℕ → Option ℕ → Result Work UsageKind
on_numbers is_verilog (Some seed) (Some count) = Ok (generated_work is_verilog seed count)
on_numbers is_verilog (Some seed) None = Err Words
on_numbers is_verilog None count = Err Words

-- the work of `gen`: its seed is of 32 bits, and it has one to 10,000 modules
abbrev pub gen_work : List Row → Result Work UsageKind
gen_work rows =
    on_numbers (is_flagged (codes "verilog") rows) (number_in 0 4294967295 (first_of (codes "seed") rows)) (number_in 1 10000 (first_of (codes "count") rows))

-- how many clauses may be learnt: 1 to 2^64 - 1, and a million where nothing is said
abbrev pub limit_in : Option Text → Option ℕ
limit_in None = Some 1000000
limit_in (Some text) = number_between 1 18446744073709551615 text

-- the value of an argument that is asked for
abbrev pub name_in : Option Text → Text
name_in name = unwrap_or name []

-- a name is that of standard input
abbrev pub is_dash : Option Text → Bool
is_dash None = false
is_dash (Some name) = bytes_eq name (codes "-")

-- standard input is named twice
abbrev pub is_stdin_twice : List Row → Bool
is_stdin_twice rows = bytes_eq (input_in rows) (codes "-") && is_dash (second_in rows)

-- the work of `lec`: a wrong limit is wrong first
abbrev pub by_limit : List Row → Option ℕ → Result Work UsageKind
by_limit rows None = Err Words
by_limit rows (Some limit) =
    cond (is_stdin_twice rows) (Err StdinTwice)
    (Ok (comparison (name_in (first_of (codes "c1") rows)) (name_in (first_of (codes "c2") rows)) limit (first_of (codes "proof") rows)))

abbrev pub lec_work : List Row → Result Work UsageKind
lec_work rows = by_limit rows (limit_in (first_of (codes "conflict-limit") rows))

-- the work of `check`
abbrev pub check_work : List Row → Result Work UsageKind
check_work rows = cond (is_stdin_twice rows) (Err StdinTwice) (Ok proof_check)

-- the work of `sim`
abbrev pub sim_work : List Row → Result Work UsageKind
sim_work rows = cond (is_stdin_twice rows) (Err StdinTwice) (Ok (simulation (name_in (first_of (codes "top") rows))))

-- the work of a command that takes passes: passes given in two ways are wrong first, then a missing translation, then two of them, then a bad
-- pipeline, then a way of writing Verilog that is not known
abbrev pub passes_work : List Pass → Text → List Row → Result Work UsageKind
passes_work offered name rows =
    cond (is_given_twice rows) (Err TwoPipelines)
    (cond (bytes_eq name (codes "opt")) (on_passes (mlir_work (is_flagged (codes "split-input-file") rows)) (passes_in offered rows))
    (translate_work offered rows))

-- the work of a command of this name
abbrev pub work_in : List Pass → Text → List Row → Result Work UsageKind
work_in offered name rows =
    cond (bytes_eq name (codes "gen")) (gen_work rows)
    (cond (bytes_eq name (codes "lec")) (lec_work rows)
    (cond (bytes_eq name (codes "check")) (check_work rows)
    (cond (bytes_eq name (codes "sim")) (sim_work rows) (passes_work offered name rows))))

-- a work with the files that are named, and workers
abbrev pub with_files : List Row → ℕ → Result Work UsageKind → Result Command UsageKind
with_files rows workers (Ok work) = Ok (record { inputs = inputs_in rows work; output = output_in rows; work = work; workers = workers })
with_files rows workers (Err kind) = Err kind

-- a wrong number of workers is wrong first
abbrev pub by_workers : List Pass → Text → List Row → Option ℕ → Result Command UsageKind
by_workers offered name rows None = Err Words
by_workers offered name rows (Some workers) = with_files rows workers (work_in offered name rows)

-- the command of a name with its arguments
abbrev pub command_in : List Pass → Text → List Row → Result Command UsageKind
command_in offered name rows = by_workers offered name rows (workers_in rows)

abbrev pub require_subcommand : List Pass → Option (Text × List Row) → Result Command UsageKind
require_subcommand offered None = Err Words
require_subcommand offered (Some found) = command_in offered found.0 found.1

abbrev pub unless_faulty : Kinds → Result Command UsageKind → Result Command UsageKind
unless_faulty [] command = command
unless_faulty (k ∷ ks) command = Err Words

-- what regular words say, as `clap` reads them, where these passes are on offer
unfoldable pub parse : List Pass → List Text → Result Command UsageKind
parse offered words = unless_faulty (fault_of circt_app words) (require_subcommand offered (subcommand_of circt_app words))

abbrev pub if_normal : List Pass → Option (List Text) → Result Command UsageKind
if_normal offered None = Err Words
if_normal offered (Some words) = parse offered words

-- what the words of a command line say, where these passes are on offer
abbrev pub line : List Pass → List Text → Result Command UsageKind
line offered words = if_normal offered (normal offered words)
