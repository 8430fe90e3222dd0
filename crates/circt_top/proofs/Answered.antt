-- What is known of the told inputs from what was read of them: at most one byte more than a text may have.
use Rattle.std.proofs.Common.{◌≡◌, ℕ, ◌-◌, ◌<◌, ◌≤◌, inl, inr, min, Bool, true, false, cond, nat_lt, List, [], ◌∷◌, length, take, Option, Some, None, Result, Ok, Err, refl, sym, ◌∙◌, ap, subst, arith, IsTrue}
use Rattle.std.proofs.Common.{length-take, take_all, option_map, lt-ltb, ltb-true, ltb-false}
use Rattle.std.proofs.lemmas.List.{length-map}
use Rattle.wiring.specs.Wiring.{In}
use Rattle.hw_model.specs.Types.{Name}
use Rattle.hw_model.specs.Design.{Design}
use Rattle.hw_model.specs.Sound.{input_types}
use Rattle.miter_blast.specs.Comparable.{register_widths}
use Rattle.io_edge.specs.Reading.{Reads}
use Rattle.diag.specs.Location.{start_location}
use Rattle.diag.specs.declared.refusal.OpName.TheVariants as op
use Rattle.diag.specs.declared.cause.Cause.TheVariants.{TooLong}
use Rattle.diag.specs.declared.refusal.Refusal.{Refusal}
use Rattle.command_line.specs.Line.{Command, Work}
use Rattle.command_line.specs.Line.Work.{mlir, mlir_pieces, verilog, aiger_export, aiger_import, generated_summary, generated_verilog, comparison, proof_check, simulation}
use Rattle.mlir_syntax.specs.Stream.{stream_of, refusal}
use Rattle.mlir_operations.specs.ModuleText.{file_text}
use Rattle.mlir_reader.specs.Reading.{text_limit, read, design_read}
use Rattle.pass_pipeline.specs.declared.pass.Pass.{Pass}
use Rattle.bits_core.specs.Word.{Word}
use Rattle.resolution_proof.specs.Formula.{Formula}
use Rattle.resolution_proof.specs.declared.log.Step.{Step}
use Rattle.lrat_text.specs.Dimacs.{dimacs, as_bad, formula_of}
use Rattle.lrat_text.specs.ProofLine.{proof_lines}
use Rattle.lrat_text.specs.Checking.{start, first_fault, proof_fault}
use Rattle.lrat_text.specs.Verified.{is_verified}
use Rattle.lrat_text.proofs.Verifying.{none_verified, verified_none}
use Rattle.step_file.specs.StepFile.{Steps, steps_of, steps_from}
use Rattle.step_file.specs.declared.fail.StepCause.TheVariants as step
use Rattle.text_lines.specs.Lines.{lines}
use Rattle.cycle_sim.specs.Simulations.{leaf_widths, steps_for, IsSimulation, IsSimRefusal}
use Rattle.cycle_sim.specs.declared.fail.SimRefusal.{SimRefusal}
use Rattle.cycle_sim.specs.declared.fail.SimRefusal.TheVariants.{NoModule, BadSteps}
use Rattle.circt_top.specs.Accepting.{Accepted, IsRefused, IsRefusedIn, first_input, second_input, unread, unaccepted}
use Rattle.circt_top.specs.Reprint.{IsReprint}
use Rattle.circt_top.specs.PieceReprint.{IsReprintOfPieces, IsRefusedInPieces}
use Rattle.lowering_options.specs.declared.lowering.Lowering.{Lowering}
use Rattle.circt_top.specs.Translation.{IsTranslation}
use Rattle.circt_top.specs.Comparing.{last_input, last_number, AreTaken, in_pair, IsRefusedPair, IsSame, IsDifference, IsGivenUp}
use Rattle.circt_top.specs.Comparing.IsRefusedPair.{first as of_first, last as of_last, pair as of_pair}
use Rattle.circt_top.specs.Checks.{IsRefusedProof, IsVerifiedProof}
use Rattle.circt_top.specs.Simulations.{IsRefusedRun, IsRun}
use Rattle.aiger_laws.specs.Grammar.{IsFirstFault}
use Rattle.circt_top.specs.Exports.{IsExport, IsRefusedExport}
use Rattle.circt_top.specs.Exports.IsRefusedExport.{input as of_input, made as of_made}
use Rattle.circt_top.specs.Imports.{IsImport, IsRefusedImport}
use Rattle.circt_top.specs.Imports.IsRefusedImport.{too_long as of_many, in_line as of_line}
use Rattle.circt_top.specs.Simulations.IsRefusedRun.{first as of_unread, run as of_run}
use Rattle.circt_top.specs.Checks.IsRefusedProof.{formula as of_formula, proof as of_proof}
use Rattle.circt_top.specs.Outcome.{Verdict, Texts, Answer, IsText, IsRefusedBy, IsFinding, IsGiven, IsOutput, IsAnswer}
use Rattle.circt_top.specs.Outcome.Verdict.{given, different, unknown}
use Rattle.circt_top.specs.Outcome.Answer.{prints, refuses}
use Rattle.circt_top.specs.Inputs.{Told, read_limit, told_at, AreContents, IsMissing, IsOneMissing, AreReads, prefixes}
use Rattle.circt_top.specs.Answer.{IsMadeOf, IsRefusalOf}

prefix_read : (name : Name) (told : Told) (source bytes : List ℕ) → Reads told name read_limit (Ok source) → told_at name told ≡ Some bytes → source ≡ take read_limit bytes
prefix_read name None source bytes read h = cc
prefix_read name (Some files) source bytes read h =
    let e : Some (take read_limit bytes) ≡ Some source = ap (option_map (take read_limit)) (sym h) ∙ read files refl in cc

-- what was read of told files are prefixes of their contents
pub prefixes_read : (told : Told) (names : List Name) (sources contents : List (List ℕ)) → AreReads told names sources → AreContents told names contents → sources ≡ prefixes contents
prefixes_read told [] [] [] read h = refl
prefixes_read told [] [] (bytes ∷ contents) read h = absurd h
prefixes_read told [] (source ∷ sources) contents read h = absurd read
prefixes_read told (name ∷ names) [] contents read h = absurd read
prefixes_read told (name ∷ names) (source ∷ sources) [] read h = absurd h
prefixes_read told (name ∷ names) (source ∷ sources) (bytes ∷ contents) read h =
    let first : source ≡ take read_limit bytes = prefix_read name told source bytes read.0 h.0 in
    let rest : sources ≡ prefixes contents = prefixes_read told names sources contents read.1 h.1 in
    rw (first, rest) refl

-- no file that is missing is read
missing_unread : (name : Name) (told : Told) (source : List ℕ) → Reads told name read_limit (Ok source) → IsMissing name told → ⊥
missing_unread name None source read missing = missing
missing_unread name (Some files) source read missing =
    let e : None ≡ Some source = ap (option_map (take read_limit)) (sym missing) ∙ read files refl in cc

missing_among : (told : Told) (names : List Name) (sources : List (List ℕ)) → AreReads told names sources → (name : Name) → In name names → IsMissing name told → ⊥
missing_among told [] sources read name there missing = there
missing_among told (first ∷ names) [] read name there missing = read
missing_among told (first ∷ names) (source ∷ sources) read name (inl here) missing = missing_unread first told source read.0 (subst (λ n. IsMissing n told) here missing)
missing_among told (first ∷ names) (source ∷ sources) read name (inr there) missing = missing_among told names sources read.1 name there missing

pub none_missing : (told : Told) (names : List Name) (sources : List (List ℕ)) → AreReads told names sources → IsOneMissing told names → ⊥
none_missing told names sources read missing = missing_among told names sources read missing.0 missing.1 missing.2

-- a short prefix is the whole
whole_read : (bytes source : List ℕ) → source ≡ take read_limit bytes → length source ≤ text_limit → source ≡ bytes
whole_read bytes source prefix short =
    let l : length (take read_limit bytes) ≡ min read_limit (length bytes) = length-take read_limit bytes in
    let e : length source ≡ length (take read_limit bytes) = ap length prefix in
    let few : length bytes ≤ read_limit = omega arith in
    prefix ∙ take_all read_limit bytes few

-- a long prefix is of a long text
long_read : (bytes source : List ℕ) → source ≡ take read_limit bytes → text_limit < length source → text_limit < length bytes
long_read bytes source prefix long =
    let l : length (take read_limit bytes) ≡ min read_limit (length bytes) = length-take read_limit bytes in
    let e : length source ≡ length (take read_limit bytes) = ap length prefix in
    omega arith

abbrev refused_first : Result Design Refusal
refused_first = Err (refusal start_location op.File TooLong)

-- all texts that are too long are refused alike
too_long : (bytes source : List ℕ) → text_limit < length bytes → text_limit < length source → read source ≡ read bytes
too_long bytes source long also =
    ap (λ b. cond b refused_first (design_read (file_text (stream_of source)))) (lt-ltb text_limit (length source) also)
    ∙ sym (ap (λ b. cond b refused_first (design_read (file_text (stream_of bytes)))) (lt-ltb text_limit (length bytes) long))

-- what is read of a prefix is read of the whole
pub read_whole : (bytes source : List ℕ) → source ≡ take read_limit bytes → read source ≡ read bytes
read_whole bytes source prefix = go (nat_lt text_limit (length source)) refl where
  go : (b : Bool) → nat_lt text_limit (length source) ≡ b → read source ≡ read bytes
  go true e = let long : text_limit < length source = ltb-true text_limit (length source) e in too_long bytes source (long_read bytes source prefix long) long
  go false e = ap read (whole_read bytes source prefix (ltb-false text_limit (length source) e))

accepted_whole : (bytes source : List ℕ) (d : Design) → read source ≡ read bytes → Accepted source d → Accepted bytes d
accepted_whole bytes source d same a = record { says = sym same ∙ a.says; accepted = a.accepted }

refused_again : (bytes source : List ℕ) (r : Refusal) → read source ≡ read bytes → IsRefused source r → IsRefused bytes r
refused_again bytes source r same (unread x e) = unread x (sym same ∙ e)
refused_again bytes source r same (unaccepted d x e f) = unaccepted d x (sym same ∙ e) f

refused_in_again : (number : ℕ) (bytes source : List ℕ) (r : Refusal) → read source ≡ read bytes → IsRefusedIn number source r → IsRefusedIn number bytes r
refused_in_again number bytes source r same is =
    record { refusal = is.refusal; refused = refused_again bytes source is.refusal same is.refused; numbered = is.numbered }

reprint_whole : (passes : List Pass) (bytes source text : List ℕ) → read source ≡ read bytes → IsReprint passes source text → IsReprint passes bytes text
reprint_whole passes bytes source text same is = record {
  design = is.design;
  accepted = accepted_whole bytes source is.design same is.accepted;
  reprinted = is.reprinted;
}

translation_whole : (passes : List Pass) (options : Lowering) (bytes source text : List ℕ) → read source ≡ read bytes → IsTranslation passes options source text
    → IsTranslation passes options bytes text
translation_whole passes options bytes source text same is = record { design = is.design; accepted = accepted_whole bytes source is.design same is.accepted; translated = is.translated }

-- pieces of a prefix that is not too long are those of the whole
pieces_whole : (passes : List Pass) (bytes source text : List ℕ) → source ≡ take read_limit bytes → IsReprintOfPieces passes source text → IsReprintOfPieces passes bytes text
pieces_whole passes bytes source text prefix is = subst (λ s. IsReprintOfPieces passes s text) (whole_read bytes source prefix is.short) is

refused_pieces_whole : (bytes source : List ℕ) (r : Refusal) → source ≡ take read_limit bytes → IsRefusedInPieces source r → IsRefusedInPieces bytes r
refused_pieces_whole bytes source r prefix (inl is) = inl (long_read bytes source prefix is.0, is.1)
refused_pieces_whole bytes source r prefix (inr is) = subst (λ s. IsRefusedInPieces s r) (whole_read bytes source prefix is.0) (inr is)

-- ---- exports and imports

export_whole : (passes : List Pass) (bytes source text : List ℕ) → read source ≡ read bytes → IsExport passes source text → IsExport passes bytes text
export_whole passes bytes source text same is = record { design = is.design; accepted = accepted_whole bytes source is.design same is.accepted; exported = is.exported }

refused_export_whole : (passes : List Pass) (bytes source : List ℕ) (r : Refusal) → read source ≡ read bytes → IsRefusedExport passes source r → IsRefusedExport passes bytes r
refused_export_whole passes bytes source r same (of_input x is) = of_input x (refused_in_again 0 bytes source x same is)
refused_export_whole passes bytes source r same (of_made d e x accepted result is) = of_made d e x (accepted_whole bytes source d same accepted) result is

import_whole : (passes : List Pass) (bytes source text : List ℕ) → source ≡ take read_limit bytes → IsImport passes source text → IsImport passes bytes text
import_whole passes bytes source text prefix is = subst (λ s. IsImport passes s text) (whole_read bytes source prefix is.can.short) is

refused_import_whole : (bytes source : List ℕ) (r : Refusal) → source ≡ take read_limit bytes → IsRefusedImport source r → IsRefusedImport bytes r
refused_import_whole bytes source r prefix (of_many long) = of_many (long_read bytes source prefix long)
refused_import_whole bytes source r prefix (of_line line fault short is) =
    let same = whole_read bytes source prefix short in
    of_line line fault (subst (λ s. length s ≤ text_limit) same short) (subst (λ s. IsFirstFault s line fault) same is)

-- ---- checks

second_prefix : (contents : List (List ℕ)) → second_input (prefixes contents) ≡ take read_limit (second_input contents)
second_prefix [] = refl
second_prefix (bytes ∷ []) = refl
second_prefix (bytes ∷ more ∷ contents) = refl

-- whatever begins by a question for the size alone says the same of a prefix
by_size : {A : Type 0} (long : A) (of : List ℕ → A) (bytes source : List ℕ) → source ≡ take read_limit bytes
    → cond (nat_lt text_limit (length source)) long (of source) ≡ cond (nat_lt text_limit (length bytes)) long (of bytes)
by_size long of bytes source prefix = go (nat_lt text_limit (length source)) refl where
  go : (b : Bool) → nat_lt text_limit (length source) ≡ b
      → cond (nat_lt text_limit (length source)) long (of source) ≡ cond (nat_lt text_limit (length bytes)) long (of bytes)
  go true e =
      let also : nat_lt text_limit (length bytes) ≡ true = lt-ltb text_limit (length bytes) (long_read bytes source prefix (ltb-true text_limit (length source) e)) in
      ap (λ b. cond b long (of source)) e ∙ sym (ap (λ b. cond b long (of bytes)) also)
  go false e = ap (λ s. cond (nat_lt text_limit (length s)) long (of s)) (whole_read bytes source prefix (ltb-false text_limit (length source) e))

formula_whole : (bytes source : List ℕ) → source ≡ take read_limit bytes → formula_of source ≡ formula_of bytes
unfolding formula_of
formula_whole bytes source prefix = by_size (Err (1, TooLong)) (λ b. as_bad (dimacs b)) bytes source prefix

fault_whole : (f : Formula) (bytes source : List ℕ) → source ≡ take read_limit bytes → proof_fault f source ≡ proof_fault f bytes
unfolding proof_fault
fault_whole f bytes source prefix = by_size (Some (1, TooLong)) (λ b. first_fault f.variables (start f) 1 (proof_lines b)) bytes source prefix

-- a proof that is verified is no longer than a text may be
verified_whole : (f : Formula) (bytes source : List ℕ) → source ≡ take read_limit bytes → IsTrue (is_verified f source) → IsTrue (is_verified f bytes)
verified_whole f bytes source prefix h = none_verified f bytes (sym (fault_whole f bytes source prefix) ∙ verified_none f source h)

-- ---- runs

steps_whole : (registers inputs bytes source : List ℕ) → source ≡ take read_limit bytes → steps_of registers inputs source ≡ steps_of registers inputs bytes
unfolding steps_of
steps_whole registers inputs bytes source prefix = by_size (Err (1, step.TooLong)) (λ b. steps_from 1 registers inputs (lines b)) bytes source prefix

simulation_whole : (d : Design) (top : Name) (bytes source text : List ℕ) → source ≡ take read_limit bytes → IsSimulation d top source text → IsSimulation d top bytes text
simulation_whole d top bytes source text prefix is = record {
  one = is.one;
  found = is.found;
  says = is.says;
  read = sym (steps_whole (register_widths d top) (leaf_widths (input_types is.one.ports)) bytes source prefix) ∙ is.read;
  outputs = is.outputs;
  run = is.run;
  is = is.is;
}

sim_refusal_whole : (d : Design) (top : Name) (bytes source : List ℕ) (x : SimRefusal) → source ≡ take read_limit bytes → IsSimRefusal d top source x → IsSimRefusal d top bytes x
sim_refusal_whole d top bytes source NoModule prefix is = is
sim_refusal_whole d top bytes source (BadSteps r) prefix (m, found, fault) =
    (m, found, sym (steps_whole (register_widths d top) (leaf_widths (input_types m.ports)) bytes source prefix) ∙ fault)

-- ---- comparisons

first_prefix : (contents : List (List ℕ)) → first_input (prefixes contents) ≡ take read_limit (first_input contents)
first_prefix [] = refl
first_prefix (bytes ∷ contents) = refl

last_prefix : (contents : List (List ℕ)) → last_input (prefixes contents) ≡ take read_limit (last_input contents)
last_prefix [] = refl
last_prefix (bytes ∷ []) = refl
last_prefix (bytes ∷ more ∷ contents) = last_prefix (more ∷ contents)

module _ (contents sources : List (List ℕ)) (are : sources ≡ prefixes contents) where
  inputs_prefix : first_input sources ≡ take read_limit (first_input contents)
  inputs_prefix = ap first_input are ∙ first_prefix contents

  -- what is read of the first input and of the last one
  first_read : read (first_input sources) ≡ read (first_input contents)
  first_read = read_whole (first_input contents) (first_input sources) inputs_prefix

  last_read : read (last_input sources) ≡ read (last_input contents)
  last_read = read_whole (last_input contents) (last_input sources) (ap last_input are ∙ last_prefix contents)

  -- there are as many
  as_many : last_number sources ≡ last_number contents
  as_many = ap (λ n. n - 1) (ap length are ∙ length-map contents (take read_limit))

  taken_whole : (d e : Design) → AreTaken sources d e → AreTaken contents d e
  taken_whole d e taken = (
    accepted_whole (first_input contents) (first_input sources) d first_read taken.0,
    accepted_whole (last_input contents) (last_input sources) e last_read taken.1,
  )

  refused_pair_whole : (left right : Name) (r : Refusal) → IsRefusedPair left right sources r → IsRefusedPair left right contents r
  refused_pair_whole left right r (of_first x is) = of_first x (refused_in_again 0 (first_input contents) (first_input sources) x first_read is)
  refused_pair_whole left right r (of_last x d a is) =
      of_last x d (accepted_whole (first_input contents) (first_input sources) d first_read a)
      (subst (λ n. IsRefusedIn n (last_input contents) x) as_many (refused_in_again (last_number sources) (last_input contents) (last_input sources) x last_read is))
  refused_pair_whole left right r (of_pair x y d e taken is file) =
      of_pair x y d e (taken_whole d e taken) is (file ∙ ap (λ n. in_pair n y) as_many)

  same_whole : (left right : Name) (proof : Option Name) (files : List (Name × List ℕ)) (text : List ℕ) → IsSame left right proof sources files text → IsSame left right proof contents files text
  same_whole left right proof files text is = record {
    one = is.one;
    two = is.two;
    taken = taken_whole is.one is.two is.taken;
    log = is.log;
    agree = is.agree;
    proves = is.proves;
    is = is.is;
  }

  difference_whole : (left right : Name) (values : List Word) (text : List ℕ) → IsDifference left right sources values text → IsDifference left right contents values text
  difference_whole left right values text is = record {
    one = is.one;
    two = is.two;
    taken = taken_whole is.one is.two is.taken;
    differ = is.differ;
    names = is.names;
    are_names = is.are_names;
    as_many = is.as_many;
    is = is.is;
  }

  given_up_whole : (left right : Name) (limit : ℕ) (log : List Step) (text : List ℕ) → IsGivenUp left right limit sources log text → IsGivenUp left right limit contents log text
  given_up_whole left right limit log text is =
      record { one = is.one; two = is.two; taken = taken_whole is.one is.two is.taken; undecided = is.undecided; is = is.is }

  -- ---- checks

  formula_read : formula_of (first_input sources) ≡ formula_of (first_input contents)
  formula_read = formula_whole (first_input contents) (first_input sources) inputs_prefix

  proof_prefix : second_input sources ≡ take read_limit (second_input contents)
  proof_prefix = ap second_input are ∙ second_prefix contents

  verified_proof_whole : (text : List ℕ) → IsVerifiedProof sources text → IsVerifiedProof contents text
  verified_proof_whole text is = record {
    can = record {
      read = is.can.read;
      says = sym formula_read ∙ is.can.says;
      verified = verified_whole is.can.read (second_input contents) (second_input sources) proof_prefix is.can.verified;
    };
    unsatisfiable = is.unsatisfiable;
    is = is.is;
  }

  refused_proof_whole : (r : Refusal) → IsRefusedProof sources r → IsRefusedProof contents r
  refused_proof_whole r (of_formula line cause is) = of_formula line cause (sym formula_read ∙ is)
  refused_proof_whole r (of_proof f line cause says is) =
      of_proof f line cause (sym formula_read ∙ says) (sym (fault_whole f (second_input contents) (second_input sources) proof_prefix) ∙ is)

  -- ---- runs

  run_whole : (top : Name) (text : List ℕ) → IsRun top sources text → IsRun top contents text
  run_whole top text is = record {
    design = is.design;
    accepted = accepted_whole (first_input contents) (first_input sources) is.design first_read is.accepted;
    simulation = simulation_whole is.design top (second_input contents) (second_input sources) text proof_prefix is.simulation;
  }

  refused_run_whole : (top : Name) (r : Refusal) → IsRefusedRun top sources r → IsRefusedRun top contents r
  refused_run_whole top r (of_unread x is) = of_unread x (refused_in_again 0 (first_input contents) (first_input sources) x first_read is)
  refused_run_whole top r (of_run d x a is) =
      of_run d x (accepted_whole (first_input contents) (first_input sources) d first_read a)
      (sim_refusal_whole d top (second_input contents) (second_input sources) x proof_prefix is)

  -- ---- answers

  -- what is made of prefixes is made of the whole
  text_whole : (work : Work) (text : List ℕ) → IsText work sources text → IsText work contents text
  text_whole (mlir passes) text is = reprint_whole passes (first_input contents) (first_input sources) text first_read is
  text_whole (mlir_pieces passes) text is = pieces_whole passes (first_input contents) (first_input sources) text inputs_prefix is
  text_whole (verilog passes options) text is = translation_whole passes options (first_input contents) (first_input sources) text first_read is
  text_whole (aiger_export passes) text is = export_whole passes (first_input contents) (first_input sources) text first_read is
  text_whole (aiger_import passes) text is = import_whole passes (first_input contents) (first_input sources) text inputs_prefix is
  text_whole (generated_summary seed count) text is = is
  text_whole (generated_verilog seed count) text is = is
  text_whole (comparison left right limit proof) text is = absurd is
  text_whole proof_check text is = verified_proof_whole text is
  text_whole (simulation top) text is = run_whole top text is

  refusal_whole : (work : Work) (r : Refusal) → IsRefusedBy work sources r → IsRefusedBy work contents r
  refusal_whole (mlir passes) r is = refused_in_again 0 (first_input contents) (first_input sources) r first_read is
  refusal_whole (mlir_pieces passes) r is = refused_pieces_whole (first_input contents) (first_input sources) r inputs_prefix is
  refusal_whole (verilog passes options) r is = refused_in_again 0 (first_input contents) (first_input sources) r first_read is
  refusal_whole (aiger_export passes) r is = refused_export_whole passes (first_input contents) (first_input sources) r first_read is
  refusal_whole (aiger_import passes) r is = refused_import_whole (first_input contents) (first_input sources) r inputs_prefix is
  refusal_whole (generated_summary seed count) r is = absurd is
  refusal_whole (generated_verilog seed count) r is = absurd is
  refusal_whole (comparison left right limit proof) r is = refused_pair_whole left right r is
  refusal_whole proof_check r is = refused_proof_whole r is
  refusal_whole (simulation top) r is = refused_run_whole top r is

  finding_whole : (left right : Name) (limit : ℕ) (proof : Option Name) (verdict : Verdict) (t : Texts) → IsFinding left right limit proof sources verdict t
      → IsFinding left right limit proof contents verdict t
  finding_whole left right limit proof given t is = same_whole left right proof t.files t.text is
  finding_whole left right limit proof (different values) t is = (is.0, difference_whole left right values t.text is.1)
  finding_whole left right limit proof (unknown log) t is = (is.0, given_up_whole left right limit log t.text is.1)

  given_whole : (work : Work) (verdict : Verdict) (t : Texts) → IsGiven work sources verdict t → IsGiven work contents verdict t
  given_whole work given t is = (is.0, text_whole work t.text is.1)
  given_whole work (different values) t is = absurd is
  given_whole work (unknown log) t is = absurd is

  output_whole : (work : Work) (verdict : Verdict) (t : Texts) → IsOutput work sources verdict t → IsOutput work contents verdict t
  output_whole (comparison left right limit proof) verdict t is = finding_whole left right limit proof verdict t is
  output_whole (mlir passes) verdict t is = given_whole (mlir passes) verdict t is
  output_whole (mlir_pieces passes) verdict t is = given_whole (mlir_pieces passes) verdict t is
  output_whole (verilog passes options) verdict t is = given_whole (verilog passes options) verdict t is
  output_whole (aiger_export passes) verdict t is = given_whole (aiger_export passes) verdict t is
  output_whole (aiger_import passes) verdict t is = given_whole (aiger_import passes) verdict t is
  output_whole (generated_summary seed count) verdict t is = given_whole (generated_summary seed count) verdict t is
  output_whole (generated_verilog seed count) verdict t is = given_whole (generated_verilog seed count) verdict t is
  output_whole proof_check verdict t is = given_whole proof_check verdict t is
  output_whole (simulation top) verdict t is = given_whole (simulation top) verdict t is

  -- what is answered for prefixes is answered for the whole
  answer_whole : (work : Work) (x : Answer) → IsAnswer work sources x → IsAnswer work contents x
  answer_whole work (prints verdict t) is = output_whole work verdict t is
  answer_whole work (refuses r) is = refusal_whole work r is

-- what is refused of what was read is refused of the told files
pub refused_whole : (c : Command) (told : Told) (sources : List (List ℕ)) (r : Refusal) → AreReads told c.inputs sources → IsAnswer c.work sources (refuses r) → IsRefusalOf c told r
refused_whole c told sources r read is = λ contents h. answer_whole contents sources (prefixes_read told c.inputs sources contents read h) c.work (refuses r) is

-- what is made of what was read is made of the told files
pub made_whole : (c : Command) (told : Told) (sources : List (List ℕ)) (verdict : Verdict) (t : Texts) → AreReads told c.inputs sources → IsAnswer c.work sources (prints verdict t)
    → IsMadeOf c told verdict t
made_whole c told sources verdict t read is =
    λ contents h. answer_whole contents sources (prefixes_read told c.inputs sources contents read h) c.work (prints verdict t) is
