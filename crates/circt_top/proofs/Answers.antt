-- A text is answered exactly where it is not refused.
use Rattle.std.proofs.Common.{◌≡◌, ℕ, ◌⊎◌, inl, inr, List, [], ◌∷◌, arith, Option, Some, None, Ok, Err, refl, sym, ◌∙◌, ap, subst, false, true, is_some}
use Rattle.diag.specs.declared.refusal.Refusal.{Refusal}
use Rattle.hw_model.specs.Design.{Design}
use Rattle.resolution_proof.specs.Formula.{Formula}
use Rattle.resolution_proof.specs.declared.log.Step.{Step}
use Rattle.command_line.specs.Line.{Work, proof_files, files_before}
use Rattle.command_line.specs.Line.Work.{mlir, mlir_pieces, verilog, aiger_export, aiger_import, generated_summary, generated_verilog, comparison, proof_check, simulation}
use Rattle.mlir_reader.specs.Reading.{read}
use Rattle.op_verifier.specs.Faults.{first_fault}
use Rattle.op_verifier.specs.Verdict.{IsAccepted, IsRefusal, unfit, recursive, too_large, cyclic}
use Rattle.circt_top.specs.Accepting.{Accepted, IsRefused, IsRefusedIn, first_input, unread, unaccepted}
use Rattle.pass_pipeline.specs.declared.pass.Pass.{Pass}
use Rattle.circt_top.specs.Pieces.{Piece, pieces_of}
use Rattle.circt_top.specs.PieceReprint.{AreReprints, IsFirstRefused, IsRefusedInPieces, AreAccepted, IsAcceptedInPieces}
use Rattle.hw_model.specs.Types.{Name}
use Rattle.lec_tool.specs.Comparable.{AreComparable}
use Rattle.lec_tool.specs.Comparisons.{IsComparisonRefusal}
use Rattle.lec_tool.specs.Verdicts.{IsAffordable}
use Rattle.lec_tool.proofs.Unrefused.{compared_unrefused}
use Rattle.circt_top.specs.Comparing.{last_input, last_number, AreTaken, AreProofFiles, IsRefusedPair, CanBeCompared}
use Rattle.circt_top.specs.Comparing.IsRefusedPair.{first as of_first, last as of_last, pair as of_pair}
use Rattle.circt_top.specs.Stops.{names_in}
use Rattle.circt_top.proofs.Checks.{verified_unrefused}
use Rattle.circt_top.proofs.Simulations.{run_unrefused, run_can_be}
use Rattle.circt_top.proofs.Imports.{import_unrefused}
use Rattle.circt_top.proofs.Exports.{export_unrefused, export_can_be}
use Rattle.circt_top.specs.Outcome.{Verdict, Texts, alone, IsText, IsGiven, IsAnswer, IsAnswered}
use Rattle.circt_top.specs.Outcome.Verdict.{given, different, unknown}
use Rattle.circt_top.specs.Outcome.Answer.{prints, refuses}

-- what is accepted is not refused
not_both : (d : Design) (r : Refusal) → IsAccepted d → IsRefusal d r → ⊥
not_both d r a (unfit x e) = let f : is_some (first_fault d) ≡ true = ap is_some e in let g : true ≡ false = sym f ∙ a.unrefused in cc
not_both d r a (recursive n j m o none first) = a.no_recursion n j m o first.there first.meets
not_both d r a (too_large n m none finite first) = a.light n m first.there first.meets
not_both d r a (cyclic n j m o none finite light first) = a.no_cycle n j m o first.there first.meets

-- a text says one design
one_design : (bytes : List ℕ) (d e : Design) → read bytes ≡ Ok d → read bytes ≡ Ok e → d ≡ e
one_design bytes d e h k = let x : Ok d ≡ Ok e = sym h ∙ k in cc

unrefused : (bytes : List ℕ) (d : Design) (r : Refusal) → Accepted bytes d → IsRefused bytes r → ⊥
unrefused bytes d r a (unread x e) = let f : Err x ≡ Ok d = sym e ∙ a.says in cc
unrefused bytes d r a (unaccepted e x h refused) = not_both e x (subst IsAccepted (one_design bytes d e a.says h) a.accepted) refused

unrefused_in : (number : ℕ) (bytes : List ℕ) (d : Design) (r : Refusal) → Accepted bytes d → IsRefusedIn number bytes r → ⊥
unrefused_in number bytes d r a is = unrefused bytes d is.refusal a is.refused

-- of pieces that are accepted none is refused
none_refused : (ps : List Piece) (r : Refusal) → AreAccepted ps → IsFirstRefused ps r → ⊥
none_refused [] r a is = is
none_refused (p ∷ ps) r a (inl is) = unrefused p.bytes a.0.0 is.refusal a.0.1 is.refused
none_refused (p ∷ ps) r a (inr is) = none_refused ps r a.1 is.1

pieces_unrefused : (bytes : List ℕ) (r : Refusal) → IsAcceptedInPieces bytes → IsRefusedInPieces bytes r → ⊥
pieces_unrefused bytes r a (inl is) = absurd (omega (arith, is.0, a.short))
pieces_unrefused bytes r a (inr is) = none_refused (pieces_of bytes) r a.each is.1

-- pieces that are printed are accepted
pub printed_accepted : (passes : List Pass) (ps : List Piece) (texts : List (List ℕ)) → AreReprints passes ps texts → AreAccepted ps
printed_accepted passes [] [] h = tt
printed_accepted passes [] (text ∷ texts) h = absurd h
printed_accepted passes (p ∷ ps) [] h = absurd h
printed_accepted passes (p ∷ ps) (text ∷ texts) h = ((h.0.design, h.0.accepted), printed_accepted passes ps texts h.1)

-- modules that can be compared are not refused
pair_unrefused : (left right : Name) (contents : List (List ℕ)) (r : Refusal) → CanBeCompared left right contents → IsRefusedPair left right contents r → ⊥
pair_unrefused left right contents r can (of_first x is) = unrefused_in 0 (first_input contents) can.one x can.taken.0 is
pair_unrefused left right contents r can (of_last x d a is) = unrefused_in (last_number contents) (last_input contents) can.two x can.taken.1 is
pair_unrefused left right contents r can (of_pair y x d e taken is file) =
    let one : d ≡ can.one = one_design (first_input contents) d can.one taken.0.says can.taken.0.says in
    let two : e ≡ can.two = one_design (last_input contents) e can.two taken.1.says can.taken.1.says in
    can.unrefused x (subst (λ f. IsComparisonRefusal can.one left f right x) two (subst (λ f. IsComparisonRefusal f left e right x) one is))

-- modules that were compared can be
can_be : (left right : Name) (contents : List (List ℕ)) (d e : Design) → AreTaken contents d e → AreComparable d left e right → IsAffordable d left e right → CanBeCompared left right contents
can_be left right contents d e taken are paid =
    record { one = d; two = e; taken = taken; unrefused = λ r is. compared_unrefused d left e right r are paid is }

-- what is answered is not refused
pub answered_unrefused : (work : Work) (contents : List (List ℕ)) (r : Refusal) → IsAnswered work contents → IsAnswer work contents (refuses r) → ⊥
answered_unrefused (mlir passes) contents r a is = unrefused_in 0 (first_input contents) a.0 r a.1 is
answered_unrefused (mlir_pieces passes) contents r a is = pieces_unrefused (first_input contents) r a is
answered_unrefused (verilog passes options) contents r a is = unrefused_in 0 (first_input contents) a.0 r a.1 is
answered_unrefused (aiger_export passes) contents r a is = export_unrefused passes (first_input contents) r (unrefused_in 0 (first_input contents) a.design r a.accepted) a is
answered_unrefused (aiger_import passes) contents r a is = import_unrefused (first_input contents) r a is
answered_unrefused (generated_summary seed count) contents r a is = is
answered_unrefused (generated_verilog seed count) contents r a is = is
answered_unrefused (comparison left right limit proof) contents r a is = pair_unrefused left right contents r a is
answered_unrefused proof_check contents r a is = verified_unrefused contents r a is
answered_unrefused (simulation top) contents r a is = run_unrefused top contents r (unrefused_in 0 (first_input contents) a.design r a.accepted) a is

-- what a text is made of is answered
text_answered : (work : Work) (contents : List (List ℕ)) (text : List ℕ) → IsText work contents text → IsAnswered work contents
text_answered (mlir passes) contents text is = (is.design, is.accepted)
text_answered (mlir_pieces passes) contents text is =
    record { short = is.short; each = printed_accepted passes (pieces_of (first_input contents)) is.printed.texts is.printed.each }
text_answered (verilog passes options) contents text is = (is.design, is.accepted)
text_answered (aiger_export passes) contents text is = export_can_be passes (first_input contents) text is
text_answered (aiger_import passes) contents text is = is.can
text_answered (generated_summary seed count) contents text is = tt
text_answered (generated_verilog seed count) contents text is = tt
text_answered (comparison left right limit proof) contents text is = absurd is
text_answered proof_check contents text is = is.can
text_answered (simulation top) contents text is = run_can_be top contents text is

given_answered : (work : Work) (contents : List (List ℕ)) (verdict : Verdict) (t : Texts) → IsGiven work contents verdict t → IsAnswered work contents
given_answered work contents given t is = text_answered work contents t.text is.1
given_answered work contents (different values) t is = absurd is
given_answered work contents (unknown log) t is = absurd is

-- what gives a text is answered
pub made_answered : (work : Work) (contents : List (List ℕ)) (verdict : Verdict) (t : Texts) → IsAnswer work contents (prints verdict t) → IsAnswered work contents
made_answered (mlir passes) contents verdict t is = given_answered (mlir passes) contents verdict t is
made_answered (mlir_pieces passes) contents verdict t is = given_answered (mlir_pieces passes) contents verdict t is
made_answered (verilog passes options) contents verdict t is = given_answered (verilog passes options) contents verdict t is
made_answered (aiger_export passes) contents verdict t is = given_answered (aiger_export passes) contents verdict t is
made_answered (aiger_import passes) contents verdict t is = given_answered (aiger_import passes) contents verdict t is
made_answered (generated_summary seed count) contents verdict t is = tt
made_answered (generated_verilog seed count) contents verdict t is = tt
made_answered proof_check contents verdict t is = given_answered proof_check contents verdict t is
made_answered (simulation top) contents verdict t is = given_answered (simulation top) contents verdict t is
made_answered (comparison left right limit proof) contents given t is = can_be left right contents is.one is.two is.taken is.agree.comparable is.agree.affordable
made_answered (comparison left right limit proof) contents (different values) t is =
    let d = is.1 in can_be left right contents d.one d.two d.taken d.differ.comparable d.differ.affordable
made_answered (comparison left right limit proof) contents (unknown log) t is =
    let u = is.1 in can_be left right contents u.one u.two u.taken u.undecided.comparable u.undecided.affordable

-- a text alone is an answer
pub text_answers : (work : Work) (contents : List (List ℕ)) (text : List ℕ) → IsText work contents text → IsAnswer work contents (prints given (alone text))
text_answers (mlir passes) contents text is = (refl, is)
text_answers (mlir_pieces passes) contents text is = (refl, is)
text_answers (verilog passes options) contents text is = (refl, is)
text_answers (aiger_export passes) contents text is = (refl, is)
text_answers (aiger_import passes) contents text is = (refl, is)
text_answers (generated_summary seed count) contents text is = (refl, is)
text_answers (generated_verilog seed count) contents text is = (refl, is)
text_answers (comparison left right limit proof) contents text is = absurd is
text_answers proof_check contents text is = (refl, is)
text_answers (simulation top) contents text is = (refl, is)

-- the files that go out are those that the work names, or none
given_files : (work : Work) (contents : List (List ℕ)) (verdict : Verdict) (t : Texts) → IsGiven work contents verdict t → t.files ≡ []
given_files work contents given t is = is.0
given_files work contents (different values) t is = absurd is
given_files work contents (unknown log) t is = absurd is

none_named : (fs : List (Name × List ℕ)) (names : List Name) → fs ≡ [] → (names_in fs ≡ []) ⊎ (names_in fs ≡ names)
none_named fs names none = inl (ap names_in none)

proof_named : (proof : Option Name) (f : Formula) (log : List Step) (fs : List (Name × List ℕ)) → AreProofFiles proof f log fs → (names_in fs ≡ []) ⊎ (names_in fs ≡ proof_files proof)
proof_named None f log fs are = inl (ap names_in are)
proof_named (Some name) f log fs are = inr (ap names_in are.0)

pub files_named : (work : Work) (contents : List (List ℕ)) (verdict : Verdict) (t : Texts) → IsAnswer work contents (prints verdict t)
    → (names_in t.files ≡ []) ⊎ (names_in t.files ≡ files_before work)
files_named (mlir passes) contents verdict t is = none_named t.files [] (given_files (mlir passes) contents verdict t is)
files_named (mlir_pieces passes) contents verdict t is = none_named t.files [] (given_files (mlir_pieces passes) contents verdict t is)
files_named (verilog passes options) contents verdict t is = none_named t.files [] (given_files (verilog passes options) contents verdict t is)
files_named (aiger_export passes) contents verdict t is = none_named t.files [] (given_files (aiger_export passes) contents verdict t is)
files_named (aiger_import passes) contents verdict t is = none_named t.files [] (given_files (aiger_import passes) contents verdict t is)
files_named (generated_summary seed count) contents verdict t is = none_named t.files [] (given_files (generated_summary seed count) contents verdict t is)
files_named (generated_verilog seed count) contents verdict t is = none_named t.files [] (given_files (generated_verilog seed count) contents verdict t is)
files_named proof_check contents verdict t is = none_named t.files [] (given_files proof_check contents verdict t is)
files_named (simulation top) contents verdict t is = none_named t.files [] (given_files (simulation top) contents verdict t is)
files_named (comparison left right limit proof) contents given t is = proof_named proof is.agree.formula is.log t.files is.proves
files_named (comparison left right limit proof) contents (different values) t is = none_named t.files (proof_files proof) is.0
files_named (comparison left right limit proof) contents (unknown log) t is = none_named t.files (proof_files proof) is.0
