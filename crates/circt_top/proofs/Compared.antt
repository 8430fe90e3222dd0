-- What is made of the inputs of a comparison.
use Rattle.std.proofs.Common.{◌≡◌, ℕ, ◌<◌, ◌≤◌, ◌-◌, suc, get_or, ◌⊎◌, inl, inr, List, [], ◌∷◌, ◌++◌, length, Option, Some, None, Result, Ok, Err, codes, refl, sym, subst, ◌∙◌, ap, arith}
use Rattle.std.proofs.lemmas.List.{append-nil}
use Rattle.bits_core.specs.Word.{Word}
use Rattle.resolution_proof.specs.Formula.{Formula}
use Rattle.resolution_proof.specs.declared.log.Step.{Step}
use Rattle.lrat_text.specs.Written.{dimacs_text, lrat_text}
use Rattle.lrat_text.specs.Verified.{Verified as VerifiedTexts}
use Rattle.resolution_proof.specs.Proof.{Refutes}
use Rattle.lec_tool.specs.Verdicts.{DoAgree}
use Rattle.lec_tool.specs.Comparisons.{IsRefusedComparison}
use Rattle.miter_blast.specs.declared.fail.MiterFail.{MiterFail}
use Rattle.miter_blast.specs.declared.fail.MiterFail.TheVariants as miter
use Rattle.ir_store.specs.Designs.{design_of}
use Rattle.op_verifier.specs.declared.accepted.Verified.{Verified}
use Rattle.hw_model.specs.Types.{Name}
use Rattle.hw_model.specs.Design.{Design}
use Rattle.command_line.specs.Line.{Work}
use Rattle.command_line.specs.Line.Work.{comparison}
use Rattle.lec_tool.proofs.Named.{one_each}
use Rattle.circt_top.specs.Accepting.{Accepted, first_input}
use Rattle.circt_top.specs.Comparing.{last_input, last_number, AreTaken, in_pair, value_lines, AreProofFiles}
use Rattle.circt_top.specs.Comparing.IsRefusedPair.{first as of_first, last as of_last, pair as of_pair}
use Rattle.circt_top.specs.Conclusions.{IsFound, IsEither, comparison_failure}
use Rattle.circt_top.specs.Outcome.{IsAnswer, verdict_of, files_of, Gives, GivesText}
use Rattle.circt_top.specs.Outcome.Answer.{prints}
use Rattle.circt_top.specs.OutcomeParts.{IsTaken, fail_in_file}
use Rattle.circt_top.specs.declared.made.Made.{Made}
use Rattle.circt_top.specs.declared.made.Finding.{Finding}
use Rattle.circt_top.specs.declared.made.Finding.TheVariants.{Given, Different, Unknown}
use Rattle.circt_top.specs.declared.made.OutcomeFail.{OutcomeFail}
use Rattle.circt_top.specs.declared.made.OutcomeFail.TheVariants.{Refused, NoMemory}

-- the last of fewer than two inputs is the first one
pub last_of_one : (contents : List (List ℕ)) → length contents < 2 → last_input contents ≡ first_input contents
last_of_one [] few = refl
last_of_one (bytes ∷ []) few = refl
last_of_one (bytes ∷ more ∷ contents) few = absurd (omega (arith, few))

-- the last of inputs stands one before their number
pub last_at : (default : List ℕ) (contents : List (List ℕ)) → 1 ≤ length contents → get_or contents (length contents - 1) default ≡ last_input contents
last_at default [] some = absurd (omega (arith, some))
last_at default (bytes ∷ []) some = refl
last_at default (bytes ∷ more ∷ contents) some =
    let size : length (bytes ∷ more ∷ contents) - 1 ≡ suc (length (more ∷ contents) - 1) = omega arith in
    ap (λ k. get_or (bytes ∷ more ∷ contents) k default) size ∙ last_at default (more ∷ contents) (omega arith)

-- no names or no values, no lines
pub no_lines : (text : List ℕ) (names : List Name) (values : List Word) → (length names ≡ 0) ⊎ (length values ≡ 0) → text ++ value_lines names values ≡ text
no_lines text [] values end = append-nil text
no_lines text (name ∷ names) [] end = append-nil text
no_lines text (name ∷ names) (value ∷ values) (inl none) = absurd (omega (arith, none))
no_lines text (name ∷ names) (value ∷ values) (inr none) = absurd (omega (arith, none))

-- what is taken of bytes is the design that they say
pub taken_of : {contents : List ℕ} (bytes : List ℕ) (result : Result Verified OutcomeFail) (v : Verified) → bytes ≡ contents → IsTaken bytes result → result ≡ Ok v
    → Accepted contents (design_of v.design)
taken_of bytes result v is taken ok = subst (λ b. Accepted b (design_of v.design)) is (subst (λ r. IsTaken bytes r) ok taken)

pub untaken_of : {contents : List ℕ} (bytes : List ℕ) (result : Result Verified OutcomeFail) (fail : OutcomeFail) → bytes ≡ contents → IsTaken bytes result → result ≡ Err fail
    → IsTaken contents (Err fail)
untaken_of bytes result fail is taken err = subst (λ b. IsTaken b (Err fail)) is (subst (λ r. IsTaken bytes r) err taken)

-- what gives no text gives nothing else
pub no_text : (work : Work) (contents : List (List ℕ)) (fail : OutcomeFail) → GivesText work contents (Err fail) → Gives work contents (Err fail)
no_text work contents (Refused r) is = is
no_text work contents NoMemory is = tt

module _ (left right : Name) (limit : ℕ) (proof : Option Name) (contents : List (List ℕ)) where
  -- what is refused of the first input, and of the last one
  pub first_refused : (fail : OutcomeFail) → IsTaken (first_input contents) (Err fail) → Gives (comparison left right limit proof) contents (Err (fail_in_file 0 fail))
  first_refused (Refused r) is = of_first _ (record { refusal = r; refused = is; numbered = refl })
  first_refused NoMemory is = tt

  pub last_refused : (d : Design) (fail : OutcomeFail) → Accepted (first_input contents) d → IsTaken (last_input contents) (Err fail)
      → Gives (comparison left right limit proof) contents (Err (fail_in_file (last_number contents) fail))
  last_refused d (Refused r) taken is = of_last _ d taken (record { refusal = r; refused = is; numbered = refl })
  last_refused d NoMemory taken is = tt

  pub first_fails : (bytes : List ℕ) (result : Result Verified OutcomeFail) (fail failed : OutcomeFail) → bytes ≡ first_input contents → IsTaken bytes result → result ≡ Err fail
      → failed ≡ fail_in_file 0 fail → Gives (comparison left right limit proof) contents (Err failed)
  first_fails bytes result fail failed is taken err in_file =
      subst (λ f. Gives (comparison left right limit proof) contents (Err f)) (sym in_file) (first_refused fail (untaken_of bytes result fail is taken err))

  pub last_fails : (d : Design) → Accepted (first_input contents) d → (bytes : List ℕ) (result : Result Verified OutcomeFail) (fail : OutcomeFail) (number : ℕ) (failed : OutcomeFail)
      → bytes ≡ last_input contents → IsTaken bytes result → result ≡ Err fail → number ≡ last_number contents → failed ≡ fail_in_file number fail
      → Gives (comparison left right limit proof) contents (Err failed)
  last_fails d accepted bytes result fail number failed is taken err numbered in_file =
      subst (λ f. Gives (comparison left right limit proof) contents (Err f)) (sym (in_file ∙ ap (λ n. fail_in_file n fail) numbered))
      (last_refused d fail accepted (untaken_of bytes result fail is taken err))

  module _ (d e : Design) (taken : AreTaken contents d e) where
    found : (finding : Finding) (files : List (Name × List ℕ)) (text : List ℕ) → IsFound left right limit proof d e finding files text
        → IsAnswer (comparison left right limit proof) contents (prints (verdict_of finding) (record { files = files; text = text }))
    found Given files text is = let same = is.0 in
        record { one = d; two = e; taken = taken; log = same.0; agree = same.1; proves = same.2; is = is.1 }
    found (Different input) files text is = let x = is.1 in (
      is.0,
      record { one = d; two = e; taken = taken; differ = x.0; names = x.1.0; are_names = x.1.1; as_many = one_each d left e right input x.1.0 x.0 x.1.1; is = x.1.2 },
    )
    found (Unknown log) files text is = let x = is.1 in (is.0, record { one = d; two = e; taken = taken; undecided = x.0; is = x.1 })

    -- what is concluded of the modules of the two designs is the answer
    pub concluded : (number : ℕ) (result : Result Made OutcomeFail) → number ≡ last_number contents → IsEither left right limit proof d e number result
        → Gives (comparison left right limit proof) contents result
    concluded number (Ok made) is either = found made.finding (files_of made.proof) made.text either
    concluded number (Err (Refused r)) is either = of_pair r either.0 d e taken either.1 (either.2 ∙ ap (λ n. in_pair n either.0) is)
    concluded number (Err NoMemory) is either = tt

-- why modules are not compared
pub uncompared : (left right : Name) (limit : ℕ) (proof : Option Name) (d e : Design) (number : ℕ) (fail : MiterFail) → IsRefusedComparison d left e right fail
    → IsEither left right limit proof d e number (Err (comparison_failure number fail))
uncompared left right limit proof d e number (miter.Refused r) refused = (r, refused, refl)
uncompared left right limit proof d e number miter.NoMemory refused = tt

-- where nothing asks for a proof, none goes out
pub no_files : (f : Formula) (log : List Step) → AreProofFiles None f log []
no_files f log = refl

-- the formula and the log as the texts of the files
pub proof_files_of : (name formula_name : Name) (f : Formula) (log : List Step) (formula proof : List ℕ) → formula_name ≡ name ++ codes ".cnf" → formula ≡ dimacs_text f → proof ≡ lrat_text f log
    → VerifiedTexts (dimacs_text f) proof → AreProofFiles (Some name) f log ((formula_name, formula) ∷ (name, proof) ∷ [])
proof_files_of name formula_name f log formula proof named is written verified =
    (rw (named, is, written) refl, subst (λ p. VerifiedTexts (dimacs_text f) p) written verified)

module _ (d : Design) (left : Name) (e : Design) (right : Name) (log : List Step) (formula : Formula) (decision : (agree : DoAgree d left e right log) × (agree.formula ≡ formula)) where
  -- the log refutes the formula of the verdict
  pub refuted : (f : Formula) → f ≡ formula → Refutes f log
  refuted f is = let agree = decision.0 in subst (λ g. Refutes g log) (decision.1 ∙ sym is) agree.refutes

  -- modules that are the same, with the files that prove it
  pub same_found : (limit : ℕ) (proof : Option Name) (f : Formula) (files : List (Name × List ℕ)) (text : List ℕ) → f ≡ formula → AreProofFiles proof f log files → text ≡ codes "c1 == c2\n"
      → IsFound left right limit proof d e Given files text
  same_found limit proof f files text is are written = ((log, decision.0, subst (λ g. AreProofFiles proof g log files) (is ∙ sym decision.1) are), written)
