-- From what is decided of the formula of a comparison to a verdict on the modules.
use Rattle.std.proofs.Common.{◌≡◌, ℕ, ◌↔◌, Bool, List, length, refl, ◌∙◌, IsTrue}
use Rattle.resolution_proof.specs.Formula.{Formula, satisfies}
use Rattle.resolution_proof.specs.Proof.{Refutes, Exhausts}
use Rattle.resolution_proof.specs.declared.log.Step.{Step}
use Rattle.bits_core.specs.Word.{Word}
use Rattle.hw_model.specs.Types.{Name}
use Rattle.hw_model.specs.Design.{Design}
use Rattle.hw_model.specs.Flat.{state}
use Rattle.hw_model.specs.Machine.{Run}
use Rattle.hw_model.specs.Meaning.{machine}
use Rattle.hw_model.specs.Agreement.{Agree}
use Rattle.op_verifier.specs.Verdict.{IsAccepted}
use Rattle.printing_laws.specs.Printable.{Printable}
use Rattle.miter_blast.specs.Comparable.{AreComparable, IsDifferenceOf, IsFormulaOf, gates_of}
use Rattle.miter_blast.specs.Cuts.{cut}
use Rattle.miter_blast.specs.MiterForms.{MiterForm}
use Rattle.miter_blast.specs.Comparisons.{IsComparison}
use Rattle.lec_tool.specs.Verdicts.{IsAffordable, DoAgree, DoDiffer, IsUndecided, IsVerdict, IsDecision, IsFoundOf}
use Rattle.lec_tool.specs.declared.verdict.Verdict.{Verdict}
use Rattle.lec_tool.specs.declared.verdict.Verdict.TheVariants.{Same, Differ, Unknown}
use Rattle.lec_tool.proofs.CutLeaves.{leaves_cut}

-- what the laws of comparisons say
pub record FormulaLaws : Type 0 where
  pub differences : (d : Design) (a : Name) (e : Design) (b : Name) → IsAccepted d → Printable d → IsAccepted e → Printable e → AreComparable d a e b
      → (f : Formula) (is : IsFormulaOf d a e b f) (bits : List Bool) → IsTrue (satisfies bits f) ↔ IsDifferenceOf d a e b (gates_of is) bits
  pub steps : (d : Design) (a : Name) (e : Design) (b : Name) → IsAccepted d → Printable d → IsAccepted e → Printable e → AreComparable d a e b
      → (f : Formula) → IsFormulaOf d a e b f → ((bits : List Bool) → IsTrue (satisfies bits f) → ⊥) → Agree d a e b
  pub runs : (d : Design) (a : Name) (e : Design) (b : Name) → IsAccepted d → Printable d → IsAccepted e → Printable e → AreComparable d a e b
      → (f : Formula) → IsFormulaOf d a e b f → ((bits : List Bool) → IsTrue (satisfies bits f) → ⊥)
      → (content : Word) (steps outputs : List Word) → length content ≡ state d a → Run (machine d a) content steps outputs ↔ Run (machine e b) content steps outputs

module _ (laws : FormulaLaws) (d : Design) (a : Name) (e : Design) (b : Name) (d_accepted : IsAccepted d) (d_printable : Printable d) (e_accepted : IsAccepted e) (e_printable : Printable e)
    (m : MiterForm) (is : IsComparison d a e b m) where
  affordable : IsAffordable d a e b
  affordable = record { price = is.price; is_price = is.priced; within = is.within }

  -- where the formula is refuted, the modules agree
  agreed : (log : List Step) → Refutes m.formula log → DoAgree d a e b log
  agreed log refutes = record {
    comparable = is.comparable;
    affordable = affordable;
    formula = m.formula;
    is_formula = is.formula;
    refutes = refutes;
    agree = laws.steps d a e b d_accepted d_printable e_accepted e_printable is.comparable m.formula is.formula refutes.unsatisfiable;
    runs = laws.runs d a e b d_accepted d_printable e_accepted e_printable is.comparable m.formula is.formula refutes.unsatisfiable;
  }

  -- where an assignment satisfies it, they differ at the words that are cut of it
  differing : (bits : List Bool) → IsTrue (satisfies bits m.formula) → (values : List Word) → values ≡ cut m.widths bits → DoDiffer d a e b values
  differing bits holds values are =
      let was = (laws.differences d a e b d_accepted d_printable e_accepted e_printable is.comparable m.formula is.formula bits).0 holds in
      record {
        comparable = is.comparable;
        affordable = affordable;
        input = was.input;
        held = was.held;
        input_width = was.input_width;
        held_width = was.held_width;
        differ = was.differ;
        are =
            are ∙ leaves_cut d a is.comparable.one (gates_of is.formula) was.input was.held bits m.widths is.comparable.one_found was.input_width was.held_width was.evaluation is.widths;
      }

  -- where neither is found, that is all that is known
  undecided : (budget : ℕ) (log : List Step) → Exhausts m.formula budget log → IsUndecided d a e b budget log
  undecided budget log exhausts =
      record { comparable = is.comparable; affordable = affordable; formula = m.formula; is_formula = is.formula; exhausts = exhausts }

  -- what is found of the comparison is the verdict, about its formula
  pub decided : (budget : ℕ) (verdict : Verdict) → IsFoundOf m budget verdict → IsDecision d a e b budget m.formula verdict
  unfolding agreed undecided
  decided budget (Same log) refutes = (agreed log refutes, refl)
  decided budget (Differ values) found = (differing found.0 found.1 values found.2, is.formula)
  decided budget (Unknown log) exhausts = (undecided budget log exhausts, refl)

-- a decision has the verdict
pub verdict_alone : (d : Design) (a : Name) (e : Design) (b : Name) (budget : ℕ) (formula : Formula) (verdict : Verdict) → IsDecision d a e b budget formula verdict → IsVerdict d a e b budget verdict
verdict_alone d a e b budget formula (Same log) decision = decision.0
verdict_alone d a e b budget formula (Differ values) decision = decision.0
verdict_alone d a e b budget formula (Unknown log) decision = decision.0
