-- What a verdict on two modules says (CIRCT: `circt-lec`; Brand, 1993).
use Rattle.std.specs.Prelude.{◌≡◌, ℕ, ◌≤◌, ◌↔◌, ◌++◌, Bool, List, length, IsTrue}
use Rattle.resolution_proof.specs.Formula.{Formula, satisfies}
use Rattle.resolution_proof.specs.Proof.{Refutes, Exhausts}
use Rattle.resolution_proof.specs.declared.log.Step.{Step}
use Rattle.bits_core.specs.Word.{Word}
use Rattle.hw_model.specs.Types.{Name}
use Rattle.hw_model.specs.Design.{Design}
use Rattle.hw_model.specs.Flat.{state}
use Rattle.hw_model.specs.Machine.{Run}
use Rattle.hw_model.specs.Meaning.{machine}
use Rattle.hw_model.specs.Agreement.{input_bits, Agree}
use Rattle.miter_blast.specs.Comparable.{AreComparable, DifferAt, IsFormulaOf}
use Rattle.miter_blast.specs.Cuts.{cut}
use Rattle.miter_blast.specs.MiterForms.{MiterForm}
use Rattle.miter_blast.specs.Building.{most_gates}
use Rattle.miter_blast.specs.Comparisons.{leaf_widths, IsPriceOf}
use Rattle.lec_tool.specs.declared.verdict.Verdict.{Verdict}
use Rattle.lec_tool.specs.declared.verdict.Verdict.TheVariants.{Same, Differ, Unknown}

-- the comparison takes no more gates than may be
pub record IsAffordable (d : Design) (a : Name) (e : Design) (b : Name) : Type 0 where
  pub price : ℕ
  pub is_price : IsPriceOf d a e b price
  pub within : price ≤ most_gates

-- a log refutes the formula of the comparison: the modules agree, and have the same runs from each content
pub record DoAgree (d : Design) (a : Name) (e : Design) (b : Name) (log : List Step) : Type 0 where
  pub comparable : AreComparable d a e b
  pub affordable : IsAffordable d a e b
  pub formula : Formula
  pub is_formula : IsFormulaOf d a e b formula
  pub refutes : Refutes formula log
  pub agree : Agree d a e b
  pub runs : (content : Word) (steps outputs : List Word) → length content ≡ state d a → Run (machine d a) content steps outputs ↔ Run (machine e b) content steps outputs

-- the modules differ in a step with these inputs from this content, leaf by leaf
pub record DoDiffer (d : Design) (a : Name) (e : Design) (b : Name) (values : List Word) : Type 0 where
  pub comparable : AreComparable d a e b
  pub affordable : IsAffordable d a e b
  pub input : Word
  pub held : Word
  pub input_width : length input ≡ input_bits d a
  pub held_width : length held ≡ state d a
  pub differ : DifferAt d a e b input held
  pub are : values ≡ cut (leaf_widths d a comparable.one) (input ++ held)

-- a log over the formula of the comparison has as many steps as the budget, each clause new
pub record IsUndecided (d : Design) (a : Name) (e : Design) (b : Name) (budget : ℕ) (log : List Step) : Type 0 where
  pub comparable : AreComparable d a e b
  pub affordable : IsAffordable d a e b
  pub formula : Formula
  pub is_formula : IsFormulaOf d a e b formula
  pub exhausts : Exhausts formula budget log

abbrev pub IsVerdict : Design → Name → Design → Name → ℕ → Verdict → Type 0
IsVerdict d a e b budget (Same log) = DoAgree d a e b log
IsVerdict d a e b budget (Differ values) = DoDiffer d a e b values
IsVerdict d a e b budget (Unknown log) = IsUndecided d a e b budget log

-- the same with the formula that the verdict is about
abbrev pub IsDecision : Design → Name → Design → Name → ℕ → Formula → Verdict → Type 0
IsDecision d a e b budget formula (Same log) = (agree : DoAgree d a e b log) × (agree.formula ≡ formula)
IsDecision d a e b budget formula (Differ values) = DoDiffer d a e b values × IsFormulaOf d a e b formula
IsDecision d a e b budget formula (Unknown log) = (undecided : IsUndecided d a e b budget log) × (undecided.formula ≡ formula)

-- what is found of a comparison by itself: a log that refutes its formula, what an assignment that satisfies it gives the leaves, or a
-- log that has as many steps as the budget
abbrev pub IsFoundOf : MiterForm → ℕ → Verdict → Type 0
IsFoundOf m budget (Same log) = Refutes m.formula log
IsFoundOf m budget (Differ values) = (bits : List Bool) × IsTrue (satisfies bits m.formula) × (values ≡ cut m.widths bits)
IsFoundOf m budget (Unknown log) = Exhausts m.formula budget log
