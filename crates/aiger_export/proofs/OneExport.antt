-- A design is refused in one way at most, or has a text.
use Rattle.std.proofs.Common.{◌≡◌, sym, ap, ap₂, subst, refl, ◌∙◌, ℕ, List, slice_get, Option, Some, None}
use Rattle.diag.specs.declared.refusal.Refusal.{Refusal}
use Rattle.hw_model.specs.Design.{Module, Design}
use Rattle.op_verifier.specs.Faults.{header_refusal}
use Rattle.miter_blast.proofs.Finding.{same_there}
use Rattle.and_gates.specs.declared.fail.ExportFault.{ExportFault}
use Rattle.and_gates.specs.Faults.{IsExportFault}
use Rattle.and_gates.proofs.OneExport.{faults_are_one, export_unrefused}
use Rattle.aiger_export.specs.PublicModules.{only_public, IsOnlyPublic}
use Rattle.aiger_export.specs.Exports.{cause_of, IsExportRefusal, modules, fault, IsExportText}

same_number : (o : Option ℕ) (n k : ℕ) → o ≡ Some n → o ≡ Some k → n ≡ k
same_number None n k is also = cc
same_number (Some x) n k is also = let one : x ≡ n = cc in let two : x ≡ k = cc in sym one ∙ two

none_and_some : {A : Type 0} (o : Option ℕ) (n : ℕ) → o ≡ None → o ≡ Some n → A
none_and_some None n is also = cc
none_and_some (Some x) n is also = cc

module _ (d : Design) where
  one_module : (n k : ℕ) (m p : Module) (same : n ≡ k) → IsOnlyPublic d n m → IsOnlyPublic d k p → m ≡ p
  one_module n k m p same first second = same_there d n m p first.at (ap (slice_get d) same ∙ second.at)

  same_refusal : (n k : ℕ) (m p : Module) (f g : ExportFault) → IsOnlyPublic d n m → IsOnlyPublic d k p → IsExportFault d n f → IsExportFault d k g
      → header_refusal m (cause_of f) ≡ header_refusal p (cause_of g)
  same_refusal n k m p f g first second against also =
      let same = same_number (only_public d) n k first.only second.only in
      ap₂ (λ x y. header_refusal x (cause_of y)) (one_module n k m p same first second) (faults_are_one d n f g against (subst (λ i. IsExportFault d i g) (sym same) also))

  pub one_refusal : (r s : Refusal) → IsExportRefusal d r → IsExportRefusal d s → r ≡ s
  one_refusal _ _ (modules none) (modules also) = refl
  one_refusal _ _ (modules none) (fault k p g second also) = none_and_some (only_public d) k none second.only
  one_refusal _ _ (fault n m f first against) (modules none) = none_and_some (only_public d) n none first.only
  one_refusal _ _ (fault n m f first against) (fault k p g second also) = same_refusal n k m p f g first second against also

  pub no_text : (r : Refusal) (text : List ℕ) → IsExportRefusal d r → IsExportText d text → ⊥
  no_text _ text (modules none) e = none_and_some (only_public d) e.number none e.only.only
  no_text _ text (fault n m f first against) e =
      let same = same_number (only_public d) n e.number first.only e.only.only in
      export_unrefused d e.number e.copy e.circuit e.signals f e.export (subst (λ i. IsExportFault d i f) same against)
