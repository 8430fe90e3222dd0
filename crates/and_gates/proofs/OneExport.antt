-- A module has one flat copy, so one cause against it, or none.
use Rattle.std.proofs.Common.{◌≡◌, refl, sym, ap, subst, ◌∙◌, ℕ, ◌+◌, ◌≤◌, ◌<◌, Bool, true, false, cond, ◌||◌, nat_lt, List, length, Option, Some, None, arith}
use Rattle.std.proofs.lemmas.Bool.{ltb-false}
use Rattle.gates.specs.declared.signal.Signal.{Signal}
use Rattle.gates.specs.Circuits.{Circuit}
use Rattle.hw_model.specs.Design.{Module, Design}
use Rattle.flat_module_gates.proofs.LinkedRegisters.{state_is_content}
use Rattle.miter_blast.specs.Building.{most_gates}
use Rattle.miter_blast.specs.ExportPrices.{export_price}
use Rattle.miter_blast.specs.FlatCopy.{IsFlatCopy, IsFlatCopyAt}
use Rattle.miter_blast.proofs.CopyLaw.{copies_once}
use Rattle.miter_blast.proofs.Differences.{same_alone}
use Rattle.and_gates.specs.declared.fail.ExportFault.{ExportFault}
use Rattle.and_gates.specs.declared.fail.ExportFault.TheVariants.{SeveralClocks, AsynchronousReset, TooManyGates}
use Rattle.and_gates.specs.Clocks.{has_several_clocks, HasOneClock, has_async}
use Rattle.and_gates.specs.Faults.{variable_count, is_too_large, export_fault, IsFaultOf, IsExportFault}
use Rattle.and_gates.specs.Exports.{IsExport}
use Rattle.and_gates.proofs.ClockPorts.{several_clocks}
use Rattle.and_gates.proofs.LoadPrices.{loads_paid}
use Rattle.and_gates.proofs.StepBits.{clocked_few}

-- ---- one copy, one cause

copies_at_one : (d : Design) (n : ℕ) (c e : Design) → IsFlatCopyAt d n c → IsFlatCopyAt d n e → c ≡ e
copies_at_one d n c e (m, here, one) (k, there, two) =
    let found : Some m ≡ Some k = sym here ∙ there in
    let same : m ≡ k = cc in
    copies_once d m.symbol c e one (subst (λ (x : Module). IsFlatCopy d x.symbol e) (sym same) two)

fault_once : (c : Design) (f g : Option ExportFault) → IsFaultOf c f → IsFaultOf c g → f ≡ g
fault_once c f g (m, is, told) (k, also, said) = told ∙ ap (λ (x : Module). export_fault x.ports x.body) (same_alone c m k is also) ∙ sym said

pub faults_are_one : (d : Design) (n : ℕ) (f g : ExportFault) → IsExportFault d n f → IsExportFault d n g → f ≡ g
faults_are_one d n f g (c, one, is) (e, two, also) =
    let here : IsFaultOf e (Some f) = subst (λ x. IsFaultOf x (Some f)) (copies_at_one d n c e one two) is in
    let same : Some f ≡ Some g = fault_once e (Some f) (Some g) here also in
    cc

pub export_unrefused : (d : Design) (n : ℕ) (c : Design) (circuit : Circuit) (signals : List Signal) (f : ExportFault) → IsExport d n c circuit signals → IsExportFault d n f → ⊥
export_unrefused d n c circuit signals f export (e, two, also) =
    let here : IsFaultOf c (Some f) = subst (λ x. IsFaultOf x (Some f)) (copies_at_one d n e c two export.copied) also in
    let clash : Some f ≡ None = fault_once c (Some f) None here export.faultless in
    cc

-- ---- no cause

-- none of three stands
record NoneStands (several async large : Bool) : Type 0 where
  one_clock : several ≡ false
  no_async : async ≡ false
  no_large : large ≡ false

none_stands : (several async large : Bool) → None ≡ cond several (Some SeveralClocks) (cond async (Some AsynchronousReset) (cond large (Some TooManyGates) None))
    → NoneStands several async large
none_stands false false false is = record { one_clock = refl; no_async = refl; no_large = refl }
none_stands false false true is = cc
none_stands false true large is = cc
none_stands true async large is = cc

neither_above : (most a b : ℕ) → (nat_lt most a || nat_lt most b) ≡ false → (a ≤ most) × (b ≤ most)
neither_above most a b is = go (nat_lt most a) refl is
  where
    go : (t : Bool) → nat_lt most a ≡ t → (t || nat_lt most b) ≡ false → (a ≤ most) × (b ≤ most)
    go true at none = cc
    go false at none = (ltb-false most a at, ltb-false most b none)

module _ (d : Design) (n : ℕ) (c : Design) (circuit : Circuit) (signals : List Signal) (export : IsExport d n c circuit signals) where
  abbrev one : Module
  one = export.step.one

  none_of : NoneStands (has_several_clocks one.body) (has_async one.body) (is_too_large one.ports one.body)
  none_of =
      let same = same_alone c export.faultless.0 one export.faultless.1 export.step.is_one in
      none_stands (has_several_clocks one.body) (has_async one.body) (is_too_large one.ports one.body)
      (export.faultless.2 ∙ ap (λ (x : Module). export_fault x.ports x.body) same)

  pub export_one_clock : HasOneClock export.step.one.body
  export_one_clock = (several_clocks c one export.step.flat.plain).0 none_of.one_clock

  pub export_no_async : has_async export.step.one.body ≡ false
  export_no_async = none_of.no_async

  sizes : (export_price one.ports one.body ≤ most_gates) × (variable_count one.ports one.body ≤ most_gates)
  sizes = neither_above most_gates (export_price one.ports one.body) (variable_count one.ports one.body) none_of.no_large

  -- the gates are at most 2^28 and 3 for each bit of content, inputs and content at most 2^28
  pub export_below : circuit.inputs + length circuit.gates < 2147483648
  export_below =
      let step = export.step in
      let few = clocked_few c circuit signals step in
      let paid = loads_paid c one step.order step.flat in
      let held = state_is_content c one.symbol one step.order step.flat in
      let start = step.inputs in
      omega (arith, few, paid, held, start, sizes.0, sizes.1)
