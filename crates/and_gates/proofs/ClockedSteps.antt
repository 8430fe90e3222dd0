-- The gates of a module with clocks that are 1: those of a flat copy, against which nothing stands.
use Rattle.std.proofs.Common.{◌≡◌, sym, ap, ap₂, subst, ◌∙◌, ℕ, ◌+◌, List, [], ◌∷◌, length, Option, IfOk, Result, Ok, Err}
use Rattle.gates.specs.declared.signal.Signal.{Signal}
use Rattle.gates.specs.Build.{Built}
use Rattle.gates.specs.Circuits.{Circuit}
use Rattle.hw_model.specs.Design.{Module, Design}
use Rattle.hw_model.specs.Flat.{input_width, state}
use Rattle.op_verifier.specs.Verdict.{IsAccepted}
use Rattle.printing_laws.specs.Printable.{Printable}
use Rattle.net_gates.specs.NetGateLists.{variables}
use Rattle.net_gates.specs.RegisterGateLists.{stepped_over}
use Rattle.net_gates.specs.ClockedInputs.{free_bits, clocked_signals}
use Rattle.net_gates.proofs.InputWords.{length-variables}
use Rattle.net_gates.proofs.ClockedWords.{clocked_signals_long}
use Rattle.flat_module_laws.specs.Sides.{side_of, IsPlain}
use Rattle.flat_module_gates.specs.FlatSteps.{content_width}
use Rattle.flat_module_gates.specs.Stepped.{IsAlone, IsSteppedOver, AreAsWide}
use Rattle.flat_module_gates.proofs.LinkedRegisters.{state_is_content}
use Rattle.flat_module_gates.proofs.PlainOrders.{plain_has_order}
use Rattle.miter_blast.specs.FlatCopy.{IsFlatCopyAt}
use Rattle.miter_blast.proofs.Compared.{kept_alone}
use Rattle.miter_blast.proofs.CopyLaw.{copy_keeps}
use Rattle.miter_blast.proofs.Differences.{same_alone}
use Rattle.and_gates.specs.declared.fail.ExportFault.{ExportFault}
use Rattle.and_gates.specs.Faults.{export_fault, IsFaultOf}
use Rattle.and_gates.specs.Exports.{clocked_step, IsClockedStep}

-- a flat copy is one plain module
pub copied_alone : (d : Design) (n : ℕ) (c : Design) → IsAccepted d → Printable d → IsFlatCopyAt d n c → IsAlone c
copied_alone d n c accepted printable (m, at, copied) = kept_alone d m c (copy_keeps d c n m accepted printable at copied)

-- it has as many bits of content by its registers
content_of : (c : Design) (m : Module) → IsPlain c m.symbol m → state c m.symbol ≡ content_width m.body
content_of c m plain =
    let order = plain_has_order c m.symbol m plain in
    state_is_content c m.symbol m order.0 (record { plain = plain; stands = order.1 })

-- the cause against it is that of its one module
pub fault_from : {E : Type 0} (c : Design) (m : Module) → c ≡ m ∷ [] → (r : Result (Option ExportFault) E) → IfOk r (λ f. f ≡ export_fault m.ports m.body) → IfOk r (IsFaultOf c)
fault_from c m is (Ok f) told = (m, is, told)
fault_from c m is (Err e) told = tt

module _ (c : Design) (m : Module) (is : c ≡ m ∷ []) (plain : IsPlain c m.symbol m) where
  module _ (ins content : List Signal) (given : ins ≡ clocked_signals 0 m.ports) (held : content ≡ variables (free_bits m.ports) (content_width m.body)) where
    -- the signals are as many as inputs and content have bits
    pub as_wide : AreAsWide c ins content
    as_wide k other =
        subst (λ (z : Module). (length ins ≡ input_width z.ports) × (length content ≡ state c z.symbol)) (same_alone c m k is other) (
          ap (λ (xs : List Signal). length xs) given ∙ clocked_signals_long m.ports 0,
          ap (λ (xs : List Signal). length xs) held ∙ length-variables (content_width m.body) (free_bits m.ports) ∙ sym (content_of c m plain),
        )

    -- a circuit with these inputs and no gate
    abbrev start : Circuit
    start = record { inputs = free_bits m.ports + content_width m.body; gates = [] }

    module _ (t : Circuit) (signals : List Signal) (made : IsSteppedOver c ins content start t signals) where
      here : m ≡ made.one
      here = same_alone c m made.one is made.is_one

      wide : content_width m.body ≡ state c m.symbol
      wide = sym (content_of c m plain)

      one_given : ins ≡ clocked_signals 0 made.one.ports
      one_given = given ∙ ap (λ (z : Module). clocked_signals 0 z.ports) here

      one_held : content ≡ variables (free_bits made.one.ports) (state c made.one.symbol)
      one_held = held ∙ ap (variables (free_bits m.ports)) wide ∙ ap (λ (z : Module). variables (free_bits z.ports) (state c z.symbol)) here

      abbrev build : List Signal → List Signal → ℕ → Built (List Signal)
      build a b k = stepped_over a b c made.one.symbol (side_of c made.one.symbol made.order).nets k []

      same : build ins content (free_bits m.ports + content_width m.body) ≡ clocked_step c made.one made.order t.inputs []
      same =
          ap₂ (λ (a b : List Signal). build a b (free_bits m.ports + content_width m.body)) one_given one_held
          ∙ ap (build (clocked_signals 0 made.one.ports) (variables (free_bits made.one.ports) (state c made.one.symbol))) (sym made.runs.inputs)

      step_here : IsClockedStep c t signals
      step_here = record {
        one = made.one;
        is_one = made.is_one;
        order = made.order;
        flat = made.flat;
        inputs = made.runs.inputs ∙ ap (λ n. free_bits m.ports + n) wide ∙ ap (λ (z : Module). free_bits z.ports + state c z.symbol) here;
        gates = made.runs.gates ∙ ap (λ (z : Built (List Signal)). z.gates) same;
        signals_are = made.runs.is ∙ ap (λ (z : Built (List Signal)). z.got) same;
      }

    -- what was built in it is the step
    pub step_made : (s t : Circuit) (signals : List Signal) → s ≡ start → IsSteppedOver c ins content s t signals → IsClockedStep c t signals
    step_made s t signals empty from = step_here t signals (subst (λ (z : Circuit). IsSteppedOver c ins content z t signals) empty from)
