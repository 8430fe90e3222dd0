-- The steps of a module without asynchronous resets in which every clock rises, and the bits of its gates.
use Rattle.std.proofs.Common.{◌≡◌, refl, sym, ap, ap₂, subst, ◌∙◌, ℕ, ◌≤◌, Bool, true, false, ◌||◌, cond, List, [], ◌∷◌, ◌++◌, length, drop, arith, inl, inr, filter, None, length-drop}
use Rattle.std.proofs.lemmas.List.{take-append-drop}
use Rattle.wiring.specs.Wiring.{In}
use Rattle.wiring.proofs.Members.{from_In-map}
use Rattle.bits_core.specs.Word.{Word, first}
use Rattle.bits_core.proofs.First.{first-take, first-first}
use Rattle.gates.specs.declared.signal.Signal.{Signal}
use Rattle.gates.specs.Circuits.{Circuit}
use Rattle.gates.specs.Order.{evaluated}
use Rattle.gate_words.specs.Computes.{word_of}
use Rattle.hw_model.specs.Design.{Op, Module, Design, is_register}
use Rattle.hw_model.specs.Flat.{Net, Slot, has_async_reset, async_parts, registers, held_width, state, depth}
use Rattle.hw_model.specs.Machine.{Step}
use Rattle.hw_model.specs.Meaning.{Settled, outputs, map_slots, rise_value, rise_in, risen_content, next_content, machine}
use Rattle.hw_model.proofs.Content.{slots_width, registers_width}
use Rattle.hw_model.proofs.Finite.{settles_with_heights}
use Rattle.net_gates.specs.ClockedInputs.{free_bits, with_clocks}
use Rattle.flat_module_laws.specs.Sides.{IsFlat}
use Rattle.flat_module_laws.proofs.FlatBodies.{flat_heights}
use Rattle.flat_module_gates.specs.FlatSteps.{slot, slots_of}
use Rattle.flat_module_gates.proofs.LinkedRegisters.{registers_are}
use Rattle.and_gates.specs.Clocks.{is_async, has_async}
use Rattle.and_gates.specs.Exports.{IsClockedStep}
use Rattle.and_gates.proofs.StepBits.{clocked_bits}

-- ---- nothing rises

-- slots that keep what they hold keep the content
slots_kept : (each : Slot → Word → Word) (ss : List Slot) → ((s : Slot) → In s ss → (old : Word) → each s old ≡ old) → (q : Word) → length q ≡ slots_width ss → map_slots each ss q ≡ q
slots_kept each [] keeps [] size = refl
slots_kept each [] keeps (b ∷ q) size = absurd (omega arith)
slots_kept each (s ∷ ss) keeps q size =
    let w = held_width s.op in
    let enough : w ≤ length q = omega arith in
    let rest : length (drop w q) ≡ slots_width ss = omega (arith, length-drop w q) in
    ap₂ (λ (u v : Word). u ++ v)
    (ap (first w) (keeps s (inl refl) (first w q)) ∙ first-first w q ∙ first-take w q enough)
    (slots_kept each ss (λ t here. keeps t (inr here)) (drop w q) rest)
    ∙ take-append-drop w q

none_async : (os : List Op) → has_async os ≡ false → (o : Op) → In o os → has_async_reset o.kind ≡ false
none_async [] none o here = absurd here
none_async (p ∷ os) none o here = go (is_async p) refl here (λ rest there. none_async os rest o there)
  where
    go : (b : Bool) → is_async p ≡ b → In o (p ∷ os) → (has_async os ≡ false → In o os → has_async_reset o.kind ≡ false) → has_async_reset o.kind ≡ false
    go true is there later = absurd (let no : true ≡ false = sym (ap (λ x. x || has_async os) is) ∙ none in let never : ⊥ = cc in never)
    go false is (inl same) later = ap is_async same ∙ is
    go false is (inr there) later = later (sym (ap (λ x. x || has_async os) is) ∙ none) there

kept_member : (os : List Op) (o : Op) → In o (filter is_register os) → In o os
kept_member [] o here = here
kept_member (p ∷ os) o here = go (is_register p) here (kept_member os o)
  where
    go : (b : Bool) → In o (cond b (p ∷ filter is_register os) (filter is_register os)) → (In o (filter is_register os) → In o os) → In o (p ∷ os)
    go true (inl same) later = inl same
    go true (inr there) later = inr (later there)
    go false there later = inr (later there)

module _ (c : Design) (m : Module) (order : List ℕ) (flat : IsFlat c m.symbol m order) (none : has_async m.body ≡ false) where
  still : (ρ σ : Net → Word) (q : Word) → length q ≡ state c m.symbol → risen_content (registers c m.symbol) ρ σ q ≡ q
  still ρ σ q size =
      slots_kept (rise_in ρ σ) (registers c m.symbol)
      (λ s here old. by s (subst (λ ss. In s ss) (registers_are c m.symbol m order flat) here) old) q (size ∙ sym (registers_width c (depth c) [] m.symbol))
    where
      by : (s : Slot) → In s (slots_of m.body) → (old : Word) → rise_in ρ σ s old ≡ old
      by s here old =
          let found = from_In-map slot s (filter is_register m.body) here in
          let no = none_async m.body none found.0 (kept_member m.body found.0 found.1) in
          let op : has_async_reset s.op.kind ≡ false = ap (λ (t : Slot). has_async_reset t.op.kind) found.2 ∙ no in
          ap (λ b. rise_value (cond b (async_parts s.op.operands) None) (λ r. ρ (record { path = s.path; ref = r })) (λ r. σ (record { path = s.path; ref = r })) old) op

-- ---- the steps

module _ (c : Design) (g : Circuit) (signals : List Signal) (is : IsClockedStep c g signals) (none : has_async is.one.body ≡ false) where
  pub bits_of_step : (x q before given after : Word) → length x ≡ free_bits is.one.ports → length q ≡ state c is.one.symbol
      → Step (machine c is.one.symbol) before (with_clocks is.one.ports x) q given after → word_of (evaluated (x ++ q) g.gates) signals ≡ given ++ after
  bits_of_step x q before given after ex eq step =
      let same = still c is.one is.order is.flat none step.earlier step.first_map q eq in
      clocked_bits c g signals is x q step.map_of ex eq (subst (λ k. Settled c is.one.symbol (with_clocks is.one.ports x) k step.map_of) same step.settled)
      ∙ ap₂ (λ (u v : Word). u ++ v) (sym step.read) (sym (step.taken ∙ ap (next_content (registers c is.one.symbol) step.map_of) same))

  module _ (x q before : Word) (ex : length x ≡ free_bits is.one.ports) (eq : length q ≡ state c is.one.symbol) where
    settled_at : (inputs content : Word) → (ρ : Net → Word) × Settled c is.one.symbol inputs content ρ
    settled_at inputs content =
        let once = settles_with_heights c is.one.symbol (flat_heights c is.one.symbol is.one is.order is.flat) inputs content in
        (once.0, once.1)

    abbrev earlier : Net → Word
    earlier = (settled_at before q).0

    abbrev first_map : Net → Word
    first_map = (settled_at (with_clocks is.one.ports x) q).0

    abbrev risen : Word
    risen = risen_content (registers c is.one.symbol) earlier first_map q

    abbrev map_of : Net → Word
    map_of = (settled_at (with_clocks is.one.ports x) risen).0

    step_there : Step (machine c is.one.symbol) before (with_clocks is.one.ports x) q (outputs c is.one.symbol map_of) (next_content (registers c is.one.symbol) map_of risen)
    step_there = record {
      earlier = earlier;
      first_map = first_map;
      map_of = map_of;
      settled_earlier = (settled_at before q).1;
      settled_first = (settled_at (with_clocks is.one.ports x) q).1;
      settled = (settled_at (with_clocks is.one.ports x) risen).1;
      read = refl;
      taken = refl;
    }

    pub step_exists : (given : Word) × (after : Word) × Step (machine c is.one.symbol) before (with_clocks is.one.ports x) q given after
        × (word_of (evaluated (x ++ q) g.gates) signals ≡ given ++ after)
    step_exists = (outputs c is.one.symbol map_of, next_content (registers c is.one.symbol) map_of risen, step_there, bits_of_step x q before _ _ ex eq step_there)
