-- The gate list of a flat module by the positions of its operations is that by its nets.
use Rattle.std.proofs.Common.{◌≡◌, refl, sym, ap, ap₂, subst, ◌∙◌, ℕ, List, [], ◌∷◌, ◌++◌, map, filter, length, Option, Some, None}
use Rattle.wiring.specs.Wiring.{In}
use Rattle.wiring.proofs.Members.{from_In-map}
use Rattle.bits_core.specs.Word.{Word}
use Rattle.gates.specs.declared.signal.Gate.{Gate}
use Rattle.gates.specs.declared.signal.Signal.{Signal}
use Rattle.gates.specs.Build.{Build, done}
use Rattle.gate_words.specs.GateLists.{choose, top as top_of}
use Rattle.hw_model.specs.Types.{Name}
use Rattle.hw_model.specs.Design.{Ref, Op, Module, Design, is_register, output_refs, find_module}
use Rattle.hw_model.specs.Flat.{Net, net, Slot, Register, ResetBy, register_in, async_reset_in, registers, held_width, input_width, state}
use Rattle.hw_model.specs.Meaning.{outputs_of}
use Rattle.operation_gates.specs.OperationGateLists.{concatenation}
use Rattle.net_gates.specs.NetGateLists.{variables, nets_by}
use Rattle.net_gates.specs.RegisterGateLists.{source_of_signals, load, load_gate_list, enable_gate_list, reset_gate_list, any_reset_gate_list, next_gate_list, slots_gate_list, slot_source}
use Rattle.net_gates.specs.RegisterGateLists.{loaded_slot, next_slot, loaded_over, stepped_over, loaded_gate_list, stepped_gate_list}
use Rattle.net_gates.specs.RegisterMiters.{SlotFits}
use Rattle.flat_module_laws.specs.Sides.{side_of, IsFlat}
use Rattle.flat_module_laws.proofs.FlatSources.{of_side}
use Rattle.flat_module_laws.proofs.FlatRegisters.{slots_fit}
use Rattle.flat_module_gates.specs.FlatGateLists.{words_over, word_at, no_words, results_by}
use Rattle.flat_module_gates.specs.FlatSteps.{load_in, loaded_of, any_reset_in, next_in, next_of, slot, slots_of, content_gate_list, flat_gate_list_over, first_content, flat_gate_list}
use Rattle.flat_module_gates.proofs.Linking.{AreSingle, Agree, nets_linked}
use Rattle.flat_module_gates.proofs.LinkedRegisters.{registers_are, state_is_content}
use Rattle.flat_module_gates.proofs.LinkedResets.{input_word, constant_is_at}
use Rattle.flat_module_gates.proofs.PortVariables.{words_of_variables}
use Rattle.flat_module_gates.proofs.SameBuildings.{Alike, alike_then, then_same, slots_same}

module _ (d : Design) (top : Name) (m : Module) (order : List ℕ) (flat : IsFlat d top m order) (single : AreSingle m.body) (ins : List Signal) where
  -- a register of the body fits
  abbrev Fit : Slot → Type 0
  Fit s = SlotFits (input_width m.ports) (state d top) (side_of d top order) s

  -- ---- one register

  module _ (o : Op) (fit : Fit (slot o)) (results : List (List Signal)) where
    load_same : (a : Option ResetBy) → async_reset_in o ≡ a → (old : List Signal)
        → load_gate_list ins (slot_source d top (slot o)) a old ≡ load_in m.body (word_at (words_over ins 0 m.ports) results) a old
    load_same None is old = refl
    load_same (Some v) is old =
        ap₂ (λ (xs : List Signal) (w : Word). load (top_of xs) w old)
        (input_word d top m order flat ins (input_width m.ports) v.signal (fit.signal v is) results)
        (constant_is_at d top m order flat single (held_width o) v.value (fit.value v is))

    module _ (signals : Net → List Signal) (agree : Agree signals (words_over ins 0 m.ports) results) where
      enable_same : (e : Option Ref) (old new : List Signal)
          → enable_gate_list e (λ r. signals (net [] r)) old new ≡ enable_gate_list e (word_at (words_over ins 0 m.ports) results) old new
      enable_same None old new = refl
      enable_same (Some e) old new = ap (λ (xs : List Signal). choose (top_of xs) new old) (agree e)

      reset_same : (r : Option ResetBy) (new : List Signal)
          → reset_gate_list r (λ y. signals (net [] y)) new ≡ reset_gate_list r (word_at (words_over ins 0 m.ports) results) new
      reset_same None new = refl
      reset_same (Some v) new = ap₂ (λ (c u : List Signal). choose (top_of c) u new) (agree v.signal) (agree v.value)

      any_reset_same : (a r : Option ResetBy) → async_reset_in o ≡ a → (new : List Signal)
          → any_reset_gate_list ins (slot_source d top (slot o)) a r (λ y. signals (net [] y)) new ≡ any_reset_in m.body (word_at (words_over ins 0 m.ports) results) a r new
      any_reset_same None r is new = reset_same r new
      any_reset_same (Some v) r is new = load_same (Some v) is new

      next_same : (a : Option ResetBy) → async_reset_in o ≡ a → (r : Option Register) (old : List Signal) (n : ℕ) (gates : List Gate)
          → next_gate_list ins (slot_source d top (slot o)) a r (λ y. signals (net [] y)) old n gates ≡ next_in m.body (word_at (words_over ins 0 m.ports) results) a r old n gates
      next_same a is None old n gates = refl
      next_same a is (Some r) old n gates =
          then_same _ _ _ _ n gates
          (ap (λ (p : Build (List Signal)). p n gates)
          (enable_same r.enable old (signals (net [] r.next)) ∙ ap (λ (xs : List Signal). enable_gate_list r.enable (word_at (words_over ins 0 m.ports) results) old xs) (agree r.next)))
          (λ x hs.
          then_same _ _ _ _ n hs (ap (λ (p : Build (List Signal)). p n hs) (any_reset_same a r.reset is x))
          (λ y ks. ap (λ (xs : List Signal). choose (top_of xs) y old n ks) (agree r.clock)))

  -- ---- all registers

  -- what holds of the slot of each operation that fits holds of the slots of the body
  by_slot : (P : Slot → Type 0) → ((o : Op) → Fit (slot o) → P (slot o)) → (s : Slot) → In s (slots_of m.body) → P s
  by_slot P each s here =
      let found = from_In-map slot s (filter is_register m.body) here in
      subst P (sym found.2)
      (each found.0 (subst Fit found.2 (slots_fit d top m order flat s (subst (λ ss. In s ss) (sym (registers_are d top m order flat)) here))))

  pub loaded_over_same : (content : List Signal) (n : ℕ) (gates : List Gate)
      → loaded_over ins content d top n gates ≡ content_gate_list (loaded_of m.body (word_at (words_over ins 0 m.ports) [])) m.body content n gates
  loaded_over_same content n gates =
      ap (λ (ss : List Slot). slots_gate_list (loaded_slot ins d top) ss content n gates) (registers_are d top m order flat)
      ∙ slots_same (loaded_slot ins d top) (λ (s : Slot). loaded_of m.body (word_at (words_over ins 0 m.ports) []) s.op) (slots_of m.body)
      (by_slot (λ (s : Slot). (xs : List Signal) (k : ℕ) (hs : List Gate) → loaded_slot ins d top s xs k hs ≡ loaded_of m.body (word_at (words_over ins 0 m.ports) []) s.op xs k hs)
      (λ o fit xs k hs. ap (λ (p : Build (List Signal)). p k hs) (load_same o fit [] (async_reset_in o) refl xs)))
      content n gates

  next_all_same : (signals : Net → List Signal) (results : List (List Signal)) → Agree signals (words_over ins 0 m.ports) results → (content : List Signal) (n : ℕ) (gates : List Gate)
      → slots_gate_list (next_slot ins d top signals) (registers d top) content n gates
      ≡ content_gate_list (next_of m.body (word_at (words_over ins 0 m.ports) results)) m.body content n gates
  next_all_same signals results agree content n gates =
      ap (λ (ss : List Slot). slots_gate_list (next_slot ins d top signals) ss content n gates) (registers_are d top m order flat)
      ∙ slots_same (next_slot ins d top signals) (λ (s : Slot). next_of m.body (word_at (words_over ins 0 m.ports) results) s.op) (slots_of m.body)
      (by_slot (λ (s : Slot). (xs : List Signal) (k : ℕ) (hs : List Gate) → next_slot ins d top signals s xs k hs ≡ next_of m.body (word_at (words_over ins 0 m.ports) results) s.op xs k hs)
      (λ o fit xs k hs. next_same o fit results signals agree (async_reset_in o) refl (register_in o) xs k hs))
      content n gates

  -- ---- the module

  outputs_same : (signals : Net → List Signal) (results : List (List Signal)) → Agree signals (words_over ins 0 m.ports) results
      → concatenation (map (λ r. signals (net [] r)) (outputs_of (find_module d top))) ≡ concatenation (map (word_at (words_over ins 0 m.ports) results) (output_refs m.body))
  outputs_same signals results agree =
      ap (λ (y : Option Module). concatenation (map (λ r. signals (net [] r)) (outputs_of y))) flat.plain.found ∙ ap concatenation (each (output_refs m.body))
    where
      each : (rs : List Ref) → map (λ r. signals (net [] r)) rs ≡ map (word_at (words_over ins 0 m.ports) results) rs
      each [] = refl
      each (r ∷ rs) = ap₂ (λ (x : List Signal) (xs : List (List Signal)). x ∷ xs) (agree r) (each rs)

  nets_alike : (content : List Signal) (n : ℕ) (gates : List Gate)
      → Alike (λ signals results. Agree signals (words_over ins 0 m.ports) results) (nets_by (source_of_signals ins content) d top (side_of d top order).nets (λ a. []) n gates)
      (results_by m.body content (words_over ins 0 m.ports) order (no_words (length m.body)) n gates)
  nets_alike content n gates =
      let linked = nets_linked d top m order flat single ins content order n gates in
      of_side d top m order flat
      (λ (ns : List Net). Alike (λ signals results. Agree signals (words_over ins 0 m.ports) results) (nets_by (source_of_signals ins content) d top ns (λ a. []) n gates)
      (results_by m.body content (words_over ins 0 m.ports) order (no_words (length m.body)) n gates))
      (record { gates = linked.gates; words = linked.words })

  -- over any signals of inputs and of content the gate list by positions builds the same as that by nets
  pub gate_lists_over_are : (content : List Signal) (n : ℕ) (gates : List Gate)
      → flat_gate_list_over (words_over ins 0 m.ports) content m.body order n gates ≡ stepped_over ins content d top (side_of d top order).nets n gates
  unfolding flat_gate_list_over stepped_over
  gate_lists_over_are content n gates =
      sym (alike_then (λ (signals : Net → List Signal) (results : List (List Signal)). Agree signals (words_over ins 0 m.ports) results) _ _ _ _ n gates (nets_alike content n gates)
      (λ signals results ks agree.
      then_same _ _ _ _ n ks (next_all_same signals results agree content n ks)
      (λ next gs. ap (λ (w : List Signal). done (w ++ next) n gs) (outputs_same signals results agree))))

-- ---- over the first variables

module _ (d : Design) (top : Name) (m : Module) (order : List ℕ) (flat : IsFlat d top m order) (single : AreSingle m.body) where
  pub loaded_same : (n : ℕ) (gates : List Gate) → loaded_gate_list (input_width m.ports) d top n gates ≡ first_content (input_width m.ports) m.ports m.body n gates
  loaded_same n gates =
      loaded_over_same d top m order flat single (variables 0 (input_width m.ports)) (variables (input_width m.ports) (state d top)) n gates
      ∙ ap₂ (λ (ports : List (List Signal)) (k : ℕ). content_gate_list (loaded_of m.body (word_at ports [])) m.body (variables (input_width m.ports) k) n gates)
      (words_of_variables m.ports) (state_is_content d top m order flat)

  -- the gate list by positions builds the same as that by nets
  pub gate_lists_are : (n : ℕ) (gates : List Gate)
      → flat_gate_list (input_width m.ports) m.ports m.body order n gates ≡ stepped_gate_list (input_width m.ports) d top (side_of d top order).nets n gates
  unfolding flat_gate_list stepped_gate_list
  gate_lists_are n gates =
      sym (then_same _ _ _ _ n gates (loaded_same n gates)
      (λ content hs.
      sym (gate_lists_over_are d top m order flat single (variables 0 (input_width m.ports)) content n hs)
      ∙ ap (λ (ports : List (List Signal)). flat_gate_list_over ports content m.body order n hs) (words_of_variables m.ports)))
