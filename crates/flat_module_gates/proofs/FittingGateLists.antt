-- The operations and registers of a flat module fit in each circuit: signals are as many as bits of words.
use Rattle.std.proofs.Common.{◌≡◌, refl, sym, ap, ap₂, subst, ◌∙◌, ℕ, zero, suc, ◌+◌, Bool, true, false, is_some, List, [], ◌∷◌, ◌++◌, map, flat_map, filter, length, take, drop, Option, Some}
use Rattle.std.proofs.Common.{None, slice_get, inl, inr, arith, append_assoc, le_refl, option_map}
use Rattle.std.proofs.lemmas.Grind.{flat_map-append}
use Rattle.std.proofs.Math.ListN.{length-replicate}
use mathlib.Core.Path.{subst₂}
use Rattle.wiring.specs.Wiring.{In}
use Rattle.wiring.proofs.Lists.{slice_get_some, split_at}
use Rattle.wiring.proofs.Members.{In-append_right, In-map, In-slice_get}
use Rattle.bits_core.specs.Word.{Word, zeros}
use Rattle.gates.specs.declared.signal.Gate.{Gate}
use Rattle.gates.specs.declared.signal.Signal.{Signal}
use Rattle.gates.specs.Circuits.{Circuit, Runs}
use Rattle.gates.specs.Build.{Built}
use Rattle.gate_words.proofs.Computing.{counting}
use Rattle.gate_words.proofs.Words.{CarriesWord, word_length}
use Rattle.gate_words.proofs.Words.CarriesWord.{none, more}
use Rattle.hw_model.specs.Types.{Name}
use Rattle.hw_model.specs.Design.{Ref, Op, OpResult, Module, Design, register_form, is_register, is_output_op, result_type}
use Rattle.hw_model.specs.Design.Ref.{result}
use Rattle.hw_model.specs.Flat.{Net, net, source, held_width, width_of, input_width, state, made_of}
use Rattle.hw_model.specs.Meaning.{needs_of, Settled}
use Rattle.hw_model.proofs.Finite.{settles_with_heights}
use Rattle.hw_model.proofs.Paths.{op_in, result_in}
use Rattle.operation_gates.specs.Operands.{TakesWidths}
use Rattle.net_gates.specs.NetGateLists.{variables, nets_by}
use Rattle.net_gates.specs.NetOrder.{NeedsComeFirst, seen_after, HaveGateLists}
use Rattle.net_gates.specs.RegisterGateLists.{source_of_signals, loaded_gate_list}
use Rattle.net_gates.specs.RegisterMiters.{loaded, HasStepGateLists, SlotFits, enable_refs, reset_refs}
use Rattle.net_gates.proofs.InputWords.{length-variables}
use Rattle.net_gates.proofs.Nets.{is_seen, makes-nets}
use Rattle.net_gates.proofs.RegisterSlots.{constant_is}
use Rattle.net_gates.proofs.StepGateLists.{loaded_long, makes-over, makes-loaded_over}
use Rattle.flat_module_laws.specs.Sides.{port_nets, result_number, result_nets, flat_nets, side_of, IsFlat}
use Rattle.graphs.specs.Orders.{numbers_from}
use Rattle.flat_module_laws.proofs.FlatBodies.{no_instance, flat_heights}
use Rattle.flat_module_laws.proofs.FlatSources.{result_from}
use Rattle.flat_module_laws.proofs.FlatGateLists.{flat_gate_lists, made_gate_list}
use Rattle.flat_module_laws.proofs.FlatOrders.{nets_first}
use Rattle.flat_module_laws.proofs.FlatRegisters.{slots_fit}
use Rattle.flat_module_laws.proofs.FlatMiters.{has_step_gate_lists}
use Rattle.hw_model.specs.Sound.{body_of, ports_of}
use Rattle.flat_module_gates.specs.FlatGateLists.{words_over, word_at, no_words, results_by, OpTakes}
use Rattle.flat_module_gates.specs.FlatSteps.{slot, slots_of, first_content, RegistersTake, FlatFitsOver, FlatFits}
use Rattle.flat_module_gates.proofs.Orders.{within_order}
use Rattle.flat_module_gates.proofs.Linking.{HasOne, AreSingle, nets_linked}
use Rattle.flat_module_gates.proofs.LinkedRegisters.{registers_are, state_is_content}
use Rattle.flat_module_gates.proofs.LinkedResets.{constant_is_at}
use Rattle.flat_module_gates.proofs.LinkedSteps.{loaded_same}
use Rattle.flat_module_gates.proofs.PortVariables.{words_of_variables}

-- ---- lists

none_of : {A : Type 0} (x : Option A) → is_some x ≡ false → x ≡ None
none_of None is = refl
none_of (Some a) is = cc

slot_listed : (os : List Op) (i : ℕ) (o : Op) → slice_get os i ≡ Some o → is_register o ≡ true → In (slot o) (slots_of os)
slot_listed os i o at is = In-map slot o (filter is_register os) (kept os i at)
  where
    kept : (os : List Op) (i : ℕ) → slice_get os i ≡ Some o → In o (filter is_register os)
    kept [] i at = cc
    kept (y ∷ os) zero at = let same : y ≡ o = cc in let own : is_register y ≡ true = ap is_register same ∙ is in simp own (inl (sym same))
    kept (y ∷ os) (suc i) at = go (is_register y) refl (kept os i at)
      where
        go : (b : Bool) → is_register y ≡ b → In o (filter is_register os) → In o (filter is_register (y ∷ os))
        go true own there = simp own (inr there)
        go false own there = simp own there

same_lengths : (f : Ref → List Signal) (g : Net → Word) (rs : List Ref) → ((r : Ref) → In r rs → length (f r) ≡ length (g (net [] r)))
    → map length (map g (map (net []) rs)) ≡ map length (map f rs)
same_lengths f g [] each = refl
same_lengths f g (r ∷ rs) each = ap₂ (λ (n : ℕ) (ns : List ℕ). n ∷ ns) (sym (each r (inl refl))) (same_lengths f g rs (λ a here. each a (inr here)))

module _ (d : Design) (top : Name) where
  -- nets in order, before others and after
  first_before : (seen ns ms : List Net) → NeedsComeFirst d top seen (ns ++ ms) → NeedsComeFirst d top seen ns
  first_before seen [] ms first = tt
  first_before seen (n ∷ ns) ms first = (first.0, first_before (n ∷ seen) ns ms first.1)

  first_after : (seen ns ms : List Net) → NeedsComeFirst d top seen (ns ++ ms) → NeedsComeFirst d top (seen_after seen ns) ms
  first_after seen [] ms first = first
  first_after seen (n ∷ ns) ms first = first_after (n ∷ seen) ns ms first.1

-- ---- signals of which nothing is asked

-- they carry each word that has as many bits
counted : (total n : ℕ) (w : Word) (ss : List Signal) → length ss ≡ length w → CarriesWord (counting total) n w ss
counted total n [] [] same = none
counted total n [] (s ∷ ss) same = absurd (omega arith)
counted total n (b ∷ w) [] same = absurd (omega arith)
counted total n (b ∷ w) (s ∷ ss) same = more b w s ss tt (counted total n w ss (omega arith))

module _ (d : Design) (top : Name) (m : Module) (order : List ℕ) (flat : IsFlat d top m order) (single : AreSingle m.body) where
  side_nets : (side_of d top order).nets ≡ flat_nets m.ports m.body order
  side_nets = ap (λ o. flat_nets (ports_of o) (body_of o) order) flat.plain.found

  module _ (ins content : List Signal) (x q : Word) (ρ : Net → Word) (settled : Settled d top x q ρ) (ex : length x ≡ input_width m.ports) (eq : length q ≡ state d top)
      (ei : length ins ≡ length x) (ec : length content ≡ length q) (t : Circuit) where
    gate_lists_of : HasStepGateLists (length x) (length q) (side_of d top order)
    gate_lists_of = subst₂ (λ w v. HasStepGateLists w v (side_of d top order)) (sym ex) (sym eq) (has_step_gate_lists d top m order flat)

    -- the signals of nets that were built are as many as bits of their words
    net_long : (gates : List Gate) (ns : List Net) → NeedsComeFirst d top [] ns → HaveGateLists d top (input_width m.ports) (state d top) ρ ns
        → (a : Net) → In a (seen_after [] ns) → length ((nets_by (source_of_signals ins content) d top ns (λ n. []) t.inputs gates).got a) ≡ length (ρ a)
    net_long gates ns before gate_lists a here =
        let k = t.inputs + length gates in
        let c = counting t.inputs in
        let made = (makes-nets c d top x q ρ settled k (length x) (length q) (source_of_signals ins content)
        (makes-over c (side_of d top order) x q gate_lists_of ρ settled ins k (counted t.inputs k x ins ei) content k (le_refl k) (counted t.inputs k q content ec)) ns [] k (λ n. [])
        (le_refl k) before (subst₂ (λ w v. HaveGateLists d top w v ρ ns) (sym ex) (sym eq) gate_lists) (λ b none. absurd none)).runs gates refl tt tt tt in
        word_length c _ (ρ a) _ (made.is a here)

    module _ (is : List ℕ) (before : NeedsComeFirst d top [] (flat_nets m.ports m.body is)) (u : Circuit) (results : List (List Signal))
        (runs : Runs (results_by m.body content (words_over ins 0 m.ports) is (no_words (length m.body))) t u results) where
      -- and so are those of values
      value_long : (r : Ref) → In (net [] r) (seen_after [] (flat_nets m.ports m.body is)) → length (word_at (words_over ins 0 m.ports) results r) ≡ length (ρ (net [] r))
      value_long r here =
          let linked = nets_linked d top m order flat single ins content is t.inputs t.gates in
          ap (λ (ws : List (List Signal)). length (word_at (words_over ins 0 m.ports) ws r)) runs.is
          ∙ sym (ap (λ (xs : List Signal). length xs) (linked.words r))
          ∙ net_long t.gates (flat_nets m.ports m.body is) before (flat_gate_lists d top m order flat x q ρ settled is) (net [] r) here

    -- ---- operations

    module _ (i v : ℕ) (there : slice_get order i ≡ Some v) where
      -- the nets before those of the operation at a position, and after
      split : flat_nets m.ports m.body order
          ≡ flat_nets m.ports m.body (take i order) ++ (result_nets m.body v ++ flat_map (result_nets m.body) (drop (suc i) order))
      split =
          ap (λ (is : List ℕ). port_nets m.ports ++ flat_map (result_nets m.body) is) (split_at order i v there)
          ∙ ap (λ (ns : List Net). port_nets m.ports ++ ns) (flat_map-append (result_nets m.body) (take i order) (v ∷ drop (suc i) order))
          ∙ sym (append_assoc (port_nets m.ports) (flat_map (result_nets m.body) (take i order)) (result_nets m.body v ++ flat_map (result_nets m.body) (drop (suc i) order)))

      in_order : NeedsComeFirst d top [] (flat_nets m.ports m.body (take i order) ++ (result_nets m.body v ++ flat_map (result_nets m.body) (drop (suc i) order)))
      in_order = subst (λ ns. NeedsComeFirst d top [] ns) split (nets_first d top m order flat)

      before_position : NeedsComeFirst d top [] (flat_nets m.ports m.body (take i order))
      before_position = first_before d top [] (flat_nets m.ports m.body (take i order)) (result_nets m.body v ++ flat_map (result_nets m.body) (drop (suc i) order)) in_order

      module _ (o : Op) (at : slice_get m.body v ≡ Some o) (r : is_register o ≡ false) (u : is_output_op o ≡ false) (y : OpResult) (one : o.results ≡ y ∷ []) where
        typed : result_type o 0 ≡ Some y.type
        typed = ap (λ (rs : List OpResult). option_map (λ (z : OpResult). z.type) (slice_get rs 0)) one

        no_form : register_form o.kind ≡ None
        no_form = none_of (register_form o.kind) r

        made_here : source d top (net [] (result v 0)) ≡ made_of [] o 0 (Some y.type)
        made_here =
            let alone = no_instance d top m order flat v o at in
            let made : op_in d top [] m.body v 0 o ≡ made_of [] o 0 (result_type o 0) = simp (no_form, alone, u) refl in
            result_from d top m order flat v 0 ∙ ap (result_in d top [] m.body v 0) at ∙ made ∙ ap (made_of [] o 0) typed

        own_net : result_nets m.body v ≡ net [] (result v 0) ∷ []
        own_net = ap (λ (k : ℕ). map (λ j. net [] (result v j)) (numbers_from 0 k)) (ap result_number at ∙ ap length one)

        -- its operands were seen
        operand_seen : (a : Ref) → In a o.operands → In (net [] a) (seen_after [] (flat_nets m.ports m.body (take i order)))
        operand_seen a here =
            let rest = first_after d top [] (flat_nets m.ports m.body (take i order)) (result_nets m.body v ++ flat_map (result_nets m.body) (drop (suc i) order)) in_order in
            let own : NeedsComeFirst d top (seen_after [] (flat_nets m.ports m.body (take i order))) (net [] (result v 0) ∷ flat_map (result_nets m.body) (drop (suc i) order)) =
            subst (λ ns. NeedsComeFirst d top (seen_after [] (flat_nets m.ports m.body (take i order))) (ns ++ flat_map (result_nets m.body) (drop (suc i) order))) own_net rest in
            own.0 (net [] a) (subst (λ z. In (net [] a) (needs_of z)) (sym made_here) (In-map (net []) a o.operands here))

        takes : (v' : Circuit) (results : List (List Signal)) → Runs (results_by m.body content (words_over ins 0 m.ports) (take i order) (no_words (length m.body))) t v' results
            → TakesWidths o.kind (held_width o) (map length (map (word_at (words_over ins 0 m.ports) results) o.operands))
        takes v' results runs =
            subst₂ (λ w ns. TakesWidths o.kind w ns) (sym (ap width_of typed))
            (same_lengths (word_at (words_over ins 0 m.ports) results) ρ o.operands
            (λ a here. value_long (take i order) before_position v' results runs a (operand_seen a here)))
            (made_gate_list d top m order flat x q ρ settled v 0 o at no_form (no_instance d top m order flat v o at) u y.type typed).0

      op_takes : (u : Circuit) (results : List (List Signal)) → Runs (results_by m.body content (words_over ins 0 m.ports) (take i order) (no_words (length m.body))) t u results
          → OpTakes (word_at (words_over ins 0 m.ports) results) (slice_get m.body v)
      op_takes u results runs = go (slice_get m.body v) refl
        where
          by_one : (o : Op) → slice_get m.body v ≡ Some o → HasOne o → OpTakes (word_at (words_over ins 0 m.ports) results) (Some o)
          by_one o at (inl (given, empty)) = λ r other. absurd (let no : true ≡ false = sym given ∙ other in let never : ⊥ = cc in never)
          by_one o at (inr (y, one, given)) = λ r other. takes o at r other y one u results runs

          go : (z : Option Op) → slice_get m.body v ≡ z → OpTakes (word_at (words_over ins 0 m.ports) results) z
          go None at =
              let found = slice_get_some m.body v (within_order (length m.body) order flat.stands.all v (In-slice_get v order i there)) in
              let no : None ≡ Some found.0 = sym at ∙ found.1 in
              absurd (let never : ⊥ = cc in never)
          go (Some o) at = by_one o at (single v o at)

    -- ---- registers

    registers_take : (u : Circuit) (results : List (List Signal)) → Runs (results_by m.body content (words_over ins 0 m.ports) order (no_words (length m.body))) t u results
        → RegistersTake m.body (word_at (words_over ins 0 m.ports) results)
    registers_take u results runs i o at is = record {
      next = λ r found. long r.next (fit.among r found r.next (inl refl)) ∙ fit.next_width r found x q ρ ex eq settled;
      value = λ r v found to.
          long v.value (fit.among r found v.value (inr (inr (In-append_right v.value (enable_refs r.enable) (reset_refs r.reset)
          (subst (λ z. In v.value (reset_refs z)) (sym to) (inr (inl refl)))))))
          ∙ fit.value_width r v found to x q ρ ex eq settled;
      loaded = λ a found.
          ap length (sym (constant_is_at d top m order flat single (held_width o) a.value (fit.value a found)))
          ∙ (constant_is d top x q ρ settled (net [] a.value) (held_width o) (fit.value a found)).1;
    }
      where
        fit : SlotFits (input_width m.ports) (state d top) (side_of d top order) (slot o)
        fit = slots_fit d top m order flat (slot o) (subst (λ ss. In (slot o) ss) (sym (registers_are d top m order flat)) (slot_listed m.body i o at is))

        long : (r : Ref) → In (net [] r) (side_of d top order).nets → length (word_at (words_over ins 0 m.ports) results r) ≡ length (ρ (net [] r))
        long r here =
            value_long order (nets_first d top m order flat) u results runs r
            (is_seen (flat_nets m.ports m.body order) [] (net [] r) (subst (λ ns. In (net [] r) ns) side_nets here))

    fits_by : FlatFitsOver (words_over ins 0 m.ports) content m.body order t
    fits_by = record {
      gate_lists = λ i v u results there runs. op_takes i v there u results runs;
      registers = registers_take;
      room = let same = state_is_content d top m order flat in omega (arith, eq, ec, same);
    }

  -- over as many signals as the inputs and the content have bits
  pub fits_over : (ins content : List Signal) → length ins ≡ input_width m.ports → length content ≡ state d top → (t : Circuit)
      → FlatFitsOver (words_over ins 0 m.ports) content m.body order t
  fits_over ins content ei ec t =
      let x : Word = zeros (input_width m.ports) in
      let q : Word = zeros (state d top) in
      let ex : length x ≡ input_width m.ports = length-replicate (input_width m.ports) false in
      let eq : length q ≡ state d top = length-replicate (state d top) false in
      let one = settles_with_heights d top (flat_heights d top m order flat) x q in
      fits_by ins content x q one.0 one.1 ex eq (ei ∙ sym ex) (ec ∙ sym eq) t

  -- the content is as wide once the registers are loaded
  loaded_as_wide : (s t : Circuit) (content : List Signal) → Runs (first_content (input_width m.ports) m.ports m.body) s t content → length content ≡ state d top
  loaded_as_wide s t content first =
      let x : Word = zeros (input_width m.ports) in
      let q : Word = zeros (state d top) in
      let ex : length x ≡ input_width m.ports = length-replicate (input_width m.ports) false in
      let eq : length q ≡ state d top = length-replicate (state d top) false in
      let one = settles_with_heights d top (flat_heights d top m order flat) x q in
      let c = counting s.inputs in
      let side = side_of d top order in
      let fits = subst₂ (λ w v. HasStepGateLists w v side) (sym ex) (sym eq) (has_step_gate_lists d top m order flat) in
      let k = s.inputs + length s.gates in
      let made = (makes-loaded_over c side x q fits one.0 one.1 (variables 0 (input_width m.ports)) k
      (counted s.inputs k x (variables 0 (input_width m.ports)) (length-variables (input_width m.ports) 0 ∙ sym ex)) (variables (input_width m.ports) (state d top)) k (le_refl k)
      (counted s.inputs k q (variables (input_width m.ports) (state d top)) (length-variables (state d top) (input_width m.ports) ∙ sym eq))).runs s.gates refl tt tt tt in
      let same : content ≡ (loaded_gate_list (input_width m.ports) d top s.inputs s.gates).got =
      first.is ∙ sym (ap (λ (z : Built (List Signal)). z.got) (loaded_same d top m order flat single s.inputs s.gates)) in
      ap (λ (ss : List Signal). length ss) same ∙ word_length c _ (loaded d top one.0 q) _ made.is ∙ loaded_long d top one.0 q

  -- over the first variables
  pub fits : (s : Circuit) → FlatFits (input_width m.ports) m.ports m.body order s
  fits s = record {
    over = λ t content first.
        subst (λ ports. FlatFitsOver ports content m.body order t) (words_of_variables m.ports)
        (fits_over (variables 0 (input_width m.ports)) content (length-variables (input_width m.ports) 0) (loaded_as_wide s t content first) t);
  }
