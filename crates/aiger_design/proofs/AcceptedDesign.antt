-- An imported design is accepted.
use Rattle.std.proofs.Common.{◌≡◌, ℕ, zero, suc, ◌+◌, ◌*◌, ◌<◌, ◌≤◌, ◌^◌, Bool, true, false, cond, not, List, [], ◌∷◌, ◌++◌, map, length, slice_get, Option, Some, None, is_some, option_map, refl, sym}
use Rattle.std.proofs.Common.{ap, ap₂, subst, ◌∙◌, inl, inr, arith, true≢false}
use Rattle.std.proofs.lemmas.List.{length-map}
use Rattle.wiring.specs.Wiring.{In}
use Rattle.wiring.proofs.Members.{In-slice_get}
use Rattle.diag.specs.declared.cause.Cause.TheVariants as cause
use Rattle.hw_model.specs.Types.{Name}
use Rattle.hw_model.specs.Types.HwType.{clock}
use Rattle.hw_model.specs.Design.{Ref, Port, Op, Module, is_output_op}
use Rattle.hw_model.specs.Design.Ref.{result}
use Rattle.hw_model.specs.Flat.{net}
use Rattle.hw_model.specs.Meaning.{Depends}
use Rattle.hw_model.specs.Weight.{leaf_count, kind_weight, body_weight, module_weight, weight}
use Rattle.op_checks.specs.TypeChecks.{is_outside, has_bad_field}
use Rattle.op_verifier.specs.Answers.{when, or_else}
use Rattle.op_verifier.specs.Headers.{has_port, has_wrong_clock, has_output, ports_cause, header_cause}
use Rattle.op_verifier.specs.Faults.{header_refusal, first_fault}
use Rattle.op_verifier.specs.Verdict.{IsAccepted, IsRecursive, IsTooLarge, IsOnCycle}
use Rattle.aiger_laws.specs.declared.tree.Latch.{Latch}
use Rattle.aiger_laws.specs.Trees.{Aiger}
use Rattle.aiger_laws.specs.Grammar.{IsAiger}
use Rattle.aiger_laws.proofs.Lengths.{least_bytes, text_long}
use Rattle.aiger_design.specs.Operations.{one_bit, port_named}
use Rattle.aiger_design.specs.Positions.{operands}
use Rattle.aiger_design.specs.Built.{clock_ports, input_ports, output_ports, imported_ports, imported_body, imported_symbol, imported_module, imported_design}
use Rattle.aiger_design.proofs.NetHeights.{no_instance, imported_acyclic}
use Rattle.aiger_design.proofs.DefinedUsers.{imported_defined}
use Rattle.aiger_design.proofs.Fronts.{front, last_start, last_op, body_is, front_few, of_front}
use Rattle.aiger_design.proofs.AcceptedOps.{operands_as, no_body_fault}
use Rattle.aiger_design.proofs.PortNames.{names_apart}

-- ---- the module

-- the only module
pub only_module : (t : Aiger) (i : ℕ) (m : Module) → slice_get (imported_design t) i ≡ Some m → (i ≡ 0) × (m ≡ imported_module t)
only_module t zero m is = (refl, ap in_some (sym is))
  where
    in_some : Option Module → Module
    in_some None = m
    in_some (Some n) = n
only_module t (suc i) m is = absurd (let w : ⊥ = cc in w)

-- ---- the header

module _ (t : Aiger) where
  no_port : (test : Port → Bool) → ((name : Name) → test (port_named name false clock) ≡ false) → ((name : Name) → test (port_named name false one_bit) ≡ false)
      → ((name : Name) → test (port_named name true one_bit) ≡ false) → has_port test (imported_ports t) ≡ false
  no_port test clocks inputs outputs = of_clock t.latches
    where
      of_outputs : (k : ℕ) (ls : List ℕ) → has_port test (output_ports k ls) ≡ false
      of_outputs k [] = refl
      of_outputs k (l ∷ ls) = ap (λ b. cond b true (has_port test (output_ports (suc k) ls))) (outputs _) ∙ of_outputs (suc k) ls

      of_inputs : (k : ℕ) (ls : List ℕ) → has_port test (input_ports k ls ++ output_ports 0 t.outputs) ≡ false
      of_inputs k [] = of_outputs 0 t.outputs
      of_inputs k (l ∷ ls) = ap (λ b. cond b true (has_port test (input_ports (suc k) ls ++ output_ports 0 t.outputs))) (inputs _) ∙ of_inputs (suc k) ls

      of_clock : (ls : List Latch) → has_port test (clock_ports ls ++ (input_ports 0 t.inputs ++ output_ports 0 t.outputs)) ≡ false
      of_clock [] = of_inputs 0 t.inputs
      of_clock (l ∷ ls) = ap (λ b. cond b true (has_port test (input_ports 0 t.inputs ++ output_ports 0 t.outputs))) (clocks _) ∙ of_inputs 0 t.inputs

  none_of_four : (a b c e : Bool) → a ≡ false → b ≡ false → c ≡ false → e ≡ false
      → or_else (when a cause.Redefined) (or_else (when b cause.WidthLimit) (or_else (when c cause.Field) (when e cause.ClockOperand))) ≡ None
  none_of_four a b c e a_is b_is c_is e_is = rw (a_is, b_is, c_is, e_is) refl

  no_ports_cause : ports_cause (imported_ports t) ≡ None
  unfolding is_outside
  no_ports_cause =
      none_of_four (has_port (λ (q : Port). q.again) (imported_ports t)) (has_port (λ (q : Port). is_outside q.type) (imported_ports t))
      (has_port (λ (q : Port). has_bad_field q.type) (imported_ports t)) (has_port has_wrong_clock (imported_ports t))
      (no_port (λ (q : Port). q.again) (λ n. refl) (λ n. refl) (λ n. refl)) (no_port (λ (q : Port). is_outside q.type) (λ n. refl) (λ n. refl) (λ n. refl))
      (no_port (λ (q : Port). has_bad_field q.type) (λ n. refl) (λ n. refl) (λ n. refl)) (no_port has_wrong_clock (λ n. refl) (λ n. refl) (λ n. refl))

  output_last : (os : List Op) (last : Op) → is_output_op last ≡ true → has_output (os ++ last ∷ []) ≡ true
  output_last [] last is = ap (λ b. cond b true false) is
  output_last (o ∷ os) last is = go (is_output_op o) (output_last os last is)
    where
      go : (b : Bool) → has_output (os ++ last ∷ []) ≡ true → cond b true (has_output (os ++ last ∷ [])) ≡ true
      go true rest = refl
      go false rest = rest

  some_output : has_output (imported_body t) ≡ true
  some_output = ap has_output (body_is t) ∙ output_last (front t) (last_op t) refl

  no_header_cause : length t.inputs ≤ 2 ^ 64 → length t.outputs ≤ 2 ^ 64 → header_cause (imported_design t) 0 (imported_module t) ≡ None
  no_header_cause few_inputs few_outputs =
      ap₂ (λ a b. or_else a b) no_ports_cause
      (ap₂ (λ a b. or_else (when a cause.DuplicatePort) (when (not b) cause.MissingOutput)) (names_apart t few_inputs few_outputs) some_output)

  -- ---- weights

  light_ops : (inner : Name → ℕ) (os : List Op) (last : Op) → ((o : Op) → In o os → kind_weight inner o.kind o.types (length o.operands) ≤ 3)
      → body_weight inner (os ++ last ∷ []) ≤ 3 * length os + kind_weight inner last.kind last.types (length last.operands)
  light_ops inner [] last light = omega arith
  light_ops inner (o ∷ os) last light =
      let one : kind_weight inner o.kind o.types (length o.operands) ≤ 3 = light o (inl refl) in
      let rest : body_weight inner (os ++ last ∷ []) ≤ 3 * length os + kind_weight inner last.kind last.types (length last.operands) = light_ops inner os last (λ p here. light p (inr here)) in
      omega (arith, one, rest)

  length-operands : (p : ℕ) (ls : List ℕ) → length (operands t p ls) ≡ length ls
  length-operands p ls =
      sym (length-map {B = ℕ} (operands t p ls) (λ (r : Ref). 0)) ∙ ap length (operands_as {B = ℕ} t 0 p ls) ∙ length-map {B = ℕ} ls (λ (l : ℕ). 0)

  front_light : (inner : Name → ℕ) (o : Op) → In o (front t) → kind_weight inner o.kind o.types (length o.operands) ≤ 3
  front_light inner = of_front t (λ o. kind_weight inner o.kind o.types (length o.operands) ≤ 3)
      (record {
        of_constants = λ b. omega arith;
        of_inverters = λ u here l within is. omega arith;
        of_registers = λ k l low u here are p within. omega arith;
        of_gates = λ g here p within. let two : length (operands t p (g.left ∷ g.right ∷ [])) ≡ 2 = length-operands p (g.left ∷ g.right ∷ []) in omega (arith, two);
      })

  one_leaf : {A : Type 0} (xs : List A) → leaf_count (map (λ x. one_bit) xs) ≡ length xs
  one_leaf [] = refl
  one_leaf (x ∷ xs) = let rest : leaf_count (map (λ x. one_bit) xs) ≡ length xs = one_leaf xs in omega (arith, rest)

  port_leaves : leaf_count (map (λ (q : Port). q.type) (imported_ports t)) ≤ 1 + length t.inputs + length t.outputs
  port_leaves = of_clock t.latches
    where
      of_outputs : (k : ℕ) (ls : List ℕ) → leaf_count (map (λ (q : Port). q.type) (output_ports k ls)) ≡ length ls
      of_outputs k [] = refl
      of_outputs k (l ∷ ls) = let rest : leaf_count (map (λ (q : Port). q.type) (output_ports (suc k) ls)) ≡ length ls = of_outputs (suc k) ls in omega (arith, rest)

      of_inputs : (k : ℕ) (ls : List ℕ) → leaf_count (map (λ (q : Port). q.type) (input_ports k ls ++ output_ports 0 t.outputs)) ≡ length ls + length t.outputs
      of_inputs k [] = let rest : leaf_count (map (λ (q : Port). q.type) (output_ports 0 t.outputs)) ≡ length t.outputs = of_outputs 0 t.outputs in omega (arith, rest)
      of_inputs k (l ∷ ls) =
          let rest : leaf_count (map (λ (q : Port). q.type) (input_ports (suc k) ls ++ output_ports 0 t.outputs)) ≡ length ls + length t.outputs = of_inputs (suc k) ls in
          omega (arith, rest)

      of_clock : (ls : List Latch) → leaf_count (map (λ (q : Port). q.type) (clock_ports ls ++ (input_ports 0 t.inputs ++ output_ports 0 t.outputs))) ≤ 1 + length t.inputs + length t.outputs
      of_clock [] =
          let rest : leaf_count (map (λ (q : Port). q.type) (input_ports 0 t.inputs ++ output_ports 0 t.outputs)) ≡ length t.inputs + length t.outputs = of_inputs 0 t.inputs in
          omega (arith, rest)
      of_clock (l ∷ ls) =
          let rest : leaf_count (map (λ (q : Port). q.type) (input_ports 0 t.inputs ++ output_ports 0 t.outputs)) ≡ length t.inputs + length t.outputs = of_inputs 0 t.inputs in
          omega (arith, rest)

  -- at most three for each byte of the text
  light_body : (inner : Name → ℕ) → body_weight inner (imported_body t) ≤ 7 + 6 * length t.latches + 9 * length t.gates + 4 * length t.outputs
  light_body inner =
      let all : body_weight inner (front t ++ last_op t ∷ []) ≤ 3 * length (front t) + (1 + leaf_count (map (λ (r : Ref). one_bit) (operands t (last_start t) t.outputs))) =
      light_ops inner (front t) (last_op t) (front_light inner) in
      let few : length (front t) ≤ 2 + 2 * length t.latches + 3 * length t.gates + length t.outputs = front_few t in
      let leaves : leaf_count (map (λ (r : Ref). one_bit) (operands t (last_start t) t.outputs)) ≡ length (operands t (last_start t) t.outputs) = one_leaf (operands t (last_start t) t.outputs) in
      let count : length (operands t (last_start t) t.outputs) ≡ length t.outputs = length-operands (last_start t) t.outputs in
      let same : body_weight inner (imported_body t) ≡ body_weight inner (front t ++ last_op t ∷ []) = ap (body_weight inner) (body_is t) in
      omega (arith, all, few, leaves, count, same)

  imported_light : weight (imported_design t) imported_symbol ≤ 8 + length t.inputs + 6 * length t.latches + 9 * length t.gates + 5 * length t.outputs
  imported_light =
      let ports : leaf_count (map (λ (q : Port). q.type) (imported_ports t)) ≤ 1 + length t.inputs + length t.outputs = port_leaves in
      let body : body_weight (module_weight 1 (imported_design t)) (imported_body t) ≤ 7 + 6 * length t.latches + 9 * length t.gates + 4 * length t.outputs = light_body (module_weight 1 (imported_design t)) in
      omega (arith, ports, body)

-- ---- the verdict

module _ (bytes : List ℕ) (t : Aiger) (says : IsAiger bytes t) (short : length bytes ≤ 2 ^ 26) where
  -- there are few lines
  pub few_lines : least_bytes t ≤ 2 ^ 26 + 1
  few_lines = let long : least_bytes t ≤ suc (length bytes) = text_long bytes t says.reads in omega (arith, long, short)

  nothing_refused : first_fault (imported_design t) ≡ None
  nothing_refused =
      let few : least_bytes t ≤ 2 ^ 26 + 1 = few_lines in
      ap₂ (λ a b. or_else (or_else (option_map (header_refusal (imported_module t)) a) b) None)
      (no_header_cause t (omega (arith, few)) (omega (arith, few))) (no_body_fault t (imported_design t) (imported_defined bytes t says))

  not_recursive : (i j : ℕ) (m : Module) (o : Op) → slice_get (imported_design t) i ≡ Some m → slice_get m.body j ≡ Some o → IsRecursive (imported_design t) m j o → ⊥
  not_recursive i j m o there at (x, inst, around) =
      let is : m ≡ imported_module t = (only_module t i m there).1 in
      let none = no_instance t o (In-slice_get o (imported_body t) j (subst (λ (n : Module). slice_get n.body j ≡ Some o) is at)) in
      absurd (true≢false (sym (ap is_some inst) ∙ none))

  not_large : (i : ℕ) (m : Module) → slice_get (imported_design t) i ≡ Some m → IsTooLarge (imported_design t) m → ⊥
  not_large i m there large =
      let is : m ≡ imported_module t = (only_module t i m there).1 in
      let heavy : 2 ^ 28 < weight (imported_design t) imported_symbol = subst (λ (n : Module). 2 ^ 28 < weight (imported_design t) n.symbol) is large in
      let light : weight (imported_design t) imported_symbol ≤ 8 + length t.inputs + 6 * length t.latches + 9 * length t.gates + 5 * length t.outputs = imported_light t in
      let few : least_bytes t ≤ 2 ^ 26 + 1 = few_lines in
      absurd (omega (arith, heavy, light, few))

  not_cyclic : (i j : ℕ) (m : Module) (o : Op) → slice_get (imported_design t) i ≡ Some m → IsOnCycle (imported_design t) m j o → ⊥
  not_cyclic i j m o there (k, around) =
      let is : m ≡ imported_module t = (only_module t i m there).1 in
      imported_acyclic bytes t says (net [] (result j k)) (subst (λ (n : Module). Depends (imported_design t) n.symbol (net [] (result j k)) (net [] (result j k))) is around)

  pub imported_accepted : IsAccepted (imported_design t)
  imported_accepted = record {
    unrefused = ap is_some nothing_refused;
    no_recursion = λ i j m o at around. not_recursive i j m o at.module_there at.op_there around;
    light = not_large;
    no_cycle = λ i j m o at around. not_cyclic i j m o at.module_there around;
  }
