-- Steps and runs of an imported design are those of the text.
use Rattle.std.proofs.Common.{◌≡◌, ◌↔◌, ℕ, zero, suc, ◌+◌, Bool, true, false, cond, List, [], ◌∷◌, ◌++◌, map, length, drop, refl, sym, ap, ap₂, subst, subst₂, ◌∙◌, inl, inr, append_assoc, zero-add, suc-add}
use Rattle.std.proofs.lemmas.List.{length-map}
use Rattle.wiring.specs.Wiring.{In}
use Rattle.wiring.proofs.Members.{position_of_In}
use Rattle.bits_core.specs.Word.{Word, first}
use Rattle.hw_model.specs.Design.{Ref, Op, output_refs}
use Rattle.hw_model.specs.Design.Ref.{port, result}
use Rattle.hw_model.specs.Value.{concat_words, is_high}
use Rattle.hw_model.specs.Flat.{Net, registers, module_registers, register_in}
use Rattle.hw_model.specs.Machine.{Step as ModuleStep, RunAfter, Run as ModuleRun}
use Rattle.hw_model.specs.Meaning.{Settled, HasHeights, map_slots, next_in, next_content, next_value, rise_in, risen_content, outputs, machine}
use Rattle.hw_model.proofs.Machines.{step_exists}
use Rattle.hw_model.proofs.Finite.{settles_with_heights}
use Rattle.aiger_laws.specs.declared.tree.Latch.{Latch}
use Rattle.aiger_laws.specs.declared.tree.AndGate.{AndGate}
use Rattle.aiger_laws.specs.Trees.{Aiger, variable}
use Rattle.aiger_laws.specs.Drivers.{HasNoCycle}
use Rattle.aiger_laws.specs.Steps.{literal_bit, given_bits, next_bits, Step, Run}
use Rattle.aiger_laws.proofs.OneStep.{steps_once}
use Rattle.aiger_design.specs.Operations.{constant_op, inverter_op, register_op}
use Rattle.aiger_design.specs.Positions.{User, users, latch_users, gate_user, output_user, needs_true, needs_false, constants, is_inverted, size, start_from, variable_ref, plain_ref, operands}
use Rattle.aiger_design.specs.Built.{inverters, group, groups, imported_body, imported_symbol, imported_design, clocked}
use Rattle.aiger_design.proofs.GroupPlaces.{Stand, stand_behind, inverters_stand}
use Rattle.aiger_design.proofs.NetValues.{word, clock_word}
use Rattle.aiger_design.proofs.Operands.{IsDefined, bits_of, IsKnown, operand_words}
use Rattle.aiger_design.proofs.UserPlaces.{latch_user, latch_at, output_at}
use Rattle.aiger_design.proofs.HeldPlaces.{latch_slots, body_slots}
use Rattle.aiger_design.proofs.VariableBits.{users_stand, user_known, user_words, has_bit, bits_settled}

-- ---- outputs

module _ (t : Aiger) where
  refs_past : (ls : List ℕ) (more : List Op) → output_refs (inverters t ls ++ more) ≡ output_refs more
  refs_past [] more = refl
  refs_past (l ∷ ls) more = go (is_inverted l) (refs_past ls more)
    where
      go : (b : Bool) → output_refs (inverters t ls ++ more) ≡ output_refs more
          → output_refs (cond b (inverter_op (variable_ref t (variable l)) ∷ inverters t ls) (inverters t ls) ++ more) ≡ output_refs more
      go true rest = rest
      go false rest = rest

  refs_group : (p : ℕ) (u : User) (more : List Op) → output_refs (group t p u ++ more) ≡ output_refs (u.made (operands t p u.literals) ∷ more)
  refs_group p u more =
      ap output_refs (append_assoc (inverters t u.literals) (u.made (operands t p u.literals) ∷ []) more) ∙ refs_past u.literals (u.made (operands t p u.literals) ∷ more)

  -- users of gates, and the output
  abbrev plain_users : List AndGate → List ℕ → List User
  plain_users gates os = map gate_user gates ++ output_user os ∷ []

  gates_give : (p : ℕ) (gates : List AndGate) (os : List ℕ)
      → output_refs (groups t p (plain_users gates os)) ≡ operands t (start_from p (plain_users gates os) (length gates)) os
  gates_give p [] os = refs_group p (output_user os) []
  gates_give p (g ∷ gates) os = refs_group p (gate_user g) (groups t (p + size (gate_user g)) (plain_users gates os)) ∙ gates_give (p + size (gate_user g)) gates os

  latches_give : (p s : ℕ) (ls : List Latch) (gates : List AndGate) (os : List ℕ)
      → output_refs (groups t p (latch_users s ls ++ plain_users gates os)) ≡ operands t (start_from p (latch_users s ls ++ plain_users gates os) (length ls + length gates)) os
  latches_give p s [] gates os = gates_give p gates os ∙ ap (λ n. operands t (start_from p (plain_users gates os) n) os) (sym (zero-add (length gates)))
  latches_give p s (l ∷ ls) gates os =
      refs_group p (latch_user s l) (groups t (p + size (latch_user s l)) (latch_users (suc s) ls ++ plain_users gates os))
      ∙ latches_give (p + size (latch_user s l)) (suc s) ls gates os
      ∙ ap (λ n. operands t (start_from p (latch_users s (l ∷ ls) ++ plain_users gates os) n) os) (sym (suc-add (length ls) (length gates)))

  -- the module gives its outputs the operands of the last operation
  body_gives : output_refs (imported_body t) ≡ operands t (start_from (length (constants t)) (users t) (length t.latches + length t.gates)) t.outputs
  body_gives =
      past_constants (needs_true t) (needs_false t) (groups t (length (constants t)) (users t))
      ∙ latches_give (length (constants t)) 0 t.latches t.gates t.outputs
    where
      past_constants : (a b : Bool) (more : List Op) → output_refs ((cond a (constant_op true ∷ []) [] ++ cond b (constant_op false ∷ []) []) ++ more) ≡ output_refs more
      past_constants true true more = refl
      past_constants true false more = refl
      past_constants false true more = refl
      past_constants false false more = refl

-- words of one bit joined
joined_bits : (f : ℕ → Bool) (ls : List ℕ) → concat_words (map (λ l. f l ∷ []) ls) ≡ map f ls
joined_bits f [] = refl
joined_bits f (l ∷ ls) = ap (λ bs. f l ∷ bs) (joined_bits f ls)

-- ---- registers

-- the one operand of a register
one_operand : (t : Aiger) (p l : ℕ) → (r : Ref) × (operands t p (l ∷ []) ≡ r ∷ [])
one_operand t p l = go (is_inverted l)
  where
    go : (b : Bool) → (r : Ref) × (cond b (result p 0 ∷ []) (plain_ref t l ∷ []) ≡ r ∷ [])
    go true = (result p 0, refl)
    go false = (plain_ref t l, refl)

-- a register takes its operand where the clock rises
one_taken : (t : Aiger) (ρ : Net → Word) (p s l : ℕ) (b : Bool) (old : Word) → word ρ (port 0) ≡ true ∷ [] → map (word ρ) (operands t p (l ∷ [])) ≡ (b ∷ []) ∷ []
    → next_value (register_in (register_op s (operands t p (l ∷ [])))) (word ρ) old ≡ b ∷ []
one_taken t ρ p s l b old clock is =
    let one = one_operand t p l in
    let value : word ρ one.0 ∷ [] ≡ (b ∷ []) ∷ [] = ap (map (word ρ)) (sym one.1) ∙ is in
    ap (λ rs. next_value (register_in (register_op s rs)) (word ρ) old) one.1
    ∙ ap (λ w. cond (is_high w) (word ρ one.0) old) clock
    ∙ ap (λ ws. head ws) value
  where
    head : List Word → Word
    head [] = []
    head (w ∷ ws) = w

-- nothing rises: no register has an asynchronous reset
slots_still : (t : Aiger) (ρ σ : Net → Word) (p s : ℕ) (ls : List Latch) (c : Word) → length c ≡ length ls → map_slots (rise_in ρ σ) (latch_slots t p s ls) c ≡ c
slots_still t ρ σ p s [] [] is = refl
slots_still t ρ σ p s [] (b ∷ c) is = cc
slots_still t ρ σ p s (l ∷ ls) [] is = cc
slots_still t ρ σ p s (l ∷ ls) (b ∷ c) is = ap (λ bs. b ∷ bs) (slots_still t ρ σ (p + size (latch_user s l)) (suc s) ls c (ap pred_of is))
  where
    pred_of : ℕ → ℕ
    pred_of zero = zero
    pred_of (suc n) = n

-- the registers of the module are those of the latches
pub registers_are : (t : Aiger) → registers (imported_design t) imported_symbol ≡ latch_slots t (length (constants t)) 0 t.latches
registers_are t = body_slots t (module_registers 1 (imported_design t))

pub still : (t : Aiger) (ρ σ : Net → Word) (c : Word) → length c ≡ length t.latches → risen_content (registers (imported_design t) imported_symbol) ρ σ c ≡ c
still t ρ σ c is = ap (λ ss. map_slots (rise_in ρ σ) ss c) (registers_are t) ∙ slots_still t ρ σ (length (constants t)) 0 t.latches c is

module _ (t : Aiger) (defined : IsDefined t) (acyclic : HasNoCycle t) (x content : Word) (ρ : Net → Word)
    (settled : Settled (imported_design t) imported_symbol (clocked t.latches x) content ρ) where
  -- the bits that the registers take
  slots_take : (p s : ℕ) (ls : List Latch) (more : List User) → Stand t (imported_body t) p (latch_users s ls ++ more)
      → ((l : Latch) → In l ls → IsKnown t defined (clocked t.latches x) content ρ settled l.next) → ((l : Latch) → In l ls → word ρ (port 0) ≡ true ∷ []) → (c : Word)
      → map_slots (next_in ρ) (latch_slots t p s ls) c ≡ map (λ (l : Latch). literal_bit (bits_of t ρ) l.next) ls
  slots_take p s [] more stand knows clock c = refl
  slots_take p s (l ∷ ls) more stand knows clock c =
      ap₂ (λ w ws. first 1 w ++ ws)
      (one_taken t ρ p s l.next (literal_bit (bits_of t ρ) l.next) (first 1 c) (clock l (inl refl))
      (operand_words t defined (clocked t.latches x) content ρ settled p (l.next ∷ [])
      (inverters_stand t (imported_body t) p (latch_users s (l ∷ ls) ++ more) stand 0 (latch_user s l) refl) (one_known (knows l (inl refl)))))
      (slots_take (p + size (latch_user s l)) (suc s) ls more
      (stand_behind t (imported_body t) p (latch_user s l) (latch_users (suc s) ls ++ more) stand)
      (λ m here. knows m (inr here)) (λ m here. clock m (inr here)) (drop 1 c))
    where
      one_known : IsKnown t defined (clocked t.latches x) content ρ settled l.next → (m : ℕ) → In m (l.next ∷ []) → IsKnown t defined (clocked t.latches x) content ρ settled m
      one_known is m (inl same) = subst (IsKnown t defined (clocked t.latches x) content ρ settled) (sym same) is
      one_known is m (inr never) = absurd never

  outputs_are : outputs (imported_design t) imported_symbol ρ ≡ given_bits t (bits_of t ρ)
  outputs_are =
      ap (λ rs. concat_words (map (word ρ) rs)) (body_gives t)
      ∙ ap concat_words (user_words t defined x content ρ settled (length t.latches + length t.gates) (output_user t.outputs) (output_at t)
      (λ l here. has_bit t defined x content ρ settled acyclic (variable l)))
      ∙ joined_bits (literal_bit (bits_of t ρ)) t.outputs

  next_is : next_content (registers (imported_design t) imported_symbol) ρ content ≡ next_bits t (bits_of t ρ)
  next_is =
      ap (λ ss. map_slots (next_in ρ) ss content) (registers_are t)
      ∙ slots_take (length (constants t)) 0 t.latches (plain_users t t.gates t.outputs) (users_stand t) knows rises content
    where
      knows : (l : Latch) → In l t.latches → IsKnown t defined (clocked t.latches x) content ρ settled l.next
      knows l here =
          let place = position_of_In l t.latches here in
          let user = latch_at t place.0 l place.1 in
          user_known t defined x content ρ settled place.0 (latch_user user.0 l) user.1 (λ m there. has_bit t defined x content ρ settled acyclic (variable m)) l.next (inl refl)

      rises : (l : Latch) → In l t.latches → word ρ (port 0) ≡ true ∷ []
      rises l here = go t.latches refl here
        where
          go : (ls : List Latch) → t.latches ≡ ls → In l ls → word ρ (port 0) ≡ true ∷ []
          go [] is none = absurd none
          go (a ∷ ls) is some = clock_word t (clocked t.latches x) content ρ settled x a ls is refl

-- ---- steps

module _ (t : Aiger) (defined : IsDefined t) (acyclic : HasNoCycle t) where
  -- a step of the module is one of the text
  pub step_to : (before x content given after : Word) → length content ≡ length t.latches
      → ModuleStep (machine (imported_design t) imported_symbol) before (clocked t.latches x) content given after → Step t x content given after
  step_to before x content given after wide step =
      let calm : risen_content (registers (imported_design t) imported_symbol) step.earlier step.first_map content ≡ content = still t step.earlier step.first_map content wide in
      let settled : Settled (imported_design t) imported_symbol (clocked t.latches x) content step.map_of =
      subst (λ c. Settled (imported_design t) imported_symbol (clocked t.latches x) c step.map_of) calm step.settled in
      record {
        bits = bits_of t step.map_of;
        settled = bits_settled t defined x content step.map_of settled acyclic;
        read = step.read ∙ outputs_are t defined acyclic x content step.map_of settled;
        taken = step.taken ∙ ap (next_content (registers (imported_design t) imported_symbol) step.map_of) calm ∙ next_is t defined acyclic x content step.map_of settled;
      }

  -- and back, where the module's nets have heights
  pub step_from : HasHeights (imported_design t) imported_symbol → (before x content given after : Word) → length content ≡ length t.latches
      → Step t x content given after → ModuleStep (machine (imported_design t) imported_symbol) before (clocked t.latches x) content given after
  step_from heights before x content given after wide step =
      let made = step_exists (machine (imported_design t) imported_symbol) (settles_with_heights (imported_design t) imported_symbol heights) before (clocked t.latches x) content in
      let once = steps_once t x content acyclic in
      let theirs = once.only made.0 made.1 (step_to before x content made.0 made.1 wide made.2) in
      let ours = once.only given after step in
      subst₂ (λ (y q : Word). ModuleStep (machine (imported_design t) imported_symbol) before (clocked t.latches x) content y q)
      (theirs.0 ∙ sym ours.0) (theirs.1 ∙ sym ours.1) made.2

  -- a step leaves as many bits as there are latches
  step_wide : (x content given after : Word) → Step t x content given after → length after ≡ length t.latches
  step_wide x content given after step = ap length step.taken ∙ length-map t.latches (λ (l : Latch). literal_bit step.bits l.next)

  -- ---- runs

  run_to : (before content : Word) (steps given : List Word) → length content ≡ length t.latches
      → RunAfter (machine (imported_design t) imported_symbol) before content (map (clocked t.latches) steps) given → Run t content steps given
  run_to before content [] [] wide run = tt
  run_to before content [] (y ∷ ys) wide run = absurd run
  run_to before content (x ∷ xs) [] wide run = absurd run
  run_to before content (x ∷ xs) (y ∷ ys) wide run =
      let step = step_to before x content y run.0 wide run.1 in
      (run.0, step, run_to (clocked t.latches x) run.0 xs ys (step_wide x content y run.0 step) run.2)

  run_from : HasHeights (imported_design t) imported_symbol → (before content : Word) (steps given : List Word) → length content ≡ length t.latches
      → Run t content steps given → RunAfter (machine (imported_design t) imported_symbol) before content (map (clocked t.latches) steps) given
  run_from heights before content [] [] wide run = tt
  run_from heights before content [] (y ∷ ys) wide run = absurd run
  run_from heights before content (x ∷ xs) [] wide run = absurd run
  run_from heights before content (x ∷ xs) (y ∷ ys) wide run = (
    run.0,
    step_from heights before x content y run.0 wide run.1,
    run_from heights (clocked t.latches x) run.0 xs ys (step_wide x content y run.0 run.1) run.2,
  )

  pub same_steps : HasHeights (imported_design t) imported_symbol → (before x content given after : Word) → length content ≡ length t.latches
      → Step t x content given after ↔ ModuleStep (machine (imported_design t) imported_symbol) before (clocked t.latches x) content given after
  same_steps heights before x content given after wide = (step_from heights before x content given after wide, step_to before x content given after wide)

  pub same_runs : HasHeights (imported_design t) imported_symbol → (content : Word) → length content ≡ length t.latches → (steps given : List Word)
      → Run t content steps given ↔ ModuleRun (machine (imported_design t) imported_symbol) content (map (clocked t.latches) steps) given
  same_runs heights content wide steps given = (run_from heights [] content steps given wide, run_to [] content steps given wide)
