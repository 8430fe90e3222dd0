-- The gate list of a module with registers carries its outputs and what the registers hold after a step.
use Rattle.std.proofs.Common.{◌≡◌, refl, sym, ap, subst, ◌∙◌, ℕ, ◌+◌, ◌≤◌, List, [], ◌∷◌, ◌++◌, map, length, take, drop, arith, le_refl, le_trans, inl}
use Rattle.wiring.specs.Wiring.{In}
use Rattle.bits_core.specs.Word.{Word, first}
use Rattle.gates.specs.declared.signal.Signal.{Signal}
use Rattle.gates.proofs.Carrying.{Carrying, Makes, makes-done, makes_more, makes_then}
use Rattle.gate_words.proofs.Words.CarriesWord.{none}
use Rattle.gate_words.proofs.Words.{CarriesWord, IsWord, word_later, word-append}
use Rattle.hw_model.specs.Types.{Name}
use Rattle.hw_model.specs.Design.{Design, find_module}
use Rattle.hw_model.specs.Flat.{Net, net, Slot, register_in, async_reset_in, registers, held_width, state, depth}
use Rattle.hw_model.specs.Flat.Source.{nowhere, input, held, copy, op_result}
use Rattle.hw_model.specs.Meaning.{Settled, outputs, outputs_of, next_in, next_content}
use Rattle.hw_model.proofs.Content.{slots_width, registers_width}
use Rattle.operation_gates.specs.OperationGateLists.{concatenation}
use Rattle.operation_gates.proofs.KindGateLists.{makes-gate_list}
use Rattle.net_gates.specs.NetGateLists.{variables}
use Rattle.net_gates.specs.NetOrder.{seen_after, HaveGateLists}
use Rattle.net_gates.specs.NetPrices.{nets_price}
use Rattle.net_gates.specs.Miters.{Side}
use Rattle.net_gates.specs.RegisterGateLists.{source_of_signals, slots_gate_list, loaded_slot, next_slot, loaded_over, stepped_over, loaded_gate_list, stepped_gate_list}
use Rattle.net_gates.specs.RegisterPrices.{load_cost, next_cost, registers_price}
use Rattle.net_gates.specs.RegisterMiters.{loaded_in, loaded, Step, next_of, HasStepGateLists, step_price}
use Rattle.net_gates.proofs.InputWords.{CarriesInputs, inputs_first, content_given, whole_carried}
use Rattle.net_gates.proofs.Nets.{HaveWords, MakesSource, is_seen, words_of, makes-nets, word-outputs}
use Rattle.net_gates.proofs.RegisterParts.{word_part, slots_price, slots_long, makes-slots}
use Rattle.net_gates.proofs.RegisterSlots.{reset_long, next_long, constant_is, makes-loaded, makes-next}

slots_priced : (ss : List Slot) → slots_price load_cost ss + slots_price next_cost ss ≡ registers_price ss
slots_priced [] = refl
slots_priced (s ∷ ss) = let rest = slots_priced ss in omega (arith, rest)

-- the content after asynchronous resets is as wide
pub loaded_long : (d : Design) (top : Name) (ρ : Net → Word) (q : Word) → length (loaded d top ρ q) ≡ state d top
loaded_long d top ρ q = slots_long (loaded_in ρ) (registers d top) q ∙ registers_width d (depth d) [] top

pub next_width : (s : Side) (x q : Word) (step : Step s x q) → length (next_of s x q step) ≡ state s.design s.top
next_width s x q step =
    slots_long (next_in step.after) (registers s.design s.top) (loaded s.design s.top step.before q) ∙ registers_width s.design (depth s.design) [] s.top

-- ---- over signals that carry inputs and content

module _ {total : ℕ} (c : Carrying total) (s : Side) (x q : Word) (fits : HasStepGateLists (length x) (length q) s) (ρ : Net → Word)
    (settled : Settled s.design s.top x q ρ) (ins : List Signal) (least : ℕ) (given : CarriesWord c least x ins) where
  slots_are : slots_width (registers s.design s.top) ≡ length q
  slots_are = registers_width s.design (depth s.design) [] s.top ∙ fits.size

  -- ---- nets

  pub makes-over : (content : List Signal) (j : ℕ) → least ≤ j → CarriesWord c j q content → MakesSource c j x q ρ (length x) (length q) (source_of_signals ins content)
  makes-over content j m holds nowhere k signals l gate_list have = makes-done c [] k (IsWord c []) none
  makes-over content j m holds (input start w) k signals l gate_list have =
      makes-done c (take w (drop start ins)) k (IsWord c (first w (drop start x)))
      (word_part c k start w x ins gate_list (word_later c least k x ins (le_trans m l) given))
  makes-over content j m holds (held start w) k signals l gate_list have =
      makes-done c (take w (drop start content)) k (IsWord c (first w (drop start q))) (word_part c k start w q content gate_list (word_later c j k q content l holds))
  makes-over content j m holds (copy n) k signals l gate_list have = makes-done c (signals n) k (IsWord c (ρ n)) (have n (inl refl))
  makes-over content j m holds (op_result kind ts t i ns) k signals l gate_list have =
      makes-gate_list c k kind ts t i (map ρ ns) (map signals ns) (words_of c ρ k signals ns have) gate_list.0 gate_list.1

  -- ---- what registers hold once they are loaded

  loads : (t : Slot) → In t (registers s.design s.top) → (k : ℕ) → least ≤ k → (old : Word) (xs : List Signal) → CarriesWord c k old xs → length old ≡ held_width t.op
      → Makes c (loaded_slot ins s.design s.top t xs) k (load_cost t) (IsWord c (loaded_in ρ t old))
  loads t here =
      makes-loaded s.design s.top x q ρ settled c ins least given t (held_width t.op) (async_reset_in t.op) (fits.slots t here).signal (fits.slots t here).value

  loads_wide : (t : Slot) → In t (registers s.design s.top) → (old : Word) → length old ≡ held_width t.op → length (loaded_in ρ t old) ≡ held_width t.op
  loads_wide t here old eo =
      reset_long (async_reset_in t.op) (λ r. ρ (net t.path r)) old (held_width t.op)
      (λ v is.
      let known = constant_is s.design s.top x q ρ settled (net t.path v.value) (held_width t.op) ((fits.slots t here).value v is) in
      ap length known.0 ∙ known.1) eo

  pub makes-loaded_over : (content : List Signal) (k : ℕ) → least ≤ k → CarriesWord c k q content
      → Makes c (loaded_over ins content s.design s.top) k (slots_price load_cost (registers s.design s.top)) (IsWord c (loaded s.design s.top ρ q))
  makes-loaded_over content k l holds =
      makes-slots c (loaded_slot ins s.design s.top) (loaded_in ρ) load_cost least (registers s.design s.top) loads loads_wide k l q content holds (sym slots_are)

  -- ---- what they hold after a step

  module _ (signals : Net → List Signal) (i : ℕ) (past : least ≤ i) (have : HaveWords c ρ (seen_after [] s.nets) i signals) where
    steps : (t : Slot) → In t (registers s.design s.top) → (k : ℕ) → i ≤ k → (old : Word) (xs : List Signal) → CarriesWord c k old xs → length old ≡ held_width t.op
        → Makes c (next_slot ins s.design s.top signals t xs) k (next_cost t) (IsWord c (next_in ρ t old))
    steps t here k l old xs ho eo =
        let fit = fits.slots t here in
        makes-next s.design s.top x q ρ settled c ins least given t (held_width t.op) (async_reset_in t.op) (register_in t.op)
        fit.signal fit.value fit.same k (le_trans past l) signals
        (λ r is y part. word_later c i k (ρ (net t.path y)) (signals (net t.path y)) l (have (net t.path y) (is_seen s.nets [] (net t.path y) (fit.among r is y part))))
        (λ r is. fit.next_width r is x q ρ refl refl settled)
        (λ r v is to. fit.value_width r v is to x q ρ refl refl settled)
        old xs ho eo

    steps_wide : (t : Slot) → In t (registers s.design s.top) → (old : Word) → length old ≡ held_width t.op → length (next_in ρ t old) ≡ held_width t.op
    steps_wide t here old eo =
        let fit = fits.slots t here in
        next_long (register_in t.op) (λ r. ρ (net t.path r)) old (held_width t.op)
        (λ r is. fit.next_width r is x q ρ refl refl settled)
        (λ r v is to. fit.value_width r v is to x q ρ refl refl settled) eo

    makes-held : (content : List Signal) → CarriesWord c i q content
        → Makes c (slots_gate_list (next_slot ins s.design s.top signals) (registers s.design s.top) content) i (slots_price next_cost (registers s.design s.top))
        (IsWord c (next_content (registers s.design s.top) ρ q))
    makes-held content holds =
        makes-slots c (next_slot ins s.design s.top signals) (next_in ρ) next_cost i (registers s.design s.top) steps steps_wide i (le_refl i) q content holds (sym slots_are)

  -- ---- all of it

  gate_lists_here : HaveGateLists s.design s.top (length x) (length q) ρ s.nets
  gate_lists_here = fits.nets.gate_lists x q ρ refl refl settled

  -- the outputs and the content after a step are carried, where inputs and content are
  pub makes-stepped_over : (content : List Signal) (k : ℕ) → least ≤ k → CarriesWord c k q content
      → Makes c (stepped_over ins content s.design s.top s.nets) k (nets_price s.design s.top ρ s.nets + (slots_price next_cost (registers s.design s.top) + 0))
      (IsWord c (outputs s.design s.top ρ ++ next_content (registers s.design s.top) ρ q))
  unfolding stepped_over
  makes-stepped_over content j l holds =
      makes_then c _ _ j (nets_price s.design s.top ρ s.nets) (slots_price next_cost (registers s.design s.top) + 0) (HaveWords c ρ (seen_after [] s.nets)) _
      (makes-nets c s.design s.top x q ρ settled j (length x) (length q) (source_of_signals ins content) (makes-over content j l holds) s.nets [] j (λ n. []) (le_refl j)
      fits.nets.order gate_lists_here (λ a here. absurd here))
      (λ signals i n have.
      makes_then c _ _ i (slots_price next_cost (registers s.design s.top)) 0 (IsWord c (next_content (registers s.design s.top) ρ q)) _
      (makes-held signals i (le_trans l n) have content (word_later c j i q content n holds))
      (λ next h o after.
      makes-done c (concatenation (map (λ r. signals (net [] r)) (outputs_of (find_module s.design s.top))) ++ next) h
      (IsWord c (outputs s.design s.top ρ ++ next_content (registers s.design s.top) ρ q))
      (word-append c h (outputs s.design s.top ρ) (concatenation (map (λ r. signals (net [] r)) (outputs_of (find_module s.design s.top))))
      (next_content (registers s.design s.top) ρ q) next
      (word_later c i h (outputs s.design s.top ρ) (concatenation (map (λ r. signals (net [] r)) (outputs_of (find_module s.design s.top)))) o
      (word-outputs c s.design s.top ρ s.nets i signals fits.nets.among have)) after)))

-- ---- over the first variables

module _ {total : ℕ} (c : Carrying total) (s : Side) (x q : Word) (fits : HasStepGateLists (length x) (length q) s) (step : Step s x q)
    (size : length (x ++ q) ≡ total) (given : CarriesInputs total c (x ++ q)) where
  variables_given : CarriesWord c total x (variables 0 (length x))
  variables_given = whole_carried c x (inputs_first c x q given) total (le_refl total)

  pub makes-content : (k : ℕ) → total ≤ k
      → Makes c (loaded_gate_list (length x) s.design s.top) k (slots_price load_cost (registers s.design s.top)) (IsWord c (loaded s.design s.top step.before q))
  makes-content k l =
      makes-loaded_over c s x q fits step.before step.before_settled (variables 0 (length x)) total variables_given (variables (length x) (state s.design s.top)) k l
      (subst (λ n. CarriesWord c k q (variables (length x) n)) (sym fits.size) (content_given c x q given k l))

  fits_after : HasStepGateLists (length x) (length (loaded s.design s.top step.before q)) s
  fits_after = subst (λ n. HasStepGateLists (length x) n s) (sym (loaded_long s.design s.top step.before q ∙ fits.size)) fits

  pub makes-stepped : (k : ℕ) → total ≤ k
      → Makes c (stepped_gate_list (length x) s.design s.top s.nets) k (step_price s step.after) (IsWord c (outputs s.design s.top step.after ++ next_of s x q step))
  unfolding stepped_gate_list
  makes-stepped k l =
      let price : slots_price load_cost (registers s.design s.top) + slots_price next_cost (registers s.design s.top) ≡ registers_price (registers s.design s.top) =
      slots_priced (registers s.design s.top) in
      makes_more c _ k (slots_price load_cost (registers s.design s.top) + (nets_price s.design s.top step.after s.nets + (slots_price next_cost (registers s.design s.top) + 0)))
      (step_price s step.after) _ (omega (arith, price))
      (makes_then c _ _ k (slots_price load_cost (registers s.design s.top)) (nets_price s.design s.top step.after s.nets + (slots_price next_cost (registers s.design s.top) + 0))
      (IsWord c (loaded s.design s.top step.before q)) _ (makes-content k l)
      (λ content j m holds.
      makes-stepped_over c s x (loaded s.design s.top step.before q) fits_after step.after step.after_settled (variables 0 (length x)) total variables_given content j (le_trans l m) holds))
