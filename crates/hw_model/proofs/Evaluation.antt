-- Values computed to a depth of needs: what every settled map gives, and every run, where the nets asked for are reached
-- within the depth.
use Rattle.std.proofs.Common.{◌≡◌, ℕ, zero, suc, Bool, true, false, cond, List, [], ◌∷◌, ◌++◌, map, drop, Option, Some, None, refl, ap, ap₂, subst, ◌∙◌, option_and_then}
use Rattle.bits_core.specs.Word.{Word, first}
use Rattle.hw_model.specs.Types.{Name}
use Rattle.hw_model.specs.Kinds.{Reset}
use Rattle.hw_model.specs.Kinds.Reset.{no_reset, sync_reset}
use Rattle.hw_model.specs.Design.{Ref, Op, Design, RegisterForm, find_module, register_form}
use Rattle.hw_model.specs.Value.{concat_words}
use Rattle.hw_model.specs.Flat.{Path, Net, net, Slot, register_in, register_parts, has_async_reset, async_parts, async_reset_in, held_width, registers}
use Rattle.hw_model.specs.Machine.{RunAfter, Run}
use Rattle.hw_model.proofs.Depths.{every, every_here, ends_within}
use Rattle.hw_model.specs.Meaning.{needs, value, Settled, next_value, map_slots, next_in, next_content, rise_value, rise_in, risen_content, outputs_of, outputs, machine}

module _ (d : Design) (top : Name) where
  abbrev pub closed : ℕ → Net → Bool
  closed = ends_within (needs d top)

  -- the value of a net, its needs followed for fewer than n steps
  abbrev pub evaluated : Word → Word → ℕ → Net → Word
  evaluated inputs content zero a = []
  evaluated inputs content (suc n) a = value d top inputs content a (map (evaluated inputs content n) (needs d top a))

  -- each settled map has this value
  pub settled_value : (inputs content : Word) (σ : Net → Word) → Settled d top inputs content σ → (n : ℕ) (a : Net) → closed n a ≡ true → σ a ≡ evaluated inputs content n a
  settled_value inputs content σ settled zero a within = cc
  settled_value inputs content σ settled (suc n) a within =
      settled a ∙ ap (value d top inputs content a) (each (needs d top a) within (settled_value inputs content σ settled n))
    where
      each : (ns : List Net) → every (closed n) ns ≡ true → ((b : Net) → closed n b ≡ true → σ b ≡ evaluated inputs content n b) → map σ ns ≡ map (evaluated inputs content n) ns
      each [] all is = refl
      each (b ∷ ns) all is =
          let both = every_here (closed n) b ns all in
          ap₂ (λ x xs. x ∷ xs) (is b both.0) (each ns both.1 is)

  operands_same : (n : ℕ) (p : Path) (σ τ : Net → Word) → ((a : Net) → closed n a ≡ true → σ a ≡ τ a)
      → (rs : List Ref) → every (λ r. closed n (net p r)) rs ≡ true → map (λ r. σ (net p r)) rs ≡ map (λ r. τ (net p r)) rs
  operands_same n p σ τ same [] all = refl
  operands_same n p σ τ same (r ∷ rs) all =
      let both = every_here (λ x. closed n (net p x)) r rs all in
      ap₂ (λ x xs. x ∷ xs) (same (net p r) both.0) (operands_same n p σ τ same rs both.1)

  -- the values that a register's operands have decide what it loads
  next_in_same : (n : ℕ) (p : Path) (o : Op) (σ τ : Net → Word) (old : Word) → every (λ r. closed n (net p r)) o.operands ≡ true
      → ((a : Net) → closed n a ≡ true → σ a ≡ τ a)
      → next_value (register_in o) (λ r. σ (net p r)) old ≡ next_value (register_in o) (λ r. τ (net p r)) old
  next_in_same n p o σ τ old all same = go (register_form o.kind)
    where
      parts : (e : Bool) (r : Reset) (rs : List Ref) → map (λ x. σ (net p x)) rs ≡ map (λ x. τ (net p x)) rs
          → next_value (register_parts e r rs) (λ x. σ (net p x)) old ≡ next_value (register_parts e r rs) (λ x. τ (net p x)) old
      parts false no_reset (x ∷ c ∷ []) is = cc
      parts true no_reset (x ∷ c ∷ e ∷ []) is = cc
      parts false sync_reset (x ∷ c ∷ r ∷ v ∷ []) is = cc
      parts true sync_reset (x ∷ c ∷ e ∷ r ∷ v ∷ []) is = cc
      parts _ _ _ is = refl

      go : (x : Option RegisterForm) → next_value (option_and_then (λ (g : RegisterForm). register_parts g.has_enable g.reset o.operands) x) (λ r. σ (net p r)) old
          ≡ next_value (option_and_then (λ (g : RegisterForm). register_parts g.has_enable g.reset o.operands) x) (λ r. τ (net p r)) old
      go None = refl
      go (Some g) = parts g.has_enable g.reset o.operands (operands_same n p σ τ same o.operands all)

  -- and to what it is reset
  rise_same : (n : ℕ) (p : Path) (o : Op) (σ τ σ' τ' : Net → Word) (old : Word) → every (λ r. closed n (net p r)) o.operands ≡ true
      → ((a : Net) → closed n a ≡ true → σ a ≡ τ a) → ((a : Net) → closed n a ≡ true → σ' a ≡ τ' a)
      → rise_value (async_reset_in o) (λ r. σ (net p r)) (λ r. σ' (net p r)) old ≡ rise_value (async_reset_in o) (λ r. τ (net p r)) (λ r. τ' (net p r)) old
  rise_same n p o σ τ σ' τ' old all same same' = go (has_async_reset o.kind)
    where
      parts : (rs : List Ref) → map (λ x. σ (net p x)) rs ≡ map (λ x. τ (net p x)) rs → map (λ x. σ' (net p x)) rs ≡ map (λ x. τ' (net p x)) rs
          → rise_value (async_parts rs) (λ r. σ (net p r)) (λ r. σ' (net p r)) old ≡ rise_value (async_parts rs) (λ r. τ (net p r)) (λ r. τ' (net p r)) old
      parts (x ∷ c ∷ r ∷ v ∷ []) is is' = cc
      parts _ is is' = refl

      go : (b : Bool) → rise_value (cond b (async_parts o.operands) None) (λ r. σ (net p r)) (λ r. σ' (net p r)) old
          ≡ rise_value (cond b (async_parts o.operands) None) (λ r. τ (net p r)) (λ r. τ' (net p r)) old
      go true = parts o.operands (operands_same n p σ τ same o.operands all) (operands_same n p σ' τ' same' o.operands all)
      go false = refl

  abbrev slots_closed : ℕ → List Slot → Bool
  slots_closed n [] = true
  slots_closed n (s ∷ ss) = cond (every (λ r. closed n (net s.path r)) s.op.operands) (slots_closed n ss) false

  map_slots_same : (n : ℕ) (each each' : Slot → Word → Word)
      → ((s : Slot) (old : Word) → every (λ r. closed n (net s.path r)) s.op.operands ≡ true → each s old ≡ each' s old)
      → (ss : List Slot) (content : Word) → slots_closed n ss ≡ true → map_slots each ss content ≡ map_slots each' ss content
  map_slots_same n each each' alike [] content all = refl
  map_slots_same n each each' alike (s ∷ ss) content all =
      go (every (λ r. closed n (net s.path r)) s.op.operands) refl all (map_slots_same n each each' alike ss (drop (held_width s.op) content))
    where
      go : (b : Bool) → every (λ r. closed n (net s.path r)) s.op.operands ≡ b → cond b (slots_closed n ss) false ≡ true
          → (slots_closed n ss ≡ true → map_slots each ss (drop (held_width s.op) content) ≡ map_slots each' ss (drop (held_width s.op) content))
          → map_slots each (s ∷ ss) content ≡ map_slots each' (s ∷ ss) content
      go true here rest further =
          ap₂ (λ x y. first (held_width s.op) x ++ y) (alike s (first (held_width s.op) content) here) (further rest)
      go false here rest further = cc

  next_same : (n : ℕ) (ss : List Slot) (σ τ : Net → Word) (content : Word) → slots_closed n ss ≡ true → ((a : Net) → closed n a ≡ true → σ a ≡ τ a)
      → next_content ss σ content ≡ next_content ss τ content
  next_same n ss σ τ content all same =
      map_slots_same n (next_in σ) (next_in τ) (λ s old here. next_in_same n s.path s.op σ τ old here same) ss content all

  rising_same : (n : ℕ) (ss : List Slot) (σ τ σ' τ' : Net → Word) (content : Word) → slots_closed n ss ≡ true
      → ((a : Net) → closed n a ≡ true → σ a ≡ τ a) → ((a : Net) → closed n a ≡ true → σ' a ≡ τ' a)
      → risen_content ss σ σ' content ≡ risen_content ss τ τ' content
  rising_same n ss σ τ σ' τ' content all same same' =
      map_slots_same n (rise_in σ σ') (rise_in τ τ') (λ s old here. rise_same n s.path s.op σ τ σ' τ' old here same same') ss content all

  abbrev output_nets : List Net
  output_nets = map (net []) (outputs_of (find_module d top))

  -- whether the outputs and what the registers take are reached in fewer than n steps
  abbrev pub shallow : ℕ → Bool
  shallow n = cond (every (λ r. closed n (net [] r)) (outputs_of (find_module d top))) (slots_closed n (registers d top)) false

  outputs_same : (n : ℕ) (rs : List Ref) (σ τ : Net → Word) → every (λ r. closed n (net [] r)) rs ≡ true → ((a : Net) → closed n a ≡ true → σ a ≡ τ a)
      → map (λ r. σ (net [] r)) rs ≡ map (λ r. τ (net [] r)) rs
  outputs_same n [] σ τ all same = refl
  outputs_same n (r ∷ rs) σ τ all same =
      let both = every_here (λ x. closed n (net [] x)) r rs all in
      ap₂ (λ x xs. x ∷ xs) (same (net [] r) both.0) (outputs_same n rs σ τ both.1 same)

  -- the content after the first phase of a step
  abbrev pub risen_of : ℕ → Word → Word → Word → Word
  risen_of n before inputs content =
      risen_content (registers d top) (evaluated before content n) (evaluated inputs content n) content

  abbrev pub next_of : ℕ → Word → Word → Word
  next_of n inputs content = next_content (registers d top) (evaluated inputs content n) content

  -- the outputs of a list of steps after one with the inputs `before`
  abbrev pub run_of : ℕ → Word → Word → List Word → List Word
  run_of n before content [] = []
  run_of n before content (s ∷ steps) =
      outputs d top (evaluated s (risen_of n before s content) n) ∷ run_of n s (next_of n s (risen_of n before s content)) steps

  run_after_value : (n : ℕ) → shallow n ≡ true → (before content : Word) (steps outs : List Word)
      → RunAfter (machine d top) before content steps outs → outs ≡ run_of n before content steps
  run_after_value n reached before content [] [] run = refl
  run_after_value n reached before content [] (o ∷ outs) run = absurd run
  run_after_value n reached before content (s ∷ steps) [] run = absurd run
  run_after_value n reached before content (s ∷ steps) (o ∷ outs) (after, step, rest) =
      let parts = both (every (λ r. closed n (net [] r)) (outputs_of (find_module d top))) (slots_closed n (registers d top)) reached in
      let rises : risen_content (registers d top) step.earlier step.first_map content ≡ risen_of n before s content =
      rising_same n (registers d top) step.earlier (evaluated before content n) step.first_map (evaluated s content n) content parts.1
      (settled_value before content step.earlier step.settled_earlier n) (settled_value s content step.first_map step.settled_first n) in
      let settled : Settled d top s (risen_of n before s content) step.map_of = subst (λ c. Settled d top s c step.map_of) rises step.settled in
      let same : (a : Net) → closed n a ≡ true → step.map_of a ≡ evaluated s (risen_of n before s content) n a =
      settled_value s (risen_of n before s content) step.map_of settled n in
      let head : o ≡ outputs d top (evaluated s (risen_of n before s content) n) =
      step.read ∙ ap concat_words (outputs_same n (outputs_of (find_module d top)) step.map_of (evaluated s (risen_of n before s content) n) parts.0 same) in
      let taken : after ≡ next_of n s (risen_of n before s content) =
      step.taken ∙ ap (next_content (registers d top) step.map_of) rises
      ∙ next_same n (registers d top) step.map_of (evaluated s (risen_of n before s content) n) (risen_of n before s content) parts.1 same in
      ap₂ (λ x xs. x ∷ xs) head
      (run_after_value n reached s (next_of n s (risen_of n before s content)) steps outs (subst (λ c. RunAfter (machine d top) s c steps outs) taken rest))
    where
      both : (a b : Bool) → cond a b false ≡ true → (a ≡ true) × (b ≡ true)
      both true b is = (refl, is)
      both false b is = cc

  -- every run gives these outputs
  pub run_value : (n : ℕ) → shallow n ≡ true → (content : Word) (steps outs : List Word) → Run (machine d top) content steps outs → outs ≡ run_of n [] content steps
  run_value n reached content steps outs = run_after_value n reached [] content steps outs
