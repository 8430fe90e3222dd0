-- Asynchronous resets that come from outside a design follow the inputs of the top module, in every run.
use Rattle.std.proofs.Common.{◌≡◌, ◌⊎◌, ℕ, zero, suc, ◌+◌, Bool, true, false, cond, List, [], ◌∷◌, ◌++◌, length, map, take, drop, slice_get, Option, Some, None, refl, sym, ap, ap₂, subst, ◌∙◌, inl}
use Rattle.std.proofs.Common.{inr, zero-add, add-suc, suc-add, arith, option_and_then}
use Rattle.std.proofs.Math.Seq.{drop-append_seam}
use Rattle.std.proofs.lemmas.List.{drop_all}
use Rattle.wiring.proofs.Options.{and_then_some}
use Rattle.wiring.specs.Wiring.{In}
use Rattle.wiring.proofs.Members.{In-append_cases, In-slice_get}
use Rattle.bits_core.specs.Word.{Word, first}
use Rattle.bits_core.proofs.First.{length-first, first-append_seam, first-first}
use Rattle.hw_model.specs.Types.{Name, HwType, width}
use Rattle.hw_model.specs.Kinds.{Kind, Instance}
use Rattle.hw_model.specs.Kinds.Kind.{constant, aggregate_constant, async_firreg}
use Rattle.hw_model.specs.Design.{Ref, Op, Module, Design, RegisterForm, find_module, instance_in, register_form, is_output_kind, is_instance, result_type, callee}
use Rattle.hw_model.specs.Design.Ref.{port, result}
use Rattle.hw_model.specs.Value.{op_value, is_high}
use Rattle.hw_model.specs.Flat.{Path, Net, net, Source, source, module_at, instances, input_width, input_of, input_source, port_ref, copy_of, joined_ref, joined_at, made_of, Slot, Register, ResetBy}
use Rattle.hw_model.specs.Flat.{register_parts, register_in, has_async_reset, async_parts, async_reset_in, held_width, op_registers, body_registers, module_registers, registers, depth}
use Rattle.hw_model.specs.Flat.Source.{nowhere, input, copy}
use Rattle.hw_model.specs.Machine.{RunAfter, Run}
use Rattle.hw_model.specs.Meaning.{needs_of, value_of, Settled, value_if_enabled, reset, next_value, map_slots, next_in, rise_value, rise_in, risen_content, machine}
use Rattle.hw_model.specs.Sound.{body_of}
use Rattle.hw_model.specs.Resets.{is_constant, IsMarkedInput, IsConstantOf, ResetsFromPorts, ComesFromInput, IsFixed, IsReset, AreReset, level_value, level_in, StepsAreReset}
use Rattle.hw_model.proofs.Sorts.{Sort, sort_of}
use Rattle.hw_model.proofs.Sorts.Sort.{a_register, an_instance, an_output, a_made}
use Rattle.hw_model.proofs.Paths.{registers_body, op_in, result_in, result_here}
use Rattle.hw_model.proofs.Gone.{from_In-instances}

-- a register that is reset without its clock loads its reset value as one with a synchronous reset
async_register : (o : Op) (r : ResetBy) → async_reset_in o ≡ Some r → (g : Register) × (register_in o ≡ Some g) × (g.reset ≡ Some r)
async_register o r is = go o.kind o.operands is
  where
    go : (k : Kind) (rs : List Ref) → cond (has_async_reset k) (async_parts rs) None ≡ Some r
        → (g : Register) × (option_and_then (λ (f : RegisterForm). register_parts f.has_enable f.reset rs) (register_form k) ≡ Some g) × (g.reset ≡ Some r)
    go async_firreg (d ∷ c ∷ s ∷ v ∷ []) h = (record { next = d; clock = c; enable = None; reset = Some (record { signal = s; value = v }) }, refl, h)
    go async_firreg _ h = cc
    go _ rs h = cc

-- ---- registers and the modules that they stand in

module _ (d : Design) (top : Name) where
  -- the module that a register's path leads to has it in its body
  abbrev IsPlaced : Slot → Type 0
  IsPlaced s = (m : Module) × (module_at d top s.path ≡ Some m) × In s.op m.body

  module _ (n : ℕ) (p : Path) (m : Module) (is : module_at d top p ≡ Some m)
      (inner : (u : ℕ) (i : Instance) → module_at d top (u ∷ p) ≡ find_module d i.symbol → (s : Slot) → In s (module_registers n d (u ∷ p) i.symbol) → IsPlaced s) where
    op_placed : (u : ℕ) (o : Op) → In o m.body → (is_instance o ≡ true → slice_get (instances m.body) u ≡ Some o)
        → (s : Slot) → In s (op_registers (module_registers n d) p u o) → IsPlaced s
    op_placed u o within at_u s here = go (sort_of o.kind)
      where
        go : Sort o.kind → IsPlaced s
        go (a_register f r i w) =
            let mine : In s (record { path = p; op = o } ∷ []) = simp r at here in
            only mine
          where
            only : In s (record { path = p; op = o } ∷ []) → IsPlaced s
            only (inl same) = (m, ap (λ (z : Slot). module_at d top z.path) same ∙ is, subst (λ z. In z m.body) (sym (ap (λ (z : Slot). z.op) same)) within)
            only (inr never) = absurd never
        go (an_instance x r i w) =
            let mine : In s (module_registers n d (u ∷ p) x.symbol) = simp (r, i) at here in
            let there : slice_get (instances m.body) u ≡ Some o = at_u (simp i) in
            inner u x
            (ap (λ z. option_and_then (λ (c : Module). option_and_then (callee d) (slice_get (instances c.body) u)) z) is ∙ ap (λ z. option_and_then (callee d) z) there
            ∙ ap (λ z. option_and_then (λ (y : Instance). find_module d y.symbol) z) i) s mine
        go (an_output r i w) = let none : ⊥ = simp (r, i) at here in absurd none
        go (a_made r i w) = let none : ⊥ = simp (r, i) at here in absurd none

    body_placed : (os : List Op) (u : ℕ) → ((o : Op) → In o os → In o m.body)
        → ((v w : ℕ) (o : Op) → w ≡ u + v → slice_get (instances os) v ≡ Some o → slice_get (instances m.body) w ≡ Some o)
        → (s : Slot) → In s (body_registers (module_registers n d) p u os) → IsPlaced s
    body_placed [] u within numbered s here = absurd here
    body_placed (o ∷ os) u within numbered s here =
        go (In-append_cases s (op_registers (module_registers n d) p u o) (body_registers (module_registers n d) p (cond (is_instance o) (suc u) u) os) here)
        (body_placed os (cond (is_instance o) (suc u) u) (λ y there. within y (inr there)) (later (is_instance o) refl) s)
      where
        first_one : is_instance o ≡ true → slice_get (instances (o ∷ os)) 0 ≡ Some o
        first_one told = ap (λ b. slice_get (cond b (o ∷ instances os) (instances os)) 0) told

        later : (b : Bool) → is_instance o ≡ b → (v w : ℕ) (y : Op) → w ≡ cond b (suc u) u + v → slice_get (instances os) v ≡ Some y → slice_get (instances m.body) w ≡ Some y
        later true told v w y at_w at_v =
            numbered (suc v) w y (at_w ∙ suc-add u v ∙ sym (add-suc u v)) (ap (λ b. slice_get (cond b (o ∷ instances os) (instances os)) (suc v)) told ∙ at_v)
        later false no_one v w y at_w at_v =
            numbered v w y at_w (ap (λ b. slice_get (cond b (o ∷ instances os) (instances os)) v) no_one ∙ at_v)

        go : In s (op_registers (module_registers n d) p u o) ⊎ In s (body_registers (module_registers n d) p (cond (is_instance o) (suc u) u) os)
            → (In s (body_registers (module_registers n d) p (cond (is_instance o) (suc u) u) os) → IsPlaced s) → IsPlaced s
        go (inl mine) rest = op_placed u o (within o (inl refl)) (λ told. numbered 0 u o (omega arith) (first_one told)) s mine
        go (inr inside) rest = rest inside

  slots_placed : (n : ℕ) (p : Path) (symbol : Name) → module_at d top p ≡ find_module d symbol → (s : Slot) → In s (module_registers n d p symbol) → IsPlaced s
  slots_placed zero p symbol is s here = absurd here
  slots_placed (suc n) p symbol is s here =
      go (find_module d symbol) refl (subst (In s) (registers_body (module_registers n d) p (find_module d symbol)) here)
      (λ u i leads z there. slots_placed n (u ∷ p) i.symbol leads z there)
    where
      go : (x : Option Module) → find_module d symbol ≡ x → In s (body_registers (module_registers n d) p 0 (body_of x))
          → ((u : ℕ) (i : Instance) → module_at d top (u ∷ p) ≡ find_module d i.symbol → (z : Slot) → In z (module_registers n d (u ∷ p) i.symbol) → IsPlaced z)
          → IsPlaced s
      go None missing inside inner = absurd inside
      go (Some m) found inside inner =
          body_placed n p m (is ∙ found) inner m.body 0 (λ o there. there)
          (λ v w o same at_v. ap (slice_get (instances m.body)) (same ∙ zero-add v) ∙ at_v) s inside

  -- the module at the end of a path is one of the design
  found_at : (p : Path) (m : Module) → module_at d top p ≡ Some m → (s : Name) × (find_module d s ≡ Some m)
  found_at [] m is = (top, is)
  found_at (u ∷ p) m is =
      let outer = and_then_some (module_at d top p) (λ (c : Module). option_and_then (callee d) (slice_get (instances c.body) u)) is in
      let one = and_then_some (slice_get (instances outer.0.body) u) (callee d) outer.2 in
      let named = and_then_some (instance_in one.0.kind) (λ (i : Instance). find_module d i.symbol) one.2 in
      (named.0.symbol, named.2)

-- ---- settled maps

-- what a source gives under a settled map
given_by : (d : Design) (top : Name) (inputs content : Word) (ρ : Net → Word) → Settled d top inputs content ρ → (n : Net) (s : Source) → source d top n ≡ s
    → ρ n ≡ value_of inputs content s (map ρ (needs_of s))
given_by d top inputs content ρ settled n s is = settled n ∙ ap (λ z. value_of inputs content z (map ρ (needs_of z))) is

-- a constant's value depends on no operand
constant_word : (kind : Kind) → is_constant kind ≡ true → (ts : List HwType) (t : HwType) (k : ℕ) (xs : List Word) → op_value kind ts t k xs ≡ op_value kind ts t k []
constant_word (constant z) is ts t k xs = refl
constant_word (aggregate_constant ls) is ts t k xs = refl
constant_word _ is ts t k xs = cc

constant_plain : (kind : Kind) → is_constant kind ≡ true → (register_form kind ≡ None) × (instance_in kind ≡ None) × (is_output_kind kind ≡ false)
constant_plain (constant z) is = (refl, refl, refl)
constant_plain (aggregate_constant ls) is = (refl, refl, refl)
constant_plain _ is = cc

module _ (d : Design) (top : Name) (marked : Module → ℕ → Bool) (resets : ResetsFromPorts d marked) where
  -- a marked port of a module has the word of what the instance joins to it
  copied : (inputs content : Word) (ρ : Net → Word) → Settled d top inputs content ρ → (u : ℕ) (p : Path) (c : Module) (o : Op) (m : Module) (r : Ref) (from : IsMarkedInput marked m r) (q : Ref)
      → module_at d top p ≡ Some c → slice_get (instances c.body) u ≡ Some o → callee d o ≡ Some m → port_ref m.ports o.operands from.number ≡ Some q
      → ρ (net (u ∷ p) r) ≡ ρ (net p q)
  copied inputs content ρ settled u p c o m r from q outer at_u leads joins =
      ap (λ z. ρ (net (u ∷ p) z)) from.is_port
      ∙ given_by d top inputs content ρ settled (net (u ∷ p) (port from.number)) (copy (net p q)) comes
    where
      comes : source d top (net (u ∷ p) (port from.number)) ≡ copy (net p q)
      comes =
          ap (λ z. copy_of p (option_and_then (joined_at d u from.number) z)) outer
          ∙ ap (λ z. copy_of p (option_and_then (joined_ref d from.number) z)) at_u
          ∙ ap (λ z. copy_of p (option_and_then (λ (x : Module). port_ref x.ports o.operands from.number) z)) leads
          ∙ ap (copy_of p) joins

  -- a marked port at the end of a path has bits of the inputs
  follow : (p : Path) (m : Module) → module_at d top p ≡ Some m → (r : Ref) → IsMarkedInput marked m r → ComesFromInput d top (net p r)
  follow [] m is r from = (
    input_width (take from.number m.ports),
    width from.port_of.type,
    λ inputs content ρ settled.
        ap (λ z. ρ (net [] z)) from.is_port
        ∙ given_by d top inputs content ρ settled (net [] (port from.number)) (input (input_width (take from.number m.ports)) (width from.port_of.type)) comes,
  )
    where
      comes : source d top (net [] (port from.number)) ≡ input (input_width (take from.number m.ports)) (width from.port_of.type)
      comes =
          ap (input_source from.number) is
          ∙ ap (λ z. input_of z (input_width (take from.number m.ports))) from.there
          ∙ ap (λ b. cond b nowhere (input (input_width (take from.number m.ports)) (width from.port_of.type))) from.is_input
  follow (u ∷ p) m is r from =
      let outer = and_then_some (module_at d top p) (λ (c : Module). option_and_then (callee d) (slice_get (instances c.body) u)) is in
      let one = and_then_some (slice_get (instances outer.0.body) u) (callee d) outer.2 in
      let within : In one.0 outer.0.body = from_In-instances outer.0.body one.0 (In-slice_get one.0 (instances outer.0.body) u one.1) in
      let named = found_at d top p outer.0 outer.1 in
      let join = resets.joined named.0 outer.0 one.0 m r named.1 within one.2 from in
      let further : ComesFromInput d top (net p join.0) = follow p outer.0 outer.1 join.0 join.2 in (
        further.0,
        further.1,
        λ inputs content ρ settled.
            copied inputs content ρ settled u p outer.0 one.0 m r from join.0 outer.1 one.1 one.2 join.1 ∙ further.2 inputs content ρ settled,
      )

  -- a constant at the end of a path has one word
  fixed : (p : Path) (m : Module) → module_at d top p ≡ Some m → (r : Ref) → IsConstantOf m.body r → IsFixed d top (net p r)
  fixed p m is r from = go (result_type from.op from.number) refl
    where
      plain : (register_form from.op.kind ≡ None) × (instance_in from.op.kind ≡ None) × (is_output_kind from.op.kind ≡ false)
      plain = constant_plain from.op.kind from.is_one

      comes : source d top (net p (result from.position from.number)) ≡ made_of p from.op from.number (result_type from.op from.number)
      comes =
          result_here d top p from.position from.number
          ∙ ap (λ z. result_in d top p (body_of z) from.position from.number (slice_get (body_of z) from.position)) is
          ∙ ap (result_in d top p m.body from.position from.number) from.there
          ∙ chosen
        where
          chosen : op_in d top p m.body from.position from.number from.op ≡ made_of p from.op from.number (result_type from.op from.number)
          chosen = let one = plain.0 in let two = plain.1 in let three = plain.2 in simp (one, two, three)

      go : (t : Option HwType) → result_type from.op from.number ≡ t → IsFixed d top (net p r)
      go None none = (
        [],
        λ inputs content ρ settled.
            ap (λ z. ρ (net p z)) from.is_result
            ∙ given_by d top inputs content ρ settled (net p (result from.position from.number)) nowhere (comes ∙ ap (made_of p from.op from.number) none),
      )
      go (Some t) typed = (
        op_value from.op.kind from.op.types t from.number [],
        λ inputs content ρ settled.
            ap (λ z. ρ (net p z)) from.is_result
            ∙ given_by d top inputs content ρ settled (net p (result from.position from.number)) (made_of p from.op from.number (Some t)) (comes ∙ ap (made_of p from.op from.number) typed)
            ∙ constant_word from.op.kind from.is_one from.op.types t from.number (map ρ (map (net p) from.op.operands)),
      )

  pub signal_follows : (s : Slot) (r : ResetBy) → In s (registers d top) → async_reset_in s.op ≡ Some r → ComesFromInput d top (net s.path r.signal)
  signal_follows s r here is =
      let at = slots_placed d top (depth d) [] top refl s here in
      let named = found_at d top s.path at.0 at.1 in
      follow s.path at.0 at.1 r.signal (resets.signals named.0 at.0 s.op r named.1 at.2 is)

  pub value_stays : (s : Slot) (r : ResetBy) → In s (registers d top) → async_reset_in s.op ≡ Some r → IsFixed d top (net s.path r.value)
  value_stays s r here is =
      let at = slots_placed d top (depth d) [] top refl s here in
      let named = found_at d top s.path at.0 at.1 in
      fixed s.path at.0 at.1 r.value (resets.values named.0 at.0 s.op r named.1 at.2 is)

-- ---- content, register by register

-- where each register keeps being reset, so does the whole content
map_slots_reset : (gives : Slot → Word → Word) (ρ σ : Net → Word) (ss : List Slot)
    → ((s : Slot) → In s ss → (old : Word) → IsReset ρ s old → IsReset σ s (first (held_width s.op) (gives s old)))
    → (content : Word) → AreReset ρ ss content → AreReset σ ss (map_slots gives ss content)
map_slots_reset gives ρ σ [] keeps content are = tt
map_slots_reset gives ρ σ (s ∷ ss) keeps content are =
    let head : Word = first (held_width s.op) (gives s (first (held_width s.op) content)) in
    let tail : Word = map_slots gives ss (drop (held_width s.op) content) in
    let size : length head ≡ held_width s.op = length-first (held_width s.op) (gives s (first (held_width s.op) content)) in (
      subst (IsReset σ s) (sym (first-append_seam (held_width s.op) head tail size)) (keeps s (inl refl) (first (held_width s.op) content) are.0),
      subst (AreReset σ ss) (sym (ap (λ k. drop k (head ++ tail)) (sym size) ∙ drop-append_seam head tail))
          (map_slots_reset gives ρ σ ss (λ z here. keeps z (inr here)) (drop (held_width s.op) content) are.1),
    )

-- what gives the same to registers that are reset gives the same content
map_slots_same : (gives gives' : Slot → Word → Word) (ρ : Net → Word) (ss : List Slot)
    → ((s : Slot) → In s ss → (old : Word) → IsReset ρ s old → first (held_width s.op) (gives s old) ≡ first (held_width s.op) (gives' s old))
    → (content : Word) → AreReset ρ ss content → map_slots gives ss content ≡ map_slots gives' ss content
map_slots_same gives gives' ρ [] alike content are = refl
map_slots_same gives gives' ρ (s ∷ ss) alike content are =
    ap₂ (λ x y. x ++ y) (alike s (inl refl) (first (held_width s.op) content) are.0)
    (map_slots_same gives gives' ρ ss (λ z here. alike z (inr here)) (drop (held_width s.op) content) are.1)

all_reset : (ρ : Net → Word) (ss : List Slot) → ((s : Slot) → In s ss → (old : Word) → IsReset ρ s old) → (content : Word) → AreReset ρ ss content
all_reset ρ [] each content = tt
all_reset ρ (s ∷ ss) each content =
    (each s (inl refl) (first (held_width s.op) content), all_reset ρ ss (λ z here. each z (inr here)) (drop (held_width s.op) content))

-- no input is 1 before the first step
before_low : (w start : ℕ) → is_high (first w (drop start [])) ≡ false
before_low w start = ap (λ x. is_high (first w x)) (drop_all start [] (omega arith)) ∙ go w
  where
    go : (n : ℕ) → is_high (first n []) ≡ false
    go zero = refl
    go (suc n) = refl

-- ---- runs

module _ (d : Design) (top : Name) (marked : Module → ℕ → Bool) (resets : ResetsFromPorts d marked) where
  -- once the resets have risen each register whose reset is 1 holds its value, where those whose reset was 1 did
  rise_reset : (before inputs content : Word) (ρ υ σ : Net → Word) → Settled d top before content ρ → Settled d top inputs content υ
      → Settled d top inputs (risen_content (registers d top) ρ υ content) σ
      → (s : Slot) → In s (registers d top) → (old : Word) → IsReset ρ s old → IsReset σ s (first (held_width s.op) (rise_in ρ υ s old))
  rise_reset before inputs content ρ υ σ settled_ρ settled_υ settled_σ s here old was r is high =
      ap (λ x. first (held_width s.op) (rise_value x (λ z. ρ (net s.path z)) (λ z. υ (net s.path z)) old)) is
      ∙ by_level (is_high (ρ (net s.path r.signal))) refl
    where
      signal : ComesFromInput d top (net s.path r.signal)
      signal = signal_follows d top marked resets s r here is

      value : IsFixed d top (net s.path r.value)
      value = value_stays d top marked resets s r here is

      rises : is_high (υ (net s.path r.signal)) ≡ true
      rises = ap is_high (signal.2 inputs content υ settled_υ ∙ sym (signal.2 inputs (risen_content (registers d top) ρ υ content) σ settled_σ)) ∙ high

      last : σ (net s.path r.value) ≡ value.0
      last = value.1 inputs (risen_content (registers d top) ρ υ content) σ settled_σ

      by_level : (b : Bool) → is_high (ρ (net s.path r.signal)) ≡ b
          → first (held_width s.op) (cond b old (cond (is_high (υ (net s.path r.signal))) (υ (net s.path r.value)) old)) ≡ first (held_width s.op) (σ (net s.path r.value))
      by_level true told =
          ap (first (held_width s.op)) (was r is told) ∙ first-first (held_width s.op) (ρ (net s.path r.value))
          ∙ ap (first (held_width s.op)) (value.1 before content ρ settled_ρ ∙ sym last)
      by_level false low =
          ap (λ b. first (held_width s.op) (cond b (υ (net s.path r.value)) old)) rises
          ∙ ap (first (held_width s.op)) (value.1 inputs content υ settled_υ ∙ sym last)

  -- where registers whose reset was 1 hold their value, the levels of the resets give what their rise gives
  level_same : (before inputs content : Word) (ρ υ : Net → Word) → Settled d top before content ρ → Settled d top inputs content υ
      → (s : Slot) → In s (registers d top) → (old : Word) → IsReset ρ s old
      → first (held_width s.op) (rise_in ρ υ s old) ≡ first (held_width s.op) (level_in υ s old)
  level_same before inputs content ρ υ settled_ρ settled_υ s here old was = by_reset (async_reset_in s.op) refl
    where
      by_reset : (x : Option ResetBy) → async_reset_in s.op ≡ x
          → first (held_width s.op) (rise_value x (λ z. ρ (net s.path z)) (λ z. υ (net s.path z)) old) ≡ first (held_width s.op) (level_value x (λ z. υ (net s.path z)) old)
      by_reset None is = refl
      by_reset (Some r) is = by_levels (is_high (ρ (net s.path r.signal))) refl (is_high (υ (net s.path r.signal)))
        where
          value : IsFixed d top (net s.path r.value)
          value = value_stays d top marked resets s r here is

          by_levels : (a : Bool) → is_high (ρ (net s.path r.signal)) ≡ a → (b : Bool)
              → first (held_width s.op) (cond a old (cond b (υ (net s.path r.value)) old)) ≡ first (held_width s.op) (cond b (υ (net s.path r.value)) old)
          by_levels true told true =
              ap (first (held_width s.op)) (was r is told) ∙ first-first (held_width s.op) (ρ (net s.path r.value))
              ∙ ap (first (held_width s.op)) (value.1 before content ρ settled_ρ ∙ sym (value.1 inputs content υ settled_υ))
          by_levels true told false = refl
          by_levels false low b = refl

  -- so does each after it has loaded
  next_in_reset : (inputs content after : Word) (σ τ : Net → Word) → Settled d top inputs content σ → Settled d top inputs after τ
      → (s : Slot) → In s (registers d top) → (old : Word) → IsReset σ s old → IsReset τ s (first (held_width s.op) (next_in σ s old))
  next_in_reset inputs content after σ τ settled_σ settled_τ s here old was r is high =
      ap (λ x. first (held_width s.op) (next_value x (λ z. σ (net s.path z)) old)) g.1
      ∙ ap (λ x. first (held_width s.op) (cond (is_high (σ (net s.path g.0.clock))) (reset x (λ z. σ (net s.path z)) (value_if_enabled g.0.enable (λ z. σ (net s.path z)) old (σ (net s.path g.0.next)))) old)) g.2
      ∙ ap (λ b. first (held_width s.op) (cond (is_high (σ (net s.path g.0.clock))) (cond b (σ (net s.path r.value)) (value_if_enabled g.0.enable (λ z. σ (net s.path z)) old (σ (net s.path g.0.next)))) old)) holds
      ∙ by_clock (is_high (σ (net s.path g.0.clock)))
    where
      g : (g : Register) × (register_in s.op ≡ Some g) × (g.reset ≡ Some r)
      g = async_register s.op r is

      signal : ComesFromInput d top (net s.path r.signal)
      signal = signal_follows d top marked resets s r here is

      value : IsFixed d top (net s.path r.value)
      value = value_stays d top marked resets s r here is

      holds : is_high (σ (net s.path r.signal)) ≡ true
      holds = ap is_high (signal.2 inputs content σ settled_σ ∙ sym (signal.2 inputs after τ settled_τ)) ∙ high

      same : σ (net s.path r.value) ≡ τ (net s.path r.value)
      same = value.1 inputs content σ settled_σ ∙ sym (value.1 inputs after τ settled_τ)

      by_clock : (b : Bool) → first (held_width s.op) (cond b (σ (net s.path r.value)) old) ≡ first (held_width s.op) (τ (net s.path r.value))
      by_clock true = ap (first (held_width s.op)) same
      by_clock false =
          ap (first (held_width s.op)) (was r is holds) ∙ first-first (held_width s.op) (σ (net s.path r.value)) ∙ ap (first (held_width s.op)) same

  run_after_reset : (before content : Word) (steps outputs : List Word)
      → ((ρ : Net → Word) → Settled d top before content ρ → AreReset ρ (registers d top) content)
      → (run : RunAfter (machine d top) before content steps outputs) → StepsAreReset d top before content steps outputs run
  run_after_reset before content [] [] start run = tt
  run_after_reset before content [] (o ∷ outputs) start run = tt
  run_after_reset before content (s ∷ steps) [] start run = tt
  run_after_reset before content (s ∷ steps) (o ∷ outputs) start (after, step, rest) =
      let first_phase : Word = risen_content (registers d top) step.earlier step.first_map content in
      let held : AreReset step.map_of (registers d top) first_phase =
      map_slots_reset (rise_in step.earlier step.first_map) step.earlier step.map_of (registers d top)
      (rise_reset before s content step.earlier step.first_map step.map_of step.settled_earlier step.settled_first step.settled)
      content (start step.earlier step.settled_earlier) in (
        map_slots_same (rise_in step.earlier step.first_map) (level_in step.first_map) step.earlier (registers d top)
            (level_same before s content step.earlier step.first_map step.settled_earlier step.settled_first) content (start step.earlier step.settled_earlier),
        held,
        run_after_reset s after steps outputs
            (λ ρ settled. subst (AreReset ρ (registers d top)) (sym step.taken)
            (map_slots_reset (next_in step.map_of) step.map_of ρ (registers d top) (next_in_reset s first_phase after step.map_of ρ step.settled settled) first_phase held))
            rest,
      )

  -- in a run each first phase gives what the levels of the resets give, and then registers whose reset is 1 hold their value
  pub run_reset : (content : Word) (steps outputs : List Word) (run : Run (machine d top) content steps outputs) → StepsAreReset d top [] content steps outputs run
  run_reset content steps outputs run =
      run_after_reset [] content steps outputs
      (λ ρ settled. all_reset ρ (registers d top) (λ s here old r is high. none ρ settled s here r is high) content) run
    where
      none : (ρ : Net → Word) → Settled d top [] content ρ → (s : Slot) → In s (registers d top) → (r : ResetBy) → async_reset_in s.op ≡ Some r
          → is_high (ρ (net s.path r.signal)) ≡ true → {old : Word} → old ≡ first (held_width s.op) (ρ (net s.path r.value))
      none ρ settled s here r is high =
          let signal = signal_follows d top marked resets s r here is in
          let low : is_high (ρ (net s.path r.signal)) ≡ false = ap is_high (signal.2 [] content ρ settled) ∙ before_low signal.1 signal.0 in
          cc
