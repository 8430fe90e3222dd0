-- The locations of modules and operations in the source decide nothing of what a design does.
use Rattle.std.proofs.Common.{◌≡◌, ℕ, zero, suc, pred, ◌+◌, Bool, true, false, cond, List, [], ◌∷◌, ◌++◌, length, map, take, drop, slice_get, Option, Some, None, refl, sym, ap, ap₂, subst, ◌∙◌, option_and_then, option_map}
use Rattle.std.proofs.lemmas.Option.{slice_get-map}
use Rattle.std.proofs.lemmas.List.{length-map, map-append}
use mathlib.Core.Path.{fun_ext}
use Rattle.wiring.specs.Wiring.{Settled as IsSettled}
use Rattle.bits_core.specs.Word.{Word, first}
use Rattle.hw_model.specs.Types.{Name}
use Rattle.hw_model.specs.Kinds.{Instance}
use Rattle.hw_model.specs.Design.{Ref, Op, Module, Design, op_without_location, module_without_locations, without_locations, IsSameDesign, same_name, find_module, instance_in, is_instance}
use Rattle.hw_model.specs.Design.{is_register, is_output_op, result_type, output_refs, callee}
use Rattle.hw_model.specs.Design.Ref.{port, result, undefined}
use Rattle.hw_model.specs.Value.{concat_words}
use Rattle.hw_model.specs.Flat.{Path, Net, net, Source, Slot, instances, before_instance, if_zero, module_at, op_state, body_state, module_state, state, base, port_ref, input_width, input_of}
use Rattle.hw_model.specs.Flat.{port_source, copy_of, joined_ref, joined_at, given_ref, held_of, made_of, source, held_width, op_registers, body_registers, module_registers, registers}
use Rattle.hw_model.specs.Flat.Source.{nowhere}
use Rattle.hw_model.specs.Machine.{Machine, Same}
use Rattle.hw_model.specs.Meaning.{needs_of, value_of, HasHeights, map_slots, next_in, next_content, rise_in, risen_content, outputs, machine}
use Rattle.hw_model.specs.Sound.{body_of, ports_of}
use Rattle.hw_model.proofs.Sorts.{Sort, sort_of}
use Rattle.hw_model.proofs.Sorts.Sort.{a_register, an_instance, an_output, a_made}
use Rattle.hw_model.proofs.Paths.{module_inside, state_body, before_body, registers_body, outputs_body, input_ports, joined_body, port_of, output_of, result_in, result_here}
use Rattle.hw_model.proofs.Machines.{same_self}
use Rattle.hw_model.proofs.Finite.{settles_with_heights}

-- ---- bodies

pub body_unlocated : (o : Option Module) → body_of (option_map module_without_locations o) ≡ map op_without_location (body_of o)
body_unlocated None = refl
body_unlocated (Some m) = refl

pub ports_unlocated : (o : Option Module) → ports_of (option_map module_without_locations o) ≡ ports_of o
ports_unlocated None = refl
ports_unlocated (Some m) = refl

pub find_unlocated : (d : Design) (s : Name) → find_module (without_locations d) s ≡ option_map module_without_locations (find_module d s)
find_unlocated [] s = refl
find_unlocated (m ∷ d) s = go (same_name m.symbol s) (find_unlocated d s)
  where
    go : (b : Bool) → find_module (without_locations d) s ≡ option_map module_without_locations (find_module d s)
        → cond b (Some (module_without_locations m)) (find_module (without_locations d) s) ≡ option_map module_without_locations (cond b (Some m) (find_module d s))
    go true rest = refl
    go false rest = rest

pub instances_unlocated : (os : List Op) → instances (map op_without_location os) ≡ map op_without_location (instances os)
instances_unlocated [] = refl
instances_unlocated (o ∷ os) = go (is_instance o) (instances_unlocated os)
  where
    go : (b : Bool) → instances (map op_without_location os) ≡ map op_without_location (instances os)
        → cond b (op_without_location o ∷ instances (map op_without_location os)) (instances (map op_without_location os)) ≡ map op_without_location (cond b (o ∷ instances os) (instances os))
    go true rest = ap (λ xs. op_without_location o ∷ xs) rest
    go false rest = rest

pub output_refs_unlocated : (os : List Op) → output_refs (map op_without_location os) ≡ output_refs os
output_refs_unlocated [] = refl
output_refs_unlocated (o ∷ os) = ap (λ rs. cond (is_output_op o) o.operands rs) (output_refs_unlocated os)

body_state_unlocated : (inner : Name → ℕ) (os : List Op) → body_state inner (map op_without_location os) ≡ body_state inner os
body_state_unlocated inner [] = refl
body_state_unlocated inner (o ∷ os) = ap (λ n. op_state inner o + n) (body_state_unlocated inner os)

before_unlocated : (u : ℕ) (os : List Op) → before_instance u (map op_without_location os) ≡ map op_without_location (before_instance u os)
before_unlocated u [] = refl
before_unlocated u (o ∷ os) = go (is_instance o) u (before_unlocated u os) (before_unlocated (pred u) os)
  where
    go : (b : Bool) (u : ℕ) → before_instance u (map op_without_location os) ≡ map op_without_location (before_instance u os)
        → before_instance (pred u) (map op_without_location os) ≡ map op_without_location (before_instance (pred u) os)
        → cond b (if_zero u [] (op_without_location o ∷ before_instance (pred u) (map op_without_location os))) (op_without_location o ∷ before_instance u (map op_without_location os))
        ≡ map op_without_location (cond b (if_zero u [] (o ∷ before_instance (pred u) os)) (o ∷ before_instance u os))
    go true zero rest fewer = refl
    go true (suc u) rest fewer = ap (λ xs. op_without_location o ∷ xs) fewer
    go false u rest fewer = ap (λ xs. op_without_location o ∷ xs) rest

take_unlocated : (n : ℕ) (os : List Op) → take n (map op_without_location os) ≡ map op_without_location (take n os)
take_unlocated zero os = refl
take_unlocated (suc n) [] = refl
take_unlocated (suc n) (o ∷ os) = ap (λ xs. op_without_location o ∷ xs) (take_unlocated n os)

-- a register of the flattened module, without its location
abbrev slot_without_location : Slot → Slot
slot_without_location s = record { path = s.path; op = op_without_location s.op }

-- a machine by where its nets' values come from
abbrev pub machine_of : ℕ → (Net → Source) → ((Net → Word) → Word) → ((Net → Word) → Word → Word) → ((Net → Word) → (Net → Word) → Word → Word) → Machine Net
machine_of size from out next rising = record {
  size = size;
  settled = λ inputs content ρ. IsSettled (λ a. needs_of (from a)) (λ a xs. value_of inputs content (from a) xs) ρ;
  outputs = out;
  next = next;
  rising = rising;
}

-- ---- designs

module _ (d : Design) where
  pub callee_unlocated : (o : Op) → callee (without_locations d) (op_without_location o) ≡ option_map module_without_locations (callee d o)
  callee_unlocated o = go (instance_in o.kind)
    where
      go : (y : Option Instance) → option_and_then (λ (i : Instance). find_module (without_locations d) i.symbol) y ≡ option_map module_without_locations (option_and_then (λ (i : Instance). find_module d i.symbol) y)
      go None = refl
      go (Some i) = find_unlocated d i.symbol

  module_state_unlocated : (n : ℕ) (s : Name) → module_state n (without_locations d) s ≡ module_state n d s
  module_state_unlocated zero s = refl
  module_state_unlocated (suc n) s =
      state_body (module_state n (without_locations d)) (find_module (without_locations d) s)
      ∙ ap (λ o. body_state (module_state n (without_locations d)) (body_of o)) (find_unlocated d s)
      ∙ ap (body_state (module_state n (without_locations d))) (body_unlocated (find_module d s))
      ∙ body_state_unlocated (module_state n (without_locations d)) (body_of (find_module d s))
      ∙ ap (λ inner. body_state inner (body_of (find_module d s))) (fun_ext (module_state_unlocated n))
      ∙ sym (state_body (module_state n d) (find_module d s))

  state_unlocated : state (without_locations d) ≡ state d
  state_unlocated =
      fun_ext (λ s. ap (λ n. module_state (suc n) (without_locations d) s) (length-map d module_without_locations) ∙ module_state_unlocated (suc (length d)) s)

  module _ (top : Name) where
    -- what stands at an instance's number
    instance_unlocated : (o : Option Module) (u : ℕ) → slice_get (instances (body_of (option_map module_without_locations o))) u ≡ option_map op_without_location (slice_get (instances (body_of o)) u)
    instance_unlocated o u =
        ap (λ os. slice_get (instances os) u) (body_unlocated o) ∙ ap (λ os. slice_get os u) (instances_unlocated (body_of o))
        ∙ slice_get-map op_without_location (instances (body_of o)) u

    module_at_unlocated : (p : Path) → module_at (without_locations d) top p ≡ option_map module_without_locations (module_at d top p)
    module_at_unlocated [] = find_unlocated d top
    module_at_unlocated (u ∷ p) =
        module_inside (without_locations d) u (module_at (without_locations d) top p)
        ∙ ap (λ o. option_and_then (callee (without_locations d)) (slice_get (instances (body_of o)) u)) (module_at_unlocated p)
        ∙ ap (λ x. option_and_then (callee (without_locations d)) x) (instance_unlocated (module_at d top p) u)
        ∙ go (slice_get (instances (body_of (module_at d top p))) u)
        ∙ ap (option_map module_without_locations) (sym (module_inside d u (module_at d top p)))
      where
        go : (x : Option Op) → option_and_then (callee (without_locations d)) (option_map op_without_location x) ≡ option_map module_without_locations (option_and_then (callee d) x)
        go None = refl
        go (Some o) = callee_unlocated o

    body_at : (p : Path) → body_of (module_at (without_locations d) top p) ≡ map op_without_location (body_of (module_at d top p))
    body_at p = ap body_of (module_at_unlocated p) ∙ body_unlocated (module_at d top p)

    base_unlocated : (p : Path) → base (without_locations d) top p ≡ base d top p
    base_unlocated [] = refl
    base_unlocated (u ∷ p) =
        ap₂ (λ a b. a + b) (base_unlocated p)
        (before_body (without_locations d) u (module_at (without_locations d) top p)
        ∙ ap (λ os. body_state (state (without_locations d)) (before_instance u os)) (body_at p)
        ∙ ap (body_state (state (without_locations d))) (before_unlocated u (body_of (module_at d top p)))
        ∙ body_state_unlocated (state (without_locations d)) (before_instance u (body_of (module_at d top p)))
        ∙ ap (λ inner. body_state inner (before_instance u (body_of (module_at d top p)))) state_unlocated
        ∙ sym (before_body d u (module_at d top p)))

    joined_unlocated : (p : Path) (u j : ℕ) → option_and_then (joined_at (without_locations d) u j) (module_at (without_locations d) top p) ≡ option_and_then (joined_at d u j) (module_at d top p)
    joined_unlocated p u j =
        joined_body (without_locations d) u j (module_at (without_locations d) top p)
        ∙ ap (λ o. option_and_then (joined_ref (without_locations d) j) (slice_get (instances (body_of o)) u)) (module_at_unlocated p)
        ∙ ap (λ x. option_and_then (joined_ref (without_locations d) j) x) (instance_unlocated (module_at d top p) u)
        ∙ go (slice_get (instances (body_of (module_at d top p))) u)
        ∙ sym (joined_body d u j (module_at d top p))
      where
        go : (x : Option Op) → option_and_then (joined_ref (without_locations d) j) (option_map op_without_location x) ≡ option_and_then (joined_ref d j) x
        go None = refl
        go (Some o) =
            port_of (callee (without_locations d) (op_without_location o)) o.operands j
            ∙ ap (λ m. port_ref (ports_of m) o.operands j) (callee_unlocated o)
            ∙ ap (λ ps. port_ref ps o.operands j) (ports_unlocated (callee d o))
            ∙ sym (port_of (callee d o) o.operands j)

    port_unlocated : (p : Path) (j : ℕ) → port_source (without_locations d) top p j ≡ port_source d top p j
    port_unlocated [] j =
        input_ports j (find_module (without_locations d) top)
        ∙ ap (λ ps. input_of (slice_get ps j) (input_width (take j ps))) (ap ports_of (find_unlocated d top) ∙ ports_unlocated (find_module d top))
        ∙ sym (input_ports j (find_module d top))
    port_unlocated (u ∷ p) j = ap (copy_of p) (joined_unlocated p u j)

    given_unlocated : (k : ℕ) (o : Op) → given_ref (without_locations d) k (op_without_location o) ≡ given_ref d k o
    given_unlocated k o =
        output_of (callee (without_locations d) (op_without_location o)) k
        ∙ ap (λ m. slice_get (output_refs (body_of m)) k) (callee_unlocated o)
        ∙ ap (λ os. slice_get (output_refs os) k) (body_unlocated (callee d o))
        ∙ ap (λ rs. slice_get rs k) (output_refs_unlocated (body_of (callee d o)))
        ∙ sym (output_of (callee d o) k)

    result_unlocated : (p : Path) (j k : ℕ) → source (without_locations d) top (net p (result j k)) ≡ source d top (net p (result j k))
    result_unlocated p j k =
        result_here (without_locations d) top p j k
        ∙ ap (λ os'. result_in (without_locations d) top p os' j k (slice_get os' j)) (body_at p)
        ∙ ap (result_in (without_locations d) top p (map op_without_location os) j k) (slice_get-map op_without_location os j)
        ∙ go (slice_get os j)
        ∙ sym (result_here d top p j k)
      where
        os : List Op
        os = body_of (module_at d top p)

        offset_same : base (without_locations d) top p + body_state (state (without_locations d)) (take j (map op_without_location os)) ≡ base d top p + body_state (state d) (take j os)
        offset_same =
            ap₂ (λ a b. a + b) (base_unlocated p)
            (ap (body_state (state (without_locations d))) (take_unlocated j os)
            ∙ body_state_unlocated (state (without_locations d)) (take j os)
            ∙ ap (λ inner. body_state inner (take j os)) state_unlocated)

        count_same : length (instances (take j (map op_without_location os))) ≡ length (instances (take j os))
        count_same =
            ap (λ xs. length (instances xs)) (take_unlocated j os) ∙ ap length (instances_unlocated (take j os))
            ∙ length-map (instances (take j os)) op_without_location

        go : (x : Option Op) → result_in (without_locations d) top p (map op_without_location os) j k (option_map op_without_location x) ≡ result_in d top p os j k x
        go None = refl
        go (Some o) =
            ap₂ (λ a b. cond (is_register o) (held_of a (result_type o k)) (cond (is_instance o) b (cond (is_output_op o) nowhere (made_of p o k (result_type o k)))))
            offset_same
            (ap₂ (λ n y. copy_of (n ∷ p) y) count_same (given_unlocated k o))

    pub source_unlocated : (a : Net) → source (without_locations d) top a ≡ source d top a
    source_unlocated a = go a.path a.ref
      where
        go : (p : Path) (r : Ref) → source (without_locations d) top (net p r) ≡ source d top (net p r)
        go p (port j) = port_unlocated p j
        go p (result j k) = result_unlocated p j k
        go p undefined = refl

    outputs_unlocated : (ρ : Net → Word) → outputs (without_locations d) top ρ ≡ outputs d top ρ
    outputs_unlocated ρ =
        ap (λ rs. concat_words (map (λ r. ρ (net [] r)) rs))
        (outputs_body (find_module (without_locations d) top)
        ∙ ap (λ o. output_refs (body_of o)) (find_unlocated d top)
        ∙ ap output_refs (body_unlocated (find_module d top))
        ∙ output_refs_unlocated (body_of (find_module d top))
        ∙ sym (outputs_body (find_module d top)))

    -- ---- registers

    body_registers_unlocated : (inner inner' : Path → Name → List Slot) → ((q : Path) (s : Name) → inner' q s ≡ map slot_without_location (inner q s))
        → (p : Path) (u : ℕ) (os : List Op) → body_registers inner' p u (map op_without_location os) ≡ map slot_without_location (body_registers inner p u os)
    body_registers_unlocated inner inner' same p u [] = refl
    body_registers_unlocated inner inner' same p u (o ∷ os) =
        ap₂ (λ xs ys. xs ++ ys) here (body_registers_unlocated inner inner' same p (cond (is_instance o) (suc u) u) os)
        ∙ sym (map-append slot_without_location (op_registers inner p u o) (body_registers inner p (cond (is_instance o) (suc u) u) os))
      where
        here : op_registers inner' p u (op_without_location o) ≡ map slot_without_location (op_registers inner p u o)
        here = go (sort_of o.kind)
          where
            go : Sort o.kind → op_registers inner' p u (op_without_location o) ≡ map slot_without_location (op_registers inner p u o)
            go (a_register f r i x) = simp r
            go (an_instance n r i x) = simp (r, i) (same (u ∷ p) n.symbol)
            go (an_output r i x) = simp (r, i)
            go (a_made r i x) = simp (r, i)

    module_registers_unlocated : (n : ℕ) (p : Path) (s : Name) → module_registers n (without_locations d) p s ≡ map slot_without_location (module_registers n d p s)
    module_registers_unlocated zero p s = refl
    module_registers_unlocated (suc n) p s =
        registers_body (module_registers n (without_locations d)) p (find_module (without_locations d) s)
        ∙ ap (λ o. body_registers (module_registers n (without_locations d)) p 0 (body_of o)) (find_unlocated d s)
        ∙ ap (body_registers (module_registers n (without_locations d)) p 0) (body_unlocated (find_module d s))
        ∙ body_registers_unlocated (module_registers n d) (module_registers n (without_locations d)) (λ q t. module_registers_unlocated n q t) p 0 (body_of (find_module d s))
        ∙ ap (map slot_without_location) (sym (registers_body (module_registers n d) p (find_module d s)))

    -- where a slot gives the same without its location, so does the whole content
    map_slots_along : (each : Slot → Word → Word) → ((s : Slot) (old : Word) → each (slot_without_location s) old ≡ each s old)
        → (ss : List Slot) (content : Word) → map_slots each (map slot_without_location ss) content ≡ map_slots each ss content
    map_slots_along each alike [] content = refl
    map_slots_along each alike (s ∷ ss) content =
        ap₂ (λ x rest. first (held_width s.op) x ++ rest)
        (alike s (first (held_width s.op) content)) (map_slots_along each alike ss (drop (held_width s.op) content))

    map_slots_unlocated : (each : Slot → Word → Word) → ((s : Slot) (old : Word) → each (slot_without_location s) old ≡ each s old)
        → (content : Word) → map_slots each (registers (without_locations d) top) content ≡ map_slots each (registers d top) content
    map_slots_unlocated each alike content =
        ap (λ ss. map_slots each ss content)
        (ap (λ n. module_registers (suc n) (without_locations d) [] top) (length-map d module_without_locations) ∙ module_registers_unlocated (suc (length d)) [] top)
        ∙ map_slots_along each alike (registers d top) content

    next_unlocated : (ρ : Net → Word) (content : Word) → next_content (registers (without_locations d) top) ρ content ≡ next_content (registers d top) ρ content
    next_unlocated ρ content = map_slots_unlocated (next_in ρ) (λ s old. refl) content

    rising_unlocated : (ρ σ : Net → Word) (content : Word) → risen_content (registers (without_locations d) top) ρ σ content ≡ risen_content (registers d top) ρ σ content
    rising_unlocated ρ σ content = map_slots_unlocated (rise_in ρ σ) (λ s old. refl) content

    -- ---- the machine

    pub machine_unlocated : machine (without_locations d) top ≡ machine d top
    machine_unlocated =
        ap (λ size. machine_of size (source (without_locations d) top) (outputs (without_locations d) top) (next_content (registers (without_locations d) top))
        (risen_content (registers (without_locations d) top))) (ap (λ f. f top) state_unlocated)
        ∙ ap (λ from. machine_of (state d top) from (outputs (without_locations d) top) (next_content (registers (without_locations d) top)) (risen_content (registers (without_locations d) top))) (fun_ext source_unlocated)
        ∙ ap (λ out. machine_of (state d top) (source d top) out (next_content (registers (without_locations d) top)) (risen_content (registers (without_locations d) top))) (fun_ext outputs_unlocated)
        ∙ ap₂ (λ next rising. machine_of (state d top) (source d top) (outputs d top) next rising)
        (fun_ext (λ ρ. fun_ext (next_unlocated ρ))) (fun_ext (λ ρ. fun_ext (λ σ. fun_ext (rising_unlocated ρ σ))))

-- two designs that differ in nothing but locations have the same machines
pub machine_same_design : (d e : Design) → IsSameDesign d e → (top : Name) → machine d top ≡ machine e top
machine_same_design d e same top = sym (machine_unlocated d top) ∙ ap (λ x. machine x top) same ∙ machine_unlocated e top

pub same_design : (d e : Design) → IsSameDesign d e → (top : Name) → HasHeights d top → Same (machine d top) (machine e top)
same_design d e same top heights =
    subst (λ m. Same (machine d top) m) (machine_same_design d e same top) (same_self (machine d top) (settles_with_heights d top heights))
