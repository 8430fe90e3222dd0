-- A design in which each module is edited, and what the two designs have in common at each path of instances.
use Rattle.std.proofs.Common.{◌≡◌, ℕ, zero, suc, ◌+◌, List, [], ◌∷◌, ◌++◌, length, map, take, drop, slice_get, Option, Some, None, refl, sym, ap, ap₂, subst, ◌∙◌, arith, zero-add, option_and_then, option_map}
use Rattle.std.proofs.lemmas.List.{map-append}
use Rattle.std.proofs.lemmas.Option.{slice_get-map}
use mathlib.Core.Path.{fun_ext, subst₂}
use Rattle.wiring.proofs.Lists.{map-map}
use Rattle.bits_core.specs.Word.{Word, first}
use Rattle.hw_model.specs.Types.{Name, HwType}
use Rattle.hw_model.specs.Kinds.{Instance}
use Rattle.hw_model.specs.Design.{Ref, Op, Module, Design, find_module, instance_in, result_type, output_refs, callee}
use Rattle.hw_model.specs.Design.Ref.{port, result, undefined}
use Rattle.hw_model.specs.Value.{concat_words}
use Rattle.hw_model.specs.Flat.{Path, Net, net, Slot, instances, before_instance, module_at, body_state, module_state, state, base, port_ref, input_width, input_of, port_source, copy_of, joined_ref}
use Rattle.hw_model.specs.Flat.{joined_at, given_ref, held_of, made_of, source, held_width, body_registers, module_registers, registers}
use Rattle.hw_model.specs.Flat.Source.{op_result}
use Rattle.hw_model.specs.Meaning.{value_of, map_slots, next_in, next_content, rise_in, risen_content, outputs}
use Rattle.hw_model.specs.Sound.{body_of, ports_of}
use Rattle.hw_model.proofs.Sorts.{Sort, sort_of, instance_found}
use Rattle.hw_model.proofs.Sorts.Sort.{a_register, an_instance, an_output, a_made}
use Rattle.hw_model.proofs.Paths.{module_inside, state_body, before_body, registers_body, outputs_body, input_ports, joined_body, port_of, output_of, op_in, result_in, result_here}
use Rattle.edit_laws.specs.Edit.{retarget, anchors, Kept, Edit, EditedModule, result_word, word_of_op, word_of, Holds}
use Rattle.edit_laws.proofs.Anchors.{instances_follow, output_refs_follow, body_state_follows, before_instance_follows, body_registers-anchors, instances-anchors}
use Rattle.edit_laws.proofs.OtherOperands.{length_map, map_source, reads, reads-map_source, map_source-input, map_source-held, port_ref-map, next-retarget, rise-retarget}

-- ---- the modules of two designs at a path

-- both are those of one symbol, or both are not there
pub data Found (d d' : Design) (o o' : Option Module) : Type 0 where
  of_symbol : (s : Name) → o ≡ find_module d s → o' ≡ find_module d' s → Found d d' o o'
  absent : o ≡ None → o' ≡ None → Found d d' o o'

-- what holds of the modules of each symbol holds of them
pub of_found : (d d' : Design) (F : Option Module → Option Module → Type 0) → F None None
    → ((s : Name) → F (find_module d s) (find_module d' s)) → (o o' : Option Module) → Found d d' o o' → F o o'
of_found d d' F none each o o' (of_symbol s is is') = subst₂ F (sym is) (sym is') (each s)
of_found d d' F none each o o' (absent is is') = subst₂ F (sym is) (sym is') none

found_callee : (d d' : Design) (f : Ref → Ref) (x : Option Op) → Found d d' (option_and_then (callee d) x) (option_and_then (callee d') (option_map (retarget f) x))
found_callee d d' f None = absent refl refl
found_callee d d' f (Some o) = go (instance_in o.kind)
  where
    go : (y : Option Instance) → Found d d' (option_and_then (λ (i : Instance). find_module d i.symbol) y) (option_and_then (λ (i : Instance). find_module d' i.symbol) y)
    go None = absent refl refl
    go (Some i) = of_symbol i.symbol refl refl

-- where a body says what word a result has, that is what the result's source gives
pub word_read : (d : Design) (top : Name) (inputs content : Word) (ρ : Net → Word) (p : Path) (j k : ℕ) (w : Word)
    → word_of (λ r. ρ (net p r)) k (slice_get (body_of (module_at d top p)) j) ≡ Some w
    → reads inputs content ρ (source d top (net p (result j k))) ≡ w
word_read d top inputs content ρ p j k w says =
    ap (reads inputs content ρ) (result_here d top p j k) ∙ go (slice_get (body_of (module_at d top p)) j) says
  where
    made_read : (o : Op) (t : Option HwType) → reads inputs content ρ (made_of p o k t) ≡ result_word (λ r. ρ (net p r)) o k t
    made_read o None = refl
    made_read o (Some t) = ap (value_of inputs content (op_result o.kind o.types t k (map (net p) o.operands))) (map-map ρ (net p) o.operands)

    by_sort : (o : Op) → Sort o.kind → word_of_op (λ r. ρ (net p r)) k o ≡ Some w
        → reads inputs content ρ (op_in d top p (body_of (module_at d top p)) j k o) ≡ w
    by_sort o (a_register f r i u) is = let never : None ≡ Some w = simp r at is in cc
    by_sort o (an_instance x r i u) is = let never : None ≡ Some w = simp (r, i) at is in cc
    by_sort o (an_output r i u) is = let same : Some [] ≡ Some w = simp (r, i, u) at is in let e : [] ≡ w = cc in simp (r, i, u) e
    by_sort o (a_made r i u) is =
        let same : Some (result_word (λ r. ρ (net p r)) o k (result_type o k)) ≡ Some w = simp (r, i, u) at is in
        let e : result_word (λ r. ρ (net p r)) o k (result_type o k) ≡ w = cc in
        simp (r, i, u) (made_read o (result_type o k) ∙ e)

    go : (x : Option Op) → word_of (λ r. ρ (net p r)) k x ≡ Some w
        → reads inputs content ρ (result_in d top p (body_of (module_at d top p)) j k x) ≡ w
    go None is = cc
    go (Some o) is = by_sort o (sort_of o.kind) is

-- so the values at the end of a path hold in its body under a settled map
pub holds_at : (d : Design) (top : Name) (inputs content : Word) (ρ : Net → Word)
    → ((a : Net) → ρ a ≡ reads inputs content ρ (source d top a))
    → (p : Path) → Holds (body_of (module_at d top p)) (λ r. ρ (net p r))
holds_at d top inputs content ρ settled p = record {
  undefined_is = settled (net p undefined);
  result_is = λ j k w but says. settled (net p (result j k)) ∙ word_read d top inputs content ρ p j k w says;
}

-- ---- the two designs

module _ (d d' : Design) (F : Option Module → Option Module → Type 0) (shape : (o o' : Option Module) → F o o' → EditedModule o o')
    (none : F None None) (each : (s : Name) → F (find_module d s) (find_module d' s)) where
  found_inside : (o o' : Option Module) → F o o' → (u : ℕ)
      → Found d d' (option_and_then (λ (m : Module). option_and_then (callee d) (slice_get (instances m.body) u)) o) (option_and_then (λ (m : Module). option_and_then (callee d') (slice_get (instances m.body) u)) o')
  found_inside o o' x u =
      subst₂ (Found d d') (sym (module_inside d u o)) (sym (module_inside d' u o'))
      (subst (λ z. Found d d' (option_and_then (callee d) (slice_get (instances (body_of o)) u)) (option_and_then (callee d') z)) (sym instance_is)
      (found_callee d d' (shape o o' x).edit.stand (slice_get (instances (body_of o)) u)))
    where
      instance_is : slice_get (instances (body_of o')) u ≡ option_map (retarget (shape o o' x).edit.stand) (slice_get (instances (body_of o)) u)
      instance_is =
          ap (λ xs. slice_get xs u) (instances_follow (body_of o) (body_of o') (shape o o' x).edit.stand (shape o o' x).edit.anchors_are)
          ∙ slice_get-map (retarget (shape o o' x).edit.stand) (instances (body_of o)) u

  -- the ports of what an operation instances stay
  ports_callee : (o : Op) → ports_of (callee d' o) ≡ ports_of (callee d o)
  ports_callee o = go (instance_in o.kind)
    where
      go : (y : Option Instance) → ports_of (option_and_then (λ (i : Instance). find_module d' i.symbol) y) ≡ ports_of (option_and_then (λ (i : Instance). find_module d i.symbol) y)
      go None = refl
      go (Some i) = (shape (find_module d i.symbol) (find_module d' i.symbol) (each i.symbol)).ports_are

  -- the content of a module has as many bits
  module_state_same : (n : ℕ) (s : Name) → module_state n d' s ≡ module_state n d s
  module_state_same zero s = refl
  module_state_same (suc n) s =
      let e : Edit (body_of (find_module d s)) (body_of (find_module d' s)) = (shape (find_module d s) (find_module d' s) (each s)).edit in
      state_body (module_state n d') (find_module d' s)
      ∙ ap (λ inner. body_state inner (body_of (find_module d' s))) (fun_ext (module_state_same n))
      ∙ body_state_follows (body_of (find_module d s)) (body_of (find_module d' s)) e.stand e.anchors_are (module_state n d)
      ∙ sym (state_body (module_state n d) (find_module d s))

  pub state_same : length d' ≡ length d → state d' ≡ state d
  state_same same = fun_ext (λ s. ap (λ n. module_state (suc n) d' s) same ∙ module_state_same (suc (length d)) s)

  module _ (top : Name) where
    pub found : (p : Path) → Found d d' (module_at d top p) (module_at d' top p)
    found [] = of_symbol top refl refl
    found (u ∷ p) =
        found_inside (module_at d top p) (module_at d' top p)
        (of_found d d' F none each (module_at d top p) (module_at d' top p) (found p)) u

    -- what holds of the two modules at a path
    pub at : (p : Path) → F (module_at d top p) (module_at d' top p)
    at p = of_found d d' F none each (module_at d top p) (module_at d' top p) (found p)

    abbrev pub shape_at : (p : Path) → EditedModule (module_at d top p) (module_at d' top p)
    shape_at p = shape (module_at d top p) (module_at d' top p) (at p)

    -- what stands in the new design for a net of the old one
    abbrev pub stand_at : Path → Ref → Ref
    stand_at p = (shape_at p).edit.stand

    abbrev pub standing : Net → Net
    standing a = net a.path (stand_at a.path a.ref)

    instance_at : (p : Path) (u : ℕ) → slice_get (instances (body_of (module_at d' top p))) u ≡ option_map (retarget (stand_at p)) (slice_get (instances (body_of (module_at d top p))) u)
    instance_at p u =
        ap (λ xs. slice_get xs u) (instances_follow (body_of (module_at d top p)) (body_of (module_at d' top p)) (stand_at p) (shape_at p).edit.anchors_are)
        ∙ slice_get-map (retarget (stand_at p)) (instances (body_of (module_at d top p))) u

    -- content begins where it began
    pub base_same : length d' ≡ length d → (p : Path) → base d' top p ≡ base d top p
    base_same same [] = refl
    base_same same (u ∷ p) =
        ap₂ (λ a b. a + b) (base_same same p)
        (before_body d' u (module_at d' top p)
        ∙ ap (λ inner. body_state inner (before_instance u (body_of (module_at d' top p)))) (state_same same)
        ∙ before_instance_follows (body_of (module_at d top p)) (body_of (module_at d' top p)) (stand_at p) (shape_at p).edit.anchors_are (state d) u
        ∙ sym (before_body d u (module_at d top p)))

    -- ---- registers

    abbrev pub edit_slot : Slot → Slot
    edit_slot s = record { path = s.path; op = retarget (stand_at s.path) s.op }

    registers_along : (inner inner' : Path → Name → List Slot) (p : Path) (os : List Op) (n : ℕ)
        → ((v w : ℕ) (o : Op) (i : Instance) → w ≡ n + v → slice_get (instances os) v ≡ Some o → instance_in o.kind ≡ Some i
        → inner' (w ∷ p) i.symbol ≡ map edit_slot (inner (w ∷ p) i.symbol))
        → body_registers inner' p n (map (retarget (stand_at p)) os) ≡ map edit_slot (body_registers inner p n os)
    registers_along inner inner' p [] n alike = refl
    registers_along inner inner' p (o ∷ os) n alike =
        go (sort_of o.kind) (registers_along inner inner' p os n) (registers_along inner inner' p os (suc n))
      where
        go : Sort o.kind
            → (((v w : ℕ) (x : Op) (i : Instance) → w ≡ n + v → slice_get (instances os) v ≡ Some x → instance_in x.kind ≡ Some i
            → inner' (w ∷ p) i.symbol ≡ map edit_slot (inner (w ∷ p) i.symbol))
            → body_registers inner' p n (map (retarget (stand_at p)) os) ≡ map edit_slot (body_registers inner p n os))
            → (((v w : ℕ) (x : Op) (i : Instance) → w ≡ suc n + v → slice_get (instances os) v ≡ Some x → instance_in x.kind ≡ Some i
            → inner' (w ∷ p) i.symbol ≡ map edit_slot (inner (w ∷ p) i.symbol))
            → body_registers inner' p (suc n) (map (retarget (stand_at p)) os) ≡ map edit_slot (body_registers inner p (suc n) os))
            → body_registers inner' p n (map (retarget (stand_at p)) (o ∷ os)) ≡ map edit_slot (body_registers inner p n (o ∷ os))
        go (a_register f r i u) rest more =
            simp (r, i) (ap (λ xs. edit_slot (record { path = p; op = o }) ∷ xs)
            (rest (λ v w x y is at_v inst. alike v w x y is (simp i at_v) inst)))
        go (an_instance x r i u) rest more =
            simp (r, i) (ap₂ (λ xs ys. xs ++ ys) (alike 0 n o x (omega arith) (simp i) i)
            (more (λ v w y z is at_v inst. alike (suc v) w y z (omega arith) (simp i at_v) inst))
            ∙ sym (map-append edit_slot (inner (n ∷ p) x.symbol) (body_registers inner p (suc n) os)))
        go (an_output r i u) rest more =
            simp (r, i) (rest (λ v w x y is at_v inst. alike v w x y is (simp i at_v) inst))
        go (a_made r i u) rest more =
            simp (r, i) (rest (λ v w x y is at_v inst. alike v w x y is (simp i at_v) inst))

    -- the registers are those of the old design, with other operands
    module_registers_same : (n : ℕ) (p : Path) (s : Name) → module_at d top p ≡ find_module d s → module_at d' top p ≡ find_module d' s
        → module_registers n d' p s ≡ map edit_slot (module_registers n d p s)
    module_registers_same zero p s is is' = refl
    module_registers_same (suc n) p s is is' =
        registers_body (module_registers n d') p (find_module d' s)
        ∙ ap (λ o. body_registers (module_registers n d') p 0 (body_of o)) (sym is')
        ∙ sym (body_registers-anchors (module_registers n d') p 0 os')
        ∙ ap (body_registers (module_registers n d') p 0) (shape_at p).edit.anchors_are
        ∙ registers_along (module_registers n d) (module_registers n d') p (anchors os) 0 (below (λ q t. module_registers_same n q t))
        ∙ ap (map edit_slot) (body_registers-anchors (module_registers n d) p 0 os)
        ∙ ap (λ o. map edit_slot (body_registers (module_registers n d) p 0 (body_of o))) is
        ∙ ap (map edit_slot) (sym (registers_body (module_registers n d) p (find_module d s)))
      where
        os : List Op
        os = body_of (module_at d top p)

        os' : List Op
        os' = body_of (module_at d' top p)

        below : ((q : Path) (t : Name) → module_at d top q ≡ find_module d t → module_at d' top q ≡ find_module d' t
            → module_registers n d' q t ≡ map edit_slot (module_registers n d q t))
            → (v w : ℕ) (o : Op) (i : Instance) → w ≡ 0 + v → slice_get (instances (anchors os)) v ≡ Some o → instance_in o.kind ≡ Some i
            → module_registers n d' (w ∷ p) i.symbol ≡ map edit_slot (module_registers n d (w ∷ p) i.symbol)
        below inner v w o i same at_v inst =
            let here : slice_get (instances os) w ≡ Some o = ap₂ slice_get (sym (instances-anchors os)) (same ∙ zero-add v) ∙ at_v in
            let there : slice_get (instances os') w ≡ Some (retarget (stand_at p) o) = instance_at p w ∙ ap (option_map (retarget (stand_at p))) here in
            inner (w ∷ p) i.symbol
            (module_inside d w (module_at d top p) ∙ ap (λ x. option_and_then (callee d) x) here ∙ ap (λ y. option_and_then (λ (x : Instance). find_module d x.symbol) y) inst)
            (module_inside d' w (module_at d' top p) ∙ ap (λ x. option_and_then (callee d') x) there ∙ ap (λ y. option_and_then (λ (x : Instance). find_module d' x.symbol) y) inst)

    pub registers_same : length d' ≡ length d → registers d' top ≡ map edit_slot (registers d top)
    registers_same same = ap (λ n. module_registers (suc n) d' [] top) same ∙ module_registers_same (suc (length d)) [] top refl refl

    -- where an edited slot gives what the old one gave, so does the whole content
    map_slots_along : (gives gives' : Slot → Word → Word) → ((s : Slot) (old : Word) → gives' (edit_slot s) old ≡ gives s old)
        → (ss : List Slot) (content : Word) → map_slots gives' (map edit_slot ss) content ≡ map_slots gives ss content
    map_slots_along gives gives' alike [] content = refl
    map_slots_along gives gives' alike (s ∷ ss) content =
        ap₂ (λ x y. first (held_width s.op) x ++ y)
        (alike s (first (held_width s.op) content))
        (map_slots_along gives gives' alike ss (drop (held_width s.op) content))

    pub next_same : length d' ≡ length d → (ρ : Net → Word) (content : Word)
        → next_content (registers d' top) ρ content ≡ next_content (registers d top) (λ a. ρ (standing a)) content
    next_same same ρ content =
        ap (λ ss. next_content ss ρ content) (registers_same same)
        ∙ map_slots_along (next_in (λ a. ρ (standing a))) (next_in ρ)
        (λ s old. next-retarget (stand_at s.path) s.op (λ r. ρ (net s.path r)) old) (registers d top) content

    pub rising_same : length d' ≡ length d → (ρ σ : Net → Word) (content : Word)
        → risen_content (registers d' top) ρ σ content ≡ risen_content (registers d top) (λ a. ρ (standing a)) (λ a. σ (standing a)) content
    rising_same same ρ σ content =
        ap (λ ss. risen_content ss ρ σ content) (registers_same same)
        ∙ map_slots_along (rise_in (λ a. ρ (standing a)) (λ a. σ (standing a))) (rise_in ρ σ)
        (λ s old. rise-retarget (stand_at s.path) s.op (λ r. ρ (net s.path r)) (λ r. σ (net s.path r)) old) (registers d top) content

    pub outputs_same : (ρ : Net → Word) → outputs d' top ρ ≡ outputs d top (λ a. ρ (standing a))
    outputs_same ρ =
        ap concat_words (ap (map (λ r. ρ (net [] r))) (outputs_body (find_module d' top)
        ∙ output_refs_follow (body_of (find_module d top)) (body_of (find_module d' top)) (stand_at []) (shape_at []).edit.anchors_are)
        ∙ map-map (λ r. ρ (net [] r)) (stand_at []) (output_refs (body_of (find_module d top)))
        ∙ ap (map (λ r. ρ (net [] (stand_at [] r)))) (sym (outputs_body (find_module d top))))

    -- ---- where values come from

    copy_same : (p : Path) (x : Option Ref) → copy_of p (option_map (stand_at p) x) ≡ map_source standing (copy_of p x)
    copy_same p None = refl
    copy_same p (Some r) = refl

    made_same : (p : Path) (o : Op) (k : ℕ) (t : Option HwType) → made_of p (retarget (stand_at p) o) k t ≡ map_source standing (made_of p o k t)
    made_same p o k None = refl
    made_same p o k (Some t) =
        ap (op_result o.kind o.types t k) (map-map (net p) (stand_at p) o.operands ∙ sym (map-map standing (net p) o.operands))

    joined_same : (p : Path) (u j : ℕ) → option_and_then (joined_at d' u j) (module_at d' top p) ≡ option_map (stand_at p) (option_and_then (joined_at d u j) (module_at d top p))
    joined_same p u j =
        joined_body d' u j (module_at d' top p) ∙ ap (λ x. option_and_then (joined_ref d' j) x) (instance_at p u)
        ∙ go (slice_get (instances (body_of (module_at d top p))) u) ∙ ap (option_map (stand_at p)) (sym (joined_body d u j (module_at d top p)))
      where
        go : (x : Option Op) → option_and_then (joined_ref d' j) (option_map (retarget (stand_at p)) x) ≡ option_map (stand_at p) (option_and_then (joined_ref d j) x)
        go None = refl
        go (Some o) =
            port_of (callee d' o) (map (stand_at p) o.operands) j
            ∙ ap (λ ps. port_ref ps (map (stand_at p) o.operands) j) (ports_callee o)
            ∙ port_ref-map (stand_at p) (ports_of (callee d o)) o.operands j
            ∙ ap (option_map (stand_at p)) (sym (port_of (callee d o) o.operands j))

    pub port_same : (p : Path) (j : ℕ) → port_source d' top p j ≡ map_source standing (port_source d top p j)
    port_same [] j =
        input_ports j (find_module d' top)
        ∙ ap (λ ps. input_of (slice_get ps j) (input_width (take j ps))) (shape_at []).ports_are
        ∙ sym (map_source-input standing (slice_get (ports_of (find_module d top)) j) (input_width (take j (ports_of (find_module d top)))))
        ∙ ap (map_source standing) (sym (input_ports j (find_module d top)))
    port_same (u ∷ p) j = ap (copy_of p) (joined_same p u j) ∙ copy_same p (option_and_then (joined_at d u j) (module_at d top p))

    -- the module that an instance leads to
    inside_at : (p : Path) (u : ℕ) (o : Op) → slice_get (instances (body_of (module_at d top p))) u ≡ Some o → module_at d top (u ∷ p) ≡ callee d o
    inside_at p u o is = module_inside d u (module_at d top p) ∙ ap (λ x. option_and_then (callee d) x) is

    inside_at' : (p : Path) (u : ℕ) (o : Op) → slice_get (instances (body_of (module_at d' top p))) u ≡ Some o → module_at d' top (u ∷ p) ≡ callee d' o
    inside_at' p u o is = module_inside d' u (module_at d' top p) ∙ ap (λ x. option_and_then (callee d') x) is

    given_same : (p : Path) (u k : ℕ) (o : Op) → slice_get (instances (body_of (module_at d top p))) u ≡ Some o
        → given_ref d' k (retarget (stand_at p) o) ≡ option_map (stand_at (u ∷ p)) (given_ref d k o)
    given_same p u k o is =
        output_of (callee d' o) k
        ∙ ap (λ m. slice_get (output_refs (body_of m)) k) (sym (inside_at' p u (retarget (stand_at p) o) (instance_at p u ∙ ap (option_map (retarget (stand_at p))) is)))
        ∙ ap (λ rs. slice_get rs k) (output_refs_follow (body_of (module_at d top (u ∷ p))) (body_of (module_at d' top (u ∷ p))) (stand_at (u ∷ p)) (shape_at (u ∷ p)).edit.anchors_are)
        ∙ slice_get-map (stand_at (u ∷ p)) (output_refs (body_of (module_at d top (u ∷ p)))) k
        ∙ ap (λ m. option_map (stand_at (u ∷ p)) (slice_get (output_refs (body_of m)) k)) (inside_at p u o is)
        ∙ ap (option_map (stand_at (u ∷ p))) (sym (output_of (callee d o) k))

    -- an operation that stays has its source, with other nets in it
    pub kept_same : length d' ≡ length d → (p : Path) (j j' k : ℕ)
        → Kept (body_of (module_at d top p)) (body_of (module_at d' top p)) (stand_at p) j j'
        → source d' top (net p (result j' k)) ≡ map_source standing (source d top (net p (result j k)))
    kept_same same p j j' k stays =
        result_here d' top p j' k
        ∙ ap (result_in d' top p os' j' k) stays.op
        ∙ go (slice_get os j) refl
        ∙ ap (map_source standing) (sym (result_here d top p j k))
      where
        os : List Op
        os = body_of (module_at d top p)

        os' : List Op
        os' = body_of (module_at d' top p)

        count_same : length (instances (take j' os')) ≡ length (instances (take j os))
        count_same =
            ap length (instances_follow (take j os) (take j' os') (stand_at p) stays.before)
            ∙ length_map (retarget (stand_at p)) (instances (take j os))

        offset_same : base d' top p + body_state (state d') (take j' os') ≡ base d top p + body_state (state d) (take j os)
        offset_same =
            ap₂ (λ a b. a + b) (base_same same p)
            (ap (λ inner. body_state inner (take j' os')) (state_same same)
            ∙ body_state_follows (take j os) (take j' os') (stand_at p) stays.before (state d))

        by_sort : (o : Op) → slice_get os j ≡ Some o → Sort o.kind
            → op_in d' top p os' j' k (retarget (stand_at p) o) ≡ map_source standing (op_in d top p os j k o)
        by_sort o is (a_register f r i u) =
            simp r (ap (λ n. held_of n (result_type o k)) offset_same
            ∙ sym (map_source-held standing (base d top p + body_state (state d) (take j os)) (result_type o k)))
        by_sort o is (an_instance x r i u) =
            let at_u : slice_get (instances os) (length (instances (take j os))) ≡ Some o = instance_found os j o x is i in
            let from : copy_of (length (instances (take j' os')) ∷ p) (given_ref d' k (retarget (stand_at p) o))
            ≡ map_source standing (copy_of (length (instances (take j os)) ∷ p) (given_ref d k o)) =
            ap₂ (λ n y. copy_of (n ∷ p) y) count_same (given_same p (length (instances (take j os))) k o at_u)
            ∙ copy_same (length (instances (take j os)) ∷ p) (given_ref d k o) in
            simp (r, i) (simp i at from)
        by_sort o is (an_output r i u) = simp (r, i, u)
        by_sort o is (a_made r i u) = simp (r, i, u) (made_same p o k (result_type o k))

        go : (x : Option Op) → slice_get os j ≡ x
            → result_in d' top p os' j' k (option_map (retarget (stand_at p)) x) ≡ map_source standing (result_in d top p os j k x)
        go None is = refl
        go (Some o) is = by_sort o is (sort_of o.kind)

    -- ---- settled maps go back

    -- a settled map of the new design, seen from the old one
    pub back_settled : length d' ≡ length d
        → (inputs content : Word) (ρ : Net → Word) → ((a : Net) → ρ a ≡ reads inputs content ρ (source d' top a))
        → ((p : Path) (j k : ℕ) → (shape_at p).edit.position j ≡ None
        → word_of (λ r. ρ (net p (stand_at p r))) k (slice_get (body_of (module_at d top p)) j) ≡ Some (ρ (net p (stand_at p (result j k)))))
        → (a : Net) → ρ (standing a) ≡ reads inputs content (λ b. ρ (standing b)) (source d top a)
    back_settled same inputs content ρ settled changed a = by_ref a.path a.ref
      where
        -- where the new source is the old one with other nets in it
        stays : (p : Path) (r : Ref) → source d' top (net p (stand_at p r)) ≡ map_source standing (source d top (net p r))
            → ρ (net p (stand_at p r)) ≡ reads inputs content (λ b. ρ (standing b)) (source d top (net p r))
        stays p r is =
            settled (net p (stand_at p r)) ∙ ap (reads inputs content ρ) is
            ∙ reads-map_source inputs content ρ standing (source d top (net p r))

        by_position : (p : Path) (j k : ℕ) (x : Option ℕ) → (shape_at p).edit.position j ≡ x
            → ρ (net p (stand_at p (result j k))) ≡ reads inputs content (λ b. ρ (standing b)) (source d top (net p (result j k)))
        by_position p j k None gone =
            sym (word_read d top inputs content (λ b. ρ (standing b)) p j k (ρ (net p (stand_at p (result j k)))) (changed p j k gone))
        by_position p j k (Some j') is =
            let there : Kept (body_of (module_at d top p)) (body_of (module_at d' top p)) (stand_at p) j j' = (shape_at p).edit.kept j j' is in
            stays p (result j k) (ap (λ r. source d' top (net p r)) (there.stands k) ∙ kept_same same p j j' k there)

        by_ref : (p : Path) (r : Ref) → ρ (net p (stand_at p r)) ≡ reads inputs content (λ b. ρ (standing b)) (source d top (net p r))
        by_ref p (port j) = stays p (port j) (ap (λ r. source d' top (net p r)) ((shape_at p).edit.port_is j) ∙ port_same p j)
        by_ref p undefined = stays p undefined (ap (λ r. source d' top (net p r)) (shape_at p).edit.undefined_is)
        by_ref p (result j k) = by_position p j k ((shape_at p).edit.position j) refl
