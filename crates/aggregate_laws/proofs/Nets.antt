-- A settled map of the design with leaves, seen from the design before: each value is its leaves joined.
use Rattle.std.proofs.Common.{◌≡◌, ℕ, zero, suc, ◌+◌, ◌<◌, Bool, true, false, cond, List, [], ◌∷◌, ◌++◌, length, map, take, drop, flat_map, slice_get, Option, Some, None, is_some, refl, sym, ap, ap₂}
use Rattle.std.proofs.Common.{subst, ◌∙◌, arith, zero-add, option_and_then, option_map}
use Rattle.std.proofs.lemmas.List.{drop-drop}
use Rattle.std.proofs.lemmas.Option.{slice_get-map, slice_get_within}
use Rattle.wiring.proofs.Options.{option_map_some, option_map_none}
use Rattle.wiring.proofs.Lists.{map-map}
use Rattle.bits_core.specs.Word.{Word, first}
use Rattle.hw_model.specs.Types.{Name, HwType, width, leaves}
use Rattle.hw_model.specs.Kinds.{Kind, Instance}
use Rattle.hw_model.specs.Kinds.Kind.{output}
use Rattle.hw_model.specs.Value.{concat_words, op_value}
use Rattle.hw_model.specs.Design.{Ref, Port, Op, Design, RegisterForm, find_module, instance_in, register_form, is_output_kind, is_instance, is_register, is_output_op, result_type, output_refs, callee}
use Rattle.hw_model.specs.Design.Ref.{port, result, undefined}
use Rattle.hw_model.specs.Flat.{Path, Net, net, instances, module_at, base, body_state, state, input_count, input_width, input_of, operand_for, copy_of, joined_ref, held_of, made_of, source, port_ref}
use Rattle.hw_model.specs.Flat.Source.{nowhere, input, held}
use Rattle.hw_model.specs.Sound.{body_of, ports_of, type_in, Sound, Fits}
use Rattle.hw_model.proofs.Content.{body_state-append}
use Rattle.hw_model.proofs.Sorts.{Sort, sort_of, instance_found}
use Rattle.hw_model.proofs.Sorts.Sort.{a_register, an_instance, an_output, a_made}
use Rattle.hw_model.proofs.Paths.{module_inside, input_ports, joined_body, port_of, op_in, result_in, result_here}
use Rattle.hw_model.proofs.NetWidths.{sound_at, typed_at}
use Rattle.edit_laws.specs.Edit.{is_anchor, anchors, result_word}
use Rattle.edit_laws.proofs.Anchors.{body_state-anchors}
use Rattle.edit_laws.proofs.OtherOperands.{reads}
use Rattle.aggregate_laws.specs.Leaves.{in_row, leaf_port, leaf_start, parts_of_port, bare, bare_kind, bare_op, leaf_operands, leaf_registers, leaves_of, lower_anchor, result_types, result_start}
use Rattle.aggregate_laws.specs.Lowered.{whole, Standing, LoweredWell}
use Rattle.aggregate_laws.proofs.Lists.{map-in_row, map-is-in_row, flat_map_at, flat_map_lengths}
use Rattle.aggregate_laws.proofs.Words.{widths, leaves_width, joined_rule}
use Rattle.aggregate_laws.proofs.Bare.{form_bare, is_register_bare, type_bare, type_listed, input_bare}
use Rattle.aggregate_laws.proofs.Anchors.{lowered_register, bare_form, bare_apart, leaf_register_at, take-leaf_registers, leaf_state, state_by, state_lowered, output_refs_follow}
use Rattle.aggregate_laws.proofs.Ports.{leaf_port_at, width_before}
use Rattle.aggregate_laws.proofs.Paths.{low, parts_at, length_parts, state_same, base_same, inside}
use Rattle.aggregate_laws.proofs.Instances.{typed_here, typed_length, instance_results, instance_operand, inner_port_source, instance_source, old_instance_source}

pub chosen_first : {A : Type 0} (b : Bool) (x y : A) → b ≡ true → cond b x y ≡ x
chosen_first true x y is = refl
chosen_first false x y is = cc

pub chosen_output : {A : Type 0} (a b c : Bool) (w x y z : A) → a ≡ false → b ≡ false → c ≡ true → cond a w (cond b x (cond c y z)) ≡ y
chosen_output false false true w x y z h i k = refl
chosen_output true b c w x y z h i k = cc
chosen_output false true c w x y z h i k = cc
chosen_output false false false w x y z h i k = cc

pub chosen_made : {A : Type 0} (a b c : Bool) (w x y z : A) → a ≡ false → b ≡ false → c ≡ false → cond a w (cond b x (cond c y z)) ≡ z
chosen_made false false false w x y z h i k = refl
chosen_made true b c w x y z h i k = cc
chosen_made false true c w x y z h i k = cc
chosen_made false false true w x y z h i k = cc

-- an output has no results
pub no_result : (kind : Kind) (ts : List HwType) (xs : List (Option HwType)) (t : HwType) (k : ℕ) → is_output_kind kind ≡ true → Fits kind ts xs t k → ⊥
no_result output ts xs t k is fits = fits
no_result kind ts xs t k is fits = cc

module _ (scale : ℕ) (d d' : Design) (each : (s : Name) → LoweredWell scale (find_module d s) (find_module d' s)) (same : length d' ≡ length d) (top : Name) where
  -- the words of values whose leaves the map has
  abbrev pub back : (Net → Word) → Net → Word
  back ρ a = whole (parts_at scale d d' each top a.path) (λ r. ρ (net a.path r)) a.ref

  -- ---- registers

  module _ (p : Path) (j : ℕ) (o : Op) (f : RegisterForm) (t : HwType) (is : slice_get (body_of (module_at d top p)) j ≡ Some o)
      (form : register_form o.kind ≡ Some f) (typed : result_type o 0 ≡ Some t) where
    abbrev leaf_given : ℕ → List Ref
    leaf_given = leaf_operands f.has_enable f.reset (map (parts_at scale d d' each top p) o.operands)

    all_leaves : lower_anchor (parts_at scale d d' each top p) o ≡ leaf_registers (bare_kind o.kind) leaf_given 0 (leaves t)
    all_leaves =
        lowered_register (parts_at scale d d' each top p) o f form ∙ ap (λ y. leaf_registers (bare_kind o.kind) leaf_given 0 (leaves_of y)) typed

    leaf_of_register : (i : ℕ) (u : HwType) → slice_get (leaves t) i ≡ Some u
        → slice_get (lower_anchor (parts_at scale d d' each top p) o) i ≡ Some (bare (bare_kind o.kind) (leaf_given (0 + i)) (u ∷ []))
    leaf_of_register i u at_u =
        ap (λ xs. slice_get xs i) all_leaves ∙ leaf_register_at (bare_kind o.kind) leaf_given (leaves t) 0 i u at_u

    -- a leaf has its bits of the content
    pub leaf_source : (i : ℕ) (u : HwType) → slice_get (leaves t) i ≡ Some u
        → source d' top (net p (result ((low scale d d' each top p).start j i) 0))
        ≡ held (base d top p + body_state (state d) (take j (body_of (module_at d top p))) + widths (take i (leaves t))) (width u)
    leaf_source i u at_u =
        result_here d' top p j' 0 ∙ ap (result_in d' top p os' j' 0) new.1
        ∙ chosen_first (is_register new.0) _ _ register_new
        ∙ ap₂ held_of offset type_new
      where
        os : List Op
        os = body_of (module_at d top p)

        os' : List Op
        os' = body_of (module_at d' top p)

        parts : Ref → List Ref
        parts = parts_at scale d d' each top p

        j' : ℕ
        j' = (low scale d d' each top p).start j i

        stands : Standing (body_of (module_at d top p)) (body_of (module_at d' top p)) (parts_at scale d d' each top p) j o i
            (bare (bare_kind o.kind) (leaf_given (0 + i)) (u ∷ [])) ((low scale d d' each top p).start j i)
        stands = (low scale d d' each top p).stands j o i (bare (bare_kind o.kind) (leaf_given (0 + i)) (u ∷ [])) is (simp form) (leaf_of_register i u at_u)

        new : (o' : Op) × (slice_get (body_of (module_at d' top p)) ((low scale d d' each top p).start j i) ≡ Some o')
            × (bare_op o' ≡ bare (bare_kind o.kind) (leaf_given (0 + i)) (u ∷ []))
        new = option_map_some bare_op (slice_get (body_of (module_at d' top p)) ((low scale d d' each top p).start j i)) stands.op

        register_new : is_register new.0 ≡ true
        register_new = sym (is_register_bare new.0) ∙ ap is_register new.2 ∙ ap is_some (form_bare o.kind ∙ form)

        type_new : result_type new.0 0 ≡ Some u
        type_new = sym (type_bare new.0 0) ∙ ap (λ (z : Op). result_type z 0) new.2

        state_here : body_state (state d') (take ((low scale d d' each top p).start j i) (body_of (module_at d' top p)))
            ≡ body_state (state d) (take j (body_of (module_at d top p))) + widths (take i (leaves t))
        state_here =
            ap (λ inner. body_state inner (take ((low scale d d' each top p).start j i) (body_of (module_at d' top p)))) (state_same scale d d' each same)
            ∙ state_by (take ((low scale d d' each top p).start j i) (body_of (module_at d' top p)))
            (flat_map (lower_anchor (parts_at scale d d' each top p)) (anchors (take j (body_of (module_at d top p)))) ++ take i (lower_anchor (parts_at scale d d' each top p) o))
            stands.before (state d)
            ∙ body_state-append (state d) (flat_map (lower_anchor (parts_at scale d d' each top p)) (anchors (take j (body_of (module_at d top p))))) (take i (lower_anchor (parts_at scale d d' each top p) o))
            ∙ ap₂ (λ a b. a + b)
            (state_lowered (parts_at scale d d' each top p) (state d) (anchors (take j (body_of (module_at d top p)))) ∙ body_state-anchors (state d) (take j (body_of (module_at d top p))))
            (ap (λ xs. body_state (state d) (take i xs)) all_leaves
            ∙ ap (body_state (state d)) (take-leaf_registers (bare_kind o.kind) leaf_given i 0 (leaves t))
            ∙ leaf_state (bare_kind o.kind) f (bare_form (parts_at scale d d' each top p) o f form) (bare_apart (parts_at scale d d' each top p) o f form).0
            (bare_apart (parts_at scale d d' each top p) o f form).1 leaf_given (state d) 0 (take i (leaves t)))

        offset : base d' top p + body_state (state d') (take ((low scale d d' each top p).start j i) (body_of (module_at d' top p)))
            ≡ base d top p + body_state (state d) (take j (body_of (module_at d top p))) + widths (take i (leaves t))
        offset =
            let first_part : base d' top p ≡ base d top p = base_same scale d d' each top same p in
            let second : body_state (state d') (take ((low scale d d' each top p).start j i) (body_of (module_at d' top p)))
            ≡ body_state (state d) (take j (body_of (module_at d top p))) + widths (take i (leaves t)) = state_here in
            omega arith

  -- ---- settled maps

  module _ (sound : Sound d) (inputs content : Word) (ρ : Net → Word) (settled : (a : Net) → ρ a ≡ reads inputs content ρ (source d' top a))
      (words : (p : Path) (j : ℕ) (o : Op) (k : ℕ) (t : HwType) → slice_get (body_of (module_at d top p)) j ≡ Some o → is_anchor o ≡ false → result_type o k ≡ Some t
      → result_word (whole (parts_at scale d d' each top p) (λ r. ρ (net p r))) o k (Some t) ≡ whole (parts_at scale d d' each top p) (λ r. ρ (net p r)) (result j k)) where
    -- the word of a list of values at the end of a path
    abbrev joined : Path → List Ref → Word
    joined p rs = concat_words (map (λ r. ρ (net p r)) rs)

    -- a value without a type has no bits
    nothing : (p : Path) (r : Ref) → type_in (ports_of (module_at d top p)) (body_of (module_at d top p)) r ≡ None → joined p (parts_at scale d d' each top p r) ≡ []
    nothing p r none = ap (joined p) ((low scale d d' each top p).untyped r none)

    -- ---- ports

    port_top : (j : ℕ) → back ρ (net [] (port j)) ≡ reads inputs content (back ρ) (source d top (net [] (port j)))
    port_top j =
        ap (joined []) ((low scale d d' each top []).port_is j) ∙ go (slice_get (ports_of (find_module d top)) j) refl
        ∙ ap (reads inputs content (back ρ)) (sym (input_ports j (find_module d top)))
      where
        ps : List Port
        ps = ports_of (find_module d top)

        start : ℕ
        start = leaf_start (ports_of (find_module d top)) j

        from : ℕ
        from = input_width (take j (ports_of (find_module d top)))

        leaf_read : (q : Port) → slice_get (ports_of (find_module d top)) j ≡ Some q → q.is_output ≡ false → (i : ℕ) (t : HwType) → slice_get (leaves q.type) i ≡ Some t
            → ρ (net [] (port (leaf_start (ports_of (find_module d top)) j + i)))
            ≡ first (width t) (drop (widths (take i (leaves q.type))) (drop (input_width (take j (ports_of (find_module d top)))) inputs))
        leaf_read q is inward i t at_t =
            let within : i < length (leaves q.type) = slice_get_within (leaves q.type) i t at_t in
            settled (net [] (port (leaf_start (ports_of (find_module d top)) j + i)))
            ∙ ap (reads inputs content ρ)
            (input_ports (leaf_start (ports_of (find_module d top)) j + i) (find_module d' top)
            ∙ sym (input_bare (ports_of (find_module d' top)) (leaf_start (ports_of (find_module d top)) j + i))
            ∙ ap (λ P. input_of (slice_get P (leaf_start (ports_of (find_module d top)) j + i)) (input_width (take (leaf_start (ports_of (find_module d top)) j + i) P))) (low scale d d' each top []).ports_are
            ∙ ap₂ input_of (leaf_port_at (ports_of (find_module d top)) j q is i t at_t ∙ ap (λ b. Some (leaf_port b t)) inward)
            (width_before (ports_of (find_module d top)) j q is inward i (omega arith)))
            ∙ ap (first (width t)) (sym (drop-drop (widths (take i (leaves q.type))) (input_width (take j (ports_of (find_module d top)))) inputs))

        by_way : (q : Port) → slice_get (ports_of (find_module d top)) j ≡ Some q → (b : Bool) → q.is_output ≡ b
            → joined [] (cond b [] (in_row port (leaf_start (ports_of (find_module d top)) j) (length (leaves q.type))))
            ≡ reads inputs content (back ρ) (cond b nowhere (input (input_width (take j (ports_of (find_module d top)))) (width q.type)))
        by_way q is true way = refl
        by_way q is false way =
            ap concat_words (map-in_row (λ r. ρ (net [] r)) port (leaf_start (ports_of (find_module d top)) j) (length (leaves q.type)))
            ∙ joined_rule (leaves q.type) (drop (input_width (take j (ports_of (find_module d top)))) inputs) (λ i. ρ (net [] (port i))) (leaf_start (ports_of (find_module d top)) j) (leaf_read q is way)
            ∙ ap (λ w. first w (drop (input_width (take j (ports_of (find_module d top)))) inputs)) (leaves_width q.type)

        go : (x : Option Port) → slice_get (ports_of (find_module d top)) j ≡ x
            → joined [] (parts_of_port (leaf_start (ports_of (find_module d top)) j) x) ≡ reads inputs content (back ρ) (input_of x (input_width (take j (ports_of (find_module d top)))))
        go None is = refl
        go (Some q) is = by_way q is q.is_output refl

    port_inside : (u : ℕ) (p : Path) (j : ℕ) → back ρ (net (u ∷ p) (port j)) ≡ reads inputs content (back ρ) (source d top (net (u ∷ p) (port j)))
    port_inside u p j =
        ap (joined (u ∷ p)) ((low scale d d' each top (u ∷ p)).port_is j)
        ∙ go (slice_get (instances (body_of (module_at d top p))) u) refl
        ∙ ap (λ x. reads inputs content (back ρ) (copy_of p x)) (sym (joined_body d u j (module_at d top p)))
      where
        -- a leaf of the port has the word of the leaf of the operand
        leaf_same : (o : Op) (q : Port) → slice_get (instances (body_of (module_at d top p))) u ≡ Some o → slice_get (ports_of (module_at d top (u ∷ p))) j ≡ Some q → q.is_output ≡ false
            → (r : Ref) → slice_get o.operands (input_count (take j (ports_of (module_at d top (u ∷ p))))) ≡ Some r
            → type_in (ports_of (module_at d top p)) (body_of (module_at d top p)) r ≡ Some q.type
            → (i : ℕ) (r' : Ref) → slice_get (parts_at scale d d' each top p r) i ≡ Some r' → ρ (net p r') ≡ ρ (net (u ∷ p) (port (leaf_start (ports_of (module_at d top (u ∷ p))) j + i)))
        leaf_same o q is there inward r at_r typed i r' at_i =
            let within : i < length (leaves q.type) = subst (λ n. i < n) (length_parts scale d d' each top p r q.type typed) (slice_get_within (parts_at scale d d' each top p r) i r' at_i) in
            sym (settled (net (u ∷ p) (port (leaf_start (ports_of (module_at d top (u ∷ p))) j + i)))
            ∙ ap (reads inputs content ρ) (inner_port_source scale d d' each same top sound p u o j q is there inward r at_r i within ∙ ap (copy_of p) at_i))

        by_way : (o : Op) (q : Port) → slice_get (instances (body_of (module_at d top p))) u ≡ Some o → slice_get (ports_of (module_at d top (u ∷ p))) j ≡ Some q → (b : Bool) → q.is_output ≡ b
            → joined (u ∷ p) (cond b [] (in_row port (leaf_start (ports_of (module_at d top (u ∷ p))) j) (length (leaves q.type))))
            ≡ reads inputs content (back ρ) (copy_of p (cond b None (slice_get o.operands (input_count (take j (ports_of (module_at d top (u ∷ p))))))))
        by_way o q is there true way = refl
        by_way o q is there false way =
            let operand = instance_operand scale d d' each same top sound p u o j q is there way in
            ap concat_words (map-in_row (λ r. ρ (net (u ∷ p) r)) port (leaf_start (ports_of (module_at d top (u ∷ p))) j) (length (leaves q.type)))
            ∙ ap concat_words (sym (map-is-in_row (λ r. ρ (net p r)) (parts_at scale d d' each top p operand.0) (λ i. ρ (net (u ∷ p) (port i)))
            (leaf_start (ports_of (module_at d top (u ∷ p))) j) (length (leaves q.type)) (length_parts scale d d' each top p operand.0 q.type operand.2)
            (leaf_same o q is there way operand.0 operand.1 operand.2)))
            ∙ ap (λ x. reads inputs content (back ρ) (copy_of p x)) (sym operand.1)

        by_port : (o : Op) → slice_get (instances (body_of (module_at d top p))) u ≡ Some o → (x : Option Port) → slice_get (ports_of (module_at d top (u ∷ p))) j ≡ x
            → joined (u ∷ p) (parts_of_port (leaf_start (ports_of (module_at d top (u ∷ p))) j) x)
            ≡ reads inputs content (back ρ) (copy_of p (operand_for x o.operands (input_count (take j (ports_of (module_at d top (u ∷ p)))))))
        by_port o is None there = refl
        by_port o is (Some q) there = by_way o q is there q.is_output refl

        no_ports : slice_get (instances (body_of (module_at d top p))) u ≡ None → ports_of (module_at d top (u ∷ p)) ≡ []
        no_ports none = ap ports_of (module_inside d u (module_at d top p) ∙ ap (λ x. option_and_then (callee d) x) none)

        go : (x : Option Op) → slice_get (instances (body_of (module_at d top p))) u ≡ x
            → joined (u ∷ p) (parts_of_port (leaf_start (ports_of (module_at d top (u ∷ p))) j) (slice_get (ports_of (module_at d top (u ∷ p))) j))
            ≡ reads inputs content (back ρ) (copy_of p (option_and_then (joined_ref d j) x))
        go None none = ap (λ ps. joined (u ∷ p) (parts_of_port (leaf_start ps j) (slice_get ps j))) (no_ports none)
        go (Some o) is =
            by_port o is (slice_get (ports_of (module_at d top (u ∷ p))) j) refl
            ∙ ap (λ x. reads inputs content (back ρ) (copy_of p x))
            (ap (λ m. port_ref (ports_of m) o.operands j) (inside scale d d' each top p u o is) ∙ sym (port_of (callee d o) o.operands j))

    -- ---- results

    by_register : (p : Path) (j k : ℕ) (o : Op) (f : RegisterForm) → slice_get (body_of (module_at d top p)) j ≡ Some o → register_form o.kind ≡ Some f
        → (x : Option HwType) → result_type o k ≡ x
        → joined p (parts_at scale d d' each top p (result j k)) ≡ reads inputs content (back ρ) (held_of (base d top p + body_state (state d) (take j (body_of (module_at d top p)))) x)
    by_register p j k o f is form None typed = nothing p (result j k) (ap (λ y. option_and_then (λ (z : Op). result_type z k) y) is ∙ typed)
    by_register p j (suc k) o f is form (Some t) typed =
        let never : None ≡ Some t = sym ((low scale d d' each top p).register_has_one j o k is (ap is_some form)) ∙ typed in cc
    by_register p j zero o f is form (Some t) typed =
        ap (joined p) ((low scale d d' each top p).register_is j o t is (ap is_some form) typed)
        ∙ ap concat_words (map-in_row (λ r. ρ (net p r)) (λ i. result ((low scale d d' each top p).start j i) 0) 0 (length (leaves t)))
        ∙ joined_rule (leaves t) (drop from content) (λ i. ρ (net p (result ((low scale d d' each top p).start j i) 0))) 0 each_leaf
        ∙ ap (λ w. first w (drop from content)) (leaves_width t)
      where
        from : ℕ
        from = base d top p + body_state (state d) (take j (body_of (module_at d top p)))

        each_leaf : (i : ℕ) (u : HwType) → slice_get (leaves t) i ≡ Some u
            → ρ (net p (result ((low scale d d' each top p).start j (0 + i)) 0))
            ≡ first (width u) (drop (widths (take i (leaves t))) (drop (base d top p + body_state (state d) (take j (body_of (module_at d top p)))) content))
        each_leaf i u at_u =
            ap (λ n. ρ (net p (result ((low scale d d' each top p).start j n) 0))) (zero-add i)
            ∙ settled (net p (result ((low scale d d' each top p).start j i) 0))
            ∙ ap (reads inputs content ρ) (leaf_source p j o f t is form typed i u at_u)
            ∙ ap (first (width u)) (sym (drop-drop (widths (take i (leaves t))) (base d top p + body_state (state d) (take j (body_of (module_at d top p)))) content))

    by_instance : (p : Path) (j k : ℕ) (o : Op) (n : Instance) → slice_get (body_of (module_at d top p)) j ≡ Some o → instance_in o.kind ≡ Some n
        → (x : Option HwType) → result_type o k ≡ x
        → joined p (parts_at scale d d' each top p (result j k)) ≡ reads inputs content (back ρ) (source d top (net p (result j k)))
    by_instance p j k o n is inst x typed = go x typed ∙ ap (reads inputs content (back ρ)) (sym (old_instance_source scale d d' each same top p j o n is inst k))
      where
        u : ℕ
        u = length (instances (take j (body_of (module_at d top p))))

        outs : List Ref
        outs = output_refs (body_of (module_at d top (length (instances (take j (body_of (module_at d top p)))) ∷ p)))

        at_u : slice_get (instances (body_of (module_at d top p))) (length (instances (take j (body_of (module_at d top p))))) ≡ Some o
        at_u = instance_found (body_of (module_at d top p)) j o n is inst

        given_typed : map (type_in (ports_of (module_at d top (length (instances (take j (body_of (module_at d top p)))) ∷ p))) (body_of (module_at d top (length (instances (take j (body_of (module_at d top p)))) ∷ p))))
            (output_refs (body_of (module_at d top (length (instances (take j (body_of (module_at d top p)))) ∷ p)))) ≡ map (λ (t : HwType). Some t) (result_types o)
        given_typed =
            (sound_at d sound top (length (instances (take j (body_of (module_at d top p)))) ∷ p)).outputs
            ∙ ap (map (λ (t : HwType). Some t)) (sym (instance_results scale d d' each same top sound p (length (instances (take j (body_of (module_at d top p))))) o at_u))

        none_given : result_type o k ≡ None → slice_get (output_refs (body_of (module_at d top (length (instances (take j (body_of (module_at d top p)))) ∷ p)))) k ≡ None
        none_given none =
            option_map_none (type_in (ports_of (module_at d top (length (instances (take j (body_of (module_at d top p)))) ∷ p))) (body_of (module_at d top (length (instances (take j (body_of (module_at d top p)))) ∷ p))))
            (slice_get (output_refs (body_of (module_at d top (length (instances (take j (body_of (module_at d top p)))) ∷ p)))) k)
            (sym (slice_get-map (type_in (ports_of (module_at d top (length (instances (take j (body_of (module_at d top p)))) ∷ p))) (body_of (module_at d top (length (instances (take j (body_of (module_at d top p)))) ∷ p))))
            (output_refs (body_of (module_at d top (length (instances (take j (body_of (module_at d top p)))) ∷ p)))) k)
            ∙ ap (λ xs. slice_get xs k) given_typed ∙ slice_get-map (λ (t : HwType). Some t) (result_types o) k ∙ ap (option_map (λ (t : HwType). Some t)) (sym (type_listed o k) ∙ none))

        go : (x : Option HwType) → result_type o k ≡ x
            → joined p (parts_at scale d d' each top p (result j k))
            ≡ reads inputs content (back ρ) (copy_of (length (instances (take j (body_of (module_at d top p)))) ∷ p) (slice_get (output_refs (body_of (module_at d top (length (instances (take j (body_of (module_at d top p)))) ∷ p)))) k))
        go None none =
            nothing p (result j k) (ap (λ y. option_and_then (λ (z : Op). result_type z k) y) is ∙ none)
            ∙ ap (λ y. reads inputs content (back ρ) (copy_of (length (instances (take j (body_of (module_at d top p)))) ∷ p) y)) (sym (none_given none))
        go (Some t) some =
            ap (joined p) ((low scale d d' each top p).instance_is j o k t is (ap is_some inst) some)
            ∙ ap concat_words (map-in_row (λ r. ρ (net p r)) (result ((low scale d d' each top p).start j 0)) (result_start o k) (length (leaves t)))
            ∙ ap concat_words (sym (map-is-in_row (λ r. ρ (net path r)) (parts_at scale d d' each top path out.0) (λ i. ρ (net p (result ((low scale d d' each top p).start j 0) i)))
            (result_start o k) (length (leaves t)) (length_parts scale d d' each top path out.0 t out.2) leaf_same))
            ∙ ap (λ y. reads inputs content (back ρ) (copy_of path y)) (sym out.1)
          where
            path : Path
            path = length (instances (take j (body_of (module_at d top p)))) ∷ p

            out : (r : Ref) × (slice_get (output_refs (body_of (module_at d top path))) k ≡ Some r) × (type_in (ports_of (module_at d top path)) (body_of (module_at d top path)) r ≡ Some t)
            out =
                typed_at (type_in (ports_of (module_at d top path)) (body_of (module_at d top path))) (output_refs (body_of (module_at d top path))) (result_types o) k t given_typed
                (sym (type_listed o k) ∙ some)

            begins : result_start o k ≡ length (flat_map (parts_at scale d d' each top path) (take k (output_refs (body_of (module_at d top path)))))
            begins =
                sym (flat_map_lengths (parts_at scale d d' each top path) leaves (output_refs (body_of (module_at d top path))) (result_types o)
                (typed_length (type_in (ports_of (module_at d top path)) (body_of (module_at d top path))) (output_refs (body_of (module_at d top path))) (result_types o) given_typed)
                (λ m r v at_r at_v. length_parts scale d d' each top path r v
                (typed_here (type_in (ports_of (module_at d top path)) (body_of (module_at d top path))) (output_refs (body_of (module_at d top path))) (result_types o) m r v given_typed at_r at_v)) k)

            leaf_same : (i : ℕ) (r' : Ref) → slice_get (parts_at scale d d' each top path out.0) i ≡ Some r' → ρ (net path r') ≡ ρ (net p (result ((low scale d d' each top p).start j 0) (result_start o k + i)))
            leaf_same i r' at_i =
                let given : slice_get (output_refs (body_of (module_at d' top path))) (result_start o k + i) ≡ Some r' =
                ap₂ slice_get (output_refs_follow (body_of (module_at d top path)) (body_of (module_at d' top path)) (parts_at scale d d' each top path) (low scale d d' each top path).anchors_are)
                (ap (λ m. m + i) begins)
                ∙ flat_map_at (parts_at scale d d' each top path) (output_refs (body_of (module_at d top path))) k i out.0 out.1 (slice_get_within (parts_at scale d d' each top path out.0) i r' at_i)
                ∙ at_i in
                sym (settled (net p (result ((low scale d d' each top p).start j 0) (result_start o k + i)))
                ∙ ap (reads inputs content ρ) (instance_source scale d d' each same top p j o n is inst (result_start o k + i) ∙ ap (copy_of path) given))

    by_output : (p : Path) (j k : ℕ) (o : Op) → slice_get (body_of (module_at d top p)) j ≡ Some o → is_output_kind o.kind ≡ true
        → (x : Option HwType) → result_type o k ≡ x → joined p (parts_at scale d d' each top p (result j k)) ≡ []
    by_output p j k o is out None none = nothing p (result j k) (ap (λ y. option_and_then (λ (z : Op). result_type z k) y) is ∙ none)
    by_output p j k o is out (Some t) typed =
        absurd (no_result o.kind o.types (map (type_in (ports_of (module_at d top p)) (body_of (module_at d top p))) o.operands) t k out ((sound_at d sound top p).ops j o is k t typed))

    by_made : (p : Path) (j k : ℕ) (o : Op) → slice_get (body_of (module_at d top p)) j ≡ Some o → is_anchor o ≡ false
        → (x : Option HwType) → result_type o k ≡ x
        → joined p (parts_at scale d d' each top p (result j k)) ≡ reads inputs content (back ρ) (made_of p o k x)
    by_made p j k o is plain None none = nothing p (result j k) (ap (λ y. option_and_then (λ (z : Op). result_type z k) y) is ∙ none)
    by_made p j k o is plain (Some t) typed =
        sym (words p j o k t is plain typed)
        ∙ ap (λ xs. result_word_of o k t xs) (sym (map-map (back ρ) (net p) o.operands))
      where
        result_word_of : Op → ℕ → HwType → List Word → Word
        result_word_of o k t xs = op_value o.kind o.types t k xs

    result_case : (p : Path) (j k : ℕ) → back ρ (net p (result j k)) ≡ reads inputs content (back ρ) (source d top (net p (result j k)))
    result_case p j k = go (slice_get (body_of (module_at d top p)) j) refl
      where
        here : (o : Op) → slice_get (body_of (module_at d top p)) j ≡ Some o → source d top (net p (result j k)) ≡ op_in d top p (body_of (module_at d top p)) j k o
        here o is = result_here d top p j k ∙ ap (result_in d top p (body_of (module_at d top p)) j k) is

        by_sort : (o : Op) → slice_get (body_of (module_at d top p)) j ≡ Some o → Sort o.kind
            → back ρ (net p (result j k)) ≡ reads inputs content (back ρ) (source d top (net p (result j k)))
        by_sort o is (a_register f r i u) =
            by_register p j k o f is r (result_type o k) refl
            ∙ ap (reads inputs content (back ρ)) (sym (here o is ∙ chosen_first (is_register o) _ _ (ap is_some r)))
        by_sort o is (an_instance n r i u) = by_instance p j k o n is i (result_type o k) refl
        by_sort o is (an_output r i u) =
            by_output p j k o is u (result_type o k) refl
            ∙ ap (reads inputs content (back ρ)) (sym (here o is ∙ chosen_output (is_register o) (is_instance o) (is_output_op o) _ _ _ _ (ap is_some r) (ap is_some i) u))
        by_sort o is (a_made r i u) =
            by_made p j k o is (simp (r, i, u)) (result_type o k) refl
            ∙ ap (reads inputs content (back ρ)) (sym (here o is ∙ chosen_made (is_register o) (is_instance o) (is_output_op o) _ _ _ _ (ap is_some r) (ap is_some i) u))

        go : (x : Option Op) → slice_get (body_of (module_at d top p)) j ≡ x → back ρ (net p (result j k)) ≡ reads inputs content (back ρ) (source d top (net p (result j k)))
        go None none =
            nothing p (result j k) (ap (λ y. option_and_then (λ (z : Op). result_type z k) y) none)
            ∙ ap (reads inputs content (back ρ)) (sym (result_here d top p j k ∙ ap (result_in d top p (body_of (module_at d top p)) j k) none))
        go (Some o) is = by_sort o is (sort_of o.kind)

    -- each value, as its leaves joined, has what its own operation says
    pub back_settled : (a : Net) → back ρ a ≡ reads inputs content (back ρ) (source d top a)
    back_settled a = go a.path a.ref
      where
        go : (p : Path) (r : Ref) → back ρ (net p r) ≡ reads inputs content (back ρ) (source d top (net p r))
        go [] (port j) = port_top j
        go (u ∷ p) (port j) = port_inside u p j
        go p (result j k) = result_case p j k
        go p undefined = nothing p undefined refl
