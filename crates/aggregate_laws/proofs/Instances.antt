-- Instances: what is known of their operands and results, and where the values at their ports and results come from.
use Rattle.std.proofs.Common.{◌≡◌, ℕ, ◌+◌, ◌<◌, true, false, List, [], ◌∷◌, ◌++◌, length, map, take, flat_map, slice_get, Option, Some, None, is_some, refl, sym, ap, ap₂, ◌∙◌, append-nil, option_and_then, option_map}
use Rattle.std.proofs.lemmas.List.{length-map}
use Rattle.std.proofs.lemmas.Option.{slice_get-map}
use Rattle.wiring.proofs.Options.{option_map_some}
use Rattle.hw_model.specs.Types.{Name, HwType, leaves}
use Rattle.hw_model.specs.Kinds.{Instance}
use Rattle.hw_model.specs.Design.{Ref, Port, Op, Design, RegisterForm, find_module, instance_in, register_form, is_instance, is_register, output_refs, callee}
use Rattle.hw_model.specs.Design.Ref.{result}
use Rattle.hw_model.specs.Flat.{Path, net, instances, module_at, port_ref, input_count, copy_of, joined_ref, port_source, source}
use Rattle.hw_model.specs.Sound.{body_of, ports_of, input_types, output_types, type_in, Sound}
use Rattle.hw_model.proofs.Sorts.{instance_found}
use Rattle.hw_model.proofs.Paths.{joined_body, port_of, output_of, result_in, result_here}
use Rattle.hw_model.proofs.NetWidths.{sound_at, typed_at, input_found, chosen_instance}
use Rattle.edit_laws.specs.Edit.{is_anchor, anchors}
use Rattle.edit_laws.proofs.Anchors.{instances-anchors}
use Rattle.aggregate_laws.specs.Leaves.{leaf_start, bare_op, spread, lower_anchor, result_types}
use Rattle.aggregate_laws.specs.Lowered.{Standing, LoweredWell}
use Rattle.aggregate_laws.proofs.Lists.{filter_position}
use Rattle.aggregate_laws.proofs.Bare.{form_bare, instance_bare, is_instance_bare, is_register_bare, port_ref_bare}
use Rattle.aggregate_laws.proofs.Anchors.{register_apart, instances_by, instances_lowered, lowered_other}
use Rattle.aggregate_laws.proofs.Ports.{port_ref_leaf}
use Rattle.aggregate_laws.proofs.Paths.{low, parts_at, length_parts, instance_pair, inside, inside'}

-- ---- lists whose types are known

pub typed_here : (type_of : Ref → Option HwType) (rs : List Ref) (ts : List HwType) (n : ℕ) (r : Ref) (t : HwType) → map type_of rs ≡ map (λ (u : HwType). Some u) ts
    → slice_get rs n ≡ Some r → slice_get ts n ≡ Some t → type_of r ≡ Some t
typed_here type_of rs ts n r t same at_r at_t =
    let e : option_map type_of (slice_get rs n) ≡ option_map (λ (u : HwType). Some u) (slice_get ts n) =
    sym (slice_get-map type_of rs n) ∙ ap (λ xs. slice_get xs n) same ∙ slice_get-map (λ (u : HwType). Some u) ts n in
    let f : Some (type_of r) ≡ Some (Some t) = ap (option_map type_of) (sym at_r) ∙ e ∙ ap (option_map (λ (u : HwType). Some u)) at_t in
    cc

pub typed_length : (type_of : Ref → Option HwType) (rs : List Ref) (ts : List HwType) → map type_of rs ≡ map (λ (u : HwType). Some u) ts → length rs ≡ length ts
typed_length type_of rs ts same = sym (length-map rs type_of) ∙ ap length same ∙ length-map ts (λ (u : HwType). Some u)

instance_some : (o : Op) → is_instance o ≡ true → (i : Instance) × (instance_in o.kind ≡ Some i)
instance_some o is = go (instance_in o.kind) refl is
  where
    go : (x : Option Instance) → instance_in o.kind ≡ x → is_some x ≡ true → (i : Instance) × (instance_in o.kind ≡ Some i)
    go None none never = cc
    go (Some i) here some = (i, here)

pub instance_no_register : (o : Op) (i : Instance) → instance_in o.kind ≡ Some i → register_form o.kind ≡ None
instance_no_register o i is = go (register_form o.kind) refl
  where
    go : (x : Option RegisterForm) → register_form o.kind ≡ x → register_form o.kind ≡ None
    go None none = none
    go (Some f) here = let never : None ≡ Some i = sym (register_apart o.kind f here).0 ∙ is in cc

pub instance_anchor : (o : Op) (i : Instance) → instance_in o.kind ≡ Some i → is_anchor o ≡ true
instance_anchor o i is = simp (instance_no_register o i is, is)

-- ---- the two designs

module _ (scale : ℕ) (d d' : Design) (each : (s : Name) → LoweredWell scale (find_module d s) (find_module d' s)) (same : length d' ≡ length d) (top : Name) where
  -- an instance stands at a position
  pub instance_stands : (p : Path) (u : ℕ) (o : Op) → slice_get (instances (body_of (module_at d top p))) u ≡ Some o
      → (j : ℕ) × (i : Instance) × (slice_get (body_of (module_at d top p)) j ≡ Some o) × (instance_in o.kind ≡ Some i) × (length (instances (take j (body_of (module_at d top p)))) ≡ u)
  instance_stands p u o is =
      let found = filter_position is_instance (body_of (module_at d top p)) u o is in
      let some = instance_some o found.2 in
      (found.0, some.0, found.1, some.1, found.3)

  module _ (sound : Sound d) where
    -- the types of its operands and results are those of the ports of its module
    pub instance_operands : (p : Path) (u : ℕ) (o : Op) → slice_get (instances (body_of (module_at d top p))) u ≡ Some o
        → map (type_in (ports_of (module_at d top p)) (body_of (module_at d top p))) o.operands ≡ map (λ (t : HwType). Some t) (input_types (ports_of (module_at d top (u ∷ p))))
    instance_operands p u o is =
        let stands = instance_stands p u o is in
        let fits = (sound_at d sound top p).instances stands.0 o stands.2 stands.1 stands.3 in
        let there : module_at d top (u ∷ p) ≡ Some fits.0 =
        inside scale d d' each top p u o is ∙ ap (λ x. option_and_then (λ (i : Instance). find_module d i.symbol) x) stands.3 ∙ fits.1 in
        fits.2 ∙ ap (λ m. map (λ (t : HwType). Some t) (input_types (ports_of m))) (sym there)

    pub instance_results : (p : Path) (u : ℕ) (o : Op) → slice_get (instances (body_of (module_at d top p))) u ≡ Some o
        → result_types o ≡ output_types (ports_of (module_at d top (u ∷ p)))
    instance_results p u o is =
        let stands = instance_stands p u o is in
        let fits = (sound_at d sound top p).instances stands.0 o stands.2 stands.1 stands.3 in
        let there : module_at d top (u ∷ p) ≡ Some fits.0 =
        inside scale d d' each top p u o is ∙ ap (λ x. option_and_then (λ (i : Instance). find_module d i.symbol) x) stands.3 ∙ fits.1 in
        fits.3 ∙ ap (λ m. output_types (ports_of m)) (sym there)

    -- what it joins to an input of its module, with the type of that
    pub instance_operand : (p : Path) (u : ℕ) (o : Op) (j : ℕ) (q : Port) → slice_get (instances (body_of (module_at d top p))) u ≡ Some o
        → slice_get (ports_of (module_at d top (u ∷ p))) j ≡ Some q → q.is_output ≡ false
        → (r : Ref) × (slice_get o.operands (input_count (take j (ports_of (module_at d top (u ∷ p))))) ≡ Some r) × (type_in (ports_of (module_at d top p)) (body_of (module_at d top p)) r ≡ Some q.type)
    instance_operand p u o j q is there inward =
        typed_at (type_in (ports_of (module_at d top p)) (body_of (module_at d top p))) o.operands (input_types (ports_of (module_at d top (u ∷ p))))
        (input_count (take j (ports_of (module_at d top (u ∷ p))))) q.type (instance_operands p u o is)
        (input_found (ports_of (module_at d top (u ∷ p))) j q there inward)

    -- a leaf of an input has the leaf of what is joined to it
    pub inner_port_source : (p : Path) (u : ℕ) (o : Op) (j : ℕ) (q : Port) → slice_get (instances (body_of (module_at d top p))) u ≡ Some o
        → slice_get (ports_of (module_at d top (u ∷ p))) j ≡ Some q → q.is_output ≡ false
        → (r : Ref) → slice_get o.operands (input_count (take j (ports_of (module_at d top (u ∷ p))))) ≡ Some r
        → (i : ℕ) → i < length (leaves q.type)
        → port_source d' top (u ∷ p) (leaf_start (ports_of (module_at d top (u ∷ p))) j + i) ≡ copy_of p (slice_get (parts_at scale d d' each top p r) i)
    inner_port_source p u o j q is there inward r at_r i below =
        let pair = instance_pair scale d d' each top p u o is in
        let o' : Op = pair.0 in
        let parts : Ref → List Ref = parts_at scale d d' each top p in
        let ps : List Port = ports_of (module_at d top (u ∷ p)) in
        let j' : ℕ = leaf_start ps j + i in
        let operands : o'.operands ≡ flat_map parts o.operands = ap (λ (z : Op). z.operands) pair.2 in
        let typed = instance_operands p u o is in
        ap (copy_of p)
        (joined_body d' u j' (module_at d' top p)
        ∙ ap (λ x. option_and_then (joined_ref d' j') x) pair.1
        ∙ port_of (callee d' o') o'.operands j'
        ∙ ap (λ m. port_ref (ports_of m) o'.operands j') (sym (inside' scale d d' each top p u o' pair.1))
        ∙ sym (port_ref_bare (ports_of (module_at d' top (u ∷ p))) o'.operands j')
        ∙ ap₂ (λ P R. port_ref P R j') (low scale d d' each top (u ∷ p)).ports_are operands
        ∙ port_ref_leaf ps j q there inward parts o.operands r
        (typed_length (type_in (ports_of (module_at d top p)) (body_of (module_at d top p))) o.operands (input_types ps) typed)
        (λ n x t at_x at_t. length_parts scale d d' each top p x t (typed_here (type_in (ports_of (module_at d top p)) (body_of (module_at d top p))) o.operands (input_types ps) n x t typed at_x at_t))
        at_r (input_found ps j q there inward) i below)

  -- ---- results of instances

  module _ (p : Path) (j : ℕ) (o : Op) (x : Instance) (is : slice_get (body_of (module_at d top p)) j ≡ Some o) (inst : instance_in o.kind ≡ Some x) where
    abbrev parts_here : Ref → List Ref
    parts_here = parts_at scale d d' each top p

    abbrev position : ℕ
    position = (low scale d d' each top p).start j 0

    one_stands : Standing (body_of (module_at d top p)) (body_of (module_at d' top p)) (parts_at scale d d' each top p) j o 0 (spread (parts_at scale d d' each top p) o) ((low scale d d' each top p).start j 0)
    one_stands =
        (low scale d d' each top p).stands j o 0 (spread (parts_at scale d d' each top p) o) is (instance_anchor o x inst)
        (ap (λ xs. slice_get xs 0) (lowered_other (parts_at scale d d' each top p) o (instance_no_register o x inst)))

    pub new_instance : (o' : Op) × (slice_get (body_of (module_at d' top p)) ((low scale d d' each top p).start j 0) ≡ Some o') × (bare_op o' ≡ spread (parts_at scale d d' each top p) o)
    new_instance = option_map_some bare_op (slice_get (body_of (module_at d' top p)) ((low scale d d' each top p).start j 0)) one_stands.op

    new_is_instance : is_instance new_instance.0 ≡ true
    unfolding new_instance
    new_is_instance =
        sym (is_instance_bare new_instance.0) ∙ ap is_instance new_instance.2 ∙ instance_bare o.kind ∙ ap is_some inst

    new_no_register : is_register new_instance.0 ≡ false
    unfolding new_instance
    new_no_register =
        sym (is_register_bare new_instance.0) ∙ ap is_register new_instance.2 ∙ ap is_some (form_bare o.kind ∙ instance_no_register o x inst)

    -- it stands after as many instances
    pub count_same : length (instances (take ((low scale d d' each top p).start j 0) (body_of (module_at d' top p)))) ≡ length (instances (take j (body_of (module_at d top p))))
    unfolding one_stands
    count_same =
        let os : List Op = take j (body_of (module_at d top p)) in
        let os' : List Op = take ((low scale d d' each top p).start j 0) (body_of (module_at d' top p)) in
        let lowered : map bare_op (instances os') ≡ map (spread (parts_at scale d d' each top p)) (instances (anchors os)) =
        instances_by os' (flat_map (lower_anchor (parts_at scale d d' each top p)) (anchors os) ++ []) one_stands.before
        ∙ ap instances (append-nil (flat_map (lower_anchor (parts_at scale d d' each top p)) (anchors os)))
        ∙ instances_lowered (parts_at scale d d' each top p) (anchors os) in
        sym (length-map (instances os') bare_op) ∙ ap length lowered ∙ length-map (instances (anchors os)) (spread (parts_at scale d d' each top p))
        ∙ ap length (instances-anchors os)

    -- a result of it is a copy of what its module gives
    pub instance_source : (k' : ℕ) → source d' top (net p (result ((low scale d d' each top p).start j 0) k'))
        ≡ copy_of (length (instances (take j (body_of (module_at d top p)))) ∷ p) (slice_get (output_refs (body_of (module_at d' top (length (instances (take j (body_of (module_at d top p)))) ∷ p)))) k')
    unfolding new_instance
    instance_source k' =
        let j' : ℕ = (low scale d d' each top p).start j 0 in
        let os' : List Op = body_of (module_at d' top p) in
        let o' : Op = new_instance.0 in
        let u : ℕ = length (instances (take j (body_of (module_at d top p)))) in
        let some = instance_some o' new_is_instance in
        let at_u : slice_get (instances os') u ≡ Some o' = ap (slice_get (instances os')) (sym count_same) ∙ instance_found os' j' o' some.0 new_instance.1 some.1 in
        result_here d' top p j' k' ∙ ap (result_in d' top p os' j' k') new_instance.1
        ∙ chosen_instance (is_register o') (is_instance o') _ _ _ new_no_register new_is_instance
        ∙ ap₂ (λ n y. copy_of (n ∷ p) y) count_same
        (output_of (callee d' o') k' ∙ ap (λ m. slice_get (output_refs (body_of m)) k') (sym (inside' scale d d' each top p u o' at_u)))

    pub old_instance_source : (k : ℕ) → source d top (net p (result j k))
        ≡ copy_of (length (instances (take j (body_of (module_at d top p)))) ∷ p) (slice_get (output_refs (body_of (module_at d top (length (instances (take j (body_of (module_at d top p)))) ∷ p)))) k)
    old_instance_source k =
        let os : List Op = body_of (module_at d top p) in
        let u : ℕ = length (instances (take j (body_of (module_at d top p)))) in
        result_here d top p j k ∙ ap (result_in d top p os j k) is
        ∙ chosen_instance (is_register o) (is_instance o) _ _ _ (ap is_some (instance_no_register o x inst)) (ap is_some inst)
        ∙ ap (copy_of (u ∷ p))
        (output_of (callee d o) k ∙ ap (λ m. slice_get (output_refs (body_of m)) k) (sym (inside scale d d' each top p u o (instance_found os j o x is inst))))
