-- The nets of a design with the leaves of another's values have heights where the other's have.
use Rattle.std.proofs.Common.{◌≡◌, ℕ, suc, ◌+◌, ◌-◌, ◌*◌, ◌<◌, ◌≤◌, Bool, true, false, cond, List, [], ◌∷◌, length, map, take, flat_map, slice_get, Option, Some, None, is_some, refl, sym, ap, ap₂}
use Rattle.std.proofs.Common.{subst, ◌∙◌, inl, inr, arith, suc-mul, option_and_then, option_map}
use Rattle.std.proofs.Math.Nat.{mul-le-mul}
use Rattle.std.proofs.lemmas.Option.{slice_get-map, slice_get_within}
use Rattle.wiring.specs.Wiring.{In, IsHeight}
use Rattle.wiring.proofs.Options.{and_then_some, option_map_some}
use Rattle.wiring.proofs.Members.{In-slice_get, from_In-map}
use Rattle.wiring.proofs.Heights.{heights, FallsAlong-height}
use Rattle.hw_model.specs.Types.{Name, HwType, width, leaves}
use Rattle.hw_model.specs.Kinds.{Instance}
use Rattle.hw_model.specs.Design.{Ref, Port, Op, Design, find_module, instance_in, register_form, is_instance, is_register, is_output_op, result_type, output_refs, callee}
use Rattle.hw_model.specs.Design.Ref.{port, result, undefined}
use Rattle.hw_model.specs.Flat.{Path, Net, net, instances, module_at, base, body_state, state, port_ref, operand_for, input_count, input_width, input_of, copy_of, joined_ref, joined_at, held_of, made_of, source}
use Rattle.hw_model.specs.Flat.Source.{nowhere, input, copy}
use Rattle.hw_model.specs.Meaning.{needs_of, needs, HasHeights}
use Rattle.hw_model.specs.Sound.{body_of, ports_of, input_types, type_in, Sound}
use Rattle.hw_model.proofs.Sorts.{Sort, sort_of, instance_found}
use Rattle.hw_model.proofs.Sorts.Sort.{a_register, an_instance, an_output, a_made}
use Rattle.hw_model.proofs.Paths.{input_ports, joined_body, port_of, op_in, result_in, result_here}
use Rattle.hw_model.proofs.NetWidths.{sound_at, input_found}
use Rattle.edit_laws.specs.Edit.{is_anchor}
use Rattle.edit_laws.proofs.Heights.{local_height}
use Rattle.aggregate_laws.specs.Leaves.{in_row, leaf_ports, leaf_start, parts_of_port, bare_op, spread, result_types, result_start}
use Rattle.aggregate_laws.specs.Lowered.{LoweredWell}
use Rattle.aggregate_laws.proofs.Lists.{In-in_row, flat_map_position, flat_map_lengths}
use Rattle.aggregate_laws.proofs.Bare.{called_symbol, called_bare, form_bare, port_ref_bare, type_listed}
use Rattle.aggregate_laws.proofs.Anchors.{register_apart, output_refs_follow}
use Rattle.aggregate_laws.proofs.Ports.{joined_port, port_ref_leaf}
use Rattle.aggregate_laws.proofs.Paths.{at, low, parts_at, length_parts, instance_back, inside, inside'}
use Rattle.aggregate_laws.proofs.Instances.{typed_here, typed_length, instance_anchor, instance_operands, instance_results, instance_operand, instance_source, old_instance_source}
use Rattle.aggregate_laws.proofs.Nets.{chosen_first, chosen_output, chosen_made}
use Rattle.aggregate_laws.proofs.Types.{Comes, comes, called_instance}
use Rattle.aggregate_laws.proofs.Types.Comes.{of_register, of_other}

-- ---- numbers

-- a smaller number, counted several times, stays smaller
scaled : (scale a b s : ℕ) → a < b → 0 < scale → a * scale - s < b * scale
scaled scale a b s lower positive =
    let room : suc a * scale ≤ b * scale = mul-le-mul lower (omega arith) in
    let more : suc a * scale ≡ a * scale + scale = suc-mul a scale in
    omega arith

-- ---- what a source of values needs

input_needs : (x : Option Port) (start : ℕ) → needs_of (input_of x start) ≡ []
input_needs None start = refl
input_needs (Some q) start = go q.is_output
  where
    go : (b : Bool) → needs_of (cond b nowhere (input start (width q.type))) ≡ []
    go true = refl
    go false = refl

held_needs : (start : ℕ) (t : Option HwType) → needs_of (held_of start t) ≡ []
held_needs start None = refl
held_needs start (Some t) = refl

copy_need : (p : Path) (x : Option Ref) (b : Net) → In b (needs_of (copy_of p x)) → (r : Ref) × (x ≡ Some r) × (b ≡ net p r)
copy_need p None b need = absurd need
copy_need p (Some r) b (inl is) = (r, refl, is)
copy_need p (Some r) b (inr never) = absurd never

module _ (scale : ℕ) (d d' : Design) (each : (s : Name) → LoweredWell scale (find_module d s) (find_module d' s)) (same : length d' ≡ length d) (top : Name) (sound : Sound d)
    (h : Net → ℕ) (height : IsHeight (needs d top) h) where
  lifted : Net → ℕ
  lifted a = h (net a.path ((at scale d d' each top a.path).home a.ref)) * scale - (at scale d d' each top a.path).slack a.ref

  enough : 0 < scale
  enough = let low_slack : (each top).slack undefined < scale = (each top).slack_is undefined in omega arith

  -- a copy of a leaf stands higher than the leaf where the value is a copy of the leaf's value
  copied_falls : (p q : Path) (r r' s s' : Ref) → In r' (parts_at scale d d' each top p r) → h (net q ((at scale d d' each top q).home s')) ≡ h (net q s) → (at scale d d' each top q).slack s' ≡ 0
      → source d top (net q s) ≡ copy (net p r) → lifted (net p r') < lifted (net q s')
  unfolding lifted enough
  copied_falls p q r r' s s' part home_is no_slack copied =
      let lower : h (net p r) < h (net q s) =
      FallsAlong-height (needs d top) h height (net q s) (net p r) (subst (λ x. In (net p r) (needs_of x)) (sym copied) (inl refl)) in
      let home_r : h (net p ((at scale d d' each top p).home r')) ≡ h (net p r) = (at scale d d' each top p).part_home (λ x. h (net p x)) (local_height d top h height p) r r' part in
      let home_s : h (net q ((at scale d d' each top q).home s')) ≡ h (net q s) = home_is in
      let below : h (net p r) * scale - (at scale d d' each top p).slack r' < h (net q s) * scale = scaled scale (h (net p r)) (h (net q s)) ((at scale d d' each top p).slack r') lower enough in
      let left : h (net p ((at scale d d' each top p).home r')) * scale ≡ h (net p r) * scale = ap (λ n. n * scale) home_r in
      let right : h (net q ((at scale d d' each top q).home s')) * scale ≡ h (net q s) * scale = ap (λ n. n * scale) home_s in
      omega arith

  -- ---- ports

  port_falls : (p : Path) (j' : ℕ) (b : Net) → In b (needs d' top (net p (port j'))) → lifted b < lifted (net p (port j'))
  port_falls [] j' b need =
      absurd (subst (λ ns. In b ns)
      (ap needs_of (input_ports j' (find_module d' top)) ∙ input_needs (slice_get (ports_of (find_module d' top)) j') (input_width (take j' (ports_of (find_module d' top))))) need)
  port_falls (u ∷ p) j' b need = subst (λ y. lifted y < lifted (net (u ∷ p) (port j'))) (sym copied.2) inner
    where
      copied : (r : Ref) × (option_and_then (joined_at d' u j') (module_at d' top p) ≡ Some r) × (b ≡ net p r)
      copied = copy_need p (option_and_then (joined_at d' u j') (module_at d' top p)) b need

      from : (o' : Op) × (slice_get (instances (body_of (module_at d' top p))) u ≡ Some o') × (joined_ref d' j' o' ≡ Some copied.0)
      from = and_then_some (slice_get (instances (body_of (module_at d' top p))) u) (joined_ref d' j') (sym (joined_body d' u j' (module_at d' top p)) ∙ copied.1)

      old : (o : Op) × (slice_get (instances (body_of (module_at d top p))) u ≡ Some o) × (spread (parts_at scale d d' each top p) o ≡ bare_op from.0)
      old = instance_back scale d d' each top p u from.0 from.1

      ps : List Port
      ps = ports_of (module_at d top (u ∷ p))

      joined : port_ref (flat_map leaf_ports (ports_of (module_at d top (u ∷ p)))) (flat_map (parts_at scale d d' each top p) old.0.operands) j' ≡ Some copied.0
      joined =
          ap₂ (λ P R. port_ref P R j') (sym (low scale d d' each top (u ∷ p)).ports_are) (ap (λ (z : Op). z.operands) old.2)
          ∙ port_ref_bare (ports_of (module_at d' top (u ∷ p))) from.0.operands j'
          ∙ ap (λ m. port_ref (ports_of m) from.0.operands j') (inside' scale d d' each top p u from.0 from.1)
          ∙ sym (port_of (callee d' from.0) from.0.operands j')
          ∙ from.2

      leaf : (j : ℕ) × (q : Port) × (i : ℕ) × (slice_get (ports_of (module_at d top (u ∷ p))) j ≡ Some q) × (q.is_output ≡ false) × (i < length (leaves q.type))
          × (j' ≡ leaf_start (ports_of (module_at d top (u ∷ p))) j + i)
      leaf = joined_port (ports_of (module_at d top (u ∷ p))) (flat_map (parts_at scale d d' each top p) old.0.operands) j' copied.0 joined

      operand : (r : Ref) × (slice_get old.0.operands (input_count (take leaf.0 (ports_of (module_at d top (u ∷ p))))) ≡ Some r)
          × (type_in (ports_of (module_at d top p)) (body_of (module_at d top p)) r ≡ Some leaf.1.type)
      operand = instance_operand scale d d' each same top sound p u old.0 leaf.0 leaf.1 old.1 leaf.3 leaf.4

      -- the operand has the leaf
      part_of : In copied.0 (parts_at scale d d' each top p operand.0)
      part_of =
          In-slice_get copied.0 (parts_at scale d d' each top p operand.0) leaf.2
          (sym (port_ref_leaf (ports_of (module_at d top (u ∷ p))) leaf.0 leaf.1 leaf.3 leaf.4 (parts_at scale d d' each top p) old.0.operands operand.0
          (typed_length (type_in (ports_of (module_at d top p)) (body_of (module_at d top p))) old.0.operands (input_types (ports_of (module_at d top (u ∷ p)))) typed)
          (λ n x t at_x at_t. length_parts scale d d' each top p x t
          (typed_here (type_in (ports_of (module_at d top p)) (body_of (module_at d top p))) old.0.operands (input_types (ports_of (module_at d top (u ∷ p)))) n x t typed at_x at_t))
          operand.1 (input_found (ports_of (module_at d top (u ∷ p))) leaf.0 leaf.1 leaf.3 leaf.4) leaf.2 leaf.5)
          ∙ ap (port_ref (flat_map leaf_ports (ports_of (module_at d top (u ∷ p)))) (flat_map (parts_at scale d d' each top p) old.0.operands)) (sym leaf.6) ∙ joined)
        where
          typed : map (type_in (ports_of (module_at d top p)) (body_of (module_at d top p))) old.0.operands ≡ map (λ (t : HwType). Some t) (input_types (ports_of (module_at d top (u ∷ p))))
          typed = instance_operands scale d d' each same top sound p u old.0 old.1

      home_is : h (net (u ∷ p) ((at scale d d' each top (u ∷ p)).home (port j'))) ≡ h (net (u ∷ p) (port leaf.0))
      home_is =
          (at scale d d' each top (u ∷ p)).part_home (λ x. h (net (u ∷ p) x)) (local_height d top h height (u ∷ p)) (port leaf.0) (port j')
          (subst (In (port j')) (sym ((low scale d d' each top (u ∷ p)).port_is leaf.0))
          (subst (λ x. In (port j') (parts_of_port (leaf_start (ports_of (module_at d top (u ∷ p))) leaf.0) x)) (sym leaf.3)
          (subst (λ b. In (port j') (cond b [] (in_row port (leaf_start (ports_of (module_at d top (u ∷ p))) leaf.0) (length (leaves leaf.1.type))))) (sym leaf.4)
          (subst (λ n. In (port n) (in_row port (leaf_start (ports_of (module_at d top (u ∷ p))) leaf.0) (length (leaves leaf.1.type)))) (sym leaf.6)
          (In-in_row port (leaf_start (ports_of (module_at d top (u ∷ p))) leaf.0) (length (leaves leaf.1.type)) leaf.2 leaf.5)))))

      copied_before : source d top (net (u ∷ p) (port leaf.0)) ≡ copy (net p operand.0)
      copied_before =
          ap (copy_of p)
          (joined_body d u leaf.0 (module_at d top p) ∙ ap (λ x. option_and_then (joined_ref d leaf.0) x) old.1 ∙ port_of (callee d old.0) old.0.operands leaf.0
          ∙ ap (λ m. port_ref (ports_of m) old.0.operands leaf.0) (sym (inside scale d d' each top p u old.0 old.1))
          ∙ ap (λ x. operand_for x old.0.operands (input_count (take leaf.0 (ports_of (module_at d top (u ∷ p)))))) leaf.3
          ∙ ap (λ b. cond b None (slice_get old.0.operands (input_count (take leaf.0 (ports_of (module_at d top (u ∷ p))))))) leaf.4
          ∙ operand.1)

      inner : lifted (net p copied.0) < lifted (net (u ∷ p) (port j'))
      inner = copied_falls p (u ∷ p) operand.0 copied.0 (port leaf.0) (port j') part_of home_is ((at scale d d' each top (u ∷ p)).port_slack j') copied_before

  -- ---- results

  made_falls : (p : Path) (j' k : ℕ) (o : Op) → slice_get (body_of (module_at d' top p)) j' ≡ Some o → is_anchor o ≡ false → (x : Option HwType) → result_type o k ≡ x
      → (b : Net) → In b (needs_of (made_of p o k x)) → lifted b < lifted (net p (result j' k))
  unfolding lifted
  made_falls p j' k o is plain None typed b need = absurd need
  made_falls p j' k o is plain (Some t) typed b need =
      let from = from_In-map (net p) b o.operands need in
      let lower : h (net p ((at scale d d' each top p).home from.0)) * scale - (at scale d d' each top p).slack from.0
      < h (net p ((at scale d d' each top p).home (result j' k))) * scale - (at scale d d' each top p).slack (result j' k) =
      (at scale d d' each top p).falls (λ r. h (net p r)) (local_height d top h height p) j' k o t is plain typed from.0 from.1 in
      subst (λ y. lifted y < lifted (net p (result j' k))) (sym from.2) lower

  instance_falls : (p : Path) (j' k' : ℕ) (j : ℕ) (o : Op) (n : Instance) → slice_get (body_of (module_at d top p)) j ≡ Some o → instance_in o.kind ≡ Some n
      → j' ≡ (low scale d d' each top p).start j 0 → (z : Op) → slice_get (body_of (module_at d' top p)) j' ≡ Some z → is_anchor z ≡ true
      → (b : Net) → In b (needs d' top (net p (result j' k'))) → lifted b < lifted (net p (result j' k'))
  instance_falls p j' k' j o n is inst position z there anchor b need = subst (λ y. lifted y < lifted (net p (result j' k'))) (sym copied.2) inner
    where
      path : Path
      path = length (instances (take j (body_of (module_at d top p)))) ∷ p

      outs : List Ref
      outs = output_refs (body_of (module_at d top (length (instances (take j (body_of (module_at d top p)))) ∷ p)))

      copied : (r : Ref) × (slice_get (output_refs (body_of (module_at d' top path))) k' ≡ Some r) × (b ≡ net path r)
      copied =
          copy_need path (slice_get (output_refs (body_of (module_at d' top path))) k') b
          (subst (λ s. In b (needs_of s)) (ap (λ m. source d' top (net p (result m k'))) position ∙ instance_source scale d d' each same top p j o n is inst k') need)

      found : (k : ℕ) × (i : ℕ) × (out : Ref) × (slice_get (output_refs (body_of (module_at d top path))) k ≡ Some out) × (slice_get (parts_at scale d d' each top path out) i ≡ Some copied.0)
          × (k' ≡ length (flat_map (parts_at scale d d' each top path) (take k (output_refs (body_of (module_at d top path))))) + i)
      found =
          flat_map_position (parts_at scale d d' each top path) (output_refs (body_of (module_at d top path))) k' copied.0
          (ap (λ rs. slice_get rs k') (sym (output_refs_follow (body_of (module_at d top path)) (body_of (module_at d' top path)) (parts_at scale d d' each top path) (low scale d d' each top path).anchors_are))
          ∙ copied.1)

      given_typed : map (type_in (ports_of (module_at d top path)) (body_of (module_at d top path))) (output_refs (body_of (module_at d top path))) ≡ map (λ (t : HwType). Some t) (result_types o)
      given_typed =
          (sound_at d sound top path).outputs
          ∙ ap (map (λ (t : HwType). Some t)) (sym (instance_results scale d d' each same top sound p (length (instances (take j (body_of (module_at d top p))))) o
          (instance_found (body_of (module_at d top p)) j o n is inst)))

      out_type : (t : HwType) × (slice_get (result_types o) found.0 ≡ Some t)
      out_type =
          let e : option_map (λ (t : HwType). Some t) (slice_get (result_types o) found.0) ≡ Some (type_in (ports_of (module_at d top path)) (body_of (module_at d top path)) found.2) =
          sym (slice_get-map (λ (t : HwType). Some t) (result_types o) found.0) ∙ ap (λ xs. slice_get xs found.0) (sym given_typed)
          ∙ slice_get-map (type_in (ports_of (module_at d top path)) (body_of (module_at d top path))) (output_refs (body_of (module_at d top path))) found.0
          ∙ ap (option_map (type_in (ports_of (module_at d top path)) (body_of (module_at d top path)))) found.3 in
          let some = option_map_some (λ (t : HwType). Some t) (slice_get (result_types o) found.0) e in
          (some.0, some.1)

      out_typed : type_in (ports_of (module_at d top path)) (body_of (module_at d top path)) found.2 ≡ Some out_type.0
      out_typed = typed_here (type_in (ports_of (module_at d top path)) (body_of (module_at d top path))) (output_refs (body_of (module_at d top path))) (result_types o) found.0 found.2 out_type.0 given_typed found.3 out_type.1

      begins : length (flat_map (parts_at scale d d' each top path) (take found.0 (output_refs (body_of (module_at d top path))))) ≡ result_start o found.0
      begins =
          flat_map_lengths (parts_at scale d d' each top path) leaves (output_refs (body_of (module_at d top path))) (result_types o)
          (typed_length (type_in (ports_of (module_at d top path)) (body_of (module_at d top path))) (output_refs (body_of (module_at d top path))) (result_types o) given_typed)
          (λ m r v at_r at_v. length_parts scale d d' each top path r v
          (typed_here (type_in (ports_of (module_at d top path)) (body_of (module_at d top path))) (output_refs (body_of (module_at d top path))) (result_types o) m r v given_typed at_r at_v)) found.0

      within : found.1 < length (leaves out_type.0)
      within =
          subst (λ m. found.1 < m) (length_parts scale d d' each top path found.2 out_type.0 out_typed)
          (slice_get_within (parts_at scale d d' each top path found.2) found.1 copied.0 found.4)

      home_is : h (net p ((at scale d d' each top p).home (result j' k'))) ≡ h (net p (result j found.0))
      home_is =
          (at scale d d' each top p).part_home (λ x. h (net p x)) (local_height d top h height p) (result j found.0) (result j' k')
          (subst (In (result j' k')) (sym ((low scale d d' each top p).instance_is j o found.0 out_type.0 is (ap is_some inst) (type_listed o found.0 ∙ out_type.1)))
          (subst (λ r. In r (in_row (result ((low scale d d' each top p).start j 0)) (result_start o found.0) (length (leaves out_type.0))))
          (ap₂ result (sym position) (ap (λ m. m + found.1) (sym begins) ∙ sym found.5))
          (In-in_row (result ((low scale d d' each top p).start j 0)) (result_start o found.0) (length (leaves out_type.0)) found.1 within)))

      inner : lifted (net path copied.0) < lifted (net p (result j' k'))
      inner =
          copied_falls path p found.2 copied.0 (result j found.0) (result j' k')
          (In-slice_get copied.0 (parts_at scale d d' each top path found.2) found.1 found.4) home_is
          ((at scale d d' each top p).anchor_slack j' k' z there anchor)
          (old_instance_source scale d d' each same top p j o n is inst found.0 ∙ ap (copy_of path) found.3)

  result_falls : (p : Path) (j' k : ℕ) (b : Net) → In b (needs d' top (net p (result j' k))) → lifted b < lifted (net p (result j' k))
  result_falls p j' k b need = go (slice_get (body_of (module_at d' top p)) j') refl
    where
      here : (o : Op) → slice_get (body_of (module_at d' top p)) j' ≡ Some o → source d' top (net p (result j' k)) ≡ op_in d' top p (body_of (module_at d' top p)) j' k o
      here o is = result_here d' top p j' k ∙ ap (result_in d' top p (body_of (module_at d' top p)) j' k) is

      none_needed : needs d' top (net p (result j' k)) ≡ [] → lifted b < lifted (net p (result j' k))
      none_needed none = absurd (subst (λ ns. In b ns) none need)

      by_origin : (o : Op) (n : Instance) → slice_get (body_of (module_at d' top p)) j' ≡ Some o → instance_in o.kind ≡ Some n
          → Comes (body_of (module_at d top p)) (low scale d d' each top p).parts (low scale d d' each top p).start j' o → lifted b < lifted (net p (result j' k))
      by_origin o n is inst (of_register j y f s i u at_j form typed_s at_u alike) =
          let form_o : register_form o.kind ≡ Some f = sym (form_bare o.kind) ∙ ap (λ (w : Op). register_form w.kind) alike ∙ form_bare y.kind ∙ form in
          let clash : None ≡ Some n = sym (register_apart o.kind f form_o).0 ∙ inst in
          cc
      by_origin o n is inst (of_other j y at_j none anchored alike position) =
          let called : called_symbol y.kind ≡ Some n.symbol =
          sym (called_bare y.kind) ∙ ap (λ (w : Op). called_symbol w.kind) (sym alike) ∙ called_bare o.kind ∙ ap (option_map (λ (m : Instance). m.symbol)) inst in
          let found = called_instance y.kind n.symbol called in
          instance_falls p j' k j y found.0 at_j found.1 position o is (instance_anchor o n inst) b need

      by_sort : (o : Op) → slice_get (body_of (module_at d' top p)) j' ≡ Some o → Sort o.kind → lifted b < lifted (net p (result j' k))
      by_sort o is (a_register f r i u) =
          none_needed (ap needs_of (here o is ∙ chosen_first (is_register o) _ _ (ap is_some r))
          ∙ held_needs (base d' top p + body_state (state d') (take j' (body_of (module_at d' top p)))) (result_type o k))
      by_sort o is (an_instance n r i u) =
          by_origin o n is i (comes scale (module_at d top p) (module_at d' top p) (at scale d d' each top p) j' o is (instance_anchor o n i))
      by_sort o is (an_output r i u) =
          none_needed (ap needs_of (here o is ∙ chosen_output (is_register o) (is_instance o) (is_output_op o) _ _ _ _ (ap is_some r) (ap is_some i) u))
      by_sort o is (a_made r i u) =
          made_falls p j' k o is (simp (r, i, u)) (result_type o k) refl b
          (subst (λ s. In b (needs_of s)) (here o is ∙ chosen_made (is_register o) (is_instance o) (is_output_op o) _ _ _ _ (ap is_some r) (ap is_some i) u) need)

      go : (x : Option Op) → slice_get (body_of (module_at d' top p)) j' ≡ x → lifted b < lifted (net p (result j' k))
      go None none = none_needed (ap needs_of (result_here d' top p j' k ∙ ap (result_in d' top p (body_of (module_at d' top p)) j' k) none))
      go (Some o) is = by_sort o is (sort_of o.kind)

  lifted_falls : (p : Path) (r : Ref) (b : Net) → In b (needs d' top (net p r)) → lifted b < lifted (net p r)
  lifted_falls p (port j) b need = port_falls p j b need
  lifted_falls p (result j k) b need = result_falls p j k b need
  lifted_falls p undefined b need = absurd need

  pub heights_lifted : HasHeights d' top
  heights_lifted = heights (needs d' top) lifted (λ a b need. lifted_falls a.path a.ref b need)

pub heights_after : (scale : ℕ) (d d' : Design) (each : (s : Name) → LoweredWell scale (find_module d s) (find_module d' s)) → length d' ≡ length d → Sound d
    → (top : Name) → HasHeights d top → HasHeights d' top
heights_after scale d d' each same sound top (h, height) = heights_lifted scale d d' each same top sound h height
