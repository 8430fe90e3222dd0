-- From which nets of the old design the values of the new body come, and what values of the old design are equal to them.
use Rattle.std.proofs.Common.{◌≡◌, ℕ, zero, suc, ◌+◌, ◌<◌, List, [], ◌∷◌, ◌++◌, length, map, take, slice_get, true, false, Option, Some, None, refl, sym, ap, subst, ◌∙◌, add-zero, append-nil, option_and_then, option_map}
use Rattle.std.proofs.lemmas.Option.{slice_get-map, slice_get_within}
use Rattle.wiring.proofs.Options.{option_map_none, option_map_some}
use Rattle.wiring.proofs.Lists.{slice_get-append_at, take-append_right, slice_get-append_right}
use Rattle.hw_model.specs.Types.{Name, HwType}
use Rattle.hw_model.specs.Kinds.{Instance}
use Rattle.hw_model.specs.Design.{Ref, OpResult, Op, Module, Design, find_module, instance_in, register_form, is_output_kind, result_type, output_refs, callee}
use Rattle.hw_model.specs.Design.Ref.{port, result, undefined}
use Rattle.hw_model.specs.Flat.{Path, Net, net, instances, module_at, port_ref, copy_of, joined_ref, source}
use Rattle.hw_model.specs.Flat.Source.{nowhere, copy}
use Rattle.hw_model.specs.Sound.{body_of, ports_of, input_types, output_types, type_in, SoundBody}
use Rattle.hw_model.proofs.Sorts.{Sort, sort_of}
use Rattle.hw_model.proofs.Sorts.Sort.{a_register, an_instance, an_output, a_made}
use Rattle.hw_model.proofs.Paths.{joined_body, port_of}
use Rattle.hw_model.proofs.NetWidths.{sound_at}
use Rattle.inline_laws.specs.Inline.{Side, side, wire_count, moved_count, outer_result, inner_result, wire_result, ref_or_undefined}
use Rattle.inline_laws.specs.Inline.Side.{in_first, in_second}
use Rattle.inline_laws.proofs.Sides.{side_prefix, side_back, from_prefix, from_back, instances-append}
use Rattle.inline_laws.proofs.Sources.{inside_number, missing_source, instance_source, output_source}
use Rattle.inline_laws.proofs.Inlining.{Inlining, position, inner, outer_stand, inner_stand, end_is}

-- an instance is no register
pub instance_no_register : (o : Op) (x : Instance) → instance_in o.kind ≡ Some x → register_form o.kind ≡ None
instance_no_register o x is = go (sort_of o.kind)
  where
    go : Sort o.kind → register_form o.kind ≡ None
    go (a_register g r i u) = let clash : None ≡ Some x = sym i ∙ is in cc
    go (an_instance z r i u) = r
    go (an_output r i u) = r
    go (a_made r i u) = r

-- and no output
pub instance_no_output : (o : Op) (x : Instance) → instance_in o.kind ≡ Some x → is_output_kind o.kind ≡ false
instance_no_output o x is = go (sort_of o.kind)
  where
    go : Sort o.kind → is_output_kind o.kind ≡ false
    go (a_register g r i u) = u
    go (an_instance z r i u) = u
    go (an_output r i u) = let clash : None ≡ Some x = sym i ∙ is in cc
    go (a_made r i u) = u

-- a result with a type is one of the results
pub typed_within : (o : Op) (k : ℕ) (t : HwType) → result_type o k ≡ Some t → k < length o.results
typed_within o k t typed =
    let found = option_map_some (λ (r : OpResult). r.type) (slice_get o.results k) typed in
    slice_get_within o.results k found.0 found.1

-- net a has the value of net b: both come from one source, or a is a copy of a net that does
pub data Leads (d : Design) (top : Name) (a b : Net) : Type 0 where
  alike : source d top a ≡ source d top b → Leads d top a b
  copied : (n : Net) → source d top a ≡ copy n → source d top n ≡ source d top b → Leads d top a b

module _ (S : Inlining) where
  -- how many instances stand before the one that is inlined
  abbrev pub prefix_count : ℕ
  prefix_count = length (instances S.prefix)

  -- ---- types

  pub c_sound : SoundBody S.d S.c.ports S.c.body
  c_sound = S.valid.sound S.target.symbol S.c S.is_found

  there : slice_get S.md.body (position S) ≡ Some S.o
  there = ap (λ os. slice_get os (position S)) S.body_is ∙ slice_get-append_at S.prefix S.o S.back

  -- the operands and results of the instance have the types of the ports of its module
  pub operands_fit : SoundBody S.d S.md.ports S.md.body → map (type_in S.md.ports S.md.body) S.o.operands ≡ map (λ (t : HwType). Some t) (input_types S.c.ports)
  operands_fit sound =
      let fits = sound.instances (position S) S.o there S.target S.is_instance in
      let same : Some fits.0 ≡ Some S.c = sym fits.1 ∙ S.is_found in
      let module_is : fits.0 ≡ S.c = cc in
      fits.2 ∙ ap (λ (m : Module). map (λ (t : HwType). Some t) (input_types m.ports)) module_is

  pub results_fit : SoundBody S.d S.md.ports S.md.body → map (λ (r : OpResult). r.type) S.o.results ≡ output_types S.c.ports
  results_fit sound =
      let fits = sound.instances (position S) S.o there S.target S.is_instance in
      let same : Some fits.0 ≡ Some S.c = sym fits.1 ∙ S.is_found in
      let module_is : fits.0 ≡ S.c = cc in
      fits.3 ∙ ap (λ (m : Module). output_types m.ports) module_is

  -- what the module gives to output k has the type of result k of the instance
  pub given_types : SoundBody S.d S.md.ports S.md.body → (k : ℕ)
      → option_map (type_in S.c.ports S.c.body) (slice_get (output_refs S.c.body) k) ≡ option_map (λ (t : HwType). Some t) (result_type S.o k)
  given_types sound k =
      sym (slice_get-map (type_in S.c.ports S.c.body) (output_refs S.c.body) k)
      ∙ ap (λ xs. slice_get xs k) c_sound.outputs
      ∙ slice_get-map (λ (t : HwType). Some t) (output_types S.c.ports) k
      ∙ ap (λ ts. option_map (λ (t : HwType). Some t) (slice_get ts k)) (sym (results_fit sound))
      ∙ ap (option_map (λ (t : HwType). Some t)) (slice_get-map (λ (r : OpResult). r.type) S.o.results k)

  -- ---- origins

  abbrev pub wire_origin : Path → ℕ → ℕ → Net
  wire_origin p w zero = net p (result (position S) w)
  wire_origin p w (suc k) = net p undefined

  abbrev pub moved_origin : Path → ℕ → Side → Net
  moved_origin p k (in_first x) = net (prefix_count ∷ p) (result x k)
  moved_origin p k (in_second x) = net p (result (position S + suc x) k)

  abbrev pub wired_origin : Path → ℕ → Side → Net
  wired_origin p k (in_first w) = wire_origin p w k
  wired_origin p k (in_second z) = moved_origin p k (side (moved_count S.c) z)

  abbrev pub result_origin : Path → ℕ → Side → Net
  result_origin p k (in_first x) = net p (result x k)
  result_origin p k (in_second y) = wired_origin p k (side (wire_count S.o) y)

  -- the net of the old design from which a value of the new body comes, p being the path to the old body
  abbrev pub inlined_origin : Path → Ref → Net
  inlined_origin p (port j) = net p (port j)
  inlined_origin p (result j k) = result_origin p k (side (position S) j)
  inlined_origin p undefined = net p undefined

  pub wire_origin_is : (p : Path) (w k : ℕ) → w < wire_count S.o → inlined_origin p (result (position S + w) k) ≡ wire_origin p w k
  wire_origin_is p w k within =
      ap (result_origin p k) (side_back (position S) w) ∙ ap (wired_origin p k) (side_prefix (wire_count S.o) w within)

  pub inner_origin_is : (p : Path) (x k : ℕ) → x < moved_count S.c → inlined_origin p (result (position S + (wire_count S.o + x)) k) ≡ net (prefix_count ∷ p) (result x k)
  inner_origin_is p x k within =
      ap (result_origin p k) (side_back (position S) (wire_count S.o + x)) ∙ ap (wired_origin p k) (side_back (wire_count S.o) x)
      ∙ ap (moved_origin p k) (side_prefix (moved_count S.c) x within)

  pub back_origin_is : (p : Path) (x k : ℕ)
      → inlined_origin p (result (position S + (wire_count S.o + (moved_count S.c + x))) k) ≡ net p (result (position S + suc x) k)
  back_origin_is p x k =
      ap (result_origin p k) (side_back (position S) (wire_count S.o + (moved_count S.c + x))) ∙ ap (wired_origin p k) (side_back (wire_count S.o) (moved_count S.c + x))
      ∙ ap (moved_origin p k) (side_back (moved_count S.c) x)

  -- ---- at a path to the module in which the instance is inlined

  module _ (top : Name) (p : Path) (was : module_at S.d top p ≡ Some S.md) where
    pub old_body : body_of (module_at S.d top p) ≡ S.prefix ++ (S.o ∷ S.back)
    old_body = ap body_of was ∙ S.body_is

    pub md_sound : SoundBody S.d S.md.ports S.md.body
    md_sound = subst (λ x. SoundBody S.d (ports_of x) (body_of x)) was (sound_at S.d S.valid.sound top p)

    pub old_instances : instances (body_of (module_at S.d top p)) ≡ instances S.prefix ++ (S.o ∷ instances S.back)
    old_instances = ap instances old_body ∙ instances-append S.prefix (S.o ∷ S.back) ∙ ap (λ xs. instances S.prefix ++ xs) (first_one S.o S.back S.target S.is_instance)
      where
        first_one : (y : Op) (ys : List Op) (x : Instance) → instance_in y.kind ≡ Some x → instances (y ∷ ys) ≡ y ∷ instances ys
        first_one y ys x is = simp is

    pub instance_here : slice_get (instances (body_of (module_at S.d top p))) prefix_count ≡ Some S.o
    instance_here = ap (λ os. slice_get os prefix_count) old_instances ∙ slice_get-append_at (instances S.prefix) S.o (instances S.back)

    pub inside : module_at S.d top (prefix_count ∷ p) ≡ Some S.c
    inside =
        inside_number S.d top p prefix_count S.o instance_here
        ∙ ap (λ y. option_and_then (λ (i : Instance). find_module S.d i.symbol) y) S.is_instance ∙ S.is_found

    pub inside_body : body_of (module_at S.d top (prefix_count ∷ p)) ≡ inner S ++ ((end_is S).last ∷ [])
    inside_body = ap body_of inside ∙ (end_is S).body_is

    there_at : slice_get (body_of (module_at S.d top p)) (position S) ≡ Some S.o
    there_at = ap (λ os. slice_get os (position S)) old_body ∙ slice_get-append_at S.prefix S.o S.back

    count_at : length (instances (take (position S) (body_of (module_at S.d top p)))) ≡ prefix_count
    count_at =
        ap (λ os. length (instances (take (position S) os))) old_body
        ∙ ap (λ n. length (instances (take n (S.prefix ++ (S.o ∷ S.back))))) (sym (add-zero (position S)))
        ∙ ap (λ os. length (instances os)) (take-append_right S.prefix (S.o ∷ S.back) 0)
        ∙ ap length (instances-append S.prefix []) ∙ ap length (append-nil (instances S.prefix))

    -- a result of the instance is what its module gives
    pub given_source : (k : ℕ) → source S.d top (net p (result (position S) k)) ≡ copy_of (prefix_count ∷ p) (slice_get (output_refs S.c.body) k)
    given_source k =
        instance_source S.d top p (position S) k S.o there_at S.target (instance_no_register S.o S.target S.is_instance) S.is_instance
        ∙ ap (λ n. copy_of (n ∷ p) (slice_get (output_refs (body_of (module_at S.d top (n ∷ p)))) k)) count_at
        ∙ ap (λ m. copy_of (prefix_count ∷ p) (slice_get (output_refs (body_of m)) k)) inside

    given_nowhere : (k : ℕ) → result_type S.o k ≡ None → source S.d top (net p (result (position S) k)) ≡ nowhere
    given_nowhere k none =
        given_source k
        ∙ ap (copy_of (prefix_count ∷ p)) (option_map_none (type_in S.c.ports S.c.body) (slice_get (output_refs S.c.body) k)
        (given_types md_sound k ∙ ap (option_map (λ (t : HwType). Some t)) none))

    -- what the module does not move is no value
    unmoved_nowhere : (y k : ℕ) → source S.d top (net (prefix_count ∷ p) (result (length (inner S) + y) k)) ≡ nowhere
    unmoved_nowhere y k = go y refl
      where
        at_end : (y : ℕ) → slice_get (body_of (module_at S.d top (prefix_count ∷ p))) (length (inner S) + y) ≡ slice_get ((end_is S).last ∷ []) y
        at_end y = ap (λ os. slice_get os (length (inner S) + y)) inside_body ∙ slice_get-append_right (inner S) ((end_is S).last ∷ []) y

        by_sort : Sort (end_is S).last.kind → slice_get (body_of (module_at S.d top (prefix_count ∷ p))) (length (inner S) + 0) ≡ Some (end_is S).last
            → source S.d top (net (prefix_count ∷ p) (result (length (inner S) + 0) k)) ≡ nowhere
        by_sort (a_register g r i u) is = let clash : false ≡ true = sym u ∙ (end_is S).is_output in cc
        by_sort (an_instance z r i u) is = let clash : false ≡ true = sym u ∙ (end_is S).is_output in cc
        by_sort (an_output r i u) is = output_source S.d top (prefix_count ∷ p) (length (inner S) + 0) k (end_is S).last is r i u
        by_sort (a_made r i u) is = let clash : false ≡ true = sym u ∙ (end_is S).is_output in cc

        go : (z : ℕ) → y ≡ z → source S.d top (net (prefix_count ∷ p) (result (length (inner S) + z) k)) ≡ nowhere
        go zero is = by_sort (sort_of (end_is S).last.kind) (at_end 0)
        go (suc z) is = missing_source S.d top (prefix_count ∷ p) (length (inner S) + suc z) k (at_end (suc z))

    -- a value of the old body comes from where the origin of what stands for it does
    pub outer_alike : (r : Ref) → source S.d top (net p r) ≡ source S.d top (inlined_origin p (outer_stand S r))
    outer_alike (port j) = refl
    outer_alike undefined = refl
    outer_alike (result j k) = go (side (position S) j) refl
      where
        by_type : (t : Option HwType) → result_type S.o k ≡ t → source S.d top (net p (result (position S) k)) ≡ source S.d top (inlined_origin p (wire_result (position S) k t))
        by_type None none = given_nowhere k none
        by_type (Some t) typed =
            let within : k < wire_count S.o = typed_within S.o k t typed in
            ap (source S.d top) (sym (wire_origin_is p k 0 within))

        go : (s : Side) → side (position S) j ≡ s → source S.d top (net p (result j k)) ≡ source S.d top (inlined_origin p (outer_result (position S) S.o S.c k s))
        go (in_first x) is =
            let same : x ≡ j = (from_prefix (position S) j x is).0 in
            ap (λ z. source S.d top (net p (result z k))) (sym same)
            ∙ ap (source S.d top) (sym (ap (result_origin p k) (ap (side (position S)) same ∙ is)))
        go (in_second zero) is =
            ap (λ z. source S.d top (net p (result z k))) (from_back (position S) j 0 is ∙ add-zero (position S))
            ∙ by_type (result_type S.o k) refl
        go (in_second (suc x)) is =
            ap (λ z. source S.d top (net p (result z k))) (from_back (position S) j (suc x) is)
            ∙ ap (source S.d top) (sym (back_origin_is p x k))

    -- an input of the instance's module is a copy of an operand
    port_joined : (j : ℕ) → source S.d top (net (prefix_count ∷ p) (port j)) ≡ copy_of p (port_ref S.c.ports S.o.operands j)
    port_joined j =
        ap (copy_of p)
        (joined_body S.d prefix_count j (module_at S.d top p) ∙ ap (λ x. option_and_then (joined_ref S.d j) x) instance_here
        ∙ port_of (callee S.d S.o) S.o.operands j
        ∙ ap (λ m. port_ref (ports_of m) S.o.operands j)
        (ap (λ y. option_and_then (λ (i : Instance). find_module S.d i.symbol) y) S.is_instance ∙ S.is_found))

    -- a value of the instance's module has the value of the origin of what stands for it
    pub inner_leads : (r : Ref) → Leads S.d top (net (prefix_count ∷ p) r) (inlined_origin p (inner_stand S r))
    inner_leads undefined = alike refl
    inner_leads (port j) = go (port_ref S.c.ports S.o.operands j) (port_joined j)
      where
        go : (x : Option Ref) → source S.d top (net (prefix_count ∷ p) (port j)) ≡ copy_of p x
            → Leads S.d top (net (prefix_count ∷ p) (port j)) (inlined_origin p (ref_or_undefined (option_map (outer_stand S) x)))
        go None is = alike is
        go (Some r) is = copied (net p r) is (outer_alike r)
    inner_leads (result j k) = go (side (moved_count S.c) j) refl
      where
        go : (s : Side) → side (moved_count S.c) j ≡ s → Leads S.d top (net (prefix_count ∷ p) (result j k)) (inlined_origin p (inner_result (position S) S.o k s))
        go (in_first x) is =
            let same : x ≡ j = (from_prefix (moved_count S.c) j x is).0 in
            let below : j < moved_count S.c = (from_prefix (moved_count S.c) j x is).1 in
            alike (ap (λ z. source S.d top (net (prefix_count ∷ p) (result z k))) (sym same)
            ∙ ap (source S.d top) (sym (inner_origin_is p x k (subst (λ z. z < moved_count S.c) (sym same) below))))
        go (in_second y) is =
            alike (ap (λ z. source S.d top (net (prefix_count ∷ p) (result z k))) (from_back (moved_count S.c) j y is) ∙ unmoved_nowhere y k)
