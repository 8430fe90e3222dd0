-- A design with the leaves of a sound one's values is sound.
use Rattle.std.proofs.Common.{◌≡◌, ℕ, zero, suc, ◌+◌, Bool, true, false, List, [], ◌∷◌, ◌++◌, map, flat_map, slice_get, Option, Some, None, is_some, refl, sym, ap, ap₂, subst, ◌∙◌, zero-add, option_map}
use Rattle.std.proofs.lemmas.List.{map-append}
use Rattle.std.proofs.lemmas.Option.{slice_get-map}
use Rattle.wiring.proofs.Options.{option_map_some}
use Rattle.hw_model.specs.Types.{Name, HwType, leaves}
use Rattle.hw_model.specs.Types.HwType.{int, clock}
use Rattle.hw_model.specs.Kinds.{Kind, Instance, Reset}
use Rattle.hw_model.specs.Kinds.Reset.{no_reset, sync_reset}
use Rattle.hw_model.specs.Kinds.Kind.{instance, register, async_firreg}
use Rattle.hw_model.specs.Design.{Ref, Op, Module, Design, RegisterForm, find_module, instance_in, register_form, takes_enable, is_output_kind, result_type, output_refs}
use Rattle.hw_model.specs.Sound.{body_of, ports_of, input_types, output_types, type_in, register_types, Fits, OpFits, InstanceFits, SoundBody, Sound}
use Rattle.hw_model.proofs.Sorts.{Sort, sort_of}
use Rattle.hw_model.proofs.Sorts.Sort.{a_register, an_instance, an_output, a_made}
use Rattle.hw_model.proofs.NetWidths.{sound_found}
use Rattle.edit_laws.specs.Edit.{is_anchor}
use Rattle.aggregate_laws.specs.Leaves.{bare_port, leaf_ports, part, or_undefined, bare, bare_kind, bare_op, leaf_operands, leaf_registers, leaves_of, spread, lower_anchor, result_types}
use Rattle.aggregate_laws.specs.Lowered.{LoweredWell}
use Rattle.aggregate_laws.proofs.Bare.{called_symbol, called_bare, form_bare, types_bare, type_listed, input_types_bare, output_types_bare}
use Rattle.aggregate_laws.proofs.Anchors.{register_apart, lowered_register, lowered_other, from_leaf_register, output_refs_follow}
use Rattle.aggregate_laws.proofs.Ports.{input_types_lowered, output_types_lowered}
use Rattle.aggregate_laws.proofs.Instances.{instance_anchor}
use Rattle.aggregate_laws.proofs.Nets.{no_result}
use Rattle.aggregate_laws.proofs.Registers.{register_fits, single}

-- ---- kinds

register_fits_back : (k : Kind) (f : RegisterForm) (ts : List HwType) (xs : List (Option HwType)) (t : HwType) (n : ℕ) → register_form k ≡ Some f
    → xs ≡ register_types f.has_enable f.reset t → Fits k ts xs t n
register_fits_back (register g r) f ts xs t n is fits =
    let same : f ≡ record { has_enable = takes_enable g; reset = r } = cc in
    subst (λ (h : RegisterForm). xs ≡ register_types h.has_enable h.reset t) same fits
register_fits_back async_firreg f ts xs t n is fits =
    let same : f ≡ record { has_enable = false; reset = sync_reset } = cc in
    subst (λ (h : RegisterForm). xs ≡ register_types h.has_enable h.reset t) same fits
register_fits_back k f ts xs t n is fits = cc

instance_fits : (k : Kind) (i : Instance) (ts : List HwType) (xs : List (Option HwType)) (t : HwType) (n : ℕ) → instance_in k ≡ Some i → Fits k ts xs t n
instance_fits (instance j) i ts xs t n is = tt
instance_fits k i ts xs t n is = cc

-- an instance of the same symbol
pub called_instance : (k : Kind) (s : Name) → called_symbol k ≡ Some s → (i : Instance) × (instance_in k ≡ Some i) × (i.symbol ≡ s)
called_instance k s is = option_map_some (λ (i : Instance). i.symbol) (instance_in k) is

-- ---- operands

module _ (old_type new_type : Ref → Option HwType) (parts : Ref → List Ref)
    (typed : (r : Ref) (t : HwType) → old_type r ≡ Some t → map new_type (parts r) ≡ map (λ (u : HwType). Some u) (leaves t)) where
  pub parts_typed : (rs : List Ref) (ts : List HwType) → map old_type rs ≡ map (λ (u : HwType). Some u) ts
      → map new_type (flat_map parts rs) ≡ map (λ (u : HwType). Some u) (flat_map leaves ts)
  parts_typed [] [] is = refl
  parts_typed [] (t ∷ ts) is = cc
  parts_typed (r ∷ rs) [] is = cc
  parts_typed (r ∷ rs) (t ∷ ts) is =
      map-append new_type (parts r) (flat_map parts rs)
      ∙ ap₂ (λ xs ys. xs ++ ys) (typed r t cc) (parts_typed rs ts cc)
      ∙ sym (map-append (λ (u : HwType). Some u) (leaves t) (flat_map leaves ts))

  -- the i-th leaf of a value
  part_type : (r : Ref) (t : HwType) (i : ℕ) (u : HwType) → old_type r ≡ Some t → slice_get (leaves t) i ≡ Some u → new_type (part (parts r) i) ≡ Some u
  part_type r t i u is at_u =
      let e : option_map new_type (slice_get (parts r) i) ≡ Some (Some u) =
      sym (slice_get-map new_type (parts r) i) ∙ ap (λ xs. slice_get xs i) (typed r t is) ∙ slice_get-map (λ (v : HwType). Some v) (leaves t) i ∙ ap (option_map (λ (v : HwType). Some v)) at_u in
      let found = option_map_some new_type (slice_get (parts r) i) e in
      ap (λ x. new_type (or_undefined x)) found.1 ∙ found.2

  one_typed : (r : Ref) (x : HwType) → leaves x ≡ x ∷ [] → old_type r ≡ Some x → (r' : Ref) × (parts r ≡ r' ∷ []) × (new_type r' ≡ Some x)
  one_typed r x leaf is =
      let types : map new_type (parts r) ≡ Some x ∷ [] = typed r x is ∙ ap (map (λ (u : HwType). Some u)) leaf in
      let one = single new_type (parts r) (Some x) types in
      let e : new_type one.0 ∷ [] ≡ Some x ∷ [] = ap (map new_type) (sym one.1) ∙ types in
      (one.0, one.1, cc)

  -- the types of the operands of a leaf of a register
  leaf_typed : (e : Bool) (r : Reset) (rs : List Ref) (t : HwType) (i : ℕ) (u : HwType) → map old_type rs ≡ register_types e r t → slice_get (leaves t) i ≡ Some u
      → map new_type (leaf_operands e r (map parts rs) i) ≡ register_types e r u
  leaf_typed false no_reset (d ∷ c ∷ []) t i u is at_u =
      let clk = one_typed c clock refl cc in
      ap (λ cs. map new_type (part (parts d) i ∷ cs)) clk.1
      ∙ ap₂ (λ x y. x ∷ y ∷ []) (part_type d t i u (cc) at_u) clk.2
  leaf_typed true no_reset (d ∷ c ∷ e ∷ []) t i u is at_u =
      let clk = one_typed c clock refl cc in
      let en = one_typed e (int 1) refl cc in
      ap₂ (λ cs es. map new_type (part (parts d) i ∷ (cs ++ es))) clk.1 en.1
      ∙ ap₂ (λ x y. x ∷ y ∷ new_type en.0 ∷ []) (part_type d t i u (cc) at_u) clk.2
      ∙ ap (λ y. Some u ∷ Some clock ∷ y ∷ []) en.2
  leaf_typed false sync_reset (d ∷ c ∷ r ∷ v ∷ []) t i u is at_u =
      let clk = one_typed c clock refl cc in
      let rst = one_typed r (int 1) refl cc in
      ap₂ (λ cs es. map new_type (part (parts d) i ∷ (cs ++ (es ++ (part (parts v) i ∷ []))))) clk.1 rst.1
      ∙ ap₂ (λ x y. x ∷ y ∷ new_type rst.0 ∷ new_type (part (parts v) i) ∷ []) (part_type d t i u (cc) at_u) clk.2
      ∙ ap₂ (λ x y. Some u ∷ Some clock ∷ x ∷ y ∷ []) rst.2 (part_type v t i u (cc) at_u)
  leaf_typed true sync_reset (d ∷ c ∷ e ∷ r ∷ v ∷ []) t i u is at_u =
      let clk = one_typed c clock refl cc in
      let en = one_typed e (int 1) refl cc in
      let rst = one_typed r (int 1) refl cc in
      ap₂ (λ cs es. map new_type (part (parts d) i ∷ (cs ++ (es ++ (parts r ++ (part (parts v) i ∷ [])))))) clk.1 en.1
      ∙ ap (λ rs. map new_type (part (parts d) i ∷ clk.0 ∷ en.0 ∷ (rs ++ (part (parts v) i ∷ [])))) rst.1
      ∙ ap₂ (λ x y. x ∷ y ∷ new_type en.0 ∷ new_type rst.0 ∷ new_type (part (parts v) i) ∷ []) (part_type d t i u (cc) at_u) clk.2
      ∙ ap₂ (λ x y. Some u ∷ Some clock ∷ x ∷ y ∷ new_type (part (parts v) i) ∷ []) en.2 rst.2
      ∙ ap (λ y. Some u ∷ Some clock ∷ Some (int 1) ∷ Some (int 1) ∷ y ∷ []) (part_type v t i u (cc) at_u)
  leaf_typed _ _ _ t i u is at_u = cc

-- ---- what a new register, instance or output is

-- it is, but for names, a leaf of a register, or an instance or an output with its leaves
pub data Comes (os : List Op) (parts : Ref → List Ref) (start : ℕ → ℕ → ℕ) (j' : ℕ) (z : Op) : Type 0 where
  of_register : (j : ℕ) (o : Op) (f : RegisterForm) (t : HwType) (i : ℕ) (u : HwType) → slice_get os j ≡ Some o → register_form o.kind ≡ Some f → result_type o 0 ≡ Some t
      → slice_get (leaves t) i ≡ Some u → bare_op z ≡ bare (bare_kind o.kind) (leaf_operands f.has_enable f.reset (map parts o.operands) (0 + i)) (u ∷ []) → Comes os parts start j' z
  of_other : (j : ℕ) (o : Op) → slice_get os j ≡ Some o → register_form o.kind ≡ None → is_anchor o ≡ true → bare_op z ≡ spread parts o → j' ≡ start j 0 → Comes os parts start j' z

module _ (scale : ℕ) (o o' : Option Module) (x : LoweredWell scale o o') where
  pub comes : (j' : ℕ) (z : Op) → slice_get (body_of o') j' ≡ Some z → is_anchor z ≡ true → Comes (body_of o) x.lowered.parts x.lowered.start j' z
  comes j' z is anchor = by_form (register_form (x.origin j' z is anchor).1.kind) refl
    where
      from : (j : ℕ) × (y : Op) × (i : ℕ) × (w : Op) × (slice_get (body_of o) j ≡ Some y) × (is_anchor y ≡ true)
          × (slice_get (lower_anchor x.lowered.parts y) i ≡ Some w) × (j' ≡ x.lowered.start j i)
      from = x.origin j' z is anchor

      alike : bare_op z ≡ (x.origin j' z is anchor).3
      alike =
          let there = (x.lowered.stands from.0 from.1 from.2 from.3 from.4 from.5 from.6).op in
          let e : option_map bare_op (Some z) ≡ Some from.3 = ap (option_map bare_op) (sym is ∙ ap (slice_get (body_of o')) from.7) ∙ there in
          cc

      by_type : (f : RegisterForm) → register_form from.1.kind ≡ Some f → (t : Option HwType) → result_type from.1 0 ≡ t
          → slice_get (leaf_registers (bare_kind from.1.kind) (leaf_operands f.has_enable f.reset (map x.lowered.parts from.1.operands)) 0 (leaves_of t)) from.2 ≡ Some from.3
          → Comes (body_of o) x.lowered.parts x.lowered.start j' z
      by_type f form None typed at_i = cc
      by_type f form (Some t) typed at_i =
          let leaf = from_leaf_register (bare_kind from.1.kind) (leaf_operands f.has_enable f.reset (map x.lowered.parts from.1.operands)) (leaves t) 0 from.2 from.3 at_i in
          of_register from.0 from.1 f t from.2 leaf.0 from.4 form typed leaf.1 (alike ∙ leaf.2)

      by_number : (i : ℕ) → register_form from.1.kind ≡ None → slice_get (spread x.lowered.parts from.1 ∷ []) i ≡ Some from.3 → j' ≡ x.lowered.start from.0 i
          → Comes (body_of o) x.lowered.parts x.lowered.start j' z
      by_number zero none at_i position = let same : spread x.lowered.parts from.1 ≡ from.3 = cc in of_other from.0 from.1 from.4 none from.5 (alike ∙ sym same) position
      by_number (suc i) none at_i position = cc

      by_form : (f : Option RegisterForm) → register_form from.1.kind ≡ f → Comes (body_of o) x.lowered.parts x.lowered.start j' z
      by_form None none = by_number from.2 none (ap (λ xs. slice_get xs from.2) (sym (lowered_other x.lowered.parts from.1 none)) ∙ from.6) from.7
      by_form (Some f) some =
          by_type f some (result_type from.1 0) refl (ap (λ xs. slice_get xs from.2) (sym (lowered_register x.lowered.parts from.1 f some)) ∙ from.6)

-- the results' types, the operands and the symbol of an operation that is another but for names
pub bare_types : (z : Op) (K : Kind) (rs : List Ref) (ts : List HwType) → bare_op z ≡ bare K rs ts → result_types z ≡ ts
bare_types z K rs ts same = sym (types_bare (result_types z)) ∙ ap result_types same ∙ types_bare ts

-- ---- designs

module _ (scale : ℕ) (d d' : Design) (each : (s : Name) → LoweredWell scale (find_module d s) (find_module d' s)) where
  -- a module that was there is there, with the leaves of its ports
  still_there : (s : Name) (c : Module) → find_module d s ≡ Some c → (c' : Module) × (find_module d' s ≡ Some c') × (map bare_port c'.ports ≡ flat_map leaf_ports c.ports)
  still_there s c is =
      go (find_module d' s) refl (ap is_some (sym is) ∙ sym (each s).lowered.is_there) ((each s).lowered.ports_are ∙ ap (λ m. flat_map leaf_ports (ports_of m)) is)
    where
      go : (y : Option Module) → find_module d' s ≡ y → true ≡ is_some (find_module d' s) → map bare_port (ports_of (find_module d' s)) ≡ flat_map leaf_ports c.ports
          → (c' : Module) × (find_module d' s ≡ Some c') × (map bare_port c'.ports ≡ flat_map leaf_ports c.ports)
      go None none there ports = let clash : true ≡ false = there ∙ ap is_some none in cc
      go (Some c') some there ports = (c', some, ap (λ m. map bare_port (ports_of m)) (sym some) ∙ ports)

  module _ (o o' : Option Module) (x : LoweredWell scale o o') (sound : SoundBody d (ports_of o) (body_of o)) where
    anchor_fits : (j' : ℕ) (z : Op) → slice_get (body_of o') j' ≡ Some z → is_anchor z ≡ true → OpFits (type_in (ports_of o') (body_of o')) z
    anchor_fits j' z is anchor k t typed = go (comes scale o o' x j' z is anchor)
      where
        -- an output has no results
        no_types : (j : ℕ) (y : Op) → slice_get (body_of o) j ≡ Some y → is_output_kind y.kind ≡ true → result_types y ≡ []
        no_types j y at_j out = none (result_types y) (λ m s at_m. no_result y.kind y.types (map (type_in (ports_of o) (body_of o)) y.operands) s m out (sound.ops j y at_j m s (type_listed y m ∙ at_m)))
          where
            none : (ts : List HwType) → ((m : ℕ) (s : HwType) → slice_get ts m ≡ Some s → ⊥) → ts ≡ []
            none [] never = refl
            none (s ∷ ts) never = absurd (never 0 s refl)

        by_number : (j : ℕ) (y : Op) (f : RegisterForm) (s : HwType) (i : ℕ) (u : HwType) → slice_get (body_of o) j ≡ Some y → register_form y.kind ≡ Some f → result_type y 0 ≡ Some s
            → slice_get (leaves s) i ≡ Some u → bare_op z ≡ bare (bare_kind y.kind) (leaf_operands f.has_enable f.reset (map x.lowered.parts y.operands) (0 + i)) (u ∷ [])
            → (n : ℕ) → slice_get (u ∷ []) n ≡ Some t → Fits z.kind z.types (map (type_in (ports_of o') (body_of o')) z.operands) t k
        by_number j y f s i u at_j form typed_s at_u alike (suc n) never = cc
        by_number j y f s i u at_j form typed_s at_u alike zero same =
            let form_z : register_form z.kind ≡ Some f = sym (form_bare z.kind) ∙ ap (λ (w : Op). register_form w.kind) alike ∙ form_bare y.kind ∙ form in
            let u_is : u ≡ t = cc in
            let operands : map (type_in (ports_of o') (body_of o')) z.operands ≡ register_types f.has_enable f.reset u =
            ap (λ (w : Op). map (type_in (ports_of o') (body_of o')) w.operands) alike
            ∙ leaf_typed (type_in (ports_of o) (body_of o)) (type_in (ports_of o') (body_of o')) x.lowered.parts x.lowered.typed f.has_enable f.reset y.operands s (0 + i) u
            (register_fits y.kind f y.types (map (type_in (ports_of o) (body_of o)) y.operands) s 0 form (sound.ops j y at_j 0 s typed_s))
            (ap (slice_get (leaves s)) (zero-add i) ∙ at_u) in
            register_fits_back z.kind f z.types (map (type_in (ports_of o') (body_of o')) z.operands) t k form_z (operands ∙ ap (register_types f.has_enable f.reset) u_is)

        other : (j : ℕ) (y : Op) → slice_get (body_of o) j ≡ Some y → register_form y.kind ≡ None → is_anchor y ≡ true → bare_op z ≡ spread x.lowered.parts y → Sort y.kind
            → Fits z.kind z.types (map (type_in (ports_of o') (body_of o')) z.operands) t k
        other j y at_j none anchored alike (a_register f r i u) = let clash : None ≡ Some f = sym none ∙ r in cc
        other j y at_j none anchored alike (an_instance n r i u) =
            let called : called_symbol z.kind ≡ Some n.symbol =
            sym (called_bare z.kind) ∙ ap (λ (w : Op). called_symbol w.kind) alike ∙ called_bare y.kind ∙ ap (option_map (λ (m : Instance). m.symbol)) i in
            let inst = called_instance z.kind n.symbol called in
            instance_fits z.kind inst.0 z.types (map (type_in (ports_of o') (body_of o')) z.operands) t k inst.1
        other j y at_j none anchored alike (an_output r i u) =
            let listed : slice_get (flat_map leaves (result_types y)) k ≡ Some t =
            ap (λ ts. slice_get ts k) (sym (bare_types z (bare_kind y.kind) (flat_map x.lowered.parts y.operands) (flat_map leaves (result_types y)) alike)) ∙ sym (type_listed z k) ∙ typed in
            absurd (no_listed (ap (λ ts. slice_get (flat_map leaves ts) k) (sym (no_types j y at_j u)) ∙ listed))
          where
            no_listed : slice_get {X = HwType} [] k ≡ Some t → ⊥
            no_listed never = cc
        other j y at_j none anchored alike (a_made r i u) = let clash : true ≡ false = sym anchored ∙ simp (r, i, u) in cc

        go : Comes (body_of o) x.lowered.parts x.lowered.start j' z → Fits z.kind z.types (map (type_in (ports_of o') (body_of o')) z.operands) t k
        go (of_register j y f s i u at_j form typed_s at_u alike) =
            by_number j y f s i u at_j form typed_s at_u alike k
            (ap (λ ts. slice_get ts k) (sym (bare_types z (bare_kind y.kind) (leaf_operands f.has_enable f.reset (map x.lowered.parts y.operands) (0 + i)) (u ∷ []) alike)) ∙ sym (type_listed z k) ∙ typed)
        go (of_other j y at_j none anchored alike position) = other j y at_j none anchored alike (sort_of y.kind)

    anchor_instance : (j' : ℕ) (z : Op) → slice_get (body_of o') j' ≡ Some z → (n : Instance) → instance_in z.kind ≡ Some n → InstanceFits d' (type_in (ports_of o') (body_of o')) z
    anchor_instance j' z is n inst i inst_i = go (comes scale o o' x j' z is (instance_anchor z n inst))
      where
        by_symbol : (j : ℕ) (y : Op) → slice_get (body_of o) j ≡ Some y → bare_op z ≡ spread x.lowered.parts y → (m : Instance) → instance_in y.kind ≡ Some m → m.symbol ≡ i.symbol
            → (c : Module) × (find_module d' i.symbol ≡ Some c) × (map (type_in (ports_of o') (body_of o')) z.operands ≡ map (λ (t : HwType). Some t) (input_types c.ports))
            × (result_types z ≡ output_types c.ports)
        by_symbol j y at_j alike m inst_m named =
            let fits = sound.instances j y at_j m inst_m in
            let there = still_there i.symbol fits.0 (ap (find_module d) (sym named) ∙ fits.1) in (
              there.0,
              there.1,
              ap (λ (w : Op). map (type_in (ports_of o') (body_of o')) w.operands) alike
                  ∙ parts_typed (type_in (ports_of o) (body_of o)) (type_in (ports_of o') (body_of o')) x.lowered.parts x.lowered.typed y.operands (input_types fits.0.ports) fits.2
                  ∙ ap (map (λ (t : HwType). Some t)) (sym (input_types_lowered fits.0.ports) ∙ ap input_types (sym there.2) ∙ input_types_bare there.0.ports),
              bare_types z (bare_kind y.kind) (flat_map x.lowered.parts y.operands) (flat_map leaves (result_types y)) alike
                  ∙ ap (flat_map leaves) fits.3 ∙ sym (output_types_lowered fits.0.ports) ∙ ap output_types (sym there.2) ∙ output_types_bare there.0.ports,
            )

        go : Comes (body_of o) x.lowered.parts x.lowered.start j' z
            → (c : Module) × (find_module d' i.symbol ≡ Some c) × (map (type_in (ports_of o') (body_of o')) z.operands ≡ map (λ (t : HwType). Some t) (input_types c.ports))
            × (result_types z ≡ output_types c.ports)
        go (of_register j y f s k u at_j form typed_s at_u alike) =
            let form_z : register_form z.kind ≡ Some f = sym (form_bare z.kind) ∙ ap (λ (w : Op). register_form w.kind) alike ∙ form_bare y.kind ∙ form in
            let clash : None ≡ Some n = sym (register_apart z.kind f form_z).0 ∙ inst in
            cc
        go (of_other j y at_j none anchored alike position) =
            let called : called_symbol y.kind ≡ Some i.symbol =
            sym (called_bare y.kind) ∙ ap (λ (w : Op). called_symbol w.kind) (sym alike) ∙ called_bare z.kind ∙ ap (option_map (λ (m : Instance). m.symbol)) inst_i in
            let found = called_instance y.kind i.symbol called in
            by_symbol j y at_j alike found.0 found.1 found.2

    sound_body : SoundBody d' (ports_of o') (body_of o')
    sound_body = record {
      ops = λ j' z is. by_anchor j' z is (is_anchor z) refl;
      instances = λ j' z is i inst. anchor_instance j' z is i inst i inst;
      outputs =
          ap (map (type_in (ports_of o') (body_of o'))) (output_refs_follow (body_of o) (body_of o') x.lowered.parts x.lowered.anchors_are)
          ∙ parts_typed (type_in (ports_of o) (body_of o)) (type_in (ports_of o') (body_of o')) x.lowered.parts x.lowered.typed (output_refs (body_of o)) (output_types (ports_of o)) sound.outputs
          ∙ ap (map (λ (t : HwType). Some t)) (sym (output_types_lowered (ports_of o)) ∙ ap output_types (sym x.lowered.ports_are) ∙ output_types_bare (ports_of o'));
    }
      where
        by_anchor : (j' : ℕ) (z : Op) → slice_get (body_of o') j' ≡ Some z → (b : Bool) → is_anchor z ≡ b → OpFits (type_in (ports_of o') (body_of o')) z
        by_anchor j' z is true anchor = anchor_fits j' z is anchor
        by_anchor j' z is false plain = x.fits j' z is plain

  pub sound_after : Sound d → Sound d'
  sound_after sound s m is =
      subst (λ (y : Option Module). SoundBody d' (ports_of y) (body_of y)) is (sound_body (find_module d s) (find_module d' s) (each s) (sound_found d sound s))
