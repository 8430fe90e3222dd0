-- Types fit in the new design.
use Rattle.std.proofs.Common.{◌≡◌, ◌⊎◌, ℕ, zero, suc, ◌+◌, ◌<◌, List, [], ◌∷◌, ◌++◌, length, map, take, slice_get, Bool, true, false, cond, Option, Some, None, refl, sym, ap, ap₂, subst, ◌∙◌, inl, inr, option_and_then, option_map}
use Rattle.std.proofs.lemmas.List.{length-map}
use Rattle.wiring.specs.Wiring.{In}
use Rattle.wiring.proofs.Lists.{map-map, slice_get-append_at, slice_get-append_right}
use Rattle.wiring.proofs.Members.{In-slice_get, position_of_In, In-append_cases, In-append_left, In-append_right, from_In-map, map_same}
use Rattle.wiring.proofs.Options.{option_map_some}
use Rattle.hw_model.specs.Types.{Name, HwType}
use Rattle.hw_model.specs.Kinds.{Kind, Instance}
use Rattle.hw_model.specs.Kinds.Kind.{instance, output}
use Rattle.hw_model.specs.Design.{instance_in, Ref, Port, OpResult, Op, Module, find_module, is_output_kind, result_type, output_refs}
use Rattle.hw_model.specs.Design.Ref.{port, result, undefined}
use Rattle.hw_model.specs.Flat.{input_count, operand_for}
use Rattle.hw_model.specs.Sound.{input_types, output_types, input_type, type_in, Fits, OpFits, InstanceFits, SoundBody, Sound}
use Rattle.hw_model.proofs.NetWidths.{input_found, typed_at}
use Rattle.edit_laws.specs.Edit.{retarget}
use Rattle.inline_laws.specs.Inline.{Side, side, wire_count, moved_count, outer_result, inner_result, wire_result, wire_op, ref_or_undefined}
use Rattle.inline_laws.specs.Inline.Side.{in_first, in_second}
use Rattle.inline_laws.proofs.Sides.{side_prefix, side_back, from_prefix, from_back}
use Rattle.inline_laws.proofs.Parts.{get_prefix, get_back}
use Rattle.inline_laws.proofs.Moved.{IsMoved, Matches, moved_type, moved_kind, moved_some, moved_back, moved_retarget, moved_renamed, get_moved}
use Rattle.inline_laws.proofs.Moved.Matches.{missing, matched}
use Rattle.inline_laws.proofs.Ends.{wires_length, get_wire}
use Rattle.inline_laws.proofs.Inlining.{Finds, Inlining, position, inner, outer_stand, inner_stand, new_prefix, new_wires, new_inner, new_back, new_body, new_module, end_is}
use Rattle.inline_laws.proofs.Inlining.Finds.{changed, unchanged}
use Rattle.inline_laws.proofs.Origins.{typed_within, c_sound, operands_fit, given_types}
use Rattle.inline_laws.proofs.Comes.{new_outputs}

-- the type of a result of an operation that may be there
abbrev pub type_of_result : ℕ → Option Op → Option HwType
type_of_result k x = option_and_then (λ (o : Op). result_type o k) x

matches_type : (f : Ref → Ref) (x x' : Option Op) → Matches f x x' → (k : ℕ) → type_of_result k x' ≡ type_of_result k x
matches_type f x x' (missing was now) k = ap (type_of_result k) now ∙ sym (ap (type_of_result k) was)
matches_type f x x' (matched o o' was now moves) k = ap (type_of_result k) now ∙ moved_type f o o' moves k ∙ sym (ap (type_of_result k) was)

-- an operation fits with operands of the same types
module _ (f : Ref → Ref) (old_type new_type : Ref → Option HwType) (keeps : (r : Ref) → new_type (f r) ≡ old_type r) (y y' : Op) (moves : IsMoved f y y') where
  operands_keep : map new_type y'.operands ≡ map old_type y.operands
  operands_keep = ap (map new_type) moves.operands_are ∙ map-map new_type f y.operands ∙ map_same (λ r. new_type (f r)) old_type y.operands (λ r here. keeps r)

  fits_moved : OpFits old_type y → OpFits new_type y'
  fits_moved fits k t typed = go (instance_in y.kind) refl
    where
      old : Fits y.kind y.types (map old_type y.operands) t k
      old = fits k t (sym (moved_type f y y' moves k) ∙ typed)

      instance_fits : (kind : Kind) (x : Instance) → instance_in kind ≡ Some x → Fits kind y'.types (map new_type y'.operands) t k
      instance_fits (instance x) z is = tt
      instance_fits _ z is = cc

      go : (x : Option Instance) → instance_in y.kind ≡ x → Fits y'.kind y'.types (map new_type y'.operands) t k
      go None none =
          subst (λ x. Fits x y'.types (map new_type y'.operands) t k) (sym (moved_kind f y y' moves none))
          (subst (λ ts. Fits y.kind ts (map new_type y'.operands) t k) (sym moves.types_are) (subst (λ xs. Fits y.kind y.types xs t k) (sym operands_keep) old))
      go (Some i) is = instance_fits y'.kind (moved_some f y y' moves i is).0 (moved_some f y y' moves i is).1

module _ (S : Inlining) where
  -- a module that was there is there, with its ports
  still_there : (s : Name) (c : Module) → find_module S.d s ≡ Some c → (c' : Module) × (find_module S.e s ≡ Some c') × (c'.ports ≡ c.ports)
  still_there s c is = go (S.finds s)
    where
      go : Finds S.d S.e S.md (new_module S) s → (c' : Module) × (find_module S.e s ≡ Some c') × (c'.ports ≡ c.ports)
      go (unchanged same) = (c, same ∙ is, refl)
      go (changed was now) =
          let both : Some S.md ≡ Some c = sym was ∙ is in
          let one : S.md ≡ c = cc in
          (new_module S, now, ap (λ (m : Module). m.ports) one)

  instance_moved : (f : Ref → Ref) (old_type new_type : Ref → Option HwType) → ((r : Ref) → new_type (f r) ≡ old_type r) → (y y' : Op) → IsMoved f y y'
      → InstanceFits S.d old_type y → InstanceFits S.e new_type y'
  instance_moved f old_type new_type keeps y y' moves fits i inst =
      let own = moved_back f y y' moves i inst in
      let was = fits own.0 own.1 in
      let there = still_there i.symbol was.0 (ap (find_module S.d) (sym own.2) ∙ was.1) in (
        there.0,
        there.1,
        operands_keep f old_type new_type keeps y y' moves ∙ was.2 ∙ ap (λ ps. map (λ (t : HwType). Some t) (input_types ps)) (sym there.2),
        ap (map (λ (r : OpResult). r.type)) moves.results_are ∙ was.3 ∙ ap output_types (sym there.2),
      )

  -- ---- what stands where in the new body

  pub prefix_at : (x : ℕ) → x < position S → slice_get (new_body S) x ≡ slice_get (new_prefix S) x
  prefix_at x below =
      get_prefix (new_prefix S) (new_wires S ++ (new_inner S ++ new_back S)) x x
      (ap (λ n. side n x) (length-map S.prefix (retarget (outer_stand S))) ∙ side_prefix (position S) x below)

  past_at : (y : ℕ) → slice_get (new_body S) (position S + y) ≡ slice_get (new_wires S ++ (new_inner S ++ new_back S)) y
  past_at y =
      get_back (new_prefix S) (new_wires S ++ (new_inner S ++ new_back S)) (position S + y) y
      (ap (λ n. side n (position S + y)) (length-map S.prefix (retarget (outer_stand S))) ∙ side_back (position S) y)

  pub wire_at : (w : ℕ) → w < wire_count S.o → slice_get (new_body S) (position S + w) ≡ slice_get (new_wires S) w
  wire_at w below =
      past_at w
      ∙ get_prefix (new_wires S) (new_inner S ++ new_back S) w w
      (ap (λ n. side n w) (wires_length S.o.location (inner_stand S) S.o.results (output_refs S.c.body)) ∙ side_prefix (wire_count S.o) w below)

  beyond_at : (z : ℕ) → slice_get (new_body S) (position S + (wire_count S.o + z)) ≡ slice_get (new_inner S ++ new_back S) z
  beyond_at z =
      past_at (wire_count S.o + z)
      ∙ get_back (new_wires S) (new_inner S ++ new_back S) (wire_count S.o + z) z
      (ap (λ n. side n (wire_count S.o + z)) (wires_length S.o.location (inner_stand S) S.o.results (output_refs S.c.body)) ∙ side_back (wire_count S.o) z)

  pub inner_at : (x : ℕ) → x < moved_count S.c → slice_get (new_body S) (position S + (wire_count S.o + x)) ≡ slice_get (new_inner S) x
  inner_at x below =
      beyond_at x
      ∙ get_prefix (new_inner S) (new_back S) x x
      (ap (λ n. side n x) (length-map (inner S) (λ (y : Op). S.rename (retarget (inner_stand S) y))) ∙ side_prefix (moved_count S.c) x below)

  pub back_at : (x : ℕ) → slice_get (new_body S) (position S + (wire_count S.o + (moved_count S.c + x))) ≡ slice_get (new_back S) x
  back_at x =
      beyond_at (moved_count S.c + x)
      ∙ get_back (new_inner S) (new_back S) (moved_count S.c + x) x
      (ap (λ n. side n (moved_count S.c + x)) (length-map (inner S) (λ (y : Op). S.rename (retarget (inner_stand S) y))) ∙ side_back (moved_count S.c) x)

  -- ---- the new body

  module _ (sound : SoundBody S.d S.md.ports S.md.body) where
    abbrev old_type : Ref → Option HwType
    old_type = type_in S.md.ports S.md.body

    abbrev new_type : Ref → Option HwType
    new_type = type_in S.md.ports (new_body S)

    abbrev c_type : Ref → Option HwType
    c_type = type_in S.c.ports S.c.body

    -- what the module gives to the output of a wire
    given_output : (w : ℕ) (z : OpResult) → slice_get S.o.results w ≡ Some z → (r : Ref) × (slice_get (output_refs S.c.body) w ≡ Some r) × (c_type r ≡ Some z.type)
    given_output w z typed =
        option_map_some c_type (slice_get (output_refs S.c.body) w)
        (given_types S sound w ∙ ap (λ t. option_map (λ (u : HwType). Some u) (option_map (λ (r : OpResult). r.type) t)) typed)

    pub outer_type : (r : Ref) → new_type (outer_stand S r) ≡ old_type r
    outer_type (port j) = refl
    outer_type undefined = refl
    outer_type (result j k) = go (side (position S) j) refl
      where
        old_at : (n : ℕ) → j ≡ position S + n → slice_get S.md.body j ≡ slice_get (S.o ∷ S.back) n
        old_at n is = ap₂ (λ os m. slice_get os m) S.body_is is ∙ slice_get-append_right S.prefix (S.o ∷ S.back) n

        by_type : (t : Option HwType) → result_type S.o k ≡ t → new_type (wire_result (position S) k t) ≡ t
        by_type None none = refl
        by_type (Some t) typed =
            let found = option_map_some (λ (r : OpResult). r.type) (slice_get S.o.results k) typed in
            ap (type_of_result 0) (wire_at k (typed_within S.o k t typed) ∙ get_wire S.o.location (inner_stand S) S.o.results (output_refs S.c.body) k)
            ∙ ap (λ x. type_of_result 0 (option_map (λ (z : OpResult). wire_op S.o.location z.type (ref_or_undefined (option_map (inner_stand S) (slice_get (output_refs S.c.body) k)))) x)) found.1
            ∙ ap Some found.2

        go : (s : Side) → side (position S) j ≡ s → new_type (outer_result (position S) S.o S.c k s) ≡ old_type (result j k)
        go (in_first x) is =
            let from = from_prefix (position S) j x is in
            ap (type_of_result k) (prefix_at x (subst (λ n. n < position S) (sym from.0) from.1))
            ∙ matches_type (outer_stand S) (slice_get S.prefix x) (slice_get (new_prefix S) x) (get_moved (outer_stand S) (retarget (outer_stand S)) (moved_retarget (outer_stand S)) S.prefix x) k
            ∙ ap (type_of_result k) (sym (ap (λ os. slice_get os j) S.body_is ∙ get_prefix S.prefix (S.o ∷ S.back) j x is))
        go (in_second zero) is = by_type (result_type S.o k) refl ∙ sym (ap (type_of_result k) (old_at 0 (from_back (position S) j 0 is)))
        go (in_second (suc x)) is =
            ap (type_of_result k) (back_at x)
            ∙ matches_type (outer_stand S) (slice_get S.back x) (slice_get (new_back S) x) (get_moved (outer_stand S) (retarget (outer_stand S)) (moved_retarget (outer_stand S)) S.back x) k
            ∙ ap (type_of_result k) (sym (old_at (suc x) (from_back (position S) j (suc x) is)))

    -- an output has no result with a type
    no_result : (k : ℕ) → result_type (end_is S).last k ≡ None
    no_result k = go (result_type (end_is S).last k) refl
      where
        no_output : (kind : Kind) (ts : List HwType) (xs : List (Option HwType)) (t : HwType) → is_output_kind kind ≡ true → Fits kind ts xs t k → ⊥
        no_output output ts xs t is fits = fits
        no_output kind ts xs t is fits = cc

        last_at : slice_get S.c.body (length (inner S)) ≡ Some (end_is S).last
        last_at = ap (λ os. slice_get os (length (inner S))) (end_is S).body_is ∙ slice_get-append_at (inner S) (end_is S).last []

        go : (t : Option HwType) → result_type (end_is S).last k ≡ t → t ≡ None
        go None is = refl
        go (Some t) is =
            absurd (no_output (end_is S).last.kind (end_is S).last.types (map c_type (end_is S).last.operands) t (end_is S).is_output
            ((c_sound S).ops (length (inner S)) (end_is S).last last_at k t is))

    pub inner_type : (r : Ref) → new_type (inner_stand S r) ≡ c_type r
    inner_type undefined = refl
    inner_type (port j) = go (slice_get S.c.ports j) refl
      where
        by_way : (q : Port) → slice_get S.c.ports j ≡ Some q → (b : Bool) → q.is_output ≡ b
            → new_type (ref_or_undefined (option_map (outer_stand S) (cond b None (slice_get S.o.operands (input_count (take j S.c.ports)))))) ≡ cond b None (Some q.type)
        by_way q is true way = refl
        by_way q is false way =
            let found = typed_at old_type S.o.operands (input_types S.c.ports) (input_count (take j S.c.ports)) q.type (operands_fit S sound) (input_found S.c.ports j q is way) in
            ap (λ x. new_type (ref_or_undefined (option_map (outer_stand S) x))) found.1 ∙ outer_type found.0 ∙ found.2

        go : (x : Option Port) → slice_get S.c.ports j ≡ x → new_type (ref_or_undefined (option_map (outer_stand S) (operand_for x S.o.operands (input_count (take j S.c.ports))))) ≡ input_type x
        go None is = refl
        go (Some q) is = by_way q is q.is_output refl
    inner_type (result j k) = go (side (moved_count S.c) j) refl
      where
        end_at : (y : ℕ) → j ≡ length (inner S) + y → slice_get S.c.body j ≡ slice_get ((end_is S).last ∷ []) y
        end_at y is = ap₂ (λ os m. slice_get os m) (end_is S).body_is is ∙ slice_get-append_right (inner S) ((end_is S).last ∷ []) y

        past_end : (y : ℕ) → type_of_result k (slice_get ((end_is S).last ∷ []) y) ≡ None
        past_end zero = no_result k
        past_end (suc y) = refl

        go : (s : Side) → side (moved_count S.c) j ≡ s → new_type (inner_result (position S) S.o k s) ≡ c_type (result j k)
        go (in_first x) is =
            let from = from_prefix (moved_count S.c) j x is in
            ap (type_of_result k) (inner_at x (subst (λ n. n < moved_count S.c) (sym from.0) from.1))
            ∙ matches_type (inner_stand S) (slice_get (inner S) x) (slice_get (new_inner S) x)
            (get_moved (inner_stand S) (λ (y : Op). S.rename (retarget (inner_stand S) y)) (moved_renamed S.rename S.only (inner_stand S)) (inner S) x) k
            ∙ ap (type_of_result k) (sym (ap (λ os. slice_get os j) (end_is S).body_is ∙ get_prefix (inner S) ((end_is S).last ∷ []) j x is))
        go (in_second y) is = sym (ap (type_of_result k) (end_at y (from_back (moved_count S.c) j y is)) ∙ past_end y)

    -- an operation that is moved is one of its module
    pub in_module : (y : Op) → In y (inner S) → In y S.c.body
    in_module y here = subst (λ os. In y os) (sym (end_is S).body_is) (In-append_left y (inner S) ((end_is S).last ∷ []) here)

    -- what holds of the wires and of operations of both bodies with other operands holds of each operation of the new body
    pub each_op : (P : Op → Type 0) → ((y : Op) → In y S.md.body → P (retarget (outer_stand S) y)) → ((y : Op) → In y (new_wires S) → P y)
        → ((y : Op) → In y (inner S) → P (S.rename (retarget (inner_stand S) y))) → (z : Op) → In z (new_body S) → P z
    each_op P outside wires within z here = go (In-append_cases z (new_prefix S) (new_wires S ++ (new_inner S ++ new_back S)) here)
      where
        in_old : (y : Op) → In y (S.prefix ++ (S.o ∷ S.back)) → In y S.md.body
        in_old y there = subst (λ os. In y os) (sym S.body_is) there

        last_two : In z (new_inner S) ⊎ In z (new_back S) → P z
        last_two (inl there) =
            let from = from_In-map (λ (y : Op). S.rename (retarget (inner_stand S) y)) z (inner S) there in
            subst P (sym from.2) (within from.0 from.1)
        last_two (inr there) =
            let from = from_In-map (retarget (outer_stand S)) z S.back there in
            subst P (sym from.2) (outside from.0 (in_old from.0 (In-append_right from.0 S.prefix (S.o ∷ S.back) (inr from.1))))

        last_three : In z (new_wires S) ⊎ In z (new_inner S ++ new_back S) → P z
        last_three (inl there) = wires z there
        last_three (inr there) = last_two (In-append_cases z (new_inner S) (new_back S) there)

        go : In z (new_prefix S) ⊎ In z (new_wires S ++ (new_inner S ++ new_back S)) → P z
        go (inl there) =
            let from = from_In-map (retarget (outer_stand S)) z S.prefix there in
            subst P (sym from.2) (outside from.0 (in_old from.0 (In-append_left from.0 S.prefix (S.o ∷ S.back) from.1)))
        go (inr there) = last_three (In-append_cases z (new_wires S) (new_inner S ++ new_back S) there)

    pub wire_found : (y : Op) → In y (new_wires S) → (t : HwType) × (r : Ref) × (y ≡ wire_op S.o.location t (inner_stand S r)) × (c_type r ≡ Some t)
    wire_found y here =
        let at = position_of_In y (new_wires S) here in
        let from = option_map_some (λ (z : OpResult). wire_op S.o.location z.type (ref_or_undefined (option_map (inner_stand S) (slice_get (output_refs S.c.body) at.0)))) (slice_get S.o.results at.0)
        (sym (get_wire S.o.location (inner_stand S) S.o.results (output_refs S.c.body) at.0) ∙ at.1) in
        let gives = given_output at.0 from.0 from.1 in
        (from.0.type, gives.0, sym from.2 ∙ ap (λ x. wire_op S.o.location from.0.type (ref_or_undefined (option_map (inner_stand S) x))) gives.1, gives.2)

    wire_fits : (t : HwType) (r : Ref) → c_type r ≡ Some t → OpFits new_type (wire_op S.o.location t (inner_stand S r))
    wire_fits t r typed zero u is = let same : t ≡ u = cc in ap (λ x. x ∷ []) (inner_type r ∙ typed ∙ ap Some same)
    wire_fits t r typed (suc k) u is = let clash : None ≡ Some u = is in cc

    ops_fit : (z : Op) → In z (new_body S) → OpFits new_type z
    ops_fit =
        each_op (OpFits new_type)
        (λ y here. let at = position_of_In y S.md.body here in fits_moved (outer_stand S) old_type new_type outer_type y (retarget (outer_stand S) y) (moved_retarget (outer_stand S) y) (sound.ops at.0 y at.1))
        (λ y here. let found = wire_found y here in subst (OpFits new_type) (sym found.2) (wire_fits found.0 found.1 found.3))
        (λ y here.
        let at = position_of_In y S.c.body (in_module y here) in
        fits_moved (inner_stand S) c_type new_type inner_type y (S.rename (retarget (inner_stand S) y)) (moved_renamed S.rename S.only (inner_stand S) y) ((c_sound S).ops at.0 y at.1))

    instances_fit : (z : Op) → In z (new_body S) → InstanceFits S.e new_type z
    instances_fit =
        each_op (InstanceFits S.e new_type)
        (λ y here. let at = position_of_In y S.md.body here in instance_moved (outer_stand S) old_type new_type outer_type y (retarget (outer_stand S) y) (moved_retarget (outer_stand S) y) (sound.instances at.0 y at.1))
        (λ y here. let found = wire_found y here in subst (InstanceFits S.e new_type) (sym found.2) (λ i inst. let clash : None ≡ Some i = inst in cc))
        (λ y here.
        let at = position_of_In y S.c.body (in_module y here) in
        instance_moved (inner_stand S) c_type new_type inner_type y (S.rename (retarget (inner_stand S) y)) (moved_renamed S.rename S.only (inner_stand S) y) ((c_sound S).instances at.0 y at.1))

    sound_new : SoundBody S.e S.md.ports (new_body S)
    sound_new = record {
      ops = λ j z is. ops_fit z (In-slice_get z (new_body S) j is);
      instances = λ j z is. instances_fit z (In-slice_get z (new_body S) j is);
      outputs = ap (map new_type) (new_outputs S) ∙ map-map new_type (outer_stand S) (output_refs S.md.body)
          ∙ map_same (λ r. new_type (outer_stand S r)) old_type (output_refs S.md.body) (λ r here. outer_type r) ∙ sound.outputs;
    }

  pub sound_after : Sound S.e
  sound_after s m is = go (S.finds s)
    where
      go : Finds S.d S.e S.md (new_module S) s → SoundBody S.e m.ports m.body
      go (changed was now) =
          let both : Some (new_module S) ≡ Some m = sym now ∙ is in
          let one : new_module S ≡ m = cc in
          subst (λ (x : Module). SoundBody S.e x.ports x.body) one (sound_new (S.valid.sound s S.md was))
      go (unchanged same) =
          let was : SoundBody S.d m.ports m.body = S.valid.sound s m (sym same ∙ is) in
          record {
            ops = was.ops;
            instances = λ j o there i inst.
                let fits = was.instances j o there i inst in
                let found = still_there i.symbol fits.0 fits.1 in
                (found.0, found.1, fits.2 ∙ ap (λ ps. map (λ (t : HwType). Some t) (input_types ps)) (sym found.2), fits.3 ∙ ap output_types (sym found.2));
            outputs = was.outputs;
          }
