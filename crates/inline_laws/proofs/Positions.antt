-- Operations of the new design: each is a wire, or comes from an operation of the old design.
use Rattle.std.proofs.Common.{◌≡◌, ℕ, suc, ◌+◌, ◌<◌, List, [], ◌∷◌, ◌++◌, length, map, take, slice_get, Some, refl, sym, ap, ap₂, subst, ◌∙◌, zero-add, add_assoc, length-append, option_map}
use Rattle.std.proofs.lemmas.List.{length-map}
use Rattle.std.proofs.lemmas.Option.{slice_get_within}
use Rattle.wiring.proofs.Options.{option_map_some}
use Rattle.wiring.proofs.Lists.{slice_get-append_right, take-append_right, slice_get_some}
use Rattle.hw_model.specs.Types.{Name, HwType}
use Rattle.hw_model.specs.Kinds.{Instance}
use Rattle.hw_model.specs.Design.{Ref, OpResult, Op, instance_in, output_refs}
use Rattle.hw_model.specs.Design.Ref.{result, undefined}
use Rattle.hw_model.specs.Flat.{Path, Net, net, instances, module_at, base, state, copy_of, source}
use Rattle.hw_model.specs.Flat.Source.{copy}
use Rattle.hw_model.specs.Sound.{body_of, type_in}
use Rattle.hw_model.proofs.Sorts.{instance_found}
use Rattle.hw_model.proofs.Paths.{before_body}
use Rattle.hw_model.proofs.Content.{body_state-append}
use Rattle.edit_laws.specs.Edit.{retarget}
use Rattle.edit_laws.proofs.Positions.{take_map}
use Rattle.inline_laws.specs.Inline.{Side, side, wire_count, moved_count, wire_op, ref_or_undefined}
use Rattle.inline_laws.specs.Inline.Side.{in_first, in_second}
use Rattle.inline_laws.proofs.Sides.{side_prefix, side_back, from_prefix, instances-append}
use Rattle.inline_laws.proofs.Parts.{get_prefix, get_back, take_prefix, take_back}
use Rattle.inline_laws.proofs.Moved.{IsMoved, Matches, moved_retarget, moved_renamed, get_moved, instances_moved, body_state_moved}
use Rattle.inline_laws.proofs.Ends.{AreWires, are_wires, wires_length, get_wire, wires_instances}
use Rattle.inline_laws.proofs.Inlining.{Inlining, position, inner, outer_stand, inner_stand, new_prefix, new_wires, new_inner, new_back, new_body, new_module, bits, prefix_bits, inner_bits, wire_bits, instance_bits, end_is}
use Rattle.inline_laws.proofs.Origins.{Leads, prefix_count, given_types, result_origin, wired_origin, moved_origin, inlined_origin, old_body, md_sound, inside_body, given_source, outer_alike, inner_leads}
use Rattle.inline_laws.proofs.Origins.Leads.{alike}
use Rattle.inline_laws.proofs.Views.{View, next_path, inlined_next, origin_in, inner_count, inner_next, outer_next, prefix_length, inner_length, before_here, same_matches}
use Rattle.inline_laws.proofs.Views.View.{inlined, as_before}

-- how many instances there are among the first operations of a list
abbrev pub count : ℕ → List Op → ℕ
count j os = length (instances (take j os))

count_moved : (f : Ref → Ref) (g : Op → Op) → ((o : Op) → IsMoved f o (g o)) → (j : ℕ) (os : List Op) → count j (map g os) ≡ count j os
count_moved f g moves j os =
    ap (λ xs. length (instances xs)) (take_map g j os) ∙ ap length (instances_moved f g moves (take j os)) ∙ length-map (instances (take j os)) g

-- an instance is not past the instances
count_within : (os : List Op) (j : ℕ) (o : Op) (x : Instance) → slice_get os j ≡ Some o → instance_in o.kind ≡ Some x → count j os < length (instances os)
count_within os j o x is inst = slice_get_within (instances os) (count j os) o (instance_found os j o x is inst)

count_append : (xs ys : List Op) → length (instances (xs ++ ys)) ≡ length (instances xs) + length (instances ys)
count_append xs ys = ap length (instances-append xs ys) ∙ length-append (instances xs) (instances ys)

module _ (S : Inlining) (top : Name) where
  -- the operation at position j of the new body is the one at position `pos` of the body at the path `home`, with other
  -- operands
  pub record Stands (q p : Path) (x : View S top q p) (j : ℕ) : Type 0 where
    pub home : Path
    pub pos : ℕ
    pub move : Ref → Ref
    pub leads : (r : Ref) → Leads S.d top (net home r) (origin_in S top q p x (move r))
    pub op : Matches move (slice_get (body_of (module_at S.d top home)) pos) (slice_get (body_of (module_at S.e top q)) j)
    pub origin_is : (k : ℕ) → origin_in S top q p x (result j k) ≡ net home (result pos k)
    pub offset_is : base S.d top p + bits S (take j (body_of (module_at S.e top q))) ≡ base S.d top home + bits S (take pos (body_of (module_at S.d top home)))
    pub next_is : (y : Op) (i : Instance) → slice_get (body_of (module_at S.d top home)) pos ≡ Some y → instance_in y.kind ≡ Some i
        → next_path S top q p x (count j (body_of (module_at S.e top q))) ≡ count pos (body_of (module_at S.d top home)) ∷ home

  -- it is a wire, whose operand comes from the net that its result was a copy of
  pub record IsWire (q p : Path) (x : View S top q p) (j : ℕ) : Type 0 where
    pub type : HwType
    pub operand : Ref
    pub op : slice_get (body_of (module_at S.e top q)) j ≡ Some (wire_op S.o.location type operand)
    pub given : Net
    pub source_is : source S.d top (origin_in S top q p x (result j 0)) ≡ copy given
    pub leads : Leads S.d top given (origin_in S top q p x operand)
    pub others : (k : ℕ) → origin_in S top q p x (result j (suc k)) ≡ net p undefined

  pub data Position (q p : Path) (x : View S top q p) (j : ℕ) : Type 0 where
    stands : Stands q p x j → Position q p x j
    is_wire : IsWire q p x j → Position q p x j

  module _ (q p : Path) (was : module_at S.d top p ≡ Some S.md) (now : module_at S.e top q ≡ Some (new_module S)) (j : ℕ) where
    now_body : body_of (module_at S.e top q) ≡ new_body S
    now_body = ap body_of now

    prefix_side : (n : ℕ) (s : Side) → side (position S) n ≡ s → side (length (new_prefix S)) n ≡ s
    prefix_side n s is = ap (λ m. side m n) (length-map S.prefix (retarget (outer_stand S))) ∙ is

    wire_side : (n : ℕ) (s : Side) → side (wire_count S.o) n ≡ s → side (length (new_wires S)) n ≡ s
    wire_side n s is = ap (λ m. side m n) (wires_length S.o.location (inner_stand S) S.o.results (output_refs S.c.body)) ∙ is

    inner_side : (n : ℕ) (s : Side) → side (moved_count S.c) n ≡ s → side (length (new_inner S)) n ≡ s
    inner_side n s is = ap (λ m. side m n) (length-map (inner S) (λ (y : Op). S.rename (retarget (inner_stand S) y))) ∙ is

    -- ---- before the instance that is inlined

    prefix_stands : (v : ℕ) → side (position S) j ≡ in_first v → Stands q p (inlined was now) j
    prefix_stands v is = record {
      home = p;
      pos = v;
      move = outer_stand S;
      leads = λ r. alike (outer_alike S top p was r);
      op = subst (λ z'. Matches (outer_stand S) (slice_get (body_of (module_at S.d top p)) v) z') (sym new_is)
          (subst (λ z. Matches (outer_stand S) z (slice_get (new_prefix S) v)) (sym old_is) (get_moved (outer_stand S) (retarget (outer_stand S)) (moved_retarget (outer_stand S)) S.prefix v));
      origin_is = λ k. ap (result_origin S p k) is;
      offset_is = ap (λ n. base S.d top p + n) (ap (bits S) new_taken ∙ ap (bits S) (take_map (retarget (outer_stand S)) v S.prefix)
          ∙ body_state_moved (outer_stand S) (retarget (outer_stand S)) (moved_retarget (outer_stand S)) (state S.d) (take v S.prefix) ∙ ap (bits S) (sym old_taken));
      next_is = λ y i there inst.
          let within : count v S.prefix < length (instances S.prefix) = count_within S.prefix v y i (sym old_is ∙ there) inst in
          ap (inlined_next S p) count_is ∙ ap (outer_next S p) (side_prefix (prefix_count S) (count v S.prefix) within)
          ∙ ap (λ os. length (instances os) ∷ p) (sym old_taken);
    }
      where
        v_side : side (position S) v ≡ in_first v
        v_side = ap (side (position S)) (from_prefix (position S) j v is).0 ∙ is

        old_is : slice_get (body_of (module_at S.d top p)) v ≡ slice_get S.prefix v
        old_is = ap (λ os. slice_get os v) (old_body S top p was) ∙ get_prefix S.prefix (S.o ∷ S.back) v v v_side

        old_taken : take v (body_of (module_at S.d top p)) ≡ take v S.prefix
        old_taken = ap (take v) (old_body S top p was) ∙ take_prefix S.prefix (S.o ∷ S.back) v v v_side

        new_is : slice_get (body_of (module_at S.e top q)) j ≡ slice_get (new_prefix S) v
        new_is = ap (λ os. slice_get os j) now_body ∙ get_prefix (new_prefix S) (new_wires S ++ (new_inner S ++ new_back S)) j v (prefix_side j (in_first v) is)

        new_taken : take j (body_of (module_at S.e top q)) ≡ take v (new_prefix S)
        new_taken = ap (take j) now_body ∙ take_prefix (new_prefix S) (new_wires S ++ (new_inner S ++ new_back S)) j v (prefix_side j (in_first v) is)

        count_is : count j (body_of (module_at S.e top q)) ≡ count v S.prefix
        count_is = ap (λ os. length (instances os)) new_taken ∙ count_moved (outer_stand S) (retarget (outer_stand S)) (moved_retarget (outer_stand S)) v S.prefix

    module _ (y : ℕ) (past : side (position S) j ≡ in_second y) where
      new_past : slice_get (body_of (module_at S.e top q)) j ≡ slice_get (new_wires S ++ (new_inner S ++ new_back S)) y
      new_past = ap (λ os. slice_get os j) now_body ∙ get_back (new_prefix S) (new_wires S ++ (new_inner S ++ new_back S)) j y (prefix_side j (in_second y) past)

      taken_past : take j (body_of (module_at S.e top q)) ≡ new_prefix S ++ take y (new_wires S ++ (new_inner S ++ new_back S))
      taken_past = ap (take j) now_body ∙ take_back (new_prefix S) (new_wires S ++ (new_inner S ++ new_back S)) j y (prefix_side j (in_second y) past)

      -- ---- wires

      wire_here : (w : ℕ) → side (wire_count S.o) y ≡ in_first w → (z : OpResult) → slice_get S.o.results w ≡ Some z → IsWire q p (inlined was now) j
      wire_here w is z typed = record {
        type = z.type;
        operand = inner_stand S given.0;
        op = new_past ∙ get_prefix (new_wires S) (new_inner S ++ new_back S) y w (wire_side y (in_first w) is)
            ∙ get_wire S.o.location (inner_stand S) S.o.results (output_refs S.c.body) w
            ∙ ap (option_map (λ (x : OpResult). wire_op S.o.location x.type (ref_or_undefined (option_map (inner_stand S) (slice_get (output_refs S.c.body) w))))) typed
            ∙ ap (λ r. Some (wire_op S.o.location z.type (ref_or_undefined (option_map (inner_stand S) r)))) given.1;
        given = net (prefix_count S ∷ p) given.0;
        source_is = ap (source S.d top) (origin_here 0) ∙ given_source S top p was w ∙ ap (copy_of (prefix_count S ∷ p)) given.1;
        leads = inner_leads S top p was given.0;
        others = λ k. origin_here (suc k);
      }
        where
          origin_here : (k : ℕ) → inlined_origin S p (result j k) ≡ wired_origin S p k (in_first w)
          origin_here k = ap (result_origin S p k) past ∙ ap (wired_origin S p k) is

          given : (r : Ref) × (slice_get (output_refs S.c.body) w ≡ Some r) × (type_in S.c.ports S.c.body r ≡ Some z.type)
          given =
              option_map_some (type_in S.c.ports S.c.body) (slice_get (output_refs S.c.body) w)
              (given_types S (md_sound S top p was) w ∙ ap (λ t. option_map (λ (u : HwType). Some u) (option_map (λ (r : OpResult). r.type) t)) typed)

      module _ (z : ℕ) (beyond : side (wire_count S.o) y ≡ in_second z) where
        new_beyond : slice_get (body_of (module_at S.e top q)) j ≡ slice_get (new_inner S ++ new_back S) z
        new_beyond = new_past ∙ get_back (new_wires S) (new_inner S ++ new_back S) y z (wire_side y (in_second z) beyond)

        taken_beyond : take j (body_of (module_at S.e top q)) ≡ new_prefix S ++ (new_wires S ++ take z (new_inner S ++ new_back S))
        taken_beyond = taken_past ∙ ap (λ os. new_prefix S ++ os) (take_back (new_wires S) (new_inner S ++ new_back S) y z (wire_side y (in_second z) beyond))

        wires_are : AreWires (new_wires S)
        wires_are = are_wires S.o.location (inner_stand S) S.o.results (output_refs S.c.body)

        bits_beyond : bits S (take j (body_of (module_at S.e top q))) ≡ bits S S.prefix + bits S (take z (new_inner S ++ new_back S))
        bits_beyond =
            ap (bits S) taken_beyond
            ∙ body_state-append (state S.d) (new_prefix S) (new_wires S ++ take z (new_inner S ++ new_back S))
            ∙ ap₂ (λ a b. a + b) (prefix_bits S)
            (body_state-append (state S.d) (new_wires S) (take z (new_inner S ++ new_back S))
            ∙ ap (λ n. n + bits S (take z (new_inner S ++ new_back S))) (wire_bits S)
            ∙ zero-add (bits S (take z (new_inner S ++ new_back S))))

        count_beyond : count j (body_of (module_at S.e top q)) ≡ prefix_count S + length (instances (take z (new_inner S ++ new_back S)))
        count_beyond =
            ap (λ os. length (instances os)) taken_beyond
            ∙ count_append (new_prefix S) (new_wires S ++ take z (new_inner S ++ new_back S))
            ∙ ap₂ (λ a b. a + b) (prefix_length S)
            (count_append (new_wires S) (take z (new_inner S ++ new_back S))
            ∙ ap (λ xs. length xs + length (instances (take z (new_inner S ++ new_back S)))) (wires_instances (new_wires S) wires_are)
            ∙ zero-add (length (instances (take z (new_inner S ++ new_back S)))))

        next_beyond : (n : ℕ) → length (instances (take z (new_inner S ++ new_back S))) ≡ n
            → inlined_next S p (count j (body_of (module_at S.e top q))) ≡ inner_next S p (side (inner_count S) n)
        next_beyond n is =
            ap (inlined_next S p) (count_beyond ∙ ap (λ m. prefix_count S + m) is) ∙ ap (outer_next S p) (side_back (prefix_count S) n)

        -- ---- operations of the instance's module

        inner_stands : (v : ℕ) → side (moved_count S.c) z ≡ in_first v → Stands q p (inlined was now) j
        inner_stands v is = record {
          home = prefix_count S ∷ p;
          pos = v;
          move = inner_stand S;
          leads = inner_leads S top p was;
          op = subst (λ x'. Matches (inner_stand S) (slice_get (body_of (module_at S.d top (prefix_count S ∷ p))) v) x') (sym new_is)
              (subst (λ x. Matches (inner_stand S) x (slice_get (new_inner S) v)) (sym old_is)
              (get_moved (inner_stand S) (λ (o : Op). S.rename (retarget (inner_stand S) o)) (moved_renamed S.rename S.only (inner_stand S)) (inner S) v));
          origin_is = λ k. ap (result_origin S p k) past ∙ ap (wired_origin S p k) beyond ∙ ap (moved_origin S p k) is;
          offset_is =
              ap (λ n. base S.d top p + n) (bits_beyond ∙ ap (λ os. bits S S.prefix + bits S os) new_taken)
              ∙ sym (add_assoc (base S.d top p) (bits S S.prefix) (bits S (take v (new_inner S))))
              ∙ ap₂ (λ a b. (base S.d top p + a) + b) (sym (before_body S.d (prefix_count S) (module_at S.d top p) ∙ before_here S top p was))
              (ap (bits S) (take_map (λ (o : Op). S.rename (retarget (inner_stand S) o)) v (inner S))
              ∙ body_state_moved (inner_stand S) (λ (o : Op). S.rename (retarget (inner_stand S) o)) (moved_renamed S.rename S.only (inner_stand S)) (state S.d) (take v (inner S))
              ∙ ap (bits S) (sym old_taken));
          next_is = λ o i there inst.
              let within : count v (inner S) < inner_count S = count_within (inner S) v o i (sym old_is ∙ there) inst in
              next_beyond (count v (inner S)) count_is ∙ ap (inner_next S p) (side_prefix (inner_count S) (count v (inner S)) within)
              ∙ ap (λ os. length (instances os) ∷ (prefix_count S ∷ p)) (sym old_taken);
        }
          where
            v_side : side (moved_count S.c) v ≡ in_first v
            v_side = ap (side (moved_count S.c)) (from_prefix (moved_count S.c) z v is).0 ∙ is

            old_is : slice_get (body_of (module_at S.d top (prefix_count S ∷ p))) v ≡ slice_get (inner S) v
            old_is = ap (λ os. slice_get os v) (inside_body S top p was) ∙ get_prefix (inner S) ((end_is S).last ∷ []) v v v_side

            old_taken : take v (body_of (module_at S.d top (prefix_count S ∷ p))) ≡ take v (inner S)
            old_taken = ap (take v) (inside_body S top p was) ∙ take_prefix (inner S) ((end_is S).last ∷ []) v v v_side

            new_is : slice_get (body_of (module_at S.e top q)) j ≡ slice_get (new_inner S) v
            new_is = new_beyond ∙ get_prefix (new_inner S) (new_back S) z v (inner_side z (in_first v) is)

            new_taken : take z (new_inner S ++ new_back S) ≡ take v (new_inner S)
            new_taken = take_prefix (new_inner S) (new_back S) z v (inner_side z (in_first v) is)

            count_is : length (instances (take z (new_inner S ++ new_back S))) ≡ count v (inner S)
            count_is =
                ap (λ os. length (instances os)) new_taken
                ∙ count_moved (inner_stand S) (λ (o : Op). S.rename (retarget (inner_stand S) o)) (moved_renamed S.rename S.only (inner_stand S)) v (inner S)

        -- ---- after the instance

        back_stands : (v : ℕ) → side (moved_count S.c) z ≡ in_second v → Stands q p (inlined was now) j
        back_stands v is = record {
          home = p;
          pos = position S + suc v;
          move = outer_stand S;
          leads = λ r. alike (outer_alike S top p was r);
          op = subst (λ x'. Matches (outer_stand S) (slice_get (body_of (module_at S.d top p)) (position S + suc v)) x') (sym new_is)
              (subst (λ x. Matches (outer_stand S) x (slice_get (new_back S) v)) (sym old_is) (get_moved (outer_stand S) (retarget (outer_stand S)) (moved_retarget (outer_stand S)) S.back v));
          origin_is = λ k. ap (result_origin S p k) past ∙ ap (wired_origin S p k) beyond ∙ ap (moved_origin S p k) is;
          offset_is = ap (λ n. base S.d top p + n) (bits_beyond ∙ ap (λ n. bits S S.prefix + n) back_bits_are
              ∙ sym (body_state-append (state S.d) S.prefix (S.o ∷ take v S.back)) ∙ ap (bits S) (sym old_taken));
          next_is = λ o i there inst.
              next_beyond (inner_count S + count v S.back) count_is
              ∙ ap (inner_next S p) (side_back (inner_count S) (count v S.back))
              ∙ ap (λ n. n ∷ p) (sym old_count);
        }
          where
            old_is : slice_get (body_of (module_at S.d top p)) (position S + suc v) ≡ slice_get S.back v
            old_is = ap (λ os. slice_get os (position S + suc v)) (old_body S top p was) ∙ slice_get-append_right S.prefix (S.o ∷ S.back) (suc v)

            old_taken : take (position S + suc v) (body_of (module_at S.d top p)) ≡ S.prefix ++ (S.o ∷ take v S.back)
            old_taken = ap (take (position S + suc v)) (old_body S top p was) ∙ take-append_right S.prefix (S.o ∷ S.back) (suc v)

            one_more : (y : Op) (ys : List Op) (x : Instance) → instance_in y.kind ≡ Some x → length (instances (y ∷ ys)) ≡ suc (length (instances ys))
            one_more y ys x inst = simp inst

            old_count : count (position S + suc v) (body_of (module_at S.d top p)) ≡ prefix_count S + suc (count v S.back)
            old_count =
                ap (λ os. length (instances os)) old_taken ∙ count_append S.prefix (S.o ∷ take v S.back)
                ∙ ap (λ n. prefix_count S + n) (one_more S.o (take v S.back) S.target S.is_instance)

            new_is : slice_get (body_of (module_at S.e top q)) j ≡ slice_get (new_back S) v
            new_is = new_beyond ∙ get_back (new_inner S) (new_back S) z v (inner_side z (in_second v) is)

            new_taken : take z (new_inner S ++ new_back S) ≡ new_inner S ++ take v (new_back S)
            new_taken = take_back (new_inner S) (new_back S) z v (inner_side z (in_second v) is)

            count_is : length (instances (take z (new_inner S ++ new_back S))) ≡ inner_count S + count v S.back
            count_is =
                ap (λ os. length (instances os)) new_taken ∙ count_append (new_inner S) (take v (new_back S))
                ∙ ap₂ (λ a b. a + b) (inner_length S) (count_moved (outer_stand S) (retarget (outer_stand S)) (moved_retarget (outer_stand S)) v S.back)

            back_bits_are : bits S (take z (new_inner S ++ new_back S)) ≡ bits S (S.o ∷ take v S.back)
            back_bits_are =
                ap (bits S) new_taken ∙ body_state-append (state S.d) (new_inner S) (take v (new_back S))
                ∙ ap₂ (λ a b. a + b) (inner_bits S ∙ sym (instance_bits S))
                (ap (bits S) (take_map (retarget (outer_stand S)) v S.back)
                ∙ body_state_moved (outer_stand S) (retarget (outer_stand S)) (moved_retarget (outer_stand S)) (state S.d) (take v S.back))

    inlined_position : Position q p (inlined was now) j
    inlined_position = go (side (position S) j) refl
      where
        at_wire : (y w : ℕ) → side (position S) j ≡ in_second y → side (wire_count S.o) y ≡ in_first w → Position q p (inlined was now) j
        at_wire y w past is =
            let below = from_prefix (wire_count S.o) y w is in
            let found = slice_get_some S.o.results w (subst (λ n. n < wire_count S.o) (sym below.0) below.1) in
            is_wire (wire_here y past w is found.0 found.1)

        beyond : (y z : ℕ) (s : Side) → side (position S) j ≡ in_second y → side (wire_count S.o) y ≡ in_second z → side (moved_count S.c) z ≡ s → Position q p (inlined was now) j
        beyond y z (in_first v) past is last = stands (inner_stands y past z is v last)
        beyond y z (in_second v) past is last = stands (back_stands y past z is v last)

        past_prefix : (y : ℕ) (s : Side) → side (position S) j ≡ in_second y → side (wire_count S.o) y ≡ s → Position q p (inlined was now) j
        past_prefix y (in_first w) past is = at_wire y w past is
        past_prefix y (in_second z) past is = beyond y z (side (moved_count S.c) z) past is refl

        go : (s : Side) → side (position S) j ≡ s → Position q p (inlined was now) j
        go (in_first v) is = stands (prefix_stands v is)
        go (in_second y) past = past_prefix y (side (wire_count S.o) y) past refl

  pub position_at : (q p : Path) (x : View S top q p) (j : ℕ) → Position q p x j
  position_at q p (inlined was now) j = inlined_position q p was now j
  position_at q p (as_before same) j = stands (record {
    home = p;
    pos = j;
    move = λ r. r;
    leads = λ r. alike refl;
    op = subst (λ z. Matches (λ r. r) (slice_get (body_of (module_at S.d top p)) j) (slice_get (body_of z) j)) (sym same) (same_matches (slice_get (body_of (module_at S.d top p)) j));
    origin_is = λ k. refl;
    offset_is = ap (λ z. base S.d top p + bits S (take j (body_of z))) same;
    next_is = λ y i there inst. ap (λ z. count j (body_of z) ∷ p) same;
  })
