-- Paths of the new design and of the old one.
use Rattle.std.proofs.Common.{◌≡◌, ℕ, suc, ◌+◌, List, [], ◌∷◌, ◌++◌, length, map, slice_get, Option, Some, None, refl, sym, ap, ap₂, subst, ◌∙◌, add-zero, zero-add, add_assoc}
use Rattle.std.proofs.lemmas.List.{length-map}
use Rattle.wiring.proofs.Lists.{slice_get-append_right}
use Rattle.hw_model.specs.Types.{Name}
use Rattle.hw_model.specs.Kinds.{Instance}
use Rattle.hw_model.specs.Design.{Ref, Op, instance_in}
use Rattle.hw_model.specs.Flat.{Path, Net, net, instances, before_instance, module_at, base, state}
use Rattle.hw_model.specs.Sound.{body_of}
use Rattle.hw_model.proofs.Paths.{before_body}
use Rattle.hw_model.proofs.Content.{body_state-append}
use Rattle.edit_laws.specs.Edit.{retarget}
use Rattle.inline_laws.specs.Inline.{Side, side}
use Rattle.inline_laws.specs.Inline.Side.{in_first, in_second}
use Rattle.inline_laws.proofs.Sides.{from_prefix, side_back, instances-append}
use Rattle.inline_laws.proofs.Parts.{get_prefix, get_back, before_prefix, before_back}
use Rattle.inline_laws.proofs.Moved.{Matches, moved_itself, moved_retarget, moved_renamed, get_moved, instances_moved, before_moved, body_state_moved}
use Rattle.inline_laws.proofs.Moved.Matches.{missing, matched}
use Rattle.inline_laws.proofs.Ends.{are_wires, wires_instances}
use Rattle.inline_laws.proofs.Inlining.{Inlining, inner, outer_stand, inner_stand, new_prefix, new_wires, new_inner, new_back, new_body, new_module, bits, prefix_bits, inner_bits, wire_bits, instance_bits, end_is}
use Rattle.inline_laws.proofs.Origins.{Leads, prefix_count, inlined_origin, old_body, old_instances, inside_body, outer_alike, inner_leads}
use Rattle.inline_laws.proofs.Origins.Leads.{alike}

-- both are there as the same operation, or neither
pub same_matches : (x : Option Op) → Matches (λ r. r) x x
same_matches None = missing refl refl
same_matches (Some y) = matched y y refl refl (moved_itself y)

module _ (S : Inlining) where
  -- ---- instances of the new body

  -- how many instances the module has that are moved
  abbrev pub inner_count : ℕ
  inner_count = length (instances (inner S))

  abbrev pub inner_next : Path → Side → Path
  inner_next p (in_first v) = v ∷ prefix_count S ∷ p
  inner_next p (in_second v) = (prefix_count S + suc v) ∷ p

  abbrev pub outer_next : Path → Side → Path
  outer_next p (in_first v) = v ∷ p
  outer_next p (in_second w) = inner_next p (side inner_count w)

  -- where instance u of the new body was, the old body being at a path
  abbrev pub inlined_next : Path → ℕ → Path
  inlined_next p u = outer_next p (side (prefix_count S) u)

  new_instances : instances (new_body S) ≡ instances (new_prefix S) ++ (instances (new_inner S) ++ instances (new_back S))
  new_instances =
      instances-append (new_prefix S) (new_wires S ++ (new_inner S ++ new_back S))
      ∙ ap (λ xs. instances (new_prefix S) ++ xs)
      (instances-append (new_wires S) (new_inner S ++ new_back S)
      ∙ ap₂ (λ xs ys. xs ++ ys) (wires_instances (new_wires S) (are_wires S.o.location (inner_stand S) S.o.results _)) (instances-append (new_inner S) (new_back S)))

  prefix_instances : instances (new_prefix S) ≡ map (retarget (outer_stand S)) (instances S.prefix)
  prefix_instances = instances_moved (outer_stand S) (retarget (outer_stand S)) (moved_retarget (outer_stand S)) S.prefix

  pub prefix_length : length (instances (new_prefix S)) ≡ prefix_count S
  prefix_length = ap length prefix_instances ∙ length-map (instances S.prefix) (retarget (outer_stand S))

  inner_instances : instances (new_inner S) ≡ map (λ (y : Op). S.rename (retarget (inner_stand S) y)) (instances (inner S))
  inner_instances = instances_moved (inner_stand S) (λ (y : Op). S.rename (retarget (inner_stand S) y)) (moved_renamed S.rename S.only (inner_stand S)) (inner S)

  pub inner_length : length (instances (new_inner S)) ≡ inner_count
  inner_length = ap length inner_instances ∙ length-map (instances (inner S)) (λ (y : Op). S.rename (retarget (inner_stand S) y))

  -- the content before the instance that is inlined
  pub before_here : (top : Name) (p : Path) → module_at S.d top p ≡ Some S.md → bits S (before_instance (prefix_count S) (body_of (module_at S.d top p))) ≡ bits S S.prefix
  before_here top p was =
      ap (λ os. bits S (before_instance (prefix_count S) os)) (old_body S top p was)
      ∙ ap (bits S) (before_back S.prefix (S.o ∷ S.back) (prefix_count S) 0 (ap (side (prefix_count S)) (sym (add-zero (prefix_count S))) ∙ side_back (prefix_count S) 0))
      ∙ body_state-append (state S.d) S.prefix (before_instance 0 (S.o ∷ S.back))
      ∙ ap (λ os. bits S S.prefix + bits S os) (none S.o S.back S.target S.is_instance)
      ∙ add-zero (bits S S.prefix)
    where
      none : (y : Op) (ys : List Op) (x : Instance) → instance_in y.kind ≡ Some x → before_instance 0 (y ∷ ys) ≡ []
      none y ys x is = simp is

  module _ (top : Name) where
    -- a path of the new design and where it comes from: at both is the module in which the instance is inlined, or the
    -- same module
    pub data View (q p : Path) : Type 0 where
      inlined : module_at S.d top p ≡ Some S.md → module_at S.e top q ≡ Some (new_module S) → View q p
      as_before : module_at S.e top q ≡ module_at S.d top p → View q p

    -- where instance u of its body comes from
    abbrev pub next_path : (q p : Path) → View q p → ℕ → Path
    next_path q p (inlined was now) u = inlined_next p u
    next_path q p (as_before same) u = u ∷ p

    -- where a value of its body comes from
    abbrev pub origin_in : (q p : Path) → View q p → Ref → Net
    origin_in q p (inlined was now) r = inlined_origin S p r
    origin_in q p (as_before same) r = net p r

    -- instance u of the new body is instance `number` of the body at the path `home`, with other operands
    pub record Numbered (q p : Path) (x : View q p) (u : ℕ) : Type 0 where
      pub home : Path
      pub number : ℕ
      pub next_is : next_path q p x u ≡ number ∷ home
      pub move : Ref → Ref
      pub leads : (r : Ref) → Leads S.d top (net home r) (origin_in q p x (move r))
      pub op : Matches move (slice_get (instances (body_of (module_at S.d top home))) number) (slice_get (instances (body_of (module_at S.e top q))) u)
      pub before : base S.d top home + bits S (before_instance number (body_of (module_at S.d top home)))
          ≡ base S.d top p + bits S (before_instance u (body_of (module_at S.e top q)))

    module _ (q p : Path) (was : module_at S.d top p ≡ Some S.md) (now : module_at S.e top q ≡ Some (new_module S)) (u : ℕ) where
      at_new : slice_get (instances (body_of (module_at S.e top q))) u ≡ slice_get (instances (new_prefix S) ++ (instances (new_inner S) ++ instances (new_back S))) u
      at_new = ap (λ x. slice_get (instances (body_of x)) u) now ∙ ap (λ xs. slice_get xs u) new_instances

      before_new : before_instance u (body_of (module_at S.e top q)) ≡ before_instance u (new_body S)
      before_new = ap (λ x. before_instance u (body_of x)) now

      prefix_side : (s : Side) → side (prefix_count S) u ≡ s → side (length (instances (new_prefix S))) u ≡ s
      prefix_side s is = ap (λ n. side n u) prefix_length ∙ is

      -- before the instance that is inlined
      numbered_prefix : (v : ℕ) → side (prefix_count S) u ≡ in_first v → Numbered q p (inlined was now) u
      numbered_prefix v is = record {
        home = p;
        number = v;
        next_is = ap (outer_next p) is;
        move = outer_stand S;
        leads = λ r. alike (outer_alike S top p was r);
        op = subst (λ x'. Matches (outer_stand S) (slice_get (instances (body_of (module_at S.d top p))) v) x') (sym new_is)
            (subst (λ x. Matches (outer_stand S) x (slice_get (map (retarget (outer_stand S)) (instances S.prefix)) v)) (sym old_is)
            (get_moved (outer_stand S) (retarget (outer_stand S)) (moved_retarget (outer_stand S)) (instances S.prefix) v));
        before = ap (λ n. base S.d top p + n) before_is;
      }
        where
          v_side : side (prefix_count S) v ≡ in_first v
          v_side = ap (side (prefix_count S)) (from_prefix (prefix_count S) u v is).0 ∙ is

          old_is : slice_get (instances (body_of (module_at S.d top p))) v ≡ slice_get (instances S.prefix) v
          old_is =
              ap (λ xs. slice_get xs v) (old_instances S top p was)
              ∙ get_prefix (instances S.prefix) (S.o ∷ instances S.back) v v v_side

          new_is : slice_get (instances (body_of (module_at S.e top q))) u ≡ slice_get (map (retarget (outer_stand S)) (instances S.prefix)) v
          new_is =
              at_new ∙ get_prefix (instances (new_prefix S)) (instances (new_inner S) ++ instances (new_back S)) u v (prefix_side (in_first v) is)
              ∙ ap (λ xs. slice_get xs v) prefix_instances

          before_is : bits S (before_instance v (body_of (module_at S.d top p))) ≡ bits S (before_instance u (body_of (module_at S.e top q)))
          before_is =
              ap (λ os. bits S (before_instance v os)) (old_body S top p was)
              ∙ ap (bits S) (before_prefix S.prefix (S.o ∷ S.back) v v v_side)
              ∙ sym (body_state_moved (outer_stand S) (retarget (outer_stand S)) (moved_retarget (outer_stand S)) (state S.d) (before_instance v S.prefix))
              ∙ ap (bits S) (sym (before_moved (outer_stand S) (retarget (outer_stand S)) (moved_retarget (outer_stand S)) v S.prefix))
              ∙ ap (bits S) (sym (before_prefix (new_prefix S) (new_wires S ++ (new_inner S ++ new_back S)) u v (prefix_side (in_first v) is)))
              ∙ ap (bits S) (sym before_new)

      wires_side : (w : ℕ) → side (length (instances (new_wires S))) w ≡ in_second w
      wires_side w = ap (λ xs. side (length xs) w) (wires_instances (new_wires S) (are_wires S.o.location (inner_stand S) S.o.results _))

      inner_side : (w : ℕ) (s : Side) → side inner_count w ≡ s → side (length (instances (new_inner S))) w ≡ s
      inner_side w s is = ap (λ n. side n w) inner_length ∙ is

      module _ (w : ℕ) (past : side (prefix_count S) u ≡ in_second w) where
        at_past : slice_get (instances (body_of (module_at S.e top q))) u ≡ slice_get (instances (new_inner S) ++ instances (new_back S)) w
        at_past = at_new ∙ get_back (instances (new_prefix S)) (instances (new_inner S) ++ instances (new_back S)) u w (prefix_side (in_second w) past)

        before_past : bits S (before_instance u (body_of (module_at S.e top q))) ≡ bits S S.prefix + bits S (before_instance w (new_inner S ++ new_back S))
        before_past =
            ap (bits S) before_new
            ∙ ap (bits S) (before_back (new_prefix S) (new_wires S ++ (new_inner S ++ new_back S)) u w (prefix_side (in_second w) past))
            ∙ body_state-append (state S.d) (new_prefix S) (before_instance w (new_wires S ++ (new_inner S ++ new_back S)))
            ∙ ap₂ (λ a b. a + b) (prefix_bits S)
            (ap (bits S) (before_back (new_wires S) (new_inner S ++ new_back S) w w (wires_side w))
            ∙ body_state-append (state S.d) (new_wires S) (before_instance w (new_inner S ++ new_back S))
            ∙ ap (λ a. a + bits S (before_instance w (new_inner S ++ new_back S))) (wire_bits S)
            ∙ zero-add (bits S (before_instance w (new_inner S ++ new_back S))))

        -- among the instances of its module
        numbered_inner : (v : ℕ) → side inner_count w ≡ in_first v → Numbered q p (inlined was now) u
        numbered_inner v is = record {
          home = prefix_count S ∷ p;
          number = v;
          next_is = ap (outer_next p) past ∙ ap (inner_next p) is;
          move = inner_stand S;
          leads = inner_leads S top p was;
          op = subst (λ x'. Matches (inner_stand S) (slice_get (instances (body_of (module_at S.d top (prefix_count S ∷ p)))) v) x') (sym new_is)
              (subst (λ x. Matches (inner_stand S) x (slice_get (map (λ (y : Op). S.rename (retarget (inner_stand S) y)) (instances (inner S))) v)) (sym old_is)
              (get_moved (inner_stand S) (λ (y : Op). S.rename (retarget (inner_stand S) y)) (moved_renamed S.rename S.only (inner_stand S)) (instances (inner S)) v));
          before = before_is;
        }
          where
            v_side : side inner_count v ≡ in_first v
            v_side = ap (side inner_count) (from_prefix inner_count w v is).0 ∙ is

            old_is : slice_get (instances (body_of (module_at S.d top (prefix_count S ∷ p)))) v ≡ slice_get (instances (inner S)) v
            old_is =
                ap (λ os. slice_get (instances os) v) (inside_body S top p was)
                ∙ ap (λ xs. slice_get xs v) (instances-append (inner S) ((end_is S).last ∷ []))
                ∙ get_prefix (instances (inner S)) (instances ((end_is S).last ∷ [])) v v v_side

            new_is : slice_get (instances (body_of (module_at S.e top q))) u ≡ slice_get (map (λ (y : Op). S.rename (retarget (inner_stand S) y)) (instances (inner S))) v
            new_is =
                at_past ∙ get_prefix (instances (new_inner S)) (instances (new_back S)) w v (inner_side w (in_first v) is)
                ∙ ap (λ xs. slice_get xs v) inner_instances

            inner_before : bits S (before_instance v (body_of (module_at S.d top (prefix_count S ∷ p)))) ≡ bits S (before_instance w (new_inner S ++ new_back S))
            inner_before =
                ap (λ os. bits S (before_instance v os)) (inside_body S top p was)
                ∙ ap (bits S) (before_prefix (inner S) ((end_is S).last ∷ []) v v v_side)
                ∙ sym (body_state_moved (inner_stand S) (λ (y : Op). S.rename (retarget (inner_stand S) y)) (moved_renamed S.rename S.only (inner_stand S)) (state S.d) (before_instance v (inner S)))
                ∙ ap (bits S) (sym (before_moved (inner_stand S) (λ (y : Op). S.rename (retarget (inner_stand S) y)) (moved_renamed S.rename S.only (inner_stand S)) v (inner S)))
                ∙ ap (bits S) (sym (before_prefix (new_inner S) (new_back S) w v (inner_side w (in_first v) is)))

            before_is : base S.d top (prefix_count S ∷ p) + bits S (before_instance v (body_of (module_at S.d top (prefix_count S ∷ p))))
                ≡ base S.d top p + bits S (before_instance u (body_of (module_at S.e top q)))
            before_is =
                ap₂ (λ a b. (base S.d top p + a) + b) (before_body S.d (prefix_count S) (module_at S.d top p) ∙ before_here top p was) inner_before
                ∙ add_assoc (base S.d top p) (bits S S.prefix) (bits S (before_instance w (new_inner S ++ new_back S)))
                ∙ ap (λ n. base S.d top p + n) (sym before_past)

        -- after it
        numbered_back : (v : ℕ) → side inner_count w ≡ in_second v → Numbered q p (inlined was now) u
        numbered_back v is = record {
          home = p;
          number = prefix_count S + suc v;
          next_is = ap (outer_next p) past ∙ ap (inner_next p) is;
          move = outer_stand S;
          leads = λ r. alike (outer_alike S top p was r);
          op = subst (λ x'. Matches (outer_stand S) (slice_get (instances (body_of (module_at S.d top p))) (prefix_count S + suc v)) x') (sym new_is)
              (subst (λ x. Matches (outer_stand S) x (slice_get (map (retarget (outer_stand S)) (instances S.back)) v)) (sym old_is)
              (get_moved (outer_stand S) (retarget (outer_stand S)) (moved_retarget (outer_stand S)) (instances S.back) v));
          before = ap (λ n. base S.d top p + n) before_is;
        }
          where
            old_is : slice_get (instances (body_of (module_at S.d top p))) (prefix_count S + suc v) ≡ slice_get (instances S.back) v
            old_is =
                ap (λ xs. slice_get xs (prefix_count S + suc v)) (old_instances S top p was)
                ∙ slice_get-append_right (instances S.prefix) (S.o ∷ instances S.back) (suc v)

            new_is : slice_get (instances (body_of (module_at S.e top q))) u ≡ slice_get (map (retarget (outer_stand S)) (instances S.back)) v
            new_is =
                at_past ∙ get_back (instances (new_inner S)) (instances (new_back S)) w v (inner_side w (in_second v) is)
                ∙ ap (λ xs. slice_get xs v) (instances_moved (outer_stand S) (retarget (outer_stand S)) (moved_retarget (outer_stand S)) S.back)

            back_before : bits S (before_instance v S.back) ≡ bits S (before_instance v (new_back S))
            back_before =
                sym (body_state_moved (outer_stand S) (retarget (outer_stand S)) (moved_retarget (outer_stand S)) (state S.d) (before_instance v S.back))
                ∙ ap (bits S) (sym (before_moved (outer_stand S) (retarget (outer_stand S)) (moved_retarget (outer_stand S)) v S.back))

            one_before : (y : Op) (ys : List Op) (x : Instance) → instance_in y.kind ≡ Some x → before_instance (suc v) (y ∷ ys) ≡ y ∷ before_instance v ys
            one_before y ys x inst = simp inst

            before_is : bits S (before_instance (prefix_count S + suc v) (body_of (module_at S.d top p))) ≡ bits S (before_instance u (body_of (module_at S.e top q)))
            before_is =
                ap (λ os. bits S (before_instance (prefix_count S + suc v) os)) (old_body S top p was)
                ∙ ap (bits S) (before_back S.prefix (S.o ∷ S.back) (prefix_count S + suc v) (suc v) (side_back (prefix_count S) (suc v)))
                ∙ body_state-append (state S.d) S.prefix (before_instance (suc v) (S.o ∷ S.back))
                ∙ ap (λ n. bits S S.prefix + n)
                (ap (bits S) (one_before S.o S.back S.target S.is_instance)
                ∙ ap₂ (λ a b. a + b) (instance_bits S ∙ sym (inner_bits S)) back_before
                ∙ sym (body_state-append (state S.d) (new_inner S) (before_instance v (new_back S)))
                ∙ ap (bits S) (sym (before_back (new_inner S) (new_back S) w v (inner_side w (in_second v) is))))
                ∙ sym before_past

      numbered_inlined : Numbered q p (inlined was now) u
      numbered_inlined = go (side (prefix_count S) u) refl
        where
          within : (w : ℕ) (s : Side) → side (prefix_count S) u ≡ in_second w → side inner_count w ≡ s → Numbered q p (inlined was now) u
          within w (in_first v) past is = numbered_inner w past v is
          within w (in_second v) past is = numbered_back w past v is

          go : (s : Side) → side (prefix_count S) u ≡ s → Numbered q p (inlined was now) u
          go (in_first v) is = numbered_prefix v is
          go (in_second w) is = within w (side inner_count w) is refl

    pub number_at : (q p : Path) (x : View q p) (u : ℕ) → Numbered q p x u
    number_at q p (inlined was now) u = numbered_inlined q p was now u
    number_at q p (as_before same) u = record {
      home = p;
      number = u;
      next_is = refl;
      move = λ r. r;
      leads = λ r. alike refl;
      op = subst (λ x. Matches (λ r. r) (slice_get (instances (body_of (module_at S.d top p))) u) (slice_get (instances (body_of x)) u)) (sym same)
          (same_matches (slice_get (instances (body_of (module_at S.d top p))) u));
      before = ap (λ x. base S.d top p + bits S (before_instance u (body_of x))) (sym same);
    }
