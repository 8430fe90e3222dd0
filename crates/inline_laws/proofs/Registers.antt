-- The registers of each module of the new design come from those of the old design, in order.
use Rattle.std.proofs.Common.{◌≡◌, ℕ, zero, suc, ◌+◌, ◌<◌, ◌≤◌, List, [], ◌∷◌, ◌++◌, length, slice_get, Some, None, refl, sym, ap, ap₂, subst, ◌∙◌, arith, zero-add, add-zero, true, false, cond, is_some, append-nil, option_and_then}
use Rattle.std.proofs.lemmas.List.{map-id}
use Rattle.std.proofs.lemmas.Option.{slice_get_within}
use mathlib.Core.Path.{subst₂}
use Rattle.wiring.specs.Wiring.{In}
use Rattle.wiring.proofs.Members.{In-slice_get}
use Rattle.wiring.proofs.Lists.{slice_get-append_some, slice_get-append_right}
use Rattle.hw_model.specs.Types.{Name}
use Rattle.hw_model.specs.Kinds.{Instance}
use Rattle.hw_model.specs.Design.{Ref, Op, find_module, instance_in, register_form, is_output_kind, output_refs}
use Rattle.hw_model.specs.Flat.{Path, net, Slot, instances, module_at, op_registers, body_registers, module_registers, registers, source}
use Rattle.hw_model.specs.Sound.{body_of}
use Rattle.hw_model.specs.Hierarchy.{callee_symbols}
use Rattle.hw_model.proofs.Sorts.{Sort, sort_of}
use Rattle.hw_model.proofs.Sorts.Sort.{a_register, an_instance, an_output, a_made}
use Rattle.hw_model.proofs.Paths.{registers_body}
use Rattle.hw_model.proofs.Gone.{called_In, from_In-instances}
use Rattle.edit_laws.specs.Edit.{retarget}
use Rattle.inline_laws.proofs.Sides.{side_prefix, side_back, instances-append}
use Rattle.inline_laws.proofs.Moved.{Matches, moved_itself, moved_retarget, moved_renamed, moved_some}
use Rattle.inline_laws.proofs.Moved.Matches.{missing, matched}
use Rattle.inline_laws.proofs.Ends.{AreWires, are_wires, wires_instances}
use Rattle.inline_laws.proofs.Sources.{inside_number}
use Rattle.inline_laws.proofs.Inlining.{Inlining, inner, outer_stand, inner_stand, new_prefix, new_wires, new_inner, new_back, new_body, new_module, rank, rank_is, rank_within, target_lower, calls_lower, end_is}
use Rattle.inline_laws.proofs.Origins.{Leads, prefix_count, old_body, old_instances, instance_no_register, inside_body, inlined_origin, outer_alike, inner_leads}
use Rattle.inline_laws.proofs.Origins.Leads.{alike}
use Rattle.inline_laws.proofs.Views.{View, Numbered, next_path, origin_in, inner_count, inner_next, outer_next, inlined_next, prefix_length, inner_length, number_at}
use Rattle.inline_laws.proofs.Views.View.{inlined, as_before}
use Rattle.inline_laws.proofs.Homes.{home_of, view_of, home_start, home_next, origin}
use Rattle.inline_laws.proofs.RegisterLists.{registers-append, wires_registers, registers_are}
use Rattle.inline_laws.proofs.Slots.{SlotsCome, slots_append, body_come}

-- an instance has the registers of its module
instance_registers_are : (inner : Path → Name → List Slot) (p : Path) (u : ℕ) (y : Op) (x : Instance) → instance_in y.kind ≡ Some x → op_registers inner p u y ≡ inner (u ∷ p) x.symbol
instance_registers_are inner p u y x is = let r : register_form y.kind ≡ None = instance_no_register y x is in simp (r, is)

-- an output has none
output_registers_are : (inner : Path → Name → List Slot) (p : Path) (u : ℕ) (y : Op) → is_output_kind y.kind ≡ true → body_registers inner p u (y ∷ []) ≡ []
output_registers_are inner p u y is = go (sort_of y.kind)
  where
    go : Sort y.kind → body_registers inner p u (y ∷ []) ≡ []
    go (a_register f r i o) = let clash : false ≡ true = sym o ∙ is in cc
    go (an_instance x r i o) = let clash : false ≡ true = sym o ∙ is in cc
    go (an_output r i o) = simp (r, i)
    go (a_made r i o) = simp (r, i)

module _ (S : Inlining) (top : Name) where
  -- at a depth, the registers of the module of a symbol, which is lower than one that it is within
  abbrev ComeBelow : ℕ → Type 0
  ComeBelow n = (q : Path) (s : Name) → rank S s ≤ n → module_at S.e top q ≡ find_module S.e s → module_at S.d top (home_of S top q) ≡ find_module S.d s
      → SlotsCome S top (module_registers n S.e q s) (module_registers n S.d (home_of S top q) s)

  module _ (n : ℕ) (below : ComeBelow n) (q : Path) (s : Name) (low : rank S s ≤ suc n) (now : module_at S.e top q ≡ find_module S.e s) where
    abbrev new_registers : Path → Name → List Slot
    new_registers = module_registers n S.e

    abbrev old_registers : Path → Name → List Slot
    old_registers = module_registers n S.d

    -- the registers of an instance's module
    instance_come : (u number : ℕ) (h : Path) (y : Op) (i : Instance) → home_of S top (u ∷ q) ≡ number ∷ h
        → slice_get (instances (body_of (module_at S.d top h))) number ≡ Some y → instance_in y.kind ≡ Some i
        → SlotsCome S top (new_registers (u ∷ q) i.symbol) (old_registers (number ∷ h) i.symbol)
    instance_come u number h y i home was inst =
        subst (λ z. SlotsCome S top (new_registers (u ∷ q) i.symbol) (old_registers z i.symbol)) home (go m.op)
      where
        m : Numbered S top q (home_of S top q) (view_of S top q) u
        m = number_at S top q (home_of S top q) (view_of S top q) u

        homes : m.number ∷ m.home ≡ number ∷ h
        homes = sym m.next_is ∙ sym (home_next S top q u) ∙ home

        was_there : slice_get (instances (body_of (module_at S.d top m.home))) m.number ≡ Some y
        was_there =
            let all : m.number ∷ m.home ≡ number ∷ h = homes in
            let first : m.number ≡ number = cc in
            let rest : m.home ≡ h = cc in
            ap₂ (λ z w. slice_get (instances (body_of (module_at S.d top z))) w) rest first ∙ was

        go : Matches m.move (slice_get (instances (body_of (module_at S.d top m.home))) m.number) (slice_get (instances (body_of (module_at S.e top q))) u)
            → SlotsCome S top (new_registers (u ∷ q) i.symbol) (old_registers (home_of S top (u ∷ q)) i.symbol)
        go (missing gone now_gone) = let clash : None ≡ Some y = sym gone ∙ was_there in cc
        go (matched z z' is is' moves) =
            let one : Some z ≡ Some y = sym is ∙ was_there in
            let same : z ≡ y = cc in
            let old_inst : instance_in z.kind ≡ Some i = ap (λ (o : Op). instance_in o.kind) same ∙ inst in
            let renamed_inst = moved_some m.move z z' moves i old_inst in
            let named : renamed_inst.0.symbol ≡ i.symbol = ap (λ (x : Instance). x.symbol) renamed_inst.2 in
            let new_at : module_at S.e top (u ∷ q) ≡ find_module S.e i.symbol =
            inside_number S.e top q u z' is' ∙ ap (λ x. option_and_then (λ (w : Instance). find_module S.e w.symbol) x) renamed_inst.1 ∙ ap (find_module S.e) named in
            let old_at : module_at S.d top (m.number ∷ m.home) ≡ find_module S.d i.symbol =
            inside_number S.d top m.home m.number z is ∙ ap (λ x. option_and_then (λ (w : Instance). find_module S.d w.symbol) x) old_inst in
            let called : In i.symbol (callee_symbols (body_of (find_module S.e s))) =
            subst (λ x. In x (callee_symbols (body_of (find_module S.e s)))) named
            (called_In (body_of (find_module S.e s)) z' renamed_inst.0
            (subst (λ x. In z' (body_of x)) now
            (from_In-instances (body_of (module_at S.e top q)) z' (In-slice_get z' (instances (body_of (module_at S.e top q))) u is'))) renamed_inst.1) in
            let lower : rank S i.symbol < rank S s = calls_lower S s i.symbol called in
            below (u ∷ q) i.symbol (omega arith) new_at (ap (module_at S.d top) (home_next S top q u ∙ m.next_is) ∙ old_at)

    -- a body that is as before
    same_come : (p : Path) (same : module_at S.e top q ≡ module_at S.d top p)
        → ((r : Ref) → origin S top (net q r) ≡ net p r) → ((u : ℕ) → home_of S top (u ∷ q) ≡ u ∷ p)
        → SlotsCome S top (body_registers new_registers q 0 (body_of (module_at S.e top q))) (body_registers old_registers p 0 (body_of (module_at S.d top p)))
    same_come p same origins homes =
        subst (λ os. SlotsCome S top (body_registers new_registers q 0 os) (body_registers old_registers p 0 (body_of (module_at S.d top p))))
        (map-id (body_of (module_at S.d top p)) ∙ ap body_of (sym same))
        (body_come S top (λ r. r) (λ o. o) moved_itself q p (λ r. alike (ap (source S.d top) (sym (origins r)))) new_registers old_registers 0 0 (body_of (module_at S.d top p))
        (λ v w' w y i is' is at_v inst.
        let count_is : w' ≡ w = is' ∙ sym is in
        let first : w ≡ v = is ∙ zero-add v in
        instance_come w' w p y i (homes w' ∙ ap (λ z. z ∷ p) count_is) (ap (slice_get (instances (body_of (module_at S.d top p)))) first ∙ at_v) inst))

    -- the body in which the instance is inlined
    module _ (p : Path) (was : module_at S.d top p ≡ Some S.md) (is_md : find_module S.d s ≡ Some S.md)
        (origins : (r : Ref) → origin S top (net q r) ≡ inlined_origin S p r) (homes : (u : ℕ) → home_of S top (u ∷ q) ≡ inlined_next S p u) where
      outer_leads : (r : Ref) → Leads S.d top (net p r) (origin S top (net q (outer_stand S r)))
      outer_leads r = subst (Leads S.d top (net p r)) (sym (origins (outer_stand S r))) (alike (outer_alike S top p was r))

      prefix_come : SlotsCome S top (body_registers new_registers q 0 (new_prefix S)) (body_registers old_registers p 0 S.prefix)
      prefix_come =
          body_come S top (outer_stand S) (retarget (outer_stand S)) (moved_retarget (outer_stand S)) q p outer_leads new_registers old_registers 0 0 S.prefix
          (λ v w' w y i is' is at_v inst.
          let within : v < prefix_count S = slice_get_within (instances S.prefix) v y at_v in
          let new_is : w' ≡ v = is' ∙ zero-add v in
          let old_is : w ≡ v = is ∙ zero-add v in
          instance_come w' w p y i
          (homes w' ∙ ap (inlined_next S p) new_is ∙ ap (outer_next S p) (side_prefix (prefix_count S) v within) ∙ ap (λ z. z ∷ p) (sym old_is))
          (ap (λ xs. slice_get xs w) (old_instances S top p was) ∙ ap (slice_get (instances S.prefix ++ (S.o ∷ instances S.back))) old_is
          ∙ slice_get-append_some (instances S.prefix) (S.o ∷ instances S.back) v y at_v) inst)

      inner_come : SlotsCome S top (body_registers new_registers q (prefix_count S) (new_inner S)) (body_registers old_registers (prefix_count S ∷ p) 0 (inner S))
      inner_come =
          body_come S top (inner_stand S) (λ (o : Op). S.rename (retarget (inner_stand S) o)) (moved_renamed S.rename S.only (inner_stand S)) q (prefix_count S ∷ p)
          (λ r. subst (Leads S.d top (net (prefix_count S ∷ p) r)) (sym (origins (inner_stand S r))) (inner_leads S top p was r)) new_registers old_registers (prefix_count S) 0 (inner S)
          (λ v w' w y i is' is at_v inst.
          let within : v < inner_count S = slice_get_within (instances (inner S)) v y at_v in
          let old_is : w ≡ v = is ∙ zero-add v in
          instance_come w' w (prefix_count S ∷ p) y i
          (homes w' ∙ ap (inlined_next S p) is' ∙ ap (outer_next S p) (side_back (prefix_count S) v) ∙ ap (inner_next S p) (side_prefix (inner_count S) v within)
          ∙ ap (λ z. z ∷ (prefix_count S ∷ p)) (sym old_is))
          (ap (λ os. slice_get (instances os) w) (inside_body S top p was)
          ∙ ap (λ xs. slice_get xs w) (instances-append (inner S) ((end_is S).last ∷ []))
          ∙ ap (slice_get (instances (inner S) ++ instances ((end_is S).last ∷ []))) old_is
          ∙ slice_get-append_some (instances (inner S)) (instances ((end_is S).last ∷ [])) v y at_v) inst)

      back_come : SlotsCome S top (body_registers new_registers q (prefix_count S + inner_count S) (new_back S)) (body_registers old_registers p (suc (prefix_count S)) S.back)
      back_come =
          body_come S top (outer_stand S) (retarget (outer_stand S)) (moved_retarget (outer_stand S)) q p outer_leads new_registers old_registers (prefix_count S + inner_count S) (suc (prefix_count S)) S.back
          (λ v w' w y i is' is at_v inst.
          let new_is : w' ≡ prefix_count S + (inner_count S + v) = omega arith in
          let old_is : w ≡ prefix_count S + suc v = omega arith in
          instance_come w' w p y i
          (homes w' ∙ ap (inlined_next S p) new_is ∙ ap (outer_next S p) (side_back (prefix_count S) (inner_count S + v)) ∙ ap (inner_next S p) (side_back (inner_count S) v)
          ∙ ap (λ z. z ∷ p) (sym old_is))
          (ap (λ xs. slice_get xs w) (old_instances S top p was) ∙ ap (slice_get (instances S.prefix ++ (S.o ∷ instances S.back))) old_is
          ∙ slice_get-append_right (instances S.prefix) (S.o ∷ instances S.back) (suc v) ∙ at_v) inst)

      -- the registers of the new body, by parts
      new_parts : body_registers new_registers q 0 (new_body S) ≡ body_registers new_registers q 0 (new_prefix S)
          ++ (body_registers new_registers q (prefix_count S) (new_inner S) ++ body_registers new_registers q (prefix_count S + inner_count S) (new_back S))
      new_parts =
          registers-append new_registers q 0 (new_prefix S) (new_wires S ++ (new_inner S ++ new_back S))
          ∙ ap (λ u. body_registers new_registers q 0 (new_prefix S) ++ body_registers new_registers q u (new_wires S ++ (new_inner S ++ new_back S))) (zero-add (length (instances (new_prefix S))) ∙ prefix_length S)
          ∙ ap (λ ss. body_registers new_registers q 0 (new_prefix S) ++ ss)
          (registers-append new_registers q (prefix_count S) (new_wires S) (new_inner S ++ new_back S)
          ∙ ap₂ (λ ss u. ss ++ body_registers new_registers q u (new_inner S ++ new_back S)) (wires_registers new_registers q (prefix_count S) (new_wires S) wires_are)
          (ap (λ xs. prefix_count S + length xs) (wires_instances (new_wires S) wires_are) ∙ add-zero (prefix_count S))
          ∙ registers-append new_registers q (prefix_count S) (new_inner S) (new_back S)
          ∙ ap (λ m. body_registers new_registers q (prefix_count S) (new_inner S) ++ body_registers new_registers q (prefix_count S + m) (new_back S)) (inner_length S))
        where
          wires_are : AreWires (new_wires S)
          wires_are = are_wires S.o.location (inner_stand S) S.o.results (output_refs S.c.body)

      -- those of the instance's module
      target_registers : old_registers (prefix_count S ∷ p) S.target.symbol ≡ body_registers old_registers (prefix_count S ∷ p) 0 (inner S)
      target_registers =
          registers_are S.d (rank S) (rank_is S) n (prefix_count S ∷ p) S.target.symbol target_low
          ∙ ap (λ x. body_registers old_registers (prefix_count S ∷ p) 0 (body_of x)) S.is_found
          ∙ ap (body_registers old_registers (prefix_count S ∷ p) 0) (end_is S).body_is
          ∙ registers-append old_registers (prefix_count S ∷ p) 0 (inner S) ((end_is S).last ∷ [])
          ∙ ap (λ ss. body_registers old_registers (prefix_count S ∷ p) 0 (inner S) ++ ss)
          (output_registers_are old_registers (prefix_count S ∷ p) (0 + length (instances (inner S))) (end_is S).last (end_is S).is_output)
          ∙ append-nil (body_registers old_registers (prefix_count S ∷ p) 0 (inner S))
        where
          target_low : rank S S.target.symbol ≤ n
          target_low = let lower : rank S S.target.symbol < rank S s = target_lower S s is_md in omega arith

      old_parts : body_registers old_registers p 0 (S.prefix ++ (S.o ∷ S.back)) ≡ body_registers old_registers p 0 S.prefix
          ++ (body_registers old_registers (prefix_count S ∷ p) 0 (inner S) ++ body_registers old_registers p (suc (prefix_count S)) S.back)
      old_parts =
          registers-append old_registers p 0 S.prefix (S.o ∷ S.back)
          ∙ ap (λ u. body_registers old_registers p 0 S.prefix ++ body_registers old_registers p u (S.o ∷ S.back)) (zero-add (prefix_count S))
          ∙ ap (λ ss. body_registers old_registers p 0 S.prefix ++ ss)
          (ap₂ (λ ss u. ss ++ body_registers old_registers p u S.back)
          (instance_registers_are old_registers p (prefix_count S) S.o S.target S.is_instance ∙ target_registers)
          (ap (λ x. cond (is_some x) (suc (prefix_count S)) (prefix_count S)) S.is_instance))

      inlined_come : module_at S.e top q ≡ Some (new_module S)
          → SlotsCome S top (body_registers new_registers q 0 (body_of (module_at S.e top q))) (body_registers old_registers p 0 (body_of (module_at S.d top p)))
      inlined_come is_new =
          subst₂ (SlotsCome S top)
          (sym (ap (λ x. body_registers new_registers q 0 (body_of x)) is_new ∙ new_parts))
          (sym (ap (body_registers old_registers p 0) (old_body S top p was) ∙ old_parts))
          (slots_append S top (body_registers new_registers q 0 (new_prefix S)) (body_registers old_registers p 0 S.prefix) _ _ prefix_come
          (slots_append S top (body_registers new_registers q (prefix_count S) (new_inner S)) (body_registers old_registers (prefix_count S ∷ p) 0 (inner S)) _ _ inner_come back_come))

    view_come : (p : Path) (x : View S top q p) → module_at S.d top p ≡ find_module S.d s
        → ((r : Ref) → origin S top (net q r) ≡ origin_in S top q p x r) → ((u : ℕ) → home_of S top (u ∷ q) ≡ next_path S top q p x u)
        → SlotsCome S top (body_registers new_registers q 0 (body_of (module_at S.e top q))) (body_registers old_registers p 0 (body_of (module_at S.d top p)))
    view_come p (inlined was is_new) old origins homes = inlined_come p was (sym old ∙ was) origins homes is_new
    view_come p (as_before same) old origins homes = same_come p same origins homes

  registers_below : (n : ℕ) → ComeBelow n
  registers_below zero q s low now was = let positive : rank S s ≡ suc _ = rank_is S s in absurd (omega arith)
  registers_below (suc n) q s low now was =
      subst₂ (SlotsCome S top)
      (sym (registers_body (module_registers n S.e) q (find_module S.e s) ∙ ap (λ x. body_registers (module_registers n S.e) q 0 (body_of x)) (sym now)))
      (sym (registers_body (module_registers n S.d) (home_of S top q) (find_module S.d s) ∙ ap (λ x. body_registers (module_registers n S.d) (home_of S top q) 0 (body_of x)) (sym was)))
      (view_come n (registers_below n) q s low now (home_of S top q) (view_of S top q) was (λ r. refl) (home_next S top q))

  -- the registers of the new design come from those of the old one, in order
  pub registers_come : SlotsCome S top (registers S.e top) (registers S.d top)
  registers_come =
      subst₂ (SlotsCome S top) (ap (λ n. module_registers (suc n) S.e [] top) (sym S.same_length)) (ap (λ h. module_registers (suc (length S.d)) S.d h top) (home_start S top))
      (registers_below (suc (length S.d)) [] top (rank_within S.d (rank S) (rank_is S) top) refl (ap (module_at S.d top) (home_start S top)))
