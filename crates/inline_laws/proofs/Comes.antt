-- Where the value of each net of the new design comes from, by that of the net of the old design from which it comes.
use Rattle.std.proofs.Common.{◌≡◌, ℕ, zero, suc, ◌+◌, List, [], ◌∷◌, ◌++◌, map, take, slice_get, Bool, true, false, cond, Option, Some, None, refl, sym, ap, ap₂, subst, ◌∙◌, option_and_then, option_map}
use Rattle.std.proofs.lemmas.Option.{slice_get-map}
use Rattle.std.proofs.lemmas.List.{map-id}
use mathlib.Core.Path.{subst₂}
use Rattle.wiring.specs.Wiring.{In}
use Rattle.wiring.proofs.Members.{from_In-map}
use Rattle.hw_model.specs.Types.{Name, HwType, width}
use Rattle.hw_model.specs.Kinds.{Kind, Instance}
use Rattle.hw_model.specs.Kinds.Kind.{wire}
use Rattle.hw_model.specs.Design.{Ref, Port, Op, RegisterForm, find_module, instance_in, register_form, is_output_kind, is_output_op, result_type, output_refs, callee}
use Rattle.hw_model.specs.Design.Ref.{port, result, undefined}
use Rattle.hw_model.specs.Flat.{Path, Net, net, Source, instances, module_at, body_state, input_width, input_of, port_ref, copy_of, joined_ref, held_of, made_of, source}
use Rattle.hw_model.specs.Flat.Source.{nowhere, input, copy, op_result}
use Rattle.hw_model.specs.Meaning.{needs_of}
use Rattle.hw_model.specs.Sound.{body_of, ports_of}
use Rattle.hw_model.proofs.Sorts.{Sort, sort_of}
use Rattle.hw_model.proofs.Sorts.Sort.{a_register, an_instance, an_output, a_made}
use Rattle.hw_model.proofs.Paths.{input_ports, joined_body, port_of}
use Rattle.edit_laws.specs.Edit.{retarget}
use Rattle.edit_laws.proofs.OtherOperands.{port_ref-map}
use Rattle.inline_laws.specs.Inline.{wire_op}
use Rattle.inline_laws.proofs.Moved.{IsMoved, Matches, by_kind, moved_type, moved_form, moved_is_output, moved_symbol, moved_none, moved_kind, moved_some, moved_retarget, output_refs_moved}
use Rattle.inline_laws.proofs.Moved.Matches.{missing, matched}
use Rattle.inline_laws.proofs.Ends.{skip_outputs, are_wires, wires_no_output, before_has_none}
use Rattle.inline_laws.proofs.Sources.{missing_source, register_source, instance_source, output_source, made_source}
use Rattle.inline_laws.proofs.Inlining.{Finds, Inlining, inner, outer_stand, inner_stand, new_wires, new_inner, new_back, new_body, new_module, state_same}
use Rattle.inline_laws.proofs.Inlining.Finds.{changed, unchanged}
use Rattle.inline_laws.proofs.Origins.{instance_no_output, Leads, outer_alike}
use Rattle.inline_laws.proofs.Origins.Leads.{alike}
use Rattle.inline_laws.proofs.Views.{View, Numbered, origin_in, number_at}
use Rattle.inline_laws.proofs.Views.View.{inlined, as_before}
use Rattle.inline_laws.proofs.Homes.{home_of, view_of, home_start, home_next, origin, port_origin, base_same}
use Rattle.inline_laws.proofs.Positions.{count, Stands, IsWire, Position, position_at}
use Rattle.inline_laws.proofs.Positions.Position.{stands, is_wire}

needs_input : (x : Option Port) (start : ℕ) → needs_of (input_of x start) ≡ []
needs_input None start = refl
needs_input (Some q) start = go q.is_output
  where
    go : (b : Bool) → needs_of (cond b nowhere (input start (width q.type))) ≡ []
    go true = refl
    go false = refl

needs_held : (start : ℕ) (t : Option HwType) → needs_of (held_of start t) ≡ []
needs_held start None = refl
needs_held start (Some t) = refl

module _ (S : Inlining) where
  -- the values that the new body gives to outputs
  pub new_outputs : output_refs (new_body S) ≡ map (outer_stand S) (output_refs S.md.body)
  new_outputs =
      output_refs_new ∙ sym (ap (λ os. map (outer_stand S) (output_refs os)) S.body_is)
    where
      inner_none : (y : Op) → In y (new_inner S) → is_output_op y ≡ false
      inner_none y here =
          let from = from_In-map (λ (z : Op). S.rename (retarget (inner_stand S) z)) y (inner S) here in
          ap is_output_op from.2 ∙ by_kind is_output_kind (λ i. refl) (S.rename (retarget (inner_stand S) from.0)).kind from.0.kind (S.only.kind_is (retarget (inner_stand S) from.0)) ∙ before_has_none S.c.body from.0 from.1

      -- by the prefix: its first output, or those that come after
      along : (fs : List Op) → output_refs (map (retarget (outer_stand S)) fs ++ (new_wires S ++ (new_inner S ++ new_back S))) ≡ map (outer_stand S) (output_refs (fs ++ (S.o ∷ S.back)))
      along [] =
          skip_outputs (new_wires S) (new_inner S ++ new_back S) (wires_no_output (new_wires S) (are_wires S.o.location (inner_stand S) S.o.results _))
          ∙ skip_outputs (new_inner S) (new_back S) inner_none
          ∙ output_refs_moved (outer_stand S) (retarget (outer_stand S)) (moved_retarget (outer_stand S)) S.back
          ∙ ap (λ b. map (outer_stand S) (cond b S.o.operands (output_refs S.back))) (sym (instance_no_output S.o S.target S.is_instance))
      along (f ∷ fs) = go (is_output_op f) (along fs)
        where
          go : (b : Bool) → output_refs (map (retarget (outer_stand S)) fs ++ (new_wires S ++ (new_inner S ++ new_back S))) ≡ map (outer_stand S) (output_refs (fs ++ (S.o ∷ S.back)))
              → cond b (map (outer_stand S) f.operands) (output_refs (map (retarget (outer_stand S)) fs ++ (new_wires S ++ (new_inner S ++ new_back S))))
              ≡ map (outer_stand S) (cond b f.operands (output_refs (fs ++ (S.o ∷ S.back))))
          go true rest = refl
          go false rest = rest

      output_refs_new : output_refs (new_body S) ≡ map (outer_stand S) (output_refs (S.prefix ++ (S.o ∷ S.back)))
      output_refs_new = along S.prefix

module _ (S : Inlining) (top : Name) where
  -- a source of the new design, and one of the old one that gives the same value
  pub data Comes (s' s : Source) : Type 0 where
    constant : s' ≡ s → needs_of s ≡ [] → Comes s' s
    a_copy : (n' n : Net) → s' ≡ copy n' → s ≡ copy n → Leads S.d top n (origin S top n') → Comes s' s
    made : (kind : Kind) (types : List HwType) (t : HwType) (k : ℕ) (q home : Path) (rs : List Ref) (move : Ref → Ref)
        → s' ≡ op_result kind types t k (map (net q) (map move rs)) → s ≡ op_result kind types t k (map (net home) rs)
        → ((r : Ref) → Leads S.d top (net home r) (origin S top (net q (move r)))) → Comes s' s
    wired : (types : List HwType) (t : HwType) (n' n : Net) → s' ≡ op_result wire types t 0 (n' ∷ []) → s ≡ copy n
        → Leads S.d top n (origin S top n') → Comes s' s

  both_nowhere : (s' s : Source) → s' ≡ nowhere → s ≡ nowhere → Comes s' s
  both_nowhere s' s is' is = constant (is' ∙ sym is) (ap needs_of is)

  -- ---- outputs

  -- what stands in the new body for a value that the old one gives to an output
  abbrev pub stand_in : (q p : Path) → View S top q p → Ref → Ref
  stand_in q p (inlined was now) r = outer_stand S r
  stand_in q p (as_before same) r = r

  pub stand_leads : (q p : Path) (x : View S top q p) (r : Ref) → Leads S.d top (net p r) (origin_in S top q p x (stand_in q p x r))
  stand_leads q p (inlined was now) r = alike (outer_alike S top p was r)
  stand_leads q p (as_before same) r = alike refl

  pub outputs_in : (q p : Path) (x : View S top q p) → output_refs (body_of (module_at S.e top q)) ≡ map (stand_in q p x) (output_refs (body_of (module_at S.d top p)))
  outputs_in q p (inlined was now) = ap (λ z. output_refs (body_of z)) now ∙ new_outputs S ∙ ap (λ z. map (outer_stand S) (output_refs (body_of z))) (sym was)
  outputs_in q p (as_before same) = ap (λ z. output_refs (body_of z)) same ∙ sym (map-id (output_refs (body_of (module_at S.d top p))))

  -- ---- ports

  -- ports stay
  pub found_ports : (s : Name) → ports_of (find_module S.e s) ≡ ports_of (find_module S.d s)
  found_ports s = go (S.finds s)
    where
      go : Finds S.d S.e S.md (new_module S) s → ports_of (find_module S.e s) ≡ ports_of (find_module S.d s)
      go (changed was now) = ap ports_of now ∙ sym (ap ports_of was)
      go (unchanged same) = ap ports_of same

  callee_ports : (y y' : Op) → callee S.e y' ≡ callee S.e y → ports_of (callee S.e y') ≡ ports_of (callee S.d y)
  callee_ports y y' same = ap ports_of same ∙ go (instance_in y.kind)
    where
      go : (z : Option Instance) → ports_of (option_and_then (λ (i : Instance). find_module S.e i.symbol) z) ≡ ports_of (option_and_then (λ (i : Instance). find_module S.d i.symbol) z)
      go None = refl
      go (Some i) = found_ports i.symbol

  top_comes : (j : ℕ) → Comes (source S.e top (net [] (port j))) (source S.d top (origin S top (net [] (port j))))
  top_comes j =
      subst (λ a. Comes (source S.e top (net [] (port j))) (source S.d top a)) (sym (port_origin S top [] (home_of S top []) (view_of S top []) j ∙ ap (λ h. net h (port j)) (home_start S top)))
      (constant
      (input_ports j (find_module S.e top) ∙ ap (λ ps. input_of (slice_get ps j) (input_width (take j ps))) (found_ports top) ∙ sym (input_ports j (find_module S.d top)))
      (ap needs_of (input_ports j (find_module S.d top)) ∙ needs_input (slice_get (ports_of (find_module S.d top)) j) (input_width (take j (ports_of (find_module S.d top))))))

  port_comes : (u : ℕ) (q : Path) (j : ℕ) → Comes (source S.e top (net (u ∷ q) (port j))) (source S.d top (origin S top (net (u ∷ q) (port j))))
  port_comes u q j = subst (λ a. Comes (source S.e top (net (u ∷ q) (port j))) (source S.d top a)) (sym origin_is) (go n.op)
    where
      n : Numbered S top q (home_of S top q) (view_of S top q) u
      n = number_at S top q (home_of S top q) (view_of S top q) u

      origin_is : origin S top (net (u ∷ q) (port j)) ≡ net (n.number ∷ n.home) (port j)
      origin_is = port_origin S top (u ∷ q) (home_of S top (u ∷ q)) (view_of S top (u ∷ q)) j ∙ ap (λ h. net h (port j)) (home_next S top q u ∙ n.next_is)

      joined : (x : Option Ref) → Comes (copy_of q (option_map n.move x)) (copy_of n.home x)
      joined None = constant refl refl
      joined (Some r) = a_copy (net q (n.move r)) (net n.home r) refl refl (n.leads r)

      go : Matches n.move (slice_get (instances (body_of (module_at S.d top n.home))) n.number) (slice_get (instances (body_of (module_at S.e top q))) u)
          → Comes (source S.e top (net (u ∷ q) (port j))) (source S.d top (net (n.number ∷ n.home) (port j)))
      go (missing was now) =
          both_nowhere (source S.e top (net (u ∷ q) (port j))) (source S.d top (net (n.number ∷ n.home) (port j)))
          (ap (copy_of q) (joined_body S.e u j (module_at S.e top q) ∙ ap (λ z. option_and_then (joined_ref S.e j) z) now))
          (ap (copy_of n.home) (joined_body S.d n.number j (module_at S.d top n.home) ∙ ap (λ z. option_and_then (joined_ref S.d j) z) was))
      go (matched y y' was now moves) =
          subst₂ Comes
          (sym (ap (copy_of q) (joined_body S.e u j (module_at S.e top q) ∙ ap (λ z. option_and_then (joined_ref S.e j) z) now ∙ port_of (callee S.e y') y'.operands j
          ∙ ap₂ (λ ps rs. port_ref ps rs j) (callee_ports y y' (moved_symbol n.move y y' moves (find_module S.e))) moves.operands_are
          ∙ port_ref-map n.move (ports_of (callee S.d y)) y.operands j)))
          (sym (ap (copy_of n.home) (joined_body S.d n.number j (module_at S.d top n.home) ∙ ap (λ z. option_and_then (joined_ref S.d j) z) was ∙ port_of (callee S.d y) y.operands j)))
          (joined (port_ref (ports_of (callee S.d y)) y.operands j))

  undefined_origin : (q p : Path) (x : View S top q p) → origin_in S top q p x undefined ≡ net p undefined
  undefined_origin q p (inlined was now) = refl
  undefined_origin q p (as_before same) = refl

  -- ---- results

  module _ (q : Path) (j k : ℕ) where
    abbrev at_home : Path
    at_home = home_of S top q

    abbrev at_view : View S top q at_home
    at_view = view_of S top q

    wire_comes : IsWire S top q at_home at_view j → Comes (source S.e top (net q (result j k))) (source S.d top (origin S top (net q (result j k))))
    wire_comes w = go k
      where
        wire_source : (k : ℕ) → source S.e top (net q (result j k)) ≡ made_of q (wire_op S.o.location w.type w.operand) k (result_type (wire_op S.o.location w.type w.operand) k)
        wire_source k = made_source S.e top q j k (wire_op S.o.location w.type w.operand) w.op refl refl refl

        go : (k : ℕ) → Comes (source S.e top (net q (result j k))) (source S.d top (origin S top (net q (result j k))))
        go zero = wired (w.type ∷ []) w.type (net q w.operand) w.given (wire_source 0) w.source_is w.leads
        go (suc k) =
            both_nowhere (source S.e top (net q (result j (suc k)))) (source S.d top (origin S top (net q (result j (suc k)))))
            (wire_source (suc k)) (ap (source S.d top) (w.others k))

    module _ (s : Stands S top q at_home at_view j) where
      abbrev Here : Type 0
      Here = Comes (source S.e top (net q (result j k))) (source S.d top (net s.home (result s.pos k)))

      module _ (y y' : Op) (was : slice_get (body_of (module_at S.d top s.home)) s.pos ≡ Some y) (now : slice_get (body_of (module_at S.e top q)) j ≡ Some y')
          (moves : IsMoved s.move y y') where
        register_comes : (f : RegisterForm) → register_form y.kind ≡ Some f → Here
        register_comes f r =
            subst₂ Comes
            (sym (register_source S.e top q j k y' now f (moved_form s.move y y' moves ∙ r)
            ∙ ap₂ held_of
            (ap₂ (λ a g. a + body_state g (take j (body_of (module_at S.e top q)))) (base_same S top q) (state_same S) ∙ s.offset_is)
            (moved_type s.move y y' moves k)))
            (sym (register_source S.d top s.home s.pos k y was f r))
            (constant refl (needs_held _ (result_type y k)))

        instance_comes : (x : Instance) → register_form y.kind ≡ None → instance_in y.kind ≡ Some x → Here
        instance_comes x r i =
            subst₂ Comes
            (sym (instance_source S.e top q j k y' now (moved_some s.move y y' moves x i).0 (moved_form s.move y y' moves ∙ r) (moved_some s.move y y' moves x i).1
            ∙ ap (copy_of (u ∷ q)) (ap (λ rs. slice_get rs k) (outputs_in (u ∷ q) (home_of S top (u ∷ q)) (view_of S top (u ∷ q)))
            ∙ slice_get-map (stand_in (u ∷ q) (home_of S top (u ∷ q)) (view_of S top (u ∷ q))) (output_refs (body_of (module_at S.d top (home_of S top (u ∷ q))))) k)))
            (sym (instance_source S.d top s.home s.pos k y was x r i
            ∙ ap (λ h. copy_of h (slice_get (output_refs (body_of (module_at S.d top h))) k)) (sym (home_next S top q u ∙ s.next_is y x was i))))
            (given (slice_get (output_refs (body_of (module_at S.d top (home_of S top (u ∷ q))))) k))
          where
            u : ℕ
            u = count j (body_of (module_at S.e top q))

            given : (z : Option Ref) → Comes (copy_of (u ∷ q) (option_map (stand_in (u ∷ q) (home_of S top (u ∷ q)) (view_of S top (u ∷ q))) z)) (copy_of (home_of S top (u ∷ q)) z)
            given None = constant refl refl
            given (Some r) =
                a_copy (net (u ∷ q) (stand_in (u ∷ q) (home_of S top (u ∷ q)) (view_of S top (u ∷ q)) r)) (net (home_of S top (u ∷ q)) r) refl refl
                (stand_leads (u ∷ q) (home_of S top (u ∷ q)) (view_of S top (u ∷ q)) r)

        output_comes : register_form y.kind ≡ None → instance_in y.kind ≡ None → is_output_kind y.kind ≡ true → Here
        output_comes r i o =
            both_nowhere (source S.e top (net q (result j k))) (source S.d top (net s.home (result s.pos k)))
            (output_source S.e top q j k y' now (moved_form s.move y y' moves ∙ r) (moved_none s.move y y' moves i) (moved_is_output s.move y y' moves ∙ o))
            (output_source S.d top s.home s.pos k y was r i o)

        made_comes : register_form y.kind ≡ None → instance_in y.kind ≡ None → is_output_kind y.kind ≡ false → Here
        made_comes r i o =
            subst₂ Comes
            (sym (made_source S.e top q j k y' now (moved_form s.move y y' moves ∙ r) (moved_none s.move y y' moves i) (moved_is_output s.move y y' moves ∙ o)
            ∙ ap (made_of q y' k) (moved_type s.move y y' moves k)))
            (sym (made_source S.d top s.home s.pos k y was r i o))
            (go (result_type y k))
          where
            go : (t : Option HwType) → Comes (made_of q y' k t) (made_of s.home y k t)
            go None = constant refl refl
            go (Some t) =
                made y.kind y.types t k q s.home y.operands s.move
                (ap₂ (λ x ts. op_result x ts t k (map (net q) y'.operands)) (moved_kind s.move y y' moves i) moves.types_are ∙ ap (λ rs. op_result y.kind y.types t k (map (net q) rs)) moves.operands_are)
                refl s.leads

        by_sort : Sort y.kind → Here
        by_sort (a_register f r i o) = register_comes f r
        by_sort (an_instance x r i o) = instance_comes x r i
        by_sort (an_output r i o) = output_comes r i o
        by_sort (a_made r i o) = made_comes r i o

      stands_comes : Comes (source S.e top (net q (result j k))) (source S.d top (origin S top (net q (result j k))))
      stands_comes = subst (λ a. Comes (source S.e top (net q (result j k))) (source S.d top a)) (sym (s.origin_is k)) (go s.op)
        where
          go : Matches s.move (slice_get (body_of (module_at S.d top s.home)) s.pos) (slice_get (body_of (module_at S.e top q)) j) → Here
          go (missing was now) =
              both_nowhere (source S.e top (net q (result j k))) (source S.d top (net s.home (result s.pos k)))
              (missing_source S.e top q j k now) (missing_source S.d top s.home s.pos k was)
          go (matched y y' was now moves) = by_sort y y' was now moves (sort_of y.kind)

    result_comes : Comes (source S.e top (net q (result j k))) (source S.d top (origin S top (net q (result j k))))
    result_comes = go (position_at S top q at_home at_view j)
      where
        go : Position S top q at_home at_view j → Comes (source S.e top (net q (result j k))) (source S.d top (origin S top (net q (result j k))))
        go (stands s) = stands_comes s
        go (is_wire w) = wire_comes w

  -- ---- each net

  pub comes : (a : Net) → Comes (source S.e top a) (source S.d top (origin S top a))
  comes a = go a.path a.ref
    where
      go : (q : Path) (r : Ref) → Comes (source S.e top (net q r)) (source S.d top (origin S top (net q r)))
      go [] (port j) = top_comes j
      go (u ∷ q) (port j) = port_comes u q j
      go q (result j k) = result_comes q j k
      go q undefined = constant (sym (ap (source S.d top) (undefined_origin q (home_of S top q) (view_of S top q)))) (ap (λ n. needs_of (source S.d top n)) (undefined_origin q (home_of S top q) (view_of S top q)))
