-- Once an instance is inlined asynchronous resets come from the ports that were reset ports.
use Rattle.std.proofs.Common.{◌≡◌, ℕ, Bool, true, false, cond, List, [], ◌∷◌, map, take, Option, Some, None, slice_get, refl, sym, ap, subst, ◌∙◌, option_and_then, option_map}
use Rattle.std.proofs.lemmas.Option.{slice_get-map}
use Rattle.wiring.specs.Wiring.{In}
use Rattle.wiring.proofs.Members.{position_of_In, In-slice_get}
use Rattle.wiring.proofs.Options.{and_then_some}
use Rattle.hw_model.specs.Types.{Name}
use Rattle.hw_model.specs.Kinds.{Instance}
use Rattle.hw_model.specs.Kinds.Kind.{wire}
use Rattle.hw_model.specs.Design.{Ref, Port, Op, Module, find_module, instance_in, callee, output_refs}
use Rattle.hw_model.specs.Flat.{ResetBy, has_async_reset, async_parts, async_reset_in, input_count, operand_for, port_ref}
use Rattle.hw_model.specs.Resets.{IsMarkedInput, IsConstantOf, ResetsFromPorts}
use Rattle.hw_model.specs.Sound.{SoundBody}
use Rattle.edit_laws.specs.Edit.{retarget}
use Rattle.edit_laws.specs.Resets.{has_mark, marks_by_symbol}
use Rattle.edit_laws.proofs.ResetsKept.{find_symbol}
use Rattle.port_checks.specs.ResetPorts.{is_reset_port}
use Rattle.op_verifier.specs.ResetChecks.{is_constant_ref}
use Rattle.op_verifier.proofs.InputResets.{constant_is, resets_from_ports}
use Rattle.op_verifier.proofs.WholeDesigns.{some_from}
use Rattle.acceptance_laws.specs.Keeps.{IsFit}
use Rattle.acceptance_laws.proofs.Accepted.{fit_found}
use Rattle.acceptance_laws.proofs.FitBodies.{operand_there}
use Rattle.acceptance_laws.proofs.Resets.{constant_told}
use Rattle.inline_laws.specs.Inline.{ref_or_undefined}
use Rattle.inline_laws.proofs.Ends.{are_wires}
use Rattle.inline_laws.proofs.Inlining.{Finds, Inlining, inner, outer_stand, inner_stand, new_wires, new_body, new_module}
use Rattle.inline_laws.proofs.Inlining.Finds.{changed, unchanged}
use Rattle.inline_laws.proofs.Types.{in_module, each_op}
use Rattle.inline_pass.specs.Renaming.{renamed}
use Rattle.inline_pass.proofs.RenamedKinds.{kind_same}
use Rattle.inline_pass.proofs.InlinedOperands.{instance_among, module_there, outer_allows, inner_allows}

-- ---- operands that are changed

-- the reset of a register comes from that of the register with other operands, whose value is one of its operands
record WasReset (f : Ref → Ref) (o : Op) (r : ResetBy) : Type 0 where
  reset : ResetBy
  has_reset : async_reset_in o ≡ Some reset
  signal : r.signal ≡ f reset.signal
  value : r.value ≡ f reset.value
  value_named : In reset.value o.operands

was_reset : (f : Ref → Ref) (o : Op) (r : ResetBy) → cond (has_async_reset o.kind) (async_parts (map f o.operands)) None ≡ Some r → WasReset f o r
was_reset f o r is = go (has_async_reset o.kind) refl o.operands refl is
  where
    named : (d c s v : Ref) → In v (d ∷ c ∷ s ∷ v ∷ [])
    named d c s v = In-slice_get v (d ∷ c ∷ s ∷ v ∷ []) 3 refl

    go : (b : Bool) → has_async_reset o.kind ≡ b → (rs : List Ref) → o.operands ≡ rs → cond b (async_parts (map f rs)) None ≡ Some r → WasReset f o r
    go true kind (d ∷ c ∷ s ∷ v ∷ []) old h =
        let same : record { signal = f s; value = f v } ≡ r = some_from h in
        record {
          reset = record { signal = s; value = v };
          has_reset = ap (λ b. cond b (async_parts o.operands) None) kind ∙ ap async_parts old;
          signal = sym (ap (λ (x : ResetBy). x.signal) same);
          value = sym (ap (λ (x : ResetBy). x.value) same);
          value_named = subst (λ xs. In v xs) (sym old) (named d c s v);
        }
    go true kind [] old h = cc
    go true kind (d ∷ []) old h = cc
    go true kind (d ∷ c ∷ []) old h = cc
    go true kind (d ∷ c ∷ s ∷ []) old h = cc
    go true kind (d ∷ c ∷ s ∷ v ∷ x ∷ rs) old h = cc
    go false kind rs old h = cc

-- what is joined to a port
joined_moved : (f : Ref → Ref) (ps : List Port) (rs : List Ref) (j : ℕ) (q : Ref) → port_ref ps rs j ≡ Some q → port_ref ps (map f rs) j ≡ Some (f q)
joined_moved f ps rs j q is = go (slice_get ps j) is
  where
    by_way : (b : Bool) (n : ℕ) → cond b None (slice_get rs n) ≡ Some q → cond b None (slice_get (map f rs) n) ≡ Some (f q)
    by_way true n h = cc
    by_way false n h = slice_get-map f rs n ∙ ap (option_map f) h

    go : (p : Option Port) → operand_for p rs (input_count (take j ps)) ≡ Some q → operand_for p (map f rs) (input_count (take j ps)) ≡ Some (f q)
    go None h = cc
    go (Some p) h = by_way p.is_output (input_count (take j ps)) h

-- a marked input port is told by its number
marked_same : (marked : Module → ℕ → Bool) (m : Module) (r q : Ref) → q ≡ r → IsMarkedInput marked m r → IsMarkedInput marked m q
marked_same marked m r q same i = subst (IsMarkedInput marked m) (sym same) i

-- ---- the two designs

module _ (S : Inlining) (u : Name) (is_renamed : S.rename ≡ renamed u) (fit : IsFit S.d) (k : ℕ) (at : slice_get S.d k ≡ Some S.md) where
  abbrev old_marks : Module → ℕ → Bool
  old_marks = is_reset_port S.d

  abbrev marks : Module → ℕ → Bool
  marks = marks_by_symbol S.d (is_reset_port S.d)

  resets : ResetsFromPorts S.d (is_reset_port S.d)
  resets = resets_from_ports S.d fit.unrefused

  md_found : find_module S.d S.md.symbol ≡ Some S.md
  md_found = fit_found S.d fit k S.md at

  sound : SoundBody S.d S.md.ports S.md.body
  sound = fit.valid.sound S.md.symbol S.md md_found

  -- a module that is found, and the one that was found
  record WasFound (s : Name) (n : Module) : Type 0 where
    was : Module
    is_found : find_module S.d s ≡ Some was
    ports_are : n.ports ≡ was.ports

  was_found : (s : Name) (n : Module) → find_module S.e s ≡ Some n → WasFound s n
  was_found s n is = go (S.finds s)
    where
      go : Finds S.d S.e S.md (new_module S) s → WasFound s n
      go (changed was now) = record { was = S.md; is_found = was; ports_are = sym (ap (λ (m : Module). m.ports) (some_from (sym now ∙ is))) }
      go (unchanged same) = record { was = n; is_found = sym same ∙ is; ports_are = refl }

  module _ (s : Name) (n : Module) (is : find_module S.e s ≡ Some n) where
    abbrev old : Module
    old = (was_found s n is).was

    marks_same : (j : ℕ) → marks n j ≡ old_marks old j
    marks_same j = ap (λ z. has_mark old_marks j (find_module S.d z)) (find_symbol S.e s n is) ∙ ap (has_mark old_marks j) (was_found s n is).is_found

    marked_now : (r : Ref) → IsMarkedInput old_marks old r → IsMarkedInput marks n r
    marked_now r i = record {
      number = i.number;
      is_port = i.is_port;
      port_of = i.port_of;
      there = ap (λ ps. slice_get ps i.number) (was_found s n is).ports_are ∙ i.there;
      is_input = i.is_input;
      has_mark = marks_same i.number ∙ i.has_mark;
    }

    marked_then : (r : Ref) → IsMarkedInput marks n r → IsMarkedInput old_marks old r
    marked_then r i = record {
      number = i.number;
      is_port = i.is_port;
      port_of = i.port_of;
      there = ap (λ ps. slice_get ps i.number) (sym (was_found s n is).ports_are) ∙ i.there;
      is_input = i.is_input;
      has_mark = sym (marks_same i.number) ∙ i.has_mark;
    }

  -- ---- ports of the instance's module

  o_callee : callee S.d S.o ≡ Some S.c
  o_callee = ap (λ x. option_and_then (λ (i : Instance). find_module S.d i.symbol) x) S.is_instance ∙ S.is_found

  outer_port : (r : Ref) → IsMarkedInput old_marks S.md r → outer_stand S r ≡ r
  outer_port r i = ap (outer_stand S) i.is_port ∙ sym i.is_port

  -- in the place of a reset port of the module stands one of the parent
  inner_port : (r : Ref) → IsMarkedInput old_marks S.c r → IsMarkedInput old_marks S.md (inner_stand S r)
  inner_port r given =
      let joins = resets.joined S.md.symbol S.md S.o S.c r md_found (instance_among S) o_callee given in
      marked_same old_marks S.md joins.0 (inner_stand S r)
      (ap (inner_stand S) given.is_port ∙ ap (λ x. ref_or_undefined (option_map (outer_stand S) x)) joins.1 ∙ outer_port joins.0 joins.2) joins.2

  -- ---- the new body

  abbrev IsResetFrom : Op → Type 0
  IsResetFrom z = (r : ResetBy) → async_reset_in z ≡ Some r → IsMarkedInput old_marks S.md r.signal × IsConstantOf (new_body S) r.value

  outer_reset : (y : Op) → In y S.md.body → IsResetFrom (retarget (outer_stand S) y)
  outer_reset y here r is =
      let w = was_reset (outer_stand S) y r is in
      let signal = resets.signals S.md.symbol S.md y w.reset md_found here w.has_reset in
      let position = position_of_In y S.md.body here in
      let value = outer_allows S u is_renamed fit k at w.reset.value (operand_there S.d fit k S.md at position.0 y w.reset.value position.1 w.value_named) in (
        marked_same old_marks S.md w.reset.signal r.signal (w.signal ∙ outer_port w.reset.signal signal) signal,
        constant_is (new_body S) r.value (ap (is_constant_ref (new_body S)) w.value
            ∙ value.constant (constant_told S.md.body w.reset.value (resets.values S.md.symbol S.md y w.reset md_found here w.has_reset))),
      )

  wire_reset : (y : Op) → In y (new_wires S) → IsResetFrom y
  wire_reset y here r is =
      let kind : y.kind ≡ wire = are_wires S.o.location (inner_stand S) S.o.results (output_refs S.c.body) y here in
      let none : None ≡ Some r = sym (ap (λ z. cond (has_async_reset z) (async_parts y.operands) None) kind) ∙ is in
      cc

  inner_reset : (y : Op) → In y (inner S) → IsResetFrom (S.rename (retarget (inner_stand S) y))
  inner_reset y inside r is =
      let here : In y S.c.body = in_module S sound y inside in
      let w = was_reset (inner_stand S) y r
      (ap (λ b. cond b (async_parts (map (inner_stand S) y.operands)) None) (sym (kind_same has_async_reset (λ i n. refl) u y.kind))
      ∙ ap (λ g. async_reset_in (g (retarget (inner_stand S) y))) (sym is_renamed) ∙ is) in
      let signal = resets.signals S.target.symbol S.c y w.reset S.is_found here w.has_reset in
      let position = position_of_In y S.c.body here in
      let value = inner_allows S u is_renamed fit k at sound w.reset.value (operand_there S.d fit (module_there S).0 S.c (module_there S).1 position.0 y w.reset.value position.1 w.value_named) in (
        marked_same old_marks S.md (inner_stand S w.reset.signal) r.signal w.signal (inner_port w.reset.signal signal),
        constant_is (new_body S) r.value (ap (is_constant_ref (new_body S)) w.value
            ∙ value.constant (constant_told S.c.body w.reset.value (resets.values S.target.symbol S.c y w.reset S.is_found here w.has_reset))),
      )

  new_resets : (z : Op) → In z (new_body S) → IsResetFrom z
  new_resets = each_op S sound IsResetFrom outer_reset wire_reset inner_reset

  -- ---- instances

  abbrev IsJoinedFrom : Op → Type 0
  IsJoinedFrom z = (i : Instance) (c : Module) (r : Ref) → instance_in z.kind ≡ Some i → find_module S.d i.symbol ≡ Some c → (given : IsMarkedInput old_marks c r)
      → (q : Ref) × (port_ref c.ports z.operands given.number ≡ Some q) × IsMarkedInput old_marks S.md q

  leads : (y : Op) (i : Instance) (c : Module) → instance_in y.kind ≡ Some i → find_module S.d i.symbol ≡ Some c → callee S.d y ≡ Some c
  leads y i c inst found = ap (λ x. option_and_then (λ (j : Instance). find_module S.d j.symbol) x) inst ∙ found

  outer_joined : (y : Op) → In y S.md.body → IsJoinedFrom (retarget (outer_stand S) y)
  outer_joined y here i c r inst found given =
      let joins = resets.joined S.md.symbol S.md y c r md_found here (leads y i c inst found) given in (
        joins.0,
        joined_moved (outer_stand S) c.ports y.operands given.number joins.0 joins.1 ∙ ap Some (outer_port joins.0 joins.2),
        joins.2,
      )

  wire_joined : (y : Op) → In y (new_wires S) → IsJoinedFrom y
  wire_joined y here i c r inst found given =
      let kind : y.kind ≡ wire = are_wires S.o.location (inner_stand S) S.o.results (output_refs S.c.body) y here in
      let none : None ≡ Some i = sym (ap instance_in kind) ∙ inst in
      cc

  inner_joined : (y : Op) → In y (inner S) → IsJoinedFrom (S.rename (retarget (inner_stand S) y))
  inner_joined y inside = subst (λ g. IsJoinedFrom (g (retarget (inner_stand S) y))) (sym is_renamed) from
    where
      symbol_in : Option Instance → Option Name
      symbol_in x = option_map (λ (i : Instance). i.symbol) x

      from : IsJoinedFrom (renamed u (retarget (inner_stand S) y))
      from i c r inst found given =
          let here : In y S.c.body = in_module S sound y inside in
          let same : symbol_in (instance_in y.kind) ≡ Some i.symbol = sym (kind_same (λ z. symbol_in (instance_in z)) (λ x n. refl) u y.kind) ∙ ap symbol_in inst in
          let joins = resets.joined S.target.symbol S.c y c r S.is_found here (by_symbol (instance_in y.kind) same found) given in (
            inner_stand S joins.0,
            joined_moved (inner_stand S) c.ports y.operands given.number joins.0 joins.1,
            inner_port joins.0 joins.2,
          )
        where
          by_symbol : (x : Option Instance) → symbol_in x ≡ Some i.symbol → find_module S.d i.symbol ≡ Some c → option_and_then (λ (j : Instance). find_module S.d j.symbol) x ≡ Some c
          by_symbol None is there = cc
          by_symbol (Some j) is there = ap (find_module S.d) (some_from is) ∙ there

  new_joined : (z : Op) → In z (new_body S) → IsJoinedFrom z
  new_joined = each_op S sound IsJoinedFrom outer_joined wire_joined inner_joined

  -- ---- modules

  module _ (s : Name) (n : Module) (is : find_module S.e s ≡ Some n) where
    reset_in_module : (o : Op) (r : ResetBy) → In o n.body → async_reset_in o ≡ Some r → IsMarkedInput marks n r.signal × IsConstantOf n.body r.value
    reset_in_module o r here async = go (S.finds s)
      where
        go : Finds S.d S.e S.md (new_module S) s → IsMarkedInput marks n r.signal × IsConstantOf n.body r.value
        go (changed was now) =
            let one : new_module S ≡ n = some_from (sym now ∙ is) in
            let old_is : old s n is ≡ S.md = some_from (sym (was_found s n is).is_found ∙ was) in
            let from = new_resets o (subst (λ (m : Module). In o m.body) (sym one) here) r async in
            (marked_now s n is r.signal (subst (λ m. IsMarkedInput old_marks m r.signal) (sym old_is) from.0), subst (λ (m : Module). IsConstantOf m.body r.value) one from.1)
        go (unchanged same) =
            let found : find_module S.d s ≡ Some n = sym same ∙ is in
            let old_is : old s n is ≡ n = some_from (sym (was_found s n is).is_found ∙ found) in
            (marked_now s n is r.signal (subst (λ m. IsMarkedInput old_marks m r.signal) (sym old_is) (resets.signals s n o r found here async)), resets.values s n o r found here async)

    joined_in_module : (o : Op) (c : Module) (r : Ref) → In o n.body → callee S.e o ≡ Some c → (given : IsMarkedInput marks c r)
        → (q : Ref) × (port_ref c.ports o.operands given.number ≡ Some q) × IsMarkedInput marks n q
    unfolding marked_then
    joined_in_module o c r here leads_to given = go (S.finds s)
      where
        inst : (i : Instance) × (instance_in o.kind ≡ Some i) × (find_module S.e i.symbol ≡ Some c)
        inst = and_then_some (instance_in o.kind) (λ (i : Instance). find_module S.e i.symbol) leads_to

        called : WasFound inst.0.symbol c
        called = was_found inst.0.symbol c inst.2

        with_ports : (q : Ref) → port_ref called.was.ports o.operands given.number ≡ Some q → port_ref c.ports o.operands given.number ≡ Some q
        with_ports q h = ap (λ ps. port_ref ps o.operands given.number) called.ports_are ∙ h

        go : Finds S.d S.e S.md (new_module S) s → (q : Ref) × (port_ref c.ports o.operands given.number ≡ Some q) × IsMarkedInput marks n q
        go (changed was now) =
            let one : new_module S ≡ n = some_from (sym now ∙ is) in
            let old_is : old s n is ≡ S.md = some_from (sym (was_found s n is).is_found ∙ was) in
            let joins = new_joined o (subst (λ (m : Module). In o m.body) (sym one) here) inst.0 called.was r inst.1 called.is_found (marked_then inst.0.symbol c inst.2 r given) in
            (joins.0, with_ports joins.0 joins.1, marked_now s n is joins.0 (subst (λ m. IsMarkedInput old_marks m joins.0) (sym old_is) joins.2))
        go (unchanged same) =
            let found : find_module S.d s ≡ Some n = sym same ∙ is in
            let old_is : old s n is ≡ n = some_from (sym (was_found s n is).is_found ∙ found) in
            let joins = resets.joined s n o called.was r found here (leads o inst.0 called.was inst.1 called.is_found) (marked_then inst.0.symbol c inst.2 r given) in
            (joins.0, with_ports joins.0 joins.1, marked_now s n is joins.0 (subst (λ m. IsMarkedInput old_marks m joins.0) (sym old_is) joins.2))

  pub resets_inlined : ResetsFromPorts S.e (marks_by_symbol S.d (is_reset_port S.d))
  resets_inlined = record {
    signals = λ s n o r is here async. (reset_in_module s n is o r here async).0;
    values = λ s n o r is here async. (reset_in_module s n is o r here async).1;
    joined = λ s n o c r is. joined_in_module s n is o c r;
  }
