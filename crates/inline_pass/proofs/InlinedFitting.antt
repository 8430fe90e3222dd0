-- Once an instance is inlined the operations of both bodies fit the new one.
use Rattle.std.proofs.Common.{◌≡◌, ℕ, Bool, true, false, cond, not, ◌&&◌, List, [], ◌∷◌, map, length, Option, Some, None, slice_get, refl, sym, ap, ap₂, subst, ◌∙◌, inl, inr}
use Rattle.std.specs.Prelude.{is_some}
use Rattle.std.specs.Cmp.Lexicographic.{pointwise}
use Rattle.std.proofs.lemmas.List.{length-map}
use Rattle.wiring.specs.Wiring.{In}
use Rattle.wiring.proofs.Lists.{map-map}
use Rattle.wiring.proofs.Members.{position_of_In}
use Rattle.diag.specs.declared.cause.Cause.{Cause}
use Rattle.diag.specs.declared.cause.Cause.TheVariants as cause
use Rattle.hw_model.specs.Types.{Name, HwType}
use Rattle.hw_model.specs.Kinds.{Instance}
use Rattle.hw_model.specs.Kinds.Kind.{wire}
use Rattle.hw_model.specs.Design.{Ref, Port, OpResult, Op, Module, find_module, instance_in, is_output_kind, output_refs}
use Rattle.hw_model.specs.SameType.{same_type}
use Rattle.hw_model.specs.Sound.{type_in, SoundBody}
use Rattle.port_checks.specs.InstanceChecks.{port_types, call_cause, instance_cause}
use Rattle.op_checks.specs.OwnChecks.{own_cause}
use Rattle.op_verifier.specs.Answers.{when}
use Rattle.op_verifier.specs.OpChecks.{settled_type, has_again, has_undefined, has_other_outputs, value_cause, alone_cause}
use Rattle.op_verifier.proofs.Unrefused.{or_none, when_none}
use Rattle.stored_form.specs.Bytes.{AreBytes}
use Rattle.printing_laws.proofs.VerifiedDesigns.{defined_of, all_defined}
use Rattle.edit_laws.specs.Edit.{retarget}
use Rattle.acceptance_laws.specs.Asked.{Operand, operand_in, operands_in, some_undefined, second_known, AllowsMore, AllowMore}
use Rattle.acceptance_laws.specs.Keeps.{IsFitting, IsFit}
use Rattle.acceptance_laws.proofs.Accepted.{fit_found, printable_with}
use Rattle.acceptance_laws.proofs.Causes.{undefined_told, types_told, known_told, undefined_more, types_more, known_more, length_more, own_more, none_or, when_false}
use Rattle.acceptance_laws.proofs.FitBodies.{operand_there, settled_here}
use Rattle.inline_laws.specs.Inline.{wire_op}
use Rattle.inline_laws.proofs.Ends.{before_has_none}
use Rattle.inline_laws.proofs.Inlining.{Finds, Inlining, inner, outer_stand, inner_stand, new_wires, new_body, new_module}
use Rattle.inline_laws.proofs.Inlining.Finds.{changed, unchanged}
use Rattle.inline_laws.proofs.Types.{in_module, each_op, wire_found, inner_type}
use Rattle.inline_pass.specs.Renaming.{renamed_kind, renamed}
use Rattle.inline_pass.proofs.RenamedKinds.{kind_same, own_cause_renamed}
use Rattle.inline_pass.proofs.RenamedPrinting.{printable_renamed}
use Rattle.acceptance_laws.proofs.FitModules.{IsFitOp, fit_module, instance_kind}
use Rattle.inline_pass.proofs.InlinedWires.{IsWireType, wire_unrefused, wire_printable, result_wire_type, wire_from}
use Rattle.inline_pass.proofs.InlinedOperands.{unported, instance_among, module_there, outer_allows, inner_allows}

-- ---- operands, but for whether they are input ports

unported_undefined : (xs : List Operand) → some_undefined (map unported xs) ≡ some_undefined xs
unported_undefined [] = refl
unported_undefined (a ∷ xs) = ap (λ b. cond a.defined b true) (unported_undefined xs)

unported_known : (xs : List Operand) → second_known (map unported xs) ≡ second_known xs
unported_known [] = refl
unported_known (a ∷ []) = refl
unported_known (a ∷ b ∷ xs) = refl

unported_types : (xs : List Operand) → map (λ (x : Operand). x.type) (map unported xs) ≡ map (λ (x : Operand). x.type) xs
unported_types xs = map-map (λ (x : Operand). x.type) unported xs

operands_carried : (ports ports' : List Port) (os os' : List Op) (f : Ref → Ref) (rs : List Ref)
    → ((r : Ref) → In r rs → AllowsMore (unported (operand_in ports os r)) (operand_in ports' os' (f r)))
    → AllowMore (map unported (operands_in ports os rs)) (operands_in ports' os' (map f rs))
operands_carried ports ports' os os' f [] each = tt
operands_carried ports ports' os os' f (r ∷ rs) each = (each r (inl refl), operands_carried ports ports' os os' f rs (λ q here. each q (inr here)))

-- ---- an operation with other operands in another body

abbrev own_of : Op → List (Option HwType) → Bool → Option Cause
own_of o ts known = own_cause o.kind o.types (map (λ (r : OpResult). r.type) o.results) o.named ts known

module _ (ports ports' : List Port) (os os' : List Op) (o : Op) (rs : List Ref) (fits : IsFitting ports os o)
    (more : AllowMore (map unported (operands_in ports os o.operands)) (operands_in ports' os' rs)) where
  abbrev old : List Operand
  old = operands_in ports os o.operands

  abbrev new : List Operand
  new = operands_in ports' os' rs

  value_parts : (when (has_again o.results) cause.Redefined ≡ None) × (when (has_undefined ports os o.operands) cause.Undefined ≡ None)
  value_parts = or_none (when (has_again o.results) cause.Redefined) (when (has_undefined ports os o.operands) cause.Undefined) fits.values

  carried_defined : has_undefined ports' os' rs ≡ false
  carried_defined =
      undefined_told ports' os' rs
      ∙ undefined_more (map unported old) new more
      (unported_undefined old ∙ sym (undefined_told ports os o.operands) ∙ when_none (has_undefined ports os o.operands) cause.Undefined value_parts.1)

  carried_count : length rs ≡ length o.operands
  carried_count =
      sym (length-map rs (operand_in ports' os')) ∙ length_more (map unported old) new more ∙ length-map old unported
      ∙ length-map o.operands (operand_in ports os)

  carried_values : value_cause ports' os' (record o { operands = rs }) ≡ None
  carried_values =
      none_or (when (has_again o.results) cause.Redefined) (when (has_undefined ports' os' rs) cause.Undefined) value_parts.0
      (when_false (has_undefined ports' os' rs) cause.Undefined carried_defined)

  carried_alone : alone_cause ports' os' (record o { operands = rs }) ≡ None
  carried_alone =
      ap₂ (own_of o) (types_told ports' os' rs) (known_told ports' os' rs)
      ∙ ap (λ ts. own_of o ts (second_known new)) (types_more (map unported old) new more ∙ unported_types old)
      ∙ own_more o.kind o.types (map (λ (r : OpResult). r.type) o.results) o.named (map (λ (x : Operand). x.type) old) (second_known old) (second_known new)
      (λ h. known_more (map unported old) new more (unported_known old ∙ h))
      (sym (ap₂ (own_of o) (types_told ports os o.operands) (known_told ports os o.operands)) ∙ fits.alone)

  -- it fits where it is renamed
  fitting_renamed : (u : Name) → AreBytes u → IsFitting ports' os' (renamed u (record o { operands = rs }))
  fitting_renamed u bytes = record {
    values = carried_values;
    alone = own_cause_renamed u o.kind o.types (map (λ (r : OpResult). r.type) o.results) o.named _ _ ∙ carried_alone;
    printable = printable_renamed u bytes ports ports' os os' o rs carried_count (all_defined ports' os' rs carried_defined) fits.printable;
  }

-- and in a body of the same module
fitting_carried : (ports : List Port) (os os' : List Op) (o : Op) (rs : List Ref) → IsFitting ports os o
    → AllowMore (map unported (operands_in ports os o.operands)) (operands_in ports os' rs) → IsFitting ports os' (record o { operands = rs })
fitting_carried ports os os' o rs fits more = record {
  values = carried_values ports ports os os' o rs fits more;
  alone = carried_alone ports ports os os' o rs fits more;
  printable = printable_with ports os os' o rs (carried_count ports ports os os' o rs fits more)
      (all_defined ports os' rs (carried_defined ports ports os os' o rs fits more)) fits.printable;
}

-- ---- the new body

module _ (S : Inlining) (u : Name) (is_renamed : S.rename ≡ renamed u) (bytes : AreBytes u) (fit : IsFit S.d) (k : ℕ) (at : slice_get S.d k ≡ Some S.md) where
  sound : SoundBody S.d S.md.ports S.md.body
  sound = fit.valid.sound S.md.symbol S.md (fit_found S.d fit k S.md at)

  -- nothing is refused of an operation of the new body but for its asynchronous reset, and it can be printed
  pub record FitsInside (z : Op) : Type 0 where
    pub fits : IsFitting S.md.ports (new_body S) z
    pub outputs : has_other_outputs S.md.ports z ≡ false
    pub called : instance_cause S.e z.types (instance_in z.kind) ≡ None

  -- a module that an instance names has the ports that it had
  pub called_still : (ts : List HwType) (i : Option Instance) → instance_cause S.d ts i ≡ None → instance_cause S.e ts i ≡ None
  called_still ts None h = refl
  called_still ts (Some i) h = go (S.finds i.symbol)
    where
      go : Finds S.d S.e S.md (new_module S) i.symbol → call_cause i ts (find_module S.e i.symbol) ≡ None
      go (changed was now) = ap (call_cause i ts) now ∙ sym (ap (call_cause i ts) was) ∙ h
      go (unchanged same) = ap (call_cause i ts) same ∙ h

  outer_fits : (y : Op) → In y S.md.body → FitsInside (retarget (outer_stand S) y)
  outer_fits y here =
      let is = (fit_module S.d fit k S.md at).ops y here in
      let spot = position_of_In y S.md.body here in
      record {
        fits = fitting_carried S.md.ports S.md.body (new_body S) y (map (outer_stand S) y.operands) is.fits
            (operands_carried S.md.ports S.md.ports S.md.body (new_body S) (outer_stand S) y.operands
            (λ r named. outer_allows S u is_renamed fit k at r (operand_there S.d fit k S.md at spot.0 y r spot.1 named)));
        outputs = is.outputs;
        called = called_still y.types (instance_in y.kind) is.called;
      }

  inner_fits : (y : Op) → In y (inner S) → FitsInside (S.rename (retarget (inner_stand S) y))
  inner_fits y inside = subst (λ g. FitsInside (g (retarget (inner_stand S) y))) (sym is_renamed) (record {
    fits = fitting_renamed S.c.ports S.md.ports S.c.body (new_body S) y (map (inner_stand S) y.operands) is.fits
        (operands_carried S.c.ports S.md.ports S.c.body (new_body S) (inner_stand S) y.operands
        (λ r named. inner_allows S u is_renamed fit k at sound r (operand_there S.d fit (module_there S).0 S.c (module_there S).1 spot.0 y r spot.1 named))) u bytes;
    outputs = ap (λ b. b && not (pointwise same_type y.types (port_types true S.md.ports)))
        (kind_same is_output_kind (λ i n. refl) u y.kind ∙ before_has_none S.c.body y inside);
    called = by_name (called_still y.types (instance_in y.kind) is.called);
  })
    where
      here : In y S.c.body
      here = in_module S sound y inside

      is : IsFitOp S.d S.c y
      is = (fit_module S.d fit (module_there S).0 S.c (module_there S).1).ops y here

      spot : (j : ℕ) × (slice_get S.c.body j ≡ Some y)
      spot = position_of_In y S.c.body here

      other_name : (i : Instance) (n : Name) (x : Option Module) → call_cause (record i { name = n }) y.types x ≡ call_cause i y.types x
      other_name i n None = refl
      other_name i n (Some m) = refl

      by_name : instance_cause S.e y.types (instance_in y.kind) ≡ None → instance_cause S.e y.types (instance_in (renamed_kind u y.kind)) ≡ None
      by_name h = kind_same (λ z. instance_cause S.e y.types (instance_in z)) (λ i n. other_name i n (find_module S.e i.symbol)) u y.kind ∙ h

  wire_fits : (y : Op) → In y (new_wires S) → FitsInside y
  wire_fits y here = subst FitsInside (sym found.2) (record {
    fits = record {
      values = none_or None (when (has_undefined S.md.ports (new_body S) (inner_stand S found.1 ∷ [])) cause.Undefined) refl
          (when_false (has_undefined S.md.ports (new_body S) (inner_stand S found.1 ∷ [])) cause.Undefined (ap (λ b. cond b false true) there));
      alone = ap (λ x. own_cause wire (found.0 ∷ []) (found.0 ∷ []) 1 (x ∷ []) false) settled ∙ wire_unrefused found.0 false typed;
      printable = wire_printable S.md.ports (new_body S) S.o.location found.0 (inner_stand S found.1) typed (defined_of S.md.ports (new_body S) (inner_stand S found.1) there);
    };
    outputs = refl;
    called = refl;
  })
    where
      found : (t : HwType) × (r : Ref) × (y ≡ wire_op S.o.location t (inner_stand S r)) × (type_in S.c.ports S.c.body r ≡ Some t)
      found = wire_found S sound y here

      there : is_some (type_in S.md.ports (new_body S) (inner_stand S found.1)) ≡ true
      there = ap is_some (inner_type S sound found.1 ∙ found.3)

      settled : settled_type S.md.ports (new_body S) (inner_stand S found.1) ≡ Some found.0
      settled =
          (inner_allows S u is_renamed fit k at sound found.1 (ap is_some found.3)).type ∙ settled_here S.d fit (module_there S).0 S.c (module_there S).1 found.1 ∙ found.3

      from : (x : OpResult) × In x S.o.results × (y.types ≡ x.type ∷ [])
      from = wire_from S.o.location (inner_stand S) S.o.results (output_refs S.c.body) y here

      typed : IsWireType found.0
      typed =
          let is = (fit_module S.d fit k S.md at).ops S.o (instance_among S) in
          let same : found.0 ∷ [] ≡ from.0.type ∷ [] = sym (ap (λ (z : Op). z.types) found.2) ∙ from.2 in
          let one : from.0.type ≡ found.0 = cc in
          subst IsWireType one
          (result_wire_type S.md.ports S.md.body S.o S.target (instance_kind S.o.kind S.target S.is_instance) is.fits.alone is.fits.printable from.0 from.1)

  -- each operation of the new body fits
  pub all_inside : (z : Op) → In z (new_body S) → FitsInside z
  all_inside = each_op S sound FitsInside outer_fits wire_fits inner_fits
