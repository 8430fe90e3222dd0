-- What is asked of values once an instance is inlined: no less than before, but for whether they are input ports.
use Rattle.std.proofs.Common.{◌≡◌, ℕ, zero, suc, ◌+◌, ◌<◌, Bool, true, false, cond, ◌&&◌, nat_eq, [], ◌∷◌, take, Option, Some, None, slice_get, refl, sym, ap, ap₂, subst, ◌∙◌, option_and_then, option_map}
use Rattle.std.specs.Prelude.{is_some, slice_index_or}
use Rattle.std.proofs.lemmas.Option.{slice_get-map}
use Rattle.wiring.proofs.Lists.{slice_get-append_at, slice_get-append_right}
use Rattle.wiring.specs.Wiring.{In}
use Rattle.wiring.proofs.Members.{position_of_In, In-slice_get}
use Rattle.wiring.proofs.Options.{option_map_some}
use Rattle.hw_model.specs.Types.{HwType}
use Rattle.hw_model.specs.Types.{Name}
use Rattle.hw_model.specs.Kinds.Kind.{instance}
use Rattle.hw_model.specs.Design.{Ref, Port, OpResult, Op, result_type, output_refs}
use Rattle.hw_model.specs.Design.Ref.{port, result, undefined}
use Rattle.hw_model.specs.Flat.{input_count, operand_for}
use Rattle.hw_model.specs.Resets.{is_constant}
use Rattle.hw_model.specs.Sound.{input_type, input_types, type_in, SoundBody}
use Rattle.hw_model.proofs.NetWidths.{input_found, typed_at}
use Rattle.port_checks.proofs.Least.{found_module}
use Rattle.op_verifier.specs.OpChecks.{settled_by, is_nonzero_kind}
use Rattle.edit_laws.specs.Edit.{retarget}
use Rattle.acceptance_laws.specs.Asked.{Operand, operand_in, AllowsMore}
use Rattle.acceptance_laws.specs.Keeps.{IsFit}
use Rattle.acceptance_laws.proofs.FitModules.{instance_kind}
use Rattle.acceptance_laws.proofs.FitBodies.{settled_result, own_cause_none, settled_here}
use Rattle.acceptance_laws.proofs.Values.{result_operand, operand_retarget}
use Rattle.inline_laws.specs.Inline.{Side, side, wire_count, moved_count, outer_result, inner_result, wire_result, wire_op, ref_or_undefined}
use Rattle.inline_laws.specs.Inline.Side.{in_first, in_second}
use Rattle.inline_laws.proofs.Sides.{from_prefix, from_back}
use Rattle.inline_laws.proofs.Parts.{get_prefix}
use Rattle.inline_laws.proofs.Ends.{get_wire}
use Rattle.inline_laws.proofs.Inlining.{Inlining, position, inner, outer_stand, inner_stand, new_body, end_is}
use Rattle.inline_laws.proofs.Origins.{typed_within, operands_fit}
use Rattle.inline_laws.proofs.Types.{prefix_at, wire_at, inner_at, back_at, inner_type}
use Rattle.inline_pass.specs.Renaming.{renamed}
use Rattle.inline_pass.proofs.RenamedKinds.{operand_renamed}
use Rattle.inline_pass.proofs.InlinedWires.{wire_settles}

-- ---- what is asked of a value

-- the same, but that it is no input port
abbrev pub unported : Operand → Operand
unported a = record a { input = false }

-- no more is then refused of it than of itself
allows_unported : (a b : Operand) → b ≡ a → AllowsMore (unported a) b
allows_unported a b same = record {
  type = ap (λ (x : Operand). x.type) same;
  defined = λ h. ap (λ (x : Operand). x.defined) same ∙ h;
  known = λ h. ap (λ (x : Operand). x.known) same ∙ h;
  constant = λ h. ap (λ (x : Operand). x.constant) same ∙ h;
  input = λ h. cc;
}

-- ---- where an instance is inlined

pub instance_there : (S : Inlining) → slice_get S.md.body (position S) ≡ Some S.o
instance_there S = ap (λ os. slice_get os (position S)) S.body_is ∙ slice_get-append_at S.prefix S.o S.back

pub instance_among : (S : Inlining) → In S.o S.md.body
instance_among S = In-slice_get S.o S.md.body (position S) (instance_there S)

pub module_there : (S : Inlining) → (j : ℕ) × (slice_get S.d j ≡ Some S.c)
module_there S = position_of_In S.c S.d (found_module S.d S.target.symbol S.c S.is_found)

module _ (S : Inlining) (u : Name) (is_renamed : S.rename ≡ renamed u) (fit : IsFit S.d) (k : ℕ) (at : slice_get S.d k ≡ Some S.md) where
  abbrev outer_operand : Ref → Operand
  outer_operand r = operand_in S.md.ports S.md.body r

  abbrev inner_operand : Ref → Operand
  inner_operand r = operand_in S.c.ports S.c.body r

  abbrev new_operand : Ref → Operand
  new_operand r = operand_in S.md.ports (new_body S) r

  -- ---- values of the body

  old_past : (j n : ℕ) → j ≡ position S + n → slice_get S.md.body j ≡ slice_get (S.o ∷ S.back) n
  old_past j n is = ap₂ (λ os m. slice_get os m) S.body_is is ∙ slice_get-append_right S.prefix (S.o ∷ S.back) n

  prefix_same : (j n x : ℕ) → side (position S) j ≡ in_first x → result_operand n (slice_get (new_body S) x) ≡ result_operand n (slice_get S.md.body j)
  prefix_same j n x is =
      let from = from_prefix (position S) j x is in
      ap (result_operand n) (prefix_at S x (subst (λ y. y < position S) (sym from.0) from.1) ∙ slice_get-map (retarget (outer_stand S)) S.prefix x)
      ∙ operand_retarget (outer_stand S) n (slice_get S.prefix x)
      ∙ ap (result_operand n) (sym (ap (λ os. slice_get os j) S.body_is ∙ get_prefix S.prefix (S.o ∷ S.back) j x is))

  back_same : (j n x : ℕ) → side (position S) j ≡ in_second (suc x)
      → result_operand n (slice_get (new_body S) (position S + (wire_count S.o + (moved_count S.c + x)))) ≡ result_operand n (slice_get S.md.body j)
  back_same j n x is =
      ap (result_operand n) (back_at S x ∙ slice_get-map (retarget (outer_stand S)) S.back x)
      ∙ operand_retarget (outer_stand S) n (slice_get S.back x)
      ∙ ap (result_operand n) (sym (old_past j (suc x) (from_back (position S) j (suc x) is)))

  o_kind : S.o.kind ≡ instance S.target
  o_kind = instance_kind S.o.kind S.target S.is_instance

  -- a wire stands for a result of the instance
  wire_there : (n : ℕ) (t : HwType) → result_type S.o n ≡ Some t → (r : Ref) × (slice_get (new_body S) (position S + n) ≡ Some (wire_op S.o.location t r))
  wire_there n t typed =
      let found = option_map_some (λ (r : OpResult). r.type) (slice_get S.o.results n) typed in
      let operand : Ref = ref_or_undefined (option_map (inner_stand S) (slice_get (output_refs S.c.body) n)) in (
        operand,
        wire_at S n (typed_within S.o n t typed) ∙ get_wire S.o.location (inner_stand S) S.o.results (output_refs S.c.body) n
            ∙ ap (option_map (λ (x : OpResult). wire_op S.o.location x.type (ref_or_undefined (option_map (inner_stand S) (slice_get (output_refs S.c.body) n))))) found.1
            ∙ ap (λ y. Some (wire_op S.o.location y (ref_or_undefined (option_map (inner_stand S) (slice_get (output_refs S.c.body) n))))) found.2,
      )

  wire_allows : (n : ℕ) (t : HwType) → result_type S.o n ≡ Some t → AllowsMore (unported (result_operand n (Some S.o))) (new_operand (result (position S + n) 0))
  wire_allows n t typed =
      let wire = wire_there n t typed in
      subst (λ x. AllowsMore (unported (result_operand n (Some S.o))) (result_operand 0 x)) (sym wire.1) (record {
        type = wire_type wire.0 ∙ sym typed ∙ sym (settled_result S.md.ports S.md.body S.o (own_cause_none S.d fit k S.md at (position S) S.o (instance_there S)) n);
        defined = λ h. refl;
        known = λ h. let clash : false ≡ true = sym (never (nat_eq n 0)) ∙ h in cc;
        constant = λ h. let clash : false ≡ true = sym (ap is_constant o_kind) ∙ h in cc;
        input = λ h. cc;
      })
    where
      wire_type : (r : Ref) → slice_index_or (settled_by (wire_op S.o.location t r)) 0 None ≡ Some t
      wire_type r = ap (λ ts. slice_index_or ts 0 None) (wire_settles t 1)

      never : (b : Bool) → (b && is_nonzero_kind S.o.kind) ≡ false
      never true = ap is_nonzero_kind o_kind
      never false = refl

  -- no less is asked of what stands for a value of the body
  pub outer_allows : (r : Ref) → is_some (type_in S.md.ports S.md.body r) ≡ true
      → AllowsMore (unported (operand_in S.md.ports S.md.body r)) (operand_in S.md.ports (new_body S) (outer_stand S r))
  outer_allows (port j) h = allows_unported (outer_operand (port j)) (new_operand (port j)) refl
  outer_allows undefined h = allows_unported (outer_operand undefined) (new_operand undefined) refl
  outer_allows (result j n) h = go (side (position S) j) refl
    where
      by_type : (t : Option HwType) → result_type S.o n ≡ t → is_some t ≡ true
          → AllowsMore (unported (result_operand n (Some S.o))) (new_operand (wire_result (position S) n t))
      by_type None none there = cc
      by_type (Some t) typed there = wire_allows n t typed

      own : slice_get S.md.body j ≡ Some S.o → AllowsMore (unported (outer_operand (result j n))) (new_operand (wire_result (position S) n (result_type S.o n)))
      own here =
          subst (λ x. AllowsMore (unported (result_operand n x)) (new_operand (wire_result (position S) n (result_type S.o n)))) (sym here)
          (by_type (result_type S.o n) refl (sym (ap (λ x. is_some (option_and_then (λ (y : Op). result_type y n) x)) here) ∙ h))

      go : (s : Side) → side (position S) j ≡ s → AllowsMore (unported (outer_operand (result j n))) (new_operand (outer_result (position S) S.o S.c n s))
      go (in_first x) is = allows_unported (outer_operand (result j n)) (new_operand (result x n)) (prefix_same j n x is)
      go (in_second zero) is = own (old_past j 0 (from_back (position S) j 0 is))
      go (in_second (suc x)) is =
          allows_unported (outer_operand (result j n)) (new_operand (result (position S + (wire_count S.o + (moved_count S.c + x))) n)) (back_same j n x is)

  -- ---- values of the module

  inner_same : (j n x : ℕ) → side (moved_count S.c) j ≡ in_first x
      → result_operand n (slice_get (new_body S) (position S + (wire_count S.o + x))) ≡ result_operand n (slice_get S.c.body j)
  inner_same j n x is =
      let from = from_prefix (moved_count S.c) j x is in
      ap (result_operand n) (inner_at S x (subst (λ y. y < moved_count S.c) (sym from.0) from.1)
      ∙ slice_get-map (λ (y : Op). S.rename (retarget (inner_stand S) y)) (inner S) x
      ∙ ap (λ g. option_map (λ (y : Op). g (retarget (inner_stand S) y)) (slice_get (inner S) x)) is_renamed)
      ∙ moved (slice_get (inner S) x)
      ∙ ap (result_operand n) (sym (ap (λ os. slice_get os j) (end_is S).body_is ∙ get_prefix (inner S) ((end_is S).last ∷ []) j x is))
    where
      moved : (y : Option Op) → result_operand n (option_map (λ (z : Op). renamed u (retarget (inner_stand S) z)) y) ≡ result_operand n y
      moved None = refl
      moved (Some z) = operand_renamed u (inner_stand S) n z

  module _ (sound : SoundBody S.d S.md.ports S.md.body) where
    -- what the instance joins to an input port
    joined_allows : (j : ℕ) (q : Port) → slice_get S.c.ports j ≡ Some q → q.is_output ≡ false
        → AllowsMore (unported (inner_operand (port j))) (new_operand (inner_stand S (port j)))
    joined_allows j q there way =
        subst (λ r. AllowsMore (unported (inner_operand (port j))) (new_operand r)) (sym joined_is) (record {
          type = more.type ∙ settled_here S.d fit k S.md at found.0 ∙ found.2 ∙ sym port_type;
          defined = λ h. more.defined (ap is_some found.2);
          known = λ h. cc;
          constant = λ h. cc;
          input = λ h. cc;
        })
      where
        found : (r : Ref) × (slice_get S.o.operands (input_count (take j S.c.ports)) ≡ Some r) × (type_in S.md.ports S.md.body r ≡ Some q.type)
        found =
            typed_at (type_in S.md.ports S.md.body) S.o.operands (input_types S.c.ports) (input_count (take j S.c.ports)) q.type (operands_fit S sound)
            (input_found S.c.ports j q there way)

        more : AllowsMore (unported (outer_operand found.0)) (new_operand (outer_stand S found.0))
        more = outer_allows found.0 (ap is_some found.2)

        port_type : input_type (slice_get S.c.ports j) ≡ Some q.type
        port_type = ap input_type there ∙ ap (λ b. cond b None (Some q.type)) way

        joined_is : inner_stand S (port j) ≡ outer_stand S found.0
        joined_is =
            ap (λ x. ref_or_undefined (option_map (outer_stand S) x))
            (ap (λ p. operand_for p S.o.operands (input_count (take j S.c.ports))) there
            ∙ ap (λ b. cond b None (slice_get S.o.operands (input_count (take j S.c.ports)))) way
            ∙ found.1)

    -- no less is asked of what stands for a value of the module
    pub inner_allows : (r : Ref) → is_some (type_in S.c.ports S.c.body r) ≡ true
        → AllowsMore (unported (operand_in S.c.ports S.c.body r)) (operand_in S.md.ports (new_body S) (inner_stand S r))
    inner_allows undefined h = cc
    inner_allows (port j) h = go (slice_get S.c.ports j) refl h
      where
        by_way : (q : Port) → slice_get S.c.ports j ≡ Some q → (b : Bool) → q.is_output ≡ b → is_some (cond b None (Some q.type)) ≡ true
            → AllowsMore (unported (inner_operand (port j))) (new_operand (inner_stand S (port j)))
        by_way q is true way some = cc
        by_way q is false way some = joined_allows j q is way

        go : (x : Option Port) → slice_get S.c.ports j ≡ x → is_some (input_type x) ≡ true
            → AllowsMore (unported (inner_operand (port j))) (new_operand (inner_stand S (port j)))
        go None is some = cc
        go (Some q) is some = by_way q is q.is_output refl some
    inner_allows (result j n) h = go (side (moved_count S.c) j) refl (inner_type S sound (result j n))
      where
        go : (s : Side) → side (moved_count S.c) j ≡ s → type_in S.md.ports (new_body S) (inner_result (position S) S.o n s) ≡ type_in S.c.ports S.c.body (result j n)
            → AllowsMore (unported (inner_operand (result j n))) (new_operand (inner_result (position S) S.o n s))
        go (in_first x) is typed = allows_unported (inner_operand (result j n)) (new_operand (result (position S + (wire_count S.o + x)) n)) (inner_same j n x is)
        go (in_second y) is typed = let clash : false ≡ true = ap is_some typed ∙ h in cc
