-- The ports of a lowered module: nothing is refused of them, and they can be printed.
use Rattle.std.proofs.Common.{◌≡◌, ℕ, Bool, true, false, cond, ◌&&◌, ◌||◌, List, [], ◌∷◌, Some, None, slice_get, refl, sym, ap, ap₂, subst, ◌∙◌, inl, inr}
use Rattle.wiring.specs.Wiring.{In}
use Rattle.wiring.proofs.Members.{In-slice_get, In-map, from_In-map, from_In-flat_map}
use Rattle.diag.specs.declared.cause.Cause.TheVariants as cause
use Rattle.hw_model.specs.Types.{HwType, leaves}
use Rattle.hw_model.specs.Design.{Port, Module}
use Rattle.stored_form.specs.Bytes.{Each}
use Rattle.op_checks.specs.TypeChecks.{is_outside, has_bad_field, has_clock_part, is_clock}
use Rattle.op_checks.proofs.Widths.{neither}
use Rattle.op_verifier.specs.Answers.{when}
use Rattle.op_verifier.specs.Headers.{has_port, has_wrong_clock, ports_cause}
use Rattle.op_verifier.proofs.Unrefused.{or_none, when_none}
use Rattle.printing_laws.specs.Printable.{IsPrintablePort}
use Rattle.acceptance_laws.proofs.Causes.{none_or, when_false}
use Rattle.acceptance_laws.proofs.FitModules.{IsFitModule, fit_module}
use Rattle.aggregate_laws.specs.Leaves.{bare_port, leaf_port, leaf_ports}
use Rattle.aggregate_laws.specs.Aggregates.{is_scalar}
use Rattle.op_checks.specs.TypeChecks.{has_bad_part}
use Rattle.aggregate_laws.proofs.Scalars.{leaf_scalar}
use Rattle.aggregate_acceptance.proofs.LeafTypes.{leaf_part, leaf_clock, scalar_outside, scalar_fields, scalar_parts, scalar_readable, clock_of, no_clock, no_bad_part}
use Rattle.aggregate_acceptance.proofs.LoweredModules.{Lowering, new_ports}

no_port : (test : Port → Bool) (ps : List Port) → ((q : Port) → In q ps → test q ≡ false) → has_port test ps ≡ false
no_port test [] none = refl
no_port test (q ∷ ps) none = ap₂ (λ a b. cond a true b) (none q (inl refl)) (no_port test ps (λ p here. none p (inr here)))

port_none : (test : Port → Bool) (ps : List Port) (q : Port) → has_port test ps ≡ false → In q ps → test q ≡ false
port_none test [] q none here = absurd here
port_none test (p ∷ ps) q none here = go (test p) refl none here (port_none test ps q)
  where
    go : (b : Bool) → test p ≡ b → cond b true (has_port test ps) ≡ false → In q (p ∷ ps) → (has_port test ps ≡ false → In q ps → test q ≡ false) → test q ≡ false
    go true is h there rest = cc
    go false is h (inl same) rest = ap test same ∙ is
    go false is h (inr there) rest = rest h there

each_port : (P : Port → Type 0) (ps : List Port) → ((q : Port) → In q ps → P q) → Each P ps
each_port P [] all = tt
each_port P (q ∷ ps) all = (all q (inl refl), each_port P ps (λ p here. all p (inr here)))

-- a leaf of a port
record IsLeafOf (q p : Port) : Type 0 where
  type : HwType
  leaf : In type (leaves p.type)
  type_is : q.type ≡ type
  way_is : q.is_output ≡ p.is_output

module _ (S : Lowering) (k : ℕ) (m : Module) (at : slice_get S.d k ≡ Some m) where
  old : IsFitModule S.d m
  old = fit_module S.d S.fit k m at

  among : In m S.d
  among = In-slice_get m S.d k at

  leaf_of : (q : Port) → In q (new_ports S m) → (p : Port) × In p m.ports × IsLeafOf q p
  leaf_of q here =
      let from = from_In-flat_map leaf_ports (bare_port q) m.ports (subst (In (bare_port q)) (S.ports.leaves_are m.ports) (In-map bare_port q (new_ports S m) here)) in
      let leaf = from_In-map (leaf_port from.0.is_output) (bare_port q) (leaves from.0.type) from.2 in (
        from.0,
        from.1,
        record { type = leaf.0; leaf = leaf.1; type_is = ap (λ (x : Port). x.type) leaf.2; way_is = ap (λ (x : Port). x.is_output) leaf.2 },
      )

  -- what is refused of none of the ports
  record NoneRefused : Type 0 where
    types : has_port (λ (q : Port). is_outside q.type) m.ports ≡ false
    clocks : has_port has_wrong_clock m.ports ≡ false

  none_refused : NoneRefused
  none_refused =
      let a = or_none (when (has_port (λ (q : Port). q.again) m.ports) cause.Redefined) _ old.unrefused in
      let b = or_none (when (has_port (λ (q : Port). is_outside q.type) m.ports) cause.WidthLimit) _ a.1 in
      let c = or_none (when (has_port (λ (q : Port). has_bad_field q.type) m.ports) cause.Field) (when (has_port has_wrong_clock m.ports) cause.ClockOperand) b.1 in
      record { types = when_none (has_port (λ (q : Port). is_outside q.type) m.ports) cause.WidthLimit b.0; clocks = when_none (has_port has_wrong_clock m.ports) cause.ClockOperand c.1 }

  good_part : (p : Port) → In p m.ports → has_bad_part p.type ≡ false
  good_part p here = no_bad_part p.type (port_none (λ (q : Port). is_outside q.type) m.ports p none_refused.types here)

  -- of a leaf
  leaf_good : (q : Port) → In q (new_ports S m) → (is_scalar q.type ≡ true) × (has_bad_part q.type ≡ false)
  leaf_good q here =
      let from = leaf_of q here in
      (ap is_scalar from.2.type_is ∙ leaf_scalar from.0.type from.2.type from.2.leaf, ap has_bad_part from.2.type_is ∙ leaf_part from.0.type from.2.type (good_part from.0 from.1) from.2.leaf)

  leaf_clocks : (q : Port) → In q (new_ports S m) → has_wrong_clock q ≡ false
  leaf_clocks q here =
      ap₂ (λ a b. a || b) (by_way from.0.is_output refl) (scalar_parts q.type (leaf_good q here).0)
    where
      from : (p : Port) × In p m.ports × IsLeafOf q p
      from = leaf_of q here

      wrong : has_wrong_clock from.0 ≡ false
      wrong = port_none has_wrong_clock m.ports from.0 none_refused.clocks from.1

      by_way : (b : Bool) → from.0.is_output ≡ b → (q.is_output && is_clock q.type) ≡ false
      by_way false is = ap (λ b. b && is_clock q.type) (from.2.way_is ∙ is)
      by_way true is =
          let both = neither (from.0.is_output && is_clock from.0.type) (has_clock_part from.0.type) wrong in
          let own : is_clock from.0.type ≡ false = ap (λ b. b && is_clock from.0.type) (sym is) ∙ both.0 in
          ap₂ (λ a b. a && b) (from.2.way_is ∙ is)
          (ap is_clock from.2.type_is ∙ clock_of from.2.type (leaf_clock from.0.type from.2.type (no_clock from.0.type own both.1) from.2.leaf))

  pub ports_unrefused : ports_cause (new_ports S m) ≡ None
  ports_unrefused =
      none_or (when (has_port (λ (q : Port). q.again) (new_ports S m)) cause.Redefined) _
      (when_false (has_port (λ (q : Port). q.again) (new_ports S m)) cause.Redefined (no_port (λ (q : Port). q.again) (new_ports S m) (λ q here. S.ports.first m q among here)))
      (none_or (when (has_port (λ (q : Port). is_outside q.type) (new_ports S m)) cause.WidthLimit) _
      (when_false (has_port (λ (q : Port). is_outside q.type) (new_ports S m)) cause.WidthLimit
      (no_port (λ (q : Port). is_outside q.type) (new_ports S m) (λ q here. scalar_outside q.type (leaf_good q here).0 (leaf_good q here).1)))
      (none_or (when (has_port (λ (q : Port). has_bad_field q.type) (new_ports S m)) cause.Field) (when (has_port has_wrong_clock (new_ports S m)) cause.ClockOperand)
      (when_false (has_port (λ (q : Port). has_bad_field q.type) (new_ports S m)) cause.Field
      (no_port (λ (q : Port). has_bad_field q.type) (new_ports S m) (λ q here. scalar_fields q.type (leaf_good q here).0)))
      (when_false (has_port has_wrong_clock (new_ports S m)) cause.ClockOperand (no_port has_wrong_clock (new_ports S m) leaf_clocks))))

  pub ports_printable : Each IsPrintablePort (new_ports S m)
  ports_printable =
      each_port IsPrintablePort (new_ports S m)
      (λ q here. record {
        first = S.ports.first m q among here;
        name = S.ports.bytes m q among old.ports here;
        type = scalar_readable q.type (leaf_good q here).0 (leaf_good q here).1;
      })
