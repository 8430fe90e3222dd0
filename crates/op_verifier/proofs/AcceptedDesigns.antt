-- What an accepted design has; and that positions decide nothing of it.
use Rattle.std.proofs.Common.{◌≡◌, ◌⊎◌, ◌<◌, ◌^◌, ℕ, ℤ, pos, negsuc, List, [], ◌∷◌, map, slice_get, false, is_some, Option, Some, None, option_map, refl, sym, ap, ap₂, subst, ◌∙◌, arith}
use Rattle.std.proofs.lemmas.Bool.Decides.{nat_tests}
use Rattle.std.proofs.lemmas.Option.{slice_get-map}
use Rattle.wiring.specs.Wiring.{Depends as IsReached}
use Rattle.diag.specs.declared.refusal.Refusal.{Refusal}
use Rattle.hw_model.specs.Types.{Name}
use Rattle.hw_model.specs.Types.HwType.{int}
use Rattle.hw_model.specs.Kinds.{Instance}
use Rattle.hw_model.specs.Kinds.Kind.{constant}
use Rattle.hw_model.specs.Design.{Op, Module, Design, op_without_location, module_without_locations, without_locations, IsSameDesign, find_module, instance_in}
use Rattle.hw_model.specs.Design.Ref.{result}
use Rattle.hw_model.specs.Flat.{Net, net}
use Rattle.hw_model.specs.Hierarchy.{HasNoRecursion}
use Rattle.hw_model.specs.Meaning.{HasNoCycle}
use Rattle.hw_model.specs.Resets.{ResetsFromPorts}
use Rattle.hw_model.specs.Sound.{body_of}
use Rattle.design_cycles.specs.Asked.{HasDistinctSymbols, IsRecursiveAt, IsCyclicAt}
use Rattle.design_cycles.proofs.Callees.{found_at}
use Rattle.design_cycles.proofs.Cyclic.{cyclic_op, none_cyclic}
use Rattle.design_cycles.proofs.Returning.{none_recursive}
use Rattle.port_checks.specs.ResetPorts.{is_reset_port}
use Rattle.op_verifier.specs.Faults.{first_fault}
use Rattle.op_checks.specs.LimitChecks.{has_constant_outside}
use Rattle.op_checks.specs.LiteralChecks.{is_out_of_range}
use Rattle.op_verifier.specs.Verdict.{IsInRange, OpAt, NoOp, NoModule, IsRecursive, IsTooLarge, IsOnCycle, IsAccepted}
use Rattle.op_verifier.proofs.Distinct.{distinct_symbols}
use Rattle.op_verifier.proofs.InputResets.{resets_from_ports}
use Rattle.op_verifier.proofs.NoCauseAlone.{no_cause_alone}
use Rattle.op_verifier.proofs.Unlocated.{calls_unlocated, weight_unlocated, needs_unlocated}
use Rattle.op_verifier.proofs.UnlocatedFaults.{fault_unlocated}
use Rattle.op_verifier.proofs.Unrefused.{no_op_cause, ops_unrefused, module_unrefused}
use Rattle.op_verifier.proofs.WholeDesigns.{unmapped, recursive_forms, cyclic_forms}

module _ (d : Design) (accepted : IsAccepted d) where
  pub no_fault : first_fault d ≡ None
  no_fault = go (first_fault d) accepted.unrefused
    where
      go : (x : Option Refusal) → is_some x ≡ false → x ≡ None
      go None is = refl
      go (Some r) is = cc

  pub accepted_distinct : HasDistinctSymbols d
  accepted_distinct = distinct_symbols d no_fault

  pub accepted_finite : HasNoRecursion d
  accepted_finite = none_recursive d accepted_distinct (λ i j r. none i j r)
    where
      none : (i j : ℕ) → IsRecursiveAt d i j → ⊥
      none i j r =
          let at : OpAt d i j r.module_there r.op_there = record { module_there = r.has_module; op_there = r.has_op } in
          accepted.no_recursion i j r.module_there r.op_there at ((recursive_forms d).from i j r.module_there r.op_there at r)

  pub accepted_acyclic : (s : Name) → HasNoCycle d s
  accepted_acyclic = none_cyclic d accepted_finite (λ i j c. none i j c)
    where
      none : (i j : ℕ) → IsCyclicAt d i j → ⊥
      none i j c =
          let has = cyclic_op d c.module_there.symbol j c.number c.depends in
          let found : find_module d c.module_there.symbol ≡ Some c.module_there = (found_at d accepted_distinct i c.module_there c.has_module).1 in
          let at : OpAt d i j c.module_there has.0 = record { module_there = c.has_module; op_there = ap (λ o. slice_get (body_of o) j) (sym found) ∙ has.1 } in
          accepted.no_cycle i j c.module_there has.0 at ((cyclic_forms d).from i j c.module_there has.0 at c)

  pub accepted_resets : ResetsFromPorts d (is_reset_port d)
  accepted_resets = resets_from_ports d no_fault

-- ---- designs without positions

-- what holds of no operation of a design holds of none without positions, and back
module _ (d : Design) (P Q : Module → ℕ → Op → Type 0) where
  no_op_to : ((m : Module) (j : ℕ) (o : Op) → Q (module_without_locations m) j (op_without_location o) → P m j o) → NoOp d P → NoOp (without_locations d) Q
  no_op_to back none n j m' o' at holds =
      let m = unmapped module_without_locations d n m' at.module_there in
      let there : slice_get (map op_without_location m.0.body) j ≡ Some o' = ap (λ (x : Module). slice_get x.body j) m.2 ∙ at.op_there in
      let o = unmapped op_without_location m.0.body j o' there in
      none n j m.0 o.0 (record { module_there = m.1; op_there = o.1 })
      (back m.0 j o.0 (subst (λ (x : Module). Q x j (op_without_location o.0)) (sym m.2) (subst (Q m' j) (sym o.2) holds)))

  no_op_from : ((m : Module) (j : ℕ) (o : Op) → P m j o → Q (module_without_locations m) j (op_without_location o)) → NoOp (without_locations d) Q → NoOp d P
  no_op_from forth none n j m o at holds =
      none n j (module_without_locations m) (op_without_location o)
      (record {
        module_there = slice_get-map module_without_locations d n ∙ ap (option_map module_without_locations) at.module_there;
        op_there = slice_get-map op_without_location m.body j ∙ ap (option_map op_without_location) at.op_there;
      }) (forth m j o holds)

module _ (d : Design) (P Q : Module → Type 0) where
  no_module_to : ((m : Module) → Q (module_without_locations m) → P m) → NoModule d P → NoModule (without_locations d) Q
  no_module_to back none n m' at holds =
      let m = unmapped module_without_locations d n m' at in
      none n m.0 m.1 (back m.0 (subst Q (sym m.2) holds))

  no_module_from : ((m : Module) → P m → Q (module_without_locations m)) → NoModule (without_locations d) Q → NoModule d P
  no_module_from forth none n m at holds = none n (module_without_locations m) (slice_get-map module_without_locations d n ∙ ap (option_map module_without_locations) at) (forth m holds)

-- an instance on a cycle, an operation on a cycle, by what calls and needs what
abbrev returns_by : (Name → List Name) → Module → Op → Type 0
returns_by f m o = (i : Instance) × (instance_in o.kind ≡ Some i) × ((i.symbol ≡ m.symbol) ⊎ IsReached f i.symbol m.symbol)

abbrev around_by : (Net → List Net) → ℕ → Type 0
around_by f j = (k : ℕ) × IsReached f (net [] (result j k)) (net [] (result j k))

pub accepted_without : (d : Design) → IsAccepted d → IsAccepted (without_locations d)
accepted_without d a = record {
  unrefused = fault_unlocated d ∙ a.unrefused;
  no_recursion = no_op_to d (IsRecursive d) (IsRecursive (without_locations d)) (λ m j o h. subst (λ f. returns_by f m o) (calls_unlocated d) h) a.no_recursion;
  light = no_module_to d (IsTooLarge d) (IsTooLarge (without_locations d)) (λ m h. subst (λ n. 2 ^ 28 < n) (weight_unlocated d m.symbol) h) a.light;
  no_cycle = no_op_to d (IsOnCycle d) (IsOnCycle (without_locations d)) (λ m j o h. subst (λ f. around_by f j) (needs_unlocated d m.symbol) h) a.no_cycle;
}

pub accepted_with : (d : Design) → IsAccepted (without_locations d) → IsAccepted d
accepted_with d a = record {
  unrefused = sym (fault_unlocated d) ∙ a.unrefused;
  no_recursion = no_op_from d (IsRecursive d) (IsRecursive (without_locations d)) (λ m j o h. subst (λ f. returns_by f m o) (sym (calls_unlocated d)) h) a.no_recursion;
  light = no_module_from d (IsTooLarge d) (IsTooLarge (without_locations d)) (λ m h. subst (λ n. 2 ^ 28 < n) (sym (weight_unlocated d m.symbol)) h) a.light;
  no_cycle = no_op_from d (IsOnCycle d) (IsOnCycle (without_locations d)) (λ m j o h. subst (λ f. around_by f j) (sym (needs_unlocated d m.symbol)) h) a.no_cycle;
}

-- positions decide nothing
pub same_accepted : (d e : Design) → IsSameDesign d e → IsAccepted d → IsAccepted e
same_accepted d e same a = accepted_with e (subst IsAccepted same (accepted_without d a))

-- ---- constants

within_range : (z : ℤ) (w : ℕ) → is_out_of_range z w ≡ false → IsInRange z w
unfolding is_out_of_range
within_range (pos n) w is = grind (arith, nat_tests)
within_range (negsuc n) w is = grind (arith, nat_tests)

pub constant_in_range : (d : Design) (n j : ℕ) (m : Module) (o : Op) (z : ℤ) (w : ℕ) → IsAccepted d → OpAt d n j m o → o.kind ≡ constant z → o.types ≡ int w ∷ [] → IsInRange z w
unfolding has_constant_outside
constant_in_range d n j m o z w accepted at kind types =
    let found : find_module d m.symbol ≡ Some m = (found_at d (accepted_distinct d accepted) n m at.module_there).1 in
    let body = (module_unrefused d (no_fault d accepted) m.symbol m found).body in
    let unrefused = ops_unrefused d m.ports m.body m.body body j o at.op_there in
    let none = no_op_cause d m.ports m.body unrefused.last o unrefused.none in
    let inside = (no_cause_alone m.ports m.body o none.alone).constant in
    let same : has_constant_outside (constant z) (int w ∷ []) ≡ has_constant_outside o.kind o.types = sym (ap₂ (λ k ts. has_constant_outside k ts) kind types) in
    within_range z w (same ∙ inside)
