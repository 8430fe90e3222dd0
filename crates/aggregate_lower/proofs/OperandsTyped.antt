-- The operands of the blocks of a module of a fit design.
use Rattle.std.proofs.Common.{◌≡◌, ℕ, true, List, length, Option, Some, None, is_some, slice_get, refl, ap, subst, ◌∙◌, option_map}
use Rattle.wiring.specs.Wiring.{In}
use Rattle.wiring.proofs.Members.{position_of_In}
use Rattle.hw_model.specs.Types.{HwType}
use Rattle.hw_model.specs.Design.{Ref, Port, Op, Module, Design, find_module}
use Rattle.hw_model.specs.Sound.{type_in, SoundBody}
use Rattle.edit_laws.specs.Falls.{LocalHeight}
use Rattle.edit_laws.specs.Follows.{Follows}
use Rattle.edit_laws.proofs.Uses.{own_height}
use Rattle.acceptance_laws.specs.Keeps.{IsFit}
use Rattle.acceptance_laws.proofs.Accepted.{fit_found}
use Rattle.acceptance_laws.proofs.FitBodies.{operand_there}
use Rattle.aggregate_laws.specs.LeafPorts.{split_ports}
use Rattle.aggregate_laws.specs.Rules.{Rules, count_by, block, blocks, parts_of, Splits, lowered_module, lowered_design}
use Rattle.aggregate_laws.proofs.Aggregates.{regular_splits, aggregates_follow}
use Rattle.aggregate_laws.proofs.LeafPorts.{split_bare}
use Rattle.aggregate_laws.proofs.Bodies.{typed_all}
use Rattle.aggregate_laws.proofs.Designs.{find_lowered}
use Rattle.aggregate_acceptance.proofs.Regular.{regular_op, all_regular}
use Rattle.lowering_rules.specs.LoweringRules.{leaf_named, lowering_rules}
use Rattle.lowering_rules.proofs.BareKinds.{kind_bare}
use Rattle.aggregate_lower.specs.MadeBodies.{HasBody}
use Rattle.aggregate_lower.proofs.BlockOperands.{all_below}
use Rattle.aggregate_lower.specs.Targets.{IsNamed}

-- operands of the blocks of a body are results that are there, each block has as many operations as its rule says, and no value needs itself
pub record IsWellNamed (rules : Rules) (ps : List Port) (os : List Op) : Type 0 where
  pub below : (x : Op) (r : Ref) → In x (blocks rules (parts_of rules ps os) 0 os) → In r x.operands → IsNamed (length (blocks rules (parts_of rules ps os) 0 os)) r
  pub sizes : (o : Op) → In o os → (start : ℕ) → length (block (rules.rule o) (parts_of rules ps os) start o) ≡ count_by rules o
  pub heights : (h : Ref → ℕ) × LocalHeight (blocks rules (parts_of rules ps os) 0 os) h

its_type : (x : Option HwType) → is_some x ≡ true → (t : HwType) × (x ≡ Some t)
its_type None some = cc
its_type (Some t) some = (t, refl)

module _ (d : Design) (fit : IsFit d) (k : ℕ) (m : Module) (at : slice_get d k ≡ Some m) where
  abbrev rules : Rules
  rules = lowering_rules d

  abbrev new_ops : List Op
  new_ops = blocks (lowering_rules d) (parts_of (lowering_rules d) m.ports m.body) 0 m.body

  sound : SoundBody d m.ports m.body
  sound = fit.valid.sound m.symbol m (fit_found d fit k m at)

  splits : (o : Op) → In o m.body → Splits ((lowering_rules d).rule o) (type_in m.ports m.body) (parts_of (lowering_rules d) m.ports m.body) o
  splits o here =
      let spot = position_of_In o m.body here in
      regular_splits (leaf_named d) o (type_in m.ports m.body) (parts_of (lowering_rules d) m.ports m.body) (sound.ops spot.0 o spot.1) o.kind refl
      (regular_op d fit k m at (leaf_named d) spot.0 o spot.1 (λ inst. kind_bare d o.kind))

  given : (o : Op) (r : Ref) → In o m.body → In r o.operands → (t : HwType) × (type_in m.ports m.body r ≡ Some t)
  given o r here among =
      let spot = position_of_In o m.body here in
      its_type (type_in m.ports m.body r) (operand_there d fit k m at spot.0 o r spot.1 among)

  follows : Follows d (lowered_design (lowering_rules d) d)
  follows = aggregates_follow split_ports (leaf_named d) d split_bare (all_regular d (leaf_named d) fit (λ o inst. kind_bare d o.kind)) fit.valid

  found : find_module (lowered_design (lowering_rules d) d) m.symbol ≡ Some (lowered_module (lowering_rules d) m)
  found = find_lowered (lowering_rules d) d m.symbol ∙ ap (option_map (lowered_module (lowering_rules d))) (fit_found d fit k m at)

  new_sound : SoundBody (lowered_design (lowering_rules d) d) (split_ports m.ports) new_ops
  new_sound = follows.valid.sound m.symbol (lowered_module (lowering_rules d) m) found

  well_named_at : IsWellNamed (lowering_rules d) m.ports m.body
  well_named_at = record {
    below = all_below (lowering_rules d) m.ports (split_ports m.ports) m.body splits (typed_all (lowering_rules d) m.ports (split_ports m.ports) m.body (split_bare m.ports) splits) given new_sound.ops;
    sizes = λ o here start. (splits o here).shape.size start;
    heights = own_height (lowered_design (lowering_rules d) d) (lowered_module (lowering_rules d) m) follows.valid found;
  }

pub well_named : (d : Design) → IsFit d → (ps : List Port) (os : List Op) → HasBody d ps os → IsWellNamed (lowering_rules d) ps os
well_named d fit ps os has =
    let position = position_of_In has.owner d has.is_in in
    subst (λ (qs : List Port). IsWellNamed (lowering_rules d) qs os) has.ports_are
    (subst (λ (xs : List Op). IsWellNamed (lowering_rules d) has.owner.ports xs) has.body_is (well_named_at d fit position.0 has.owner position.1))
