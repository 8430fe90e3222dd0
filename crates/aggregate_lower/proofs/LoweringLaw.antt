-- The law of passes of the lowering of aggregates.
use Rattle.std.proofs.Common.{◌≡◌, Bool, true, false, cond, [], ◌∷◌, map, Some, refl, sym, ap, subst, ◌∙◌, arith, option_map}
use Rattle.wiring.proofs.Lists.{map-map}
use Rattle.wiring.specs.Wiring.{In}
use Rattle.wiring.proofs.Members.{position_of_In}
use Rattle.hw_model.specs.Types.{Name}
use Rattle.hw_model.specs.Design.{Port, Module, Design, find_module}
use Rattle.hw_model.specs.Meaning.{machine}
use Rattle.hw_model.proofs.Finite.{heights_from_no_cycle, settles_with_heights}
use Rattle.hw_model.proofs.Machines.{same_self}
use Rattle.port_checks.proofs.Least.{found_module}
use Rattle.op_verifier.specs.Verdict.{IsAccepted}
use Rattle.op_verifier.proofs.AcceptedDesigns.{accepted_finite, accepted_acyclic}
use Rattle.printing_laws.specs.Printable.{IsPrintablePort, IsPrintableModule, Printable}
use Rattle.acceptance_laws.proofs.Accepted.{each_at, accepted_fit}
use Rattle.pass_pipeline.specs.declared.pass.Pass.TheVariants.{HwLowerAggregates}
use Rattle.pass_laws.specs.Remaining.{symbols, IsKept, AreThose}
use Rattle.pass_laws.specs.PassLaw.{IsModuleAfter, IsAfter, PassLaw}
use Rattle.pass_laws.proofs.Those.{all_those}
use Rattle.pass_laws.proofs.FreshOnce.{fresh_same}
use Rattle.pass_laws.proofs.LoweredTwice.{named_once}
use Rattle.aggregate_laws.specs.LeafPorts.{split_ports}
use Rattle.aggregate_laws.specs.Scalars.{has_aggregate_port, has_aggregates}
use Rattle.aggregate_laws.proofs.LeafPorts.{IsPlainPort, plain_split, leaves_plain}
use Rattle.aggregate_acceptance.specs.Joins.{joined_module, joined_design}
use Rattle.aggregate_acceptance.proofs.LoweredModules.{Lowering}
use Rattle.aggregate_acceptance.proofs.LoweredShapes.{joined_types, joined_calls}
use Rattle.aggregate_acceptance.proofs.WiresOut.{joins_follow}
use Rattle.aggregate_acceptance.proofs.LoweredWeights.{find_joined, joins_light}
use Rattle.aggregate_acceptance.proofs.AcceptedLowered.{joins_accepted}
use Rattle.lowering_rules.specs.LoweringRules.{leaf_named, lowering_rules}
use Rattle.aggregate_lower.specs.Lowering.{lowered_aggregates}
use Rattle.aggregate_lower.proofs.LeafPortNames.{ports_named, instances_named}
use Rattle.aggregate_lower.proofs.ScalarRules.{lowered_plain}
use Rattle.aggregate_lower.proofs.Unaggregated.{scalar_port, scalar_module, own_register_types}

module _ (d : Design) (accepted : IsAccepted d) (printable : Printable d) where
  abbrev lowering : Lowering
  lowering = record {
    split = split_ports;
    named = leaf_named d;
    d = d;
    fit = accepted_fit d accepted printable;
    ports = ports_named d accepted;
    instances = instances_named d;
  }

  -- the lowered design
  abbrev left : Design
  left = joined_design (lowering_rules d) d

  module_lowered : (s : Name) (m n : Module) → find_module d s ≡ Some m → find_module left s ≡ Some n → IsModuleAfter (HwLowerAggregates ∷ []) d left s m n
  module_lowered s m n was now =
      let both : Some n ≡ Some (joined_module (lowering_rules d) m) = sym now ∙ find_joined (lowering_rules d) d s ∙ ap (option_map (joined_module (lowering_rules d))) was in
      let same : n ≡ joined_module (lowering_rules d) m = cc in
      record {
        mark = ap (λ (x : Module). x.is_private) same;
        location = ap (λ (x : Module). x.location) same;
        ports = ap (λ (x : Module). x.ports) same;
        registers = joined_types split_ports (leaf_named d) d lowering.fit lowering.ports lowering.instances s;
        instances = joined_calls split_ports (leaf_named d) d lowering.fit lowering.ports lowering.instances s;
        weight = joins_light split_ports (leaf_named d) d lowering.fit lowering.ports lowering.instances s;
      }

  lowered_is_after : IsAfter (HwLowerAggregates ∷ []) d left
  lowered_is_after =
      let both = joins_accepted split_ports (leaf_named d) d accepted printable lowering.ports lowering.instances in
      record {
        accepted = both.0;
        printable = both.1;
        order = subst (AreThose (IsKept (HwLowerAggregates ∷ []) d) (symbols d)) (sym (map-map (λ (m : Module). m.symbol) (joined_module (lowering_rules d)) d))
            (all_those (IsKept (HwLowerAggregates ∷ []) d) (symbols d) (λ s. tt));
        modules = module_lowered;
        same = λ s public. (joins_follow split_ports (leaf_named d) d lowering.fit lowering.ports lowering.instances).same s;
      }

  -- a design without aggregates stays
  module _ (none : has_aggregates d ≡ false) where
    own_ports : (s : Name) (m : Module) → find_module d s ≡ Some m → m.ports ≡ split_ports m.ports
    own_ports s m found =
        let among = found_module d s m found in
        let position = position_of_In m d among in
        let printed : IsPrintableModule m = each_at IsPrintableModule d position.0 m printable position.1 in
        sym (plain_split m.ports (λ q here. plain_port q here printed (scalar_module d none m among).0) (fresh_same [] (map (λ (q : Port). q.name) m.ports) (named_once d accepted printable s m found)))
      where
        plain_port : (q : Port) → In q m.ports → IsPrintableModule m → has_aggregate_port m.ports ≡ false → IsPlainPort q
        plain_port q here printed scalar =
            let spot = position_of_In q m.ports here in
            record { scalar = scalar_port m.ports scalar q here; first = (each_at IsPrintablePort m.ports spot.0 q printed.ports spot.1).first }

    module_stays : (s : Name) (m n : Module) → find_module d s ≡ Some m → find_module d s ≡ Some n → IsModuleAfter (HwLowerAggregates ∷ []) d d s m n
    module_stays s m n is also =
        let both : Some m ≡ Some n = sym is ∙ also in
        let same : m ≡ n = cc in
        subst (IsModuleAfter (HwLowerAggregates ∷ []) d d s m) same (record {
          mark = refl;
          location = refl;
          ports = own_ports s m is;
          registers = own_register_types lowering none s;
          instances = refl;
          weight = omega arith;
        })

    stays_after : IsAfter (HwLowerAggregates ∷ []) d d
    stays_after = record {
      accepted = accepted;
      printable = printable;
      order = all_those (IsKept (HwLowerAggregates ∷ []) d) (symbols d) (λ s. tt);
      modules = module_stays;
      same = λ s public. same_self (machine d s) (settles_with_heights d s (heights_from_no_cycle d s (accepted_finite d accepted) (accepted_acyclic d accepted s)));
    }

pub lowering_is_after : PassLaw (HwLowerAggregates ∷ []) (λ (d e : Design). e ≡ lowered_aggregates d)
lowering_is_after d e accepted printable is = subst (IsAfter (HwLowerAggregates ∷ []) d) (sym is) (go (has_aggregates d) refl)
  where
    go : (b : Bool) → has_aggregates d ≡ b → IsAfter (HwLowerAggregates ∷ []) d (cond b (joined_design (lowering_rules d) d) d)
    go true some = lowered_is_after d accepted printable
    go false none = stays_after d accepted printable none

-- no aggregate is left
pub none_left : (d : Design) → IsAccepted d → Printable d → has_aggregates (lowered_aggregates d) ≡ false
none_left d accepted printable = go (has_aggregates d) refl
  where
    go : (b : Bool) → has_aggregates d ≡ b → has_aggregates (cond b (joined_design (lowering_rules d) d) d) ≡ false
    go true some = lowered_plain (lowering d accepted printable) (λ ps q here. (leaves_plain ps q here).scalar)
    go false none = none
