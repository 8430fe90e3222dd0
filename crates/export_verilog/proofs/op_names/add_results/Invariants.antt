use Rattle.std.proofs.Common.{◌≡◌, ◌++◌, map, drop, Some}
use Rattle.hw_model.specs.KindViews.{instance_of}
use Rattle.hw_model.specs.Types.{Name}
use Rattle.name_legalise.specs.Legal.{legal_after}
use Rattle.name_legalise.specs.LegalViews.{legal_names}
use Rattle.export_verilog.specs.Held.{result_name_hints}
use Rattle.export_verilog.proofs.op_names.add_results.Given as goal

abbrev pub invariant-loop-number : goal.invariant-loop-number
invariant-loop-number l = record {
  names : legal_names l.names ++ legal_after (legal_names l.names) (drop l.number (result_name_hints (instance_of l.instance) 0 l.count))
      ≡ legal_names l.initial.names ++ legal_after (legal_names l.initial.names) (result_name_hints (instance_of l.instance) 0 l.count);
  list : l.list.items ++ map (λ (n : Name). Some n) (legal_after (legal_names l.names) (drop l.number (result_name_hints (instance_of l.instance) 0 l.count)))
      ≡ map (λ (n : Name). Some n) (legal_after (legal_names l.initial.names) (result_name_hints (instance_of l.instance) 0 l.count));
}
