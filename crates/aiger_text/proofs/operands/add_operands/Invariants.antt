use Rattle.std.proofs.Common.{◌≡◌, ◌+◌, ◌<◌, ◌^◌, ◌++◌, map, length}
use Rattle.ir_store.specs.Numbered.{ref_by}
use Rattle.aiger_design.specs.Positions.{inverter_count, operands}
use Rattle.aiger_design.specs.Built.{inverters}
use Rattle.aiger_reader.specs.Kept.{tree_of}
use Rattle.aiger_text.specs.Seen.{seen, IsNumbered}
use Rattle.aiger_text.proofs.operands.add_operands.Given as goal

abbrev pub invariant-loop-literal : goal.invariant-loop-literal
invariant-loop-literal l = record {
  ops : seen l.body ++ inverters (tree_of l.text) l.rest ≡ seen l.fn.body ++ inverters (tree_of l.text) l.literals;
  values : map (ref_by (λ i. i)) l.values.items ++ operands (tree_of l.text) (length (seen l.body)) l.rest ≡ operands (tree_of l.text) (length (seen l.fn.body)) l.literals;
  room : length (seen l.body) + inverter_count l.rest + 1 < 2 ^ 32;
  numbered : IsNumbered l.body;
}

abbrev pub decreases-loop-literal : goal.decreases-loop-literal
decreases-loop-literal l = length l.rest
