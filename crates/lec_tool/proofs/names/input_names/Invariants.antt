use Rattle.std.proofs.Common.{◌≡◌, ◌+◌, ◌++◌, length, drop}
use Rattle.ir_store.specs.Designs.{ports_in}
use Rattle.lec_tool.specs.LeafNames.{input_names}
use Rattle.lec_tool.proofs.names.input_names.Given as goal

abbrev pub invariant-loop-name : goal.invariant-loop-name
invariant-loop-name l = record {
  made : l.kept.items ++ input_names (drop l.position (ports_in l.ports)) l.name-iterator.rest.items ≡ input_names (ports_in l.ports) l.fn.names.items;
  left : l.name-iterator.rest.len ≡ length l.name-iterator.rest.items;
  count : l.position + length l.name-iterator.rest.items ≡ length l.fn.names.items;
}
