use Rattle.std.proofs.Common.{◌≡◌, drop}
use Rattle.std.specs.List.{list_all}
use Rattle.design_cycles.specs.InOrder.{is_before}
use Rattle.design_cycles.proofs.in_order.are_before.Given as goal

abbrev pub invariant-loop-value : goal.invariant-loop-value
invariant-loop-value l = list_all (is_before l.ids l.position) l.values ≡ list_all (is_before l.ids l.position) (drop l.value-index l.values)
