use Rattle.std.proofs.Common.{◌≡◌, ◌≤◌, ◌++◌, drop, length}
use Rattle.wiring.specs.Lists.{total}
use Rattle.miter_blast.specs.Cuts.{cut}
use Rattle.miter_blast.proofs.input.cut_bits.Given as goal

abbrev pub invariant-loop-width : goal.invariant-loop-width
invariant-loop-width l = record {
  enough : total (drop l.width-index l.widths) ≤ length l.rest;
  made : cut l.widths l.bits ≡ l.values.items ++ cut (drop l.width-index l.widths) l.rest;
}
