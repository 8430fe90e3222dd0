use Rattle.std.proofs.Common.{◌≡◌, take, length}
use Rattle.ir_store.specs.Designs.{design_of, modules_of}
use Rattle.miter_blast.specs.FlatCopy.{only_public}
use Rattle.miter_blast.proofs.copies.copy_with_one_public.Given as goal

abbrev pub invariant-loop-number : goal.invariant-loop-number
invariant-loop-number l = record {
  count : length (modules_of l.copy) ≡ l.number;
  made : design_of l.copy ≡ only_public (take l.number (design_of l.design)) l.symbol;
}
