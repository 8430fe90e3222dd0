use Rattle.std.proofs.Common.{◌≡◌, take}
use Rattle.ir_store.specs.Bodies.{ops_of}
use Rattle.ir_store.specs.Numbered.{ops_by_position}
use Rattle.ir_store.specs.Designs.{modules_of}
use Rattle.run_lists.specs.Runs.{expanded, AreApart}
use Rattle.module_sums.specs.RegisterWidths.{body_widths, kept_widths}
use Rattle.module_sums.proofs.registers.body_runs.Given as goal

abbrev pub invariant-loop-position : goal.invariant-loop-position
invariant-loop-position l =
    (expanded l.list.runs.items ≡ body_widths (kept_widths (modules_of l.design) l.table) (take l.position (ops_by_position (ops_of l.body)))) × AreApart l.list.runs.items
