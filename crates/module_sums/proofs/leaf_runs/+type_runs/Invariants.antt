use Rattle.std.proofs.Common.{◌≡◌, take, map}
use Rattle.hw_model.specs.TypeViews.{field_of}
use Rattle.run_lists.specs.Runs.{expanded, AreApart}
use Rattle.module_sums.proofs.LeafRuns.{field_widths}
use Rattle.module_sums.proofs.leaf_runs.+type_runs.Given as goal

abbrev pub invariant-field_runs-loop-field : goal.invariant-field_runs-loop-field
invariant-field_runs-loop-field l = (expanded l.all.runs.items ≡ field_widths (map field_of (take l.field-index l.field-items))) × AreApart l.all.runs.items
