use Rattle.std.proofs.Common.{map, ap, ◌∙◌}
use Rattle.ir_store.specs.Designs.{design_of, numbered_module}
use Rattle.design_counts.specs.Counts.{public_register_count}
use Rattle.circt_top.specs.Summary.{counts_of as design_counts}
use Rattle.circt_top.specs.SummaryViews.{counts_of}
use Rattle.circt_top.proofs.Generated.{summed}
use Rattle.circt_top.proofs.generation.summarise.Goals as goal

pub returns : goal.returns
returns g c = λ contents.
    let d = design_of c.in_ok-verified.verified.design in
    let made = design_of c.in_ok-made.made.design in
    summed c.args.recipe.seed c.args.recipe.count c.in_ok-passes.passes d c.in_ok-passes.ensures c.in_ok-verified.ensures made
    c.in_ok-verilog.verilog c.in_ok-summary_text.field-0 (counts_of c.counts_of-counts.result) c.public_register_count.result c.len.result
    (c.in_ok-verilog.ensures c.in_ok-passes.passes d c.in_ok-verified.verified.accepted c.in_ok-verified.verified.canonical c.in_ok-made.ensures.made)
    (c.counts_of-counts.ensures ∙ ap design_counts (ap (map numbered_module) c.design.ensures))
    (c.public_register_count.ensures ∙ ap public_register_count (ap (map numbered_module) c.design-2.ensures))
    c.len.ensures c.in_ok-summary_text.ensures
