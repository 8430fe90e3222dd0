use Rattle.std.proofs.Common.{length, ap, sym, ◌∙◌}
use Rattle.ir_store.specs.Designs.{modules_of}
use Rattle.cse_pass.specs.UnusedAggregates.{IsWithoutUnusedAggregates}
use Rattle.pass_manager.proofs.AllBodies.{all_made, each_first, count_taken, count_emptied}
use Rattle.pass_manager.proofs.for_export.trim_design.Goals as goal

pub trimmed_bodies-requires : goal.trimmed_bodies-requires
trimmed_bodies-requires c = each_first (modules_of c.args.design.now) c.in_ok-bodies.bodies.items c.requires c.in_ok-bodies.ensures.bodies

pub put_bodies-requires : goal.put_bodies-requires
put_bodies-requires c =
    c.in_ok-trimmed.ensures.count ∙ count_taken (modules_of c.args.design.now) c.in_ok-bodies.bodies.items c.in_ok-bodies.ensures.bodies
    ∙ sym (ap length c.in_ok-bodies.ensures.modules ∙ count_emptied (modules_of c.args.design.now))

pub returns : goal.returns
returns c =
    all_made IsWithoutUnusedAggregates (modules_of c.args.design.now) (modules_of c.take_bodies.new.design) (modules_of c.put_bodies.new.design) c.in_ok-bodies.bodies.items
    c.in_ok-trimmed.trimmed.items c.in_ok-bodies.ensures.bodies c.in_ok-bodies.ensures.modules c.in_ok-trimmed.ensures.count c.in_ok-trimmed.ensures.made c.put_bodies.ensures
