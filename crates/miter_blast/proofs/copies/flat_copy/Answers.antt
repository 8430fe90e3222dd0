use Rattle.std.proofs.Common.{map, ap, subst, ◌∙◌}
use Rattle.ir_store.specs.Designs.{design_of, numbered_module}
use Rattle.inline_pass.specs.DeadModules.{IsWithoutDead}
use Rattle.miter_blast.proofs.CopyMade.{made_fit, reached_fit, flattened_fit, lowered_left}
use Rattle.miter_blast.proofs.copies.flat_copy.Goals as goal

pub symbol_dce-requires : goal.symbol_dce-requires
symbol_dce-requires c =
    made_fit (design_of c.args.verified.now.design) (design_of c.in_ok-made.made) c.args.number c.args.verified.now.accepted c.args.verified.now.canonical c.in_ok-made.ensures

pub flatten_modules-requires : goal.flatten_modules-requires
flatten_modules-requires c =
    reached_fit (design_of c.args.verified.now.design) (design_of c.in_ok-made.made) c.args.number c.args.verified.now.accepted c.args.verified.now.canonical c.in_ok-made.ensures
    (design_of c.symbol_dce.new.design) c.in_ok-symbol_dce.ensures

pub lower_aggregates-requires : goal.lower_aggregates-requires
lower_aggregates-requires c =
    flattened_fit (design_of c.args.verified.now.design) (design_of c.in_ok-made.made) c.args.number c.args.verified.now.accepted c.args.verified.now.canonical c.in_ok-made.ensures
    (design_of c.symbol_dce.new.design) (design_of c.flatten_modules.new.design) c.in_ok-symbol_dce.ensures c.in_ok-flatten_modules.ensures

pub new-requires : goal.new-requires
new-requires c =
    let left = lowered_left (design_of c.args.verified.now.design) (design_of c.in_ok-made.made) c.args.number c.args.verified.now.accepted c.args.verified.now.canonical
    c.in_ok-made.ensures (design_of c.symbol_dce.new.design) (design_of c.flatten_modules.new.design) c.in_ok-symbol_dce.ensures c.in_ok-flatten_modules.ensures
    (design_of c.lower_aggregates.new.design) c.in_ok-lower_aggregates.ensures.ok in
    record { accepted = left.0; canonical = left.1 }

pub returns : goal.returns
returns c =
    let has = c.in_ok-made.ensures in (
      has.0,
      has.1,
      (
        design_of c.symbol_dce.new.design,
        design_of c.flatten_modules.new.design,
        subst (λ x. IsWithoutDead x (design_of c.symbol_dce.new.design)) has.2 c.in_ok-symbol_dce.ensures,
        c.in_ok-flatten_modules.ensures,
        ap (map numbered_module) c.new.ensures ∙ c.in_ok-lower_aggregates.ensures.ok,
      ),
    )
