use Rattle.std.proofs.Common.{ap, ◌∙◌, sym, subst, arith}
use Rattle.hw_model.specs.Design.{Module}
use Rattle.ir_store.specs.Designs.{design_of, module_of, numbered_module}
use Rattle.op_verifier.specs.Answered.{modules_verified}
use Rattle.printing_laws.proofs.VerifiedDesigns.{canonical_designs_are_printable}
use Rattle.diag.specs.declared.cause.Cause.TheVariants.{TooManyGates}
use Rattle.miter_blast.specs.Comparisons.{IsComparisonRefusal}
use Rattle.miter_blast.specs.Leaves.{held_widths}
use Rattle.miter_blast.specs.Pairs.{at_module}
use Rattle.miter_blast.proofs.Finding.{below_of, same_there}
use Rattle.miter_blast.proofs.Differences.{first_alone}
use Rattle.miter_blast.proofs.Compared.{stored_below, copy_alone, alone_some, first_one, first_one_is, ready, refused_price, few_gates, compared}
use Rattle.miter_blast.proofs.EarlyRefusals.{pair_held}
use Rattle.miter_blast.proofs.comparing.compared.Goals as goal

pub flat_copy-requires : goal.flat_copy-requires
flat_copy-requires c =
    let pair = c.requires.pair.2 in
    stored_below (modules_verified c.args.left.now) c.args.pair.left (below_of (design_of c.args.left.now.design) c.args.pair.left pair.left pair.left_at)

pub flat_copy-requires-2 : goal.flat_copy-requires-2
flat_copy-requires-2 c =
    let pair = c.requires.pair.2 in
    stored_below (modules_verified c.args.right.now) c.args.pair.right (below_of (design_of c.args.right.now.design) c.args.pair.right pair.right pair.right_at)

pub price_of-requires-clause-one : goal.price_of-requires-clause-one
price_of-requires-clause-one c =
    let pair = c.requires.pair.2 in
    let d = design_of c.args.left.now.design in
    let printable = canonical_designs_are_printable d c.args.left.now.accepted c.args.left.now.canonical in
    copy_alone d c.requires.pair.0 c.args.pair.left pair.left c.args.left.now.accepted printable pair.left_at pair.found.one (design_of c.in_ok-first.first.design) c.in_ok-first.ensures

pub price_of-requires-clause-two : goal.price_of-requires-clause-two
price_of-requires-clause-two c =
    let pair = c.requires.pair.2 in
    let e = design_of c.args.right.now.design in
    let printable = canonical_designs_are_printable e c.args.right.now.accepted c.args.right.now.canonical in
    copy_alone e c.requires.pair.1 c.args.pair.right pair.right c.args.right.now.accepted printable pair.right_at pair.found.two (design_of c.in_ok-second.second.design) c.in_ok-second.ensures

pub module_in-requires : goal.module_in-requires
module_in-requires c =
    let pair = c.requires.pair.2 in
    below_of (design_of c.args.left.now.design) c.args.pair.left pair.left pair.left_at

pub returns-then-branch-gt-MOST_GATES-clause-refused : goal.returns-then-branch-gt-MOST_GATES-clause-refused
returns-then-branch-gt-MOST_GATES-clause-refused c =
    λ a b pair.
    let d = design_of c.args.left.now.design in
    let e = design_of c.args.right.now.design in
    let d_printable = canonical_designs_are_printable d c.args.left.now.accepted c.args.left.now.canonical in
    let e_printable = canonical_designs_are_printable e c.args.right.now.accepted c.args.right.now.canonical in
    let same = pair_held d a e b c.args.pair.left c.args.pair.right pair c.requires.light.held in
    let at = same_there d c.args.pair.left (numbered_module (module_of c.module_in.result.now)) pair.left c.module_in.ensures pair.left_at in
    rw c.at_module.ensures
    (subst (λ p. IsComparisonRefusal d a e b (at_module 0 p TooManyGates)) (sym (ap (λ (x : Module). x.location) at))
    (refused_price d a e b c.args.pair.left c.args.pair.right pair c.args.left.now.accepted d_printable c.args.right.now.accepted e_printable
    (design_of c.in_ok-first.first.design) c.in_ok-first.ensures (design_of c.in_ok-second.second.design) c.in_ok-second.ensures same
    c.in_ok-price_of.field-0 c.in_ok-price_of.ensures c.if-branch-gt-MOST_GATES.true))

pub module_in-requires-2 : goal.module_in-requires-2
module_in-requires-2 c =
    let pair = c.requires.pair.2 in
    let d = design_of c.args.left.now.design in
    let printable = canonical_designs_are_printable d c.args.left.now.accepted c.args.left.now.canonical in
    alone_some (design_of c.in_ok-first.first.design)
    (copy_alone d c.requires.pair.0 c.args.pair.left pair.left c.args.left.now.accepted printable pair.left_at pair.found.one (design_of c.in_ok-first.first.design) c.in_ok-first.ensures)

pub built-requires-clause-ready : goal.built-requires-clause-ready
built-requires-clause-ready c =
    let a = c.requires.pair.0 in
    let b = c.requires.pair.1 in
    let pair = c.requires.pair.2 in
    let d = design_of c.args.left.now.design in
    let e = design_of c.args.right.now.design in
    let d_printable = canonical_designs_are_printable d c.args.left.now.accepted c.args.left.now.canonical in
    let e_printable = canonical_designs_are_printable e c.args.right.now.accepted c.args.right.now.canonical in
    let one =
    first_one d a e b c.args.pair.left c.args.pair.right pair c.args.left.now.accepted d_printable c.args.right.now.accepted e_printable
    (design_of c.in_ok-first.first.design) c.in_ok-first.ensures (design_of c.in_ok-second.second.design) c.in_ok-second.ensures in
    let is =
    first_alone (design_of c.in_ok-first.first.design) (numbered_module (module_of c.module_in-2.result.now)) one c.module_in-2.ensures
    (first_one_is d a e b c.args.pair.left c.args.pair.right pair c.args.left.now.accepted d_printable c.args.right.now.accepted e_printable
    (design_of c.in_ok-first.first.design) c.in_ok-first.ensures (design_of c.in_ok-second.second.design) c.in_ok-second.ensures) in
    let same = pair_held d a e b c.args.pair.left c.args.pair.right pair c.requires.light.held in
    ready d a e b c.args.pair.left c.args.pair.right pair c.args.left.now.accepted d_printable c.args.right.now.accepted e_printable
    (design_of c.in_ok-first.first.design) c.in_ok-first.ensures (design_of c.in_ok-second.second.design) c.in_ok-second.ensures same
    c.in_ok-held.held.items (c.in_ok-held.ensures ∙ ap (λ (x : Module). held_widths x.body) is)

pub built-requires-clause-few : goal.built-requires-clause-few
built-requires-clause-few c =
    let a = c.requires.pair.0 in
    let b = c.requires.pair.1 in
    let pair = c.requires.pair.2 in
    let d = design_of c.args.left.now.design in
    let e = design_of c.args.right.now.design in
    let d_printable = canonical_designs_are_printable d c.args.left.now.accepted c.args.left.now.canonical in
    let e_printable = canonical_designs_are_printable e c.args.right.now.accepted c.args.right.now.canonical in
    let same = pair_held d a e b c.args.pair.left c.args.pair.right pair c.requires.light.held in
    few_gates d a e b c.args.pair.left c.args.pair.right pair c.args.left.now.accepted d_printable c.args.right.now.accepted e_printable
    (design_of c.in_ok-first.first.design) c.in_ok-first.ensures (design_of c.in_ok-second.second.design) c.in_ok-second.ensures same
    c.in_ok-price_of.field-0 c.in_ok-price_of.ensures (omega (arith, c.if-branch-gt-MOST_GATES.false))

pub returns-in-Ok-clause-ok : goal.returns-in-Ok-clause-ok
returns-in-Ok-clause-ok c =
    λ a b pair.
    let d = design_of c.args.left.now.design in
    let e = design_of c.args.right.now.design in
    let d_printable = canonical_designs_are_printable d c.args.left.now.accepted c.args.left.now.canonical in
    let e_printable = canonical_designs_are_printable e c.args.right.now.accepted c.args.right.now.canonical in
    let same = pair_held d a e b c.args.pair.left c.args.pair.right pair c.requires.light.held in
    let few =
    few_gates d a e b c.args.pair.left c.args.pair.right pair c.args.left.now.accepted d_printable c.args.right.now.accepted e_printable
    (design_of c.in_ok-first.first.design) c.in_ok-first.ensures (design_of c.in_ok-second.second.design) c.in_ok-second.ensures same
    c.in_ok-price_of.field-0 c.in_ok-price_of.ensures (omega (arith, c.if-branch-gt-MOST_GATES.false)) in
    compared d a e b c.args.pair.left c.args.pair.right pair c.args.left.now.accepted d_printable c.args.right.now.accepted e_printable
    (design_of c.in_ok-first.first.design) c.in_ok-first.ensures (design_of c.in_ok-second.second.design) c.in_ok-second.ensures same
    c.in-Ok.miter c.in-Ok.ensures few
