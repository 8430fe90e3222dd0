use Rattle.std.proofs.Common.{◌≡◌, ◌++◌, ap, ap₂, sym, map, ◌∙◌, subst, Some, length, slice_get, arith}
use Rattle.ir_store.specs.Designs.{design_of, modules_of, module_of, numbered_module}
use Rattle.printing_laws.proofs.VerifiedDesigns.{canonical_designs_are_printable}
use Rattle.miter_blast.specs.Comparisons.{leaf_widths}
use Rattle.miter_blast.specs.Pairs.{IsFoundAt}
use Rattle.miter_blast.proofs.Finding.{found_at, stored_at}
use Rattle.miter_blast.proofs.Differences.{first_alone}
use Rattle.miter_blast.proofs.Compared.{stored_below, alone_some, copy_alone, copy_is, copy_inputs, copy_held}
use Rattle.op_verifier.specs.Answered.{modules_verified}
use Rattle.lec_tool.proofs.Named.{named}
use Rattle.lec_tool.proofs.names.leaf_names.Goals as goal

pub module-module-requires : goal.module-module-requires
module-module-requires c =
    let d = design_of c.args.verified.now.design in
    let own : IsFoundAt d c.args.symbol.now (Some c.in-Some.number) =
    subst (λ e. IsFoundAt e c.args.symbol.now (Some c.in-Some.number)) (ap (map numbered_module) c.design.ensures)
    (found_at (design_of c.design.result.now) c.args.symbol.now (Some c.in-Some.number) c.in-Some.ensures.module c.in-Some.ensures.some) in
    let printable = canonical_designs_are_printable d c.args.verified.now.accepted c.args.verified.now.canonical in
    let alone = copy_alone d c.args.symbol.now c.in-Some.number own.0 c.args.verified.now.accepted printable own.1 own.2 (design_of c.in_ok-copy.copy.design) c.in_ok-copy.ensures in
    let some = stored_below (modules_verified c.in_ok-copy.copy) 0 (alone_some (design_of c.in_ok-copy.copy.design) alone) in
    let same = ap length c.design-2.ensures in
    omega (arith, some, same)

pub returns : goal.returns
returns c =
    let d = design_of c.args.verified.now.design in
    let own : IsFoundAt d c.args.symbol.now (Some c.in-Some.number) =
    subst (λ e. IsFoundAt e c.args.symbol.now (Some c.in-Some.number)) (ap (map numbered_module) c.design.ensures)
    (found_at (design_of c.design.result.now) c.args.symbol.now (Some c.in-Some.number) c.in-Some.ensures.module c.in-Some.ensures.some) in
    let printable = canonical_designs_are_printable d c.args.verified.now.accepted c.args.verified.now.canonical in
    let alone = copy_alone d c.args.symbol.now c.in-Some.number own.0 c.args.verified.now.accepted printable own.1 own.2 (design_of c.in_ok-copy.copy.design) c.in_ok-copy.ensures in
    let m = numbered_module (module_of c.module-module.result.now) in
    let at : slice_get (design_of c.in_ok-copy.copy.design) 0 ≡ Some m =
    subst (λ e. slice_get e 0 ≡ Some m) (ap (map numbered_module) c.design-2.ensures) (stored_at (modules_of c.design-2.result.now) 0 (module_of c.module-module.result.now) c.module-module.ensures) in
    named (λ v. v.items) c.input_names.result d c.args.symbol.now (design_of c.in_ok-copy.copy.design) alone.0 m c.in_ok-all.all.items
    (copy_is d c.args.symbol.now c.in-Some.number own.0 c.args.verified.now.accepted printable own.1 own.2 (design_of c.in_ok-copy.copy.design) c.in_ok-copy.ensures)
    alone.1 (first_alone (design_of c.in_ok-copy.copy.design) m alone.0 at alone.1) c.in_ok-all.ensures
    (λ k found. (let both : Some own.0 ≡ Some k = sym own.2 ∙ found in
    let same : own.0 ≡ k = cc in
    ap₂ (λ x y. x ++ y)
    (copy_inputs d c.args.symbol.now c.in-Some.number own.0 c.args.verified.now.accepted printable own.1 own.2 (design_of c.in_ok-copy.copy.design) c.in_ok-copy.ensures alone.0 alone.1)
    (copy_held d c.args.symbol.now c.in-Some.number own.0 c.args.verified.now.accepted printable own.1 own.2 (design_of c.in_ok-copy.copy.design) c.in_ok-copy.ensures alone.0 alone.1)
    ∙ ap (leaf_widths d c.args.symbol.now) same))
    c.input_names.ensures
