use Rattle.std.proofs.Common.{◌≡◌, ◌∙◌, ap, min, sym, subst, arith}
use Rattle.hw_model.specs.Design.{Module}
use Rattle.ir_store.specs.Designs.{design_of, module_of, numbered_module}
use Rattle.printing_laws.proofs.VerifiedDesigns.{canonical_designs_are_printable}
use Rattle.diag.specs.declared.cause.Cause.TheVariants.{RegistersDiffer, TooManyGates}
use Rattle.run_lists.specs.Runs.{expanded}
use Rattle.miter_blast.specs.Comparisons.{IsComparisonRefusal}
use Rattle.miter_blast.specs.Pairs.{at_module}
use Rattle.miter_blast.proofs.Finding.{below_of, same_there, not_told, so_told}
use Rattle.miter_blast.proofs.EarlyRefusals.{early_registers, early_price, runs_apart, runs_same, runs_price, light_pair}
use Rattle.miter_blast.proofs.early.early_refusal.Goals as goal

pub registers_of-requires : goal.registers_of-requires
registers_of-requires c = let pair = c.requires.2 in below_of (design_of c.args.left.now.design) c.args.pair.left pair.left pair.left_at

pub registers_of-requires-2 : goal.registers_of-requires-2
registers_of-requires-2 c = let pair = c.requires.2 in below_of (design_of c.args.right.now.design) c.args.pair.right pair.right pair.right_at

pub same_runs-requires-clause-first : goal.same_runs-requires-clause-first
same_runs-requires-clause-first c = let pair = c.requires.2 in (c.in_ok-first.ensures pair.left pair.left_at).apart

pub same_runs-requires-clause-second : goal.same_runs-requires-clause-second
same_runs-requires-clause-second c = let pair = c.requires.2 in (c.in_ok-second.ensures pair.right pair.right_at).apart

pub module_in-requires : goal.module_in-requires
module_in-requires c = let pair = c.requires.2 in below_of (design_of c.args.right.now.design) c.args.pair.right pair.right pair.right_at

pub module_in-module-requires : goal.module_in-module-requires
module_in-module-requires c = let pair = c.requires.2 in below_of (design_of c.args.left.now.design) c.args.pair.left pair.left pair.left_at

pub returns-then-not-same_runs-clause-refused : goal.returns-then-not-same_runs-clause-refused
returns-then-not-same_runs-clause-refused c =
    λ a b pair.
    let d = design_of c.args.left.now.design in
    let e = design_of c.args.right.now.design in
    let apart = not_told c.same_runs.result (expanded c.in_ok-first.first.runs.items ≡ expanded c.in_ok-second.second.runs.items) c.same_runs.ensures c.if-not-same_runs.true in
    let same = same_there e c.args.pair.right (numbered_module (module_of c.module_in.result.now)) pair.right c.module_in.ensures pair.right_at in
    rw c.at_module.ensures
    (subst (λ p. IsComparisonRefusal d a e b (at_module 1 p RegistersDiffer)) (sym (ap (λ (x : Module). x.location) same))
    (early_registers d a e b c.args.pair.left c.args.pair.right pair
    (runs_apart d a e b c.args.pair.left c.args.pair.right pair c.in_ok-first.first.runs.items c.in_ok-second.second.runs.items c.in_ok-first.ensures c.in_ok-second.ensures apart)))

pub returns-then-least_price-gt-MOST_GATES-clause-refused : goal.returns-then-least_price-gt-MOST_GATES-clause-refused
returns-then-least_price-gt-MOST_GATES-clause-refused c =
    λ a b pair.
    let d = design_of c.args.left.now.design in
    let e = design_of c.args.right.now.design in
    let d_printable = canonical_designs_are_printable d c.args.left.now.accepted c.args.left.now.canonical in
    let e_printable = canonical_designs_are_printable e c.args.right.now.accepted c.args.right.now.canonical in
    let lists = so_told c.same_runs.result (expanded c.in_ok-first.first.runs.items ≡ expanded c.in_ok-second.second.runs.items) c.same_runs.ensures c.if-not-same_runs.false in
    let same = runs_same d a e b c.args.pair.left c.args.pair.right pair c.in_ok-first.first.runs.items c.in_ok-second.second.runs.items c.in_ok-first.ensures c.in_ok-second.ensures lists in
    let own = numbered_module (module_of c.module_in-module.result.now) in
    let price = runs_price d a e b c.args.pair.left c.args.pair.right pair c.in_ok-first.first.runs.items c.in_ok-second.second.runs.items c.in_ok-first.ensures c.in_ok-second.ensures own c.module_in-module.ensures in
    let at = same_there d c.args.pair.left own pair.left c.module_in-module.ensures pair.left_at in
    rw c.at_module-then-least_price-gt-MOST_GATES.ensures
    (subst (λ p. IsComparisonRefusal d a e b (at_module 0 p TooManyGates)) (sym (ap (λ (x : Module). x.location) at))
    (early_price d a e b c.args.pair.left c.args.pair.right pair c.args.left.now.accepted d_printable c.args.right.now.accepted e_printable same c.least_price.result
    (c.least_price.ensures ∙ ap (λ n. min n 18446744073709551615) price) (omega (arith, c.if-least_price-gt-MOST_GATES.true))))

pub returns-clause-passed : goal.returns-clause-passed
returns-clause-passed c =
    let d = design_of c.args.left.now.design in
    let e = design_of c.args.right.now.design in
    let lists = so_told c.same_runs.result (expanded c.in_ok-first.first.runs.items ≡ expanded c.in_ok-second.second.runs.items) c.same_runs.ensures c.if-not-same_runs.false in
    light_pair d e c.args.pair.left c.args.pair.right c.in_ok-first.first.runs.items c.in_ok-second.second.runs.items c.in_ok-first.ensures c.in_ok-second.ensures lists
    (numbered_module (module_of c.module_in-module.result.now)) c.module_in-module.ensures c.least_price.result c.least_price.ensures (omega (arith, c.if-least_price-gt-MOST_GATES.false))
