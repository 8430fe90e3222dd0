use Rattle.std.proofs.Common.{sym, ◌∙◌, arith}
use Rattle.std.proofs.lemmas.List.{length-map}
use Rattle.ir_store.specs.Designs.{modules_of, module_of, numbered_module, design_of}
use Rattle.miter_blast.proofs.Finding.{stored_at}
use Rattle.aiger_export.proofs.PublicNumbers.{several, goes_on, found_at_end}
use Rattle.aiger_export.proofs.public_modules.only_public_of.Goals as goal

pub loop-number-preserved : goal.loop-number-preserved
loop-number-preserved c =
    let ms = modules_of c.args.design.now in
    goes_on (design_of c.args.design.now) c.loop-number.number (numbered_module (module_of c.module.result.now))
    (stored_at ms c.loop-number.number (module_of c.module.result.now) c.module.ensures) c.loop-number.found c.loop-number.invariant
    (sym c.is_second.ensures ∙ c.if-is_second.false) c.noted-found.result c.noted-found.ensures

pub returns : goal.returns
returns c =
    let ms = modules_of c.args.design.now in
    let count = length-map ms numbered_module in
    found_at_end (design_of c.args.design.now) c.loop-number.number c.loop-number.found
    (omega (arith, count, c.module_count-number-end.ensures, c.loop-number-test.false)) c.loop-number.invariant

pub returns-then-is_second : goal.returns-then-is_second
returns-then-is_second c =
    let ms = modules_of c.args.design.now in
    sym (several (design_of c.args.design.now) c.loop-number.number (numbered_module (module_of c.module.result.now))
    (stored_at ms c.loop-number.number (module_of c.module.result.now) c.module.ensures) c.loop-number.found c.loop-number.invariant
    (sym c.is_second.ensures ∙ c.if-is_second.true))
