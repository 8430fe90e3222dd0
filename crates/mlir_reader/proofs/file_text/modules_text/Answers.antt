-- Modules are put into the design one by one, up to where they end.
use Rattle.std.proofs.Common.{sym, ◌∙◌, ap, ◌++◌, ◌∷◌, []}
use Rattle.hw_model.specs.Design.{Design}
use Rattle.ir_store.specs.Designs.{design_of}
use Rattle.mlir_reader.specs.ModuleViews.{IsModule}
use Rattle.mlir_reader.proofs.Files.{refused_at, closes_at, goes_on_at}
use Rattle.mlir_reader.proofs.file_text.modules_text.Goals as goal

pub loop-ends-preserved : goal.loop-ends-preserved
loop-ends-preserved c =
    let read = c.in-Ok.ensures.gives in
    goes_on_at read.0 (design_of c.put_module.new.design) c.module_text.new.reader c.loop-ends.invariant
    (sym c.ends_here.ensures ∙ c.loop-ends-test.true) read.1 (c.in_ok-put_module-in-Ok.ensures ∙ ap (λ m. design_of c.loop-ends.design ++ m ∷ []) read.2) c.in-Ok.ensures.shorter

pub returns-in-Err-clause-gives : goal.returns-in-Err-clause-gives
returns-in-Err-clause-gives c =
    let whole : Unit {0} → Design = λ u. [] in
    refused_at IsModule whole c.in-Err.fail c.module_text.new.reader c.module_text.new.reader c.loop-ends.invariant
    (sym c.ends_here.ensures ∙ c.loop-ends-test.true) c.in-Err.ensures.gives

pub returns-clause-gives : goal.returns-clause-gives
returns-clause-gives c = closes_at c.loop-ends.invariant (sym c.ends_here.ensures ∙ c.loop-ends-test.false)
