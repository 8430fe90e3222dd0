use Rattle.ir_store.specs.Designs.{design_of}
use Rattle.circt_top.proofs.Imports.{import_gives, import_fails}
use Rattle.circt_top.proofs.importing.import_whole.Goals as goal

pub returns-in_ok-print_made-in-Ok : goal.returns-in_ok-print_made-in-Ok
returns-in_ok-print_made-in-Ok g c = λ contents is.
    import_gives c.args.passes.now contents c.args.source.now (design_of c.in-Ok.verified.design) _ is c.in-Ok.ensures.ok c.in-Ok.ensures.short
    c.in_ok-print_made-in-Ok.ensures

pub returns-in-Err : goal.returns-in-Err
returns-in-Err g c = λ contents is. rw c.import_failure.ensures (import_fails c.args.passes.now contents c.args.source.now c.in-Err.fail is c.in-Err.ensures.err)
