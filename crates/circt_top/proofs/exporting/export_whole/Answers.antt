use Rattle.ir_store.specs.Designs.{design_of}
use Rattle.circt_top.proofs.Exports.{export_gives, export_unread}
use Rattle.circt_top.proofs.exporting.export_whole.Goals as goal

pub returns-in-Ok : goal.returns-in-Ok
returns-in-Ok g c = λ contents is.
    export_gives c.args.passes.now contents c.args.source.now (design_of c.in-Ok.verified.design) c.export_result.result is c.in-Ok.ensures c.export_result.ensures

pub returns-in-Err : goal.returns-in-Err
returns-in-Err g c = λ contents is. rw c.in_file.ensures (export_unread c.args.passes.now contents c.args.source.now c.in-Err.fail is c.in-Err.ensures)
