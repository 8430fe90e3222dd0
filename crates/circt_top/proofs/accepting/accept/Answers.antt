use Rattle.ir_store.specs.Designs.{design_of}
use Rattle.circt_top.proofs.OutcomeParts.{unread_taken, unverified_taken}
use Rattle.circt_top.proofs.accepting.accept.Goals as goal

pub returns-in-Err : goal.returns-in-Err
returns-in-Err c = rw c.read_failure.ensures (unread_taken c.args.source.now c.in-Err.fail c.in-Err.ensures)

pub returns-in-Err-verify : goal.returns-in-Err-verify
returns-in-Err-verify c = rw c.verify_failure.ensures (unverified_taken c.args.source.now (design_of c.in-Ok.design) c.in-Err-verify.fail c.in-Ok.ensures c.in-Err-verify.ensures.err)

pub verify-requires : goal.verify-requires
verify-requires c = c.what_is_read_is_canonical.ensures c.args.source.now (design_of c.in-Ok.design) c.are_bytes.ensures c.in-Ok.ensures
