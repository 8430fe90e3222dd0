use Rattle.std.proofs.Common.{ℕ, List, [], ◌∙◌}
use Rattle.std.specs.Borrow.{Bor}
use Rattle.mlir_reader.specs.Meanings.{meanings_of}
use Rattle.mlir_reader.proofs.Defining.{names_step_at, marks_step_at}
use Rattle.mlir_reader.proofs.definitions.define_each.Goals as goal

pub loop-index-preserved : goal.loop-index-preserved
loop-index-preserved c =
    let l = c.loop-index in
    let d : Bor (List ℕ) = record { ref_ptr = (0, 0); now = [] } in
    let m = meanings_of l.names in
    let n = meanings_of c.define-in-loop-index.new.self in
    record {
      means = names_step_at m n c.args.others.now c.args.position l.index d c.loop-index-test.true c.in_ok-again-2.ensures.means ∙ l.invariant.means;
      marks = marks_step_at m n c.args.others.now c.args.position l.index d l.found.items c.push-in-loop-index.new.self.items c.in_ok-again-2.again
          c.loop-index-test.true c.in_ok-again-2.ensures.means c.in_ok-again-2.ensures.again c.in_ok-push-2.ensures.ok ∙ l.invariant.marks;
    }
