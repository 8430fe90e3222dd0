use Rattle.std.proofs.Common.{◌+◌, ◌++◌, refl, ap, ◌∙◌, arith}
use Rattle.mlir_reader.specs.Meanings.{meanings_of}
use Rattle.mlir_reader.specs.Resolving.{marks, operation_definitions}
use Rattle.mlir_operations.specs.Views.{operation_of}
use Rattle.mlir_reader.specs.declared.draft.Draft.{Draft}
use Rattle.mlir_reader.proofs.Drafting.{IsRead, drafts_more}
use Rattle.mlir_reader.proofs.draft.Draft.add.Goals as goal

pub returns : goal.returns
returns c seen os drafts =
    let old = c.args.self.now in
    let o = operation_of c.args.text in
    let mid : Draft = record { names = c.define_operation.new.names; count = old.count + 1; likely = old.likely; body = c.make_room.new.body; waiting = old.waiting; found = old.found } in
    let found = c.as_slice.result.now in
    let few = c.if-self.false in
    let own = marks (meanings_of old.names) (operation_definitions old.count o) in
    let read : IsRead seen os o old mid c.put.new.self found =
    record {
      means = c.in_ok-define_operation.ensures.means;
      count = refl;
      few = omega (arith, few);
      ops = c.in_ok-make_room.ensures.ops;
      gaps = c.in_ok-make_room.ensures.gaps;
      waiting = refl;
      marked = c.as_slice.ensures ∙ c.in_ok-define_operation.ensures.marks ∙ ap (λ bs. bs ++ own) c.new-marks.ensures.items;
    } in
    drafts_more seen os o old mid c.put.new.self found drafts read c.in_ok-put.ensures
