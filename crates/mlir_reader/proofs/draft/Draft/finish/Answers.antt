use Rattle.std.proofs.Common.{sym, ◌∙◌}
use Rattle.ir_store.specs.Bodies.{ops_of}
use Rattle.ir_store.specs.Numbered.{op_by}
use Rattle.mlir_reader.specs.Drafts.{operation_of_draft}
use Rattle.mlir_reader.specs.Held.{draft_operations}
use Rattle.mlir_reader.specs.Meanings.{meanings_of}
use Rattle.mlir_reader.proofs.Drafting.{body_done}
use Rattle.mlir_reader.proofs.Moving.{moved_end}
use Rattle.mlir_reader.proofs.draft.Draft.finish.Goals as goal
use Rattle.std.proofs.lemmas.List.{nil_from_length}

pub returns : goal.returns
returns c seen os drafts =
    let d = c.args.self in
    let means = meanings_of d.names in
    let l = c.loop-draft in
    let rest = l.draft-iterator.rest in
    let none = nil_from_length rest.items (sym rest.ok.0 ∙ c.in-None.ensures.steps.0) in
    let all = moved_end (op_by (λ i. i)) (operation_of_draft means) (ops_of l.body) rest.items (draft_operations means d) none l.invariant.operations in
    body_done seen os d l.body drafts all (l.invariant.numbered (drafts.ids, drafts.gaps))
