use Rattle.std.proofs.Common.{◌+◌, ◌++◌, drop, ap, ◌∙◌, arith}
use Rattle.std.proofs.lemmas.List.{take_rest}
use Rattle.body_edits.proofs.CutLists.{splice_cut}
use Rattle.body_edits.proofs.spliced.spliced_values.Goals as goal

pub returns : goal.returns
returns c =
    c.in_ok-extend_from_slice-2.ensures.ok
    ∙ ap (λ xs. c.extend_from_slice.new.self.items ++ xs) (take_rest c.args.values.now (c.args.number + 1))
    ∙ ap (λ xs. xs ++ drop (c.args.number + 1) c.args.values.now) (c.in_ok-extend_from_slice.ensures.ok ∙ ap (λ xs. xs ++ c.args.others.now) c.in_ok-all.ensures.ok)
    ∙ splice_cut c.args.number (c.args.number + 1) c.args.others.now c.args.values.now (omega arith) c.requires
