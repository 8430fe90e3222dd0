use Rattle.std.proofs.Common.{◌+◌, ◌++◌, map, take, drop, ap, ◌∙◌, arith}
use Rattle.std.proofs.lemmas.List.{take_rest}
use Rattle.hw_model.specs.TypeViews.{type_of}
use Rattle.ir_store.specs.OperationViews.{types_in}
use Rattle.body_edits.proofs.CutLists.{map_cut}
use Rattle.body_edits.proofs.spliced.spliced_types.Goals as goal

pub returns : goal.returns
returns c =
    c.in_ok-push_types-3.ensures
    ∙ ap (λ ts. types_in c.push_types-2.new.list ++ map type_of ts) (take_rest c.args.types.now (c.args.number + 1))
    ∙ ap (λ ts. ts ++ map type_of (drop (c.args.number + 1) c.args.types.now))
    (c.in_ok-push_types-2.ensures
    ∙ ap (λ ts. ts ++ map type_of c.args.others.now) (c.in_ok-push_types.ensures ∙ ap (λ ts. map type_of ts ++ map type_of (take c.args.number c.args.types.now)) c.new-all.ensures))
    ∙ map_cut type_of c.args.number (c.args.number + 1) (map type_of c.args.others.now) c.args.types.now (omega arith) c.requires
