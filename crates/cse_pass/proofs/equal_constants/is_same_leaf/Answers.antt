use Rattle.std.proofs.Common.{◌∙◌, sym}
use Rattle.hw_model.specs.TypeViews.{type_of}
use Rattle.hw_model.specs.Types.{width}
use Rattle.hw_model.specs.KindViews.{integer_of}
use Rattle.cse_pass.proofs.SameParts.{leaf_same, leaf_other}
use Rattle.cse_pass.proofs.equal_constants.is_same_leaf.Goals as goal

pub returns-then-eq : goal.returns-then-eq
returns-then-eq c =
    leaf_same (integer_of c.args.y) (integer_of c.args.z) (type_of c.args.t.now) (type_of c.args.u.now) c.is_same_number.result (sym c.if-eq.true ∙ c.eq.ensures)
    (c.is_same_number.ensures (width (type_of c.args.t.now)) c.width.ensures)

pub returns-else-eq : goal.returns-else-eq
returns-else-eq c =
    c.if-eq.false
    ∙ leaf_other (integer_of c.args.y) (integer_of c.args.z) (type_of c.args.t.now) (type_of c.args.u.now) (sym c.if-eq.false ∙ c.eq.ensures)
