use Rattle.std.proofs.Common.{◌≡◌, take, map}
use Rattle.hw_model.specs.KindViews.{literal_of}
use Rattle.stored_form.specs.Bytes.{Each}
use Rattle.stored_form.specs.Constants.{kept_literal}
use Rattle.stored_form.proofs.constants.+keep.Given as goal

abbrev pub invariant-are_kept-loop-literal : goal.invariant-are_kept-loop-literal
invariant-are_kept-loop-literal l = Each (λ x. kept_literal x ≡ x) (map literal_of (take l.literal-index l.literals))
