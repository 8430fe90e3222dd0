-- Constants in order, each kept as its bits.
use Rattle.std.proofs.Common.{◌≡◌, List, [], ◌∷◌, map, refl, ap}
use Rattle.hw_model.specs.Kinds as hw
use Rattle.hw_model.specs.Kinds.Literals.{literal}
use Rattle.hw_model.specs.KindViews.{literal_of, literals_of}
use Rattle.hw_model.specs.declared.kinds.Literal.{Literal}
use Rattle.stored_form.specs.Constants.{kept_literal, kept_literals}

-- a constant, kept so
pub kept_of : Literal → hw.Literal
kept_of l = kept_literal (literal_of l)

pub kept_one : (l : Literal) → kept_of l ≡ kept_literal (literal_of l)
unfolding kept_of
kept_one l = refl

pub kept_each : (ls : List Literal) → literals_of (map kept_of ls) ≡ kept_literals (literals_of (map literal_of ls))
unfolding kept_of
kept_each [] = refl
kept_each (l ∷ ls) = ap (λ ks. literal (kept_literal (literal_of l)) ks) (kept_each ls)
