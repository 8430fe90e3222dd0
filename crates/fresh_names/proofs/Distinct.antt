-- Names that are given in turn are new, each in its turn.
use Rattle.std.proofs.Common.{◌≡◌, ◌+◌, ◌<◌, ◌^◌, false, List, [], ◌∷◌, ◌++◌, length, arith}
use Rattle.fresh_names.specs.Fresh.{Name, is_taken, free_name, fresh}
use Rattle.fresh_names.proofs.Taken.{one_more}
use Rattle.fresh_names.proofs.Free.{name_free}

-- names none of which stands among those taken or earlier
abbrev pub AreFresh : List Name → List Name → Type 0
AreFresh taken [] = Unit {0}
AreFresh taken (n ∷ ns) = (is_taken taken n ≡ false) × AreFresh (taken ++ n ∷ []) ns

pub fresh_are_new : (taken ws : List Name) → length taken + length ws < 2 ^ 64 → AreFresh taken (fresh taken ws)
fresh_are_new taken [] small = tt
fresh_are_new taken (w ∷ ws) small = (
  name_free taken w (omega (arith, small)),
  fresh_are_new (taken ++ free_name taken w ∷ []) ws (omega (arith, one_more taken (free_name taken w), small)),
)
