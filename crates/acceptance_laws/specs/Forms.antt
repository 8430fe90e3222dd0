-- What must be shown of each edit of `edit_laws`, beside what keeps a design valid, so that a fit design stays fit.
use Rattle.std.specs.Prelude.{◌≡◌, ℕ, ◌<◌, true, length, Some}
use Rattle.hw_model.specs.Design.{Ref, Op, Module}
use Rattle.hw_model.specs.Resets.{is_constant}
use Rattle.op_verifier.specs.OpChecks.{is_nonzero_kind, is_nonzero_ref}
use Rattle.op_verifier.specs.ResetChecks.{is_constant_ref}
use Rattle.acceptance_laws.specs.Keeps.{IsFitting}

-- o may become o' in its place: o' fits the body, and is a constant, or a nonzero hw.constant, where o is one
pub record InPlaceFits (md : Module) (o o' : Op) : Type 0 where
  pub known : is_nonzero_kind o.kind ≡ true → is_nonzero_kind o'.kind ≡ true
  pub constant : is_constant o.kind ≡ true → is_constant o'.kind ≡ true
  pub fits : IsFitting md.ports md.body o'

-- o may go, x standing for its result: x is the result of a constant, or of a nonzero hw.constant, where o is one
pub record ErasedFits (md : Module) (o : Op) (x : Ref) : Type 0 where
  pub known : is_nonzero_kind o.kind ≡ true → is_nonzero_ref md.body (Some x) ≡ true
  pub constant : is_constant o.kind ≡ true → is_constant_ref md.body x ≡ true

-- o may be put in at position i: o fits the body, and the output stays after it
pub record InsertedFits (md : Module) (i : ℕ) (o : Op) : Type 0 where
  pub before_end : i < length md.body
  pub fits : IsFitting md.ports md.body o
