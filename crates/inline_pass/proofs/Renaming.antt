-- Renaming keeps all of an operation but names.
use Rattle.std.proofs.Common.{◌≡◌, refl}
use Rattle.hw_model.specs.Types.{Name}
use Rattle.hw_model.specs.Kinds.{Kind}
use Rattle.hw_model.specs.Kinds.Kind.{instance}
use Rattle.inline_laws.specs.Inline.{unnamed_kind, RenamesOnly}
use Rattle.inline_pass.specs.Renaming.{renamed, renamed_kind}

kind_kept : (u : Name) (k : Kind) → unnamed_kind (renamed_kind u k) ≡ unnamed_kind k
kind_kept u (instance i) = refl
kind_kept u _ = refl

pub renamed_only : (u : Name) → RenamesOnly (renamed u)
renamed_only u = record {
  kind_is = λ o. kind_kept u o.kind;
  operands_are = λ o. refl;
  types_are = λ o. refl;
  results_are = λ o. refl;
}
