-- Kinds without names, of operations whose instances have the names of leaves.
use Rattle.std.proofs.Common.{◌≡◌, Option, Some, None, refl}
use Rattle.hw_model.specs.Kinds.{Kind}
use Rattle.hw_model.specs.Kinds.Kind.{instance}
use Rattle.hw_model.specs.Design.{Module, Design, find_module}
use Rattle.aggregate_laws.specs.Leaves.{bare_kind}
use Rattle.lowering_rules.specs.LoweringRules.{named_by, named_kind}

pub kind_bare : (d : Design) (kind : Kind) → bare_kind (named_kind d kind) ≡ bare_kind kind
kind_bare d (instance i) = go (find_module d i.symbol)
  where
    go : (m : Option Module) → bare_kind (named_by i m) ≡ bare_kind (instance i)
    go None = refl
    go (Some c) = refl
kind_bare d _ = refl
