-- How many operations an operation becomes and where its leaves stand, whatever its operands.
use Rattle.std.proofs.Common.{◌≡◌, ℕ, Bool, true, false, cond, List, refl}
use Rattle.hw_model.specs.Kinds.{Kind}
use Rattle.hw_model.specs.Kinds.Reset.{sync_reset}
use Rattle.hw_model.specs.Kinds.Kind.{mux, bitcast, wire, instance, output, register, async_firreg}
use Rattle.hw_model.specs.Value.{nth_type}
use Rattle.hw_model.specs.Design.{Ref, Op, RegisterForm, takes_enable}
use Rattle.std.specs.Prelude.{◌&&◌}
use Rattle.aggregate_laws.specs.Rules.{Rule, stays_one}
use Rattle.aggregate_laws.specs.OperationRules.{join_rule, mux_rule, stays_rule, register_rule, register_stays_rule}
use Rattle.aggregate_laws.specs.Bitcasts.{bitcast_rule}
use Rattle.aggregate_laws.specs.Aggregates.{is_scalar, first_type, own_names, rule_of}

-- so many operations and these positions, for both rules
pub record IsSameShape (rule other : Rule) : Type 0 where
  pub count : rule.count ≡ other.count
  pub offset : (i : ℕ) → rule.position i ≡ other.position i

either : (b : Bool) (x x' y y' : Rule) → IsSameShape x x' → IsSameShape y y' → IsSameShape (cond b x y) (cond b x' y')
either true x x' y y' p q = p
either false x x' y y' p q = q

module _ (o : Op) (rs : List Ref) where
  stays : IsSameShape (stays_rule (record o { operands = rs })) (stays_rule o)
  stays = record { count = refl; offset = λ i. refl }

  registers : (f : RegisterForm) → IsSameShape (cond (is_scalar (first_type o)) (register_stays_rule (record o { operands = rs }) f) (register_rule (record o { operands = rs }) f (own_names (record o { operands = rs }))))
      (cond (is_scalar (first_type o)) (register_stays_rule o f) (register_rule o f (own_names o)))
  registers f =
      either (is_scalar (first_type o)) (register_stays_rule (record o { operands = rs }) f) (register_stays_rule o f) (register_rule (record o { operands = rs }) f (own_names (record o { operands = rs }))) (register_rule o f (own_names o))
      (record { count = refl; offset = λ i. refl }) (record { count = refl; offset = λ i. refl })

pub same_shape : (named : Op → Kind) (o : Op) (rs : List Ref) (kind : Kind) → IsSameShape (rule_of named (record o { operands = rs }) kind) (rule_of named o kind)
same_shape named o rs mux =
    either (is_scalar (first_type o)) (stays_rule (record o { operands = rs })) (stays_rule o) (mux_rule (record o { operands = rs })) (mux_rule o) (stays o rs) (record { count = refl; offset = λ i. refl })
same_shape named o rs wire =
    either (is_scalar (first_type o)) (stays_rule (record o { operands = rs })) (stays_rule o) (join_rule (record o { operands = rs }) (own_names (record o { operands = rs }))) (join_rule o (own_names o)) (stays o rs)
    (record { count = refl; offset = λ i. refl })
same_shape named o rs bitcast =
    either (is_scalar (first_type o) && is_scalar (nth_type o.types 0)) (stays_rule (record o { operands = rs })) (stays_rule o) (bitcast_rule (record o { operands = rs }) (nth_type o.types 0))
    (bitcast_rule o (nth_type o.types 0)) (stays o rs)
    (record { count = refl; offset = λ i. refl })
same_shape named o rs (register f r) = registers o rs (record { has_enable = takes_enable f; reset = r })
same_shape named o rs async_firreg = registers o rs (record { has_enable = false; reset = sync_reset })
same_shape named o rs kind = record { count = refl; offset = λ i. refl }

-- where the leaves are results of one operation, they are so by their numbers
pub position_of_one : (named : Op → Kind) (o : Op) → stays_one o ≡ true → (i : ℕ) → (rule_of named o o.kind).position i ≡ i
position_of_one named o one i = by_kind o.kind one
  where
    by_kind : (kind : Kind) → stays_one (record o { kind = kind }) ≡ true → (rule_of named o kind).position i ≡ i
    by_kind (instance x) h = refl
    by_kind output h = refl
    by_kind kind h = cc
