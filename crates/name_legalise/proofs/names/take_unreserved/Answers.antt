use Rattle.std.proofs.Common.{◌≡◌, ◌++◌, ◌∷◌, [], length, subst, ap, arith}
use Rattle.std.specs.Prelude.{IfOk, OnOk, OnErr}
use Rattle.fresh_names.specs.Fresh.{free_name}
use Rattle.fresh_names.specs.TakenViews.{taken_names}
use Rattle.name_legalise.specs.Kept.{with_reserved}
use Rattle.name_legalise.proofs.Taking.{took_once, once_last, took_twice, on_second, with_more}
use Rattle.name_legalise.proofs.names.take_unreserved.Goals as goal

pub take-requires : goal.take-requires
take-requires c = omega (arith, c.requires, with_more (taken_names c.args.taken.now) c.args.wanted.now)

pub take-requires-2 : goal.take-requires-2
take-requires-2 c =
    let twice = took_twice (taken_names c.args.taken.now) (taken_names c.take.new.self) c.args.wanted.now c.name.result.now c.in_ok-id.id.index c.in_ok-id.ensures.ok c.in_ok-id.ensures.id c.name.ensures c.if-not-is_reserved.ensures in
    omega (arith, c.requires, ap length twice)

pub returns-then-not-is_reserved-clause-ok : goal.returns-then-not-is_reserved-clause-ok
returns-then-not-is_reserved-clause-ok c =
    took_once (taken_names c.args.taken.now) (taken_names c.take.new.self) c.args.wanted.now c.name.result.now c.in_ok-id.id.index c.in_ok-id.ensures.ok c.in_ok-id.ensures.id c.name.ensures c.if-not-is_reserved.ensures

pub returns-then-not-is_reserved-clause-id : goal.returns-then-not-is_reserved-clause-id
returns-then-not-is_reserved-clause-id c =
    once_last (taken_names c.args.taken.now) (taken_names c.take.new.self) c.args.wanted.now c.name.result.now c.in_ok-id.id.index c.in_ok-id.ensures.ok c.in_ok-id.ensures.id c.name.ensures c.if-not-is_reserved.ensures

pub returns-clause-ok : goal.returns-clause-ok
returns-clause-ok c =
    let twice = took_twice (taken_names c.args.taken.now) (taken_names c.take.new.self) c.args.wanted.now c.name.result.now c.in_ok-id.id.index c.in_ok-id.ensures.ok c.in_ok-id.ensures.id c.name.ensures c.if-not-is_reserved.ensures in
    subst (λ names. OnOk c.take-2.result (taken_names c.take-2.new.self ≡ names ++ free_name names c.args.wanted.now ∷ [])) twice c.take-2.ensures.ok

pub returns-clause-id : goal.returns-clause-id
returns-clause-id c =
    let twice = took_twice (taken_names c.args.taken.now) (taken_names c.take.new.self) c.args.wanted.now c.name.result.now c.in_ok-id.id.index c.in_ok-id.ensures.ok c.in_ok-id.ensures.id c.name.ensures c.if-not-is_reserved.ensures in
    subst (λ names. IfOk c.take-2.result (λ id. id.index ≡ length names)) twice c.take-2.ensures.id

pub returns-clause-err : goal.returns-clause-err
returns-clause-err c =
    let twice = took_twice (taken_names c.args.taken.now) (taken_names c.take.new.self) c.args.wanted.now c.name.result.now c.in_ok-id.id.index c.in_ok-id.ensures.ok c.in_ok-id.ensures.id c.name.ensures c.if-not-is_reserved.ensures in
    on_second c.take-2.result (taken_names c.take-2.new.self ≡ taken_names c.args.taken.now) (taken_names c.take-2.new.self ≡ with_reserved (taken_names c.args.taken.now) c.args.wanted.now)
    (subst (λ names. OnErr c.take-2.result (taken_names c.take-2.new.self ≡ names)) twice c.take-2.ensures.err)
