use Rattle.std.proofs.Common.{◌≡◌, ◌≤◌, ◌++◌, length, take, replicate, sym, ap, ◌∙◌, arith}
use Rattle.std.proofs.lemmas.List.{append-nil, append_assoc, take_more, take_all, replicate_more}
use Rattle.ir_store.proofs.cells.Cells.push_all.Goals as goal

pub loop-value-init : goal.loop-value-init
loop-value-init c = (sym (append-nil c.args.self.now.values.items), (sym (append-nil c.args.self.now.owners.items), omega arith))

pub push-requires : goal.push-requires
push-requires c = omega (arith, c.loop-value.invariant.1.1, c.requires, c.loop-value-test.true)

pub loop-value-preserved : goal.loop-value-preserved
loop-value-preserved c = (
  rw (c.push.ensures.values, c.loop-value.invariant.0)
      (append_assoc c.args.self.now.values.items (take c.loop-value.value-index c.args.list.now) _ ∙ ap (λ zs. c.args.self.now.values.items ++ zs) (sym (take_more c.args.list.now c.loop-value.value-index _ c.loop-value-test.true))),
  (
    rw (c.push.ensures.owners, c.loop-value.invariant.1.0)
        (append_assoc c.args.self.now.owners.items (replicate c.loop-value.value-index c.args.owner) _ ∙ ap (λ zs. c.args.self.now.owners.items ++ zs) (replicate_more c.loop-value.value-index c.args.owner)),
    omega (arith, c.push.ensures.room, c.loop-value.invariant.1.1),
  ),
)

pub returns-clause-values : goal.returns-clause-values
returns-clause-values c =
    let all : length c.args.list.now ≤ c.loop-value.value-index = omega (arith, c.loop-value-test.false) in
    c.loop-value.invariant.0 ∙ ap (λ zs. c.args.self.now.values.items ++ zs) (take_all c.loop-value.value-index c.args.list.now all)

pub returns-clause-owners : goal.returns-clause-owners
returns-clause-owners c =
    let all : c.loop-value.value-index ≡ length c.args.list.now = omega (arith, c.loop-value-test.false, c.loop-value.auto.value-index-end) in
    c.loop-value.invariant.1.0 ∙ ap (λ n. c.args.self.now.owners.items ++ replicate n c.args.owner) all

pub returns-clause-room : goal.returns-clause-room
returns-clause-room c = omega (arith, c.loop-value.invariant.1.1, c.loop-value-test.false, c.loop-value.auto.value-index-end)
