use Rattle.std.proofs.Common.{◌≡◌, ◌-◌, true, set, refl, ap, subst, arith}
use Rattle.std.specs.Vec.{with_item}
use Rattle.ir_store.specs.Bodies.{ids_of}
use Rattle.canonicalise.specs.Runs.{IsBefore}
use Rattle.canonicalise.specs.declared.runs.Run.{Run}
use Rattle.canonicalise.specs.declared.runs.Runs.{Runs}
use Rattle.canonicalise.proofs.Linked.{extended, extended_joins}
use Rattle.canonicalise.proofs.runs.Runs.extend.Goals as goal

pub returns-clause-linked : goal.returns-clause-linked
returns-clause-linked c =
    let run : Run = record { last = c.args.op; size = c.saturating_add.result; whole = true } in
    let new : Runs = record { of = c.put.new.self.of; runs = with_item c.put.new.self.runs (c.len-number.result - 1) run; long = c.put.new.self.long } in
    let count = c.requires.before.1.count in
    let at : c.requires.before.0 ≡ c.len-number.result - 1 = omega (arith, count, c.len-number.ensures, c.args.self.now.runs.ok.0) in
    extended c.args.self.now new (ids_of c.args.body.now) c.args.op (c.len-number.result - 1) c.requires.linked c.requires.none c.in_ok-put.ensures.of c.in_ok-put.ensures.others c.in_ok-put.ensures.only run refl
    c.args.run (subst (λ n. IsBefore c.args.self.now (ids_of c.args.body.now) c.args.op.index n c.args.run) at c.requires.before.1)
    (ap (λ xs. set xs (c.len-number.result - 1) run) c.put.ensures.runs)

pub returns-clause-joins : goal.returns-clause-joins
returns-clause-joins c =
    let run : Run = record { last = c.args.op; size = c.saturating_add.result; whole = true } in
    let new : Runs = record { of = c.put.new.self.of; runs = with_item c.put.new.self.runs (c.len-number.result - 1) run; long = c.put.new.self.long } in
    let count = c.requires.before.1.count in
    let at : c.requires.before.0 ≡ c.len-number.result - 1 = omega (arith, count, c.len-number.ensures, c.args.self.now.runs.ok.0) in
    extended_joins c.args.self.now new (ids_of c.args.body.now) c.args.op (c.len-number.result - 1) c.requires.linked c.requires.none c.in_ok-put.ensures.of c.in_ok-put.ensures.others c.in_ok-put.ensures.only run refl
    c.args.run (subst (λ n. IsBefore c.args.self.now (ids_of c.args.body.now) c.args.op.index n c.args.run) at c.requires.before.1)
    (ap (λ xs. set xs (c.len-number.result - 1) run) c.put.ensures.runs)
