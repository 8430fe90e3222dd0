use Rattle.std.proofs.Common.{◌↔◌, ◌<◌, IsTrue, length, sym, subst, arith}
use Rattle.std.specs.Prelude.{◌==◌}
use Rattle.std.proofs.lemmas.List.{get_or_read}
use Rattle.sched_core.specs.State.{IsThere, IsFree}
use Rattle.sched_core.specs.Table.{Table, state_of}
use Rattle.sched_core.specs.Views.{table_of}
use Rattle.sched_core.proofs.Tested.{free-test, there-lt}
use Rattle.sched_core.proofs.sched.Sched.is_free.Goals as goal

pub returns : goal.returns
returns c =
    let t = table_of c.self.inside in
    let there = subst (λ (s : Table). IsThere (state_of s) c.args.w) (sym c.self.view_is) c.requires in
    let within : c.args.w < length c.self.inside.busy.items = omega (arith, there-lt t c.args.w c.self.invariant there, c.self.invariant.positions.busy) in
    subst (λ (s : Table). IsTrue (c.index.result.now == 0) ↔ IsFree (state_of s) c.args.w) c.self.view_is
    (free-test t c.args.w c.index.result.now c.self.invariant there (get_or_read c.self.inside.busy.items _ _ within c.index.ensures 0))
