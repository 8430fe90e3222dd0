use Rattle.std.proofs.Common.{sym, ap, ◌∙◌, arith}
use Rattle.sched_core.specs.Table.{Table, state_of}
use Rattle.sched_core.specs.Views.{table_of}
use Rattle.sched_core.proofs.Shapes.{leaf-le}
use Rattle.sched_core.proofs.WorkerWrites.{pass-writes}
use Rattle.sched_core.proofs.Openings.{through, drawn_by}
use Rattle.sched_core.proofs.sched.Sched.pass.Goals as goal

pub overflow_add-self : goal.overflow_add-self
overflow_add-self c =
    let t = table_of c.self.inside in
    omega (arith, leaf-le t c.self.invariant, c.self.invariant.positions.modules)

pub invariant_of-self : goal.invariant_of-self
invariant_of-self c =
    (through c.self.view_is c.requires.may (λ may.
    pass-writes (table_of c.self.inside) c.args.w c.worker-worker.result c.self.invariant may (drawn_by c.self.view_is c.requires.past)
    (c.worker-worker.ensures ∙ ap (λ (s : Table). (state_of s).worker c.args.w) (sym c.self.view_is)))).0

pub returns : goal.returns
returns c =
    (through c.self.view_is c.requires.may (λ may.
    pass-writes (table_of c.self.inside) c.args.w c.worker-worker.result c.self.invariant may (drawn_by c.self.view_is c.requires.past)
    (c.worker-worker.ensures ∙ ap (λ (s : Table). (state_of s).worker c.args.w) (sym c.self.view_is)))).1
