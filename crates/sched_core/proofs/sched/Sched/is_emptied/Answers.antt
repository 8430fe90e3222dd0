use Rattle.std.proofs.Common.{◌≡◌, ℕ, ◌↔◌, [], IsTrue, get_or, sym, ap, subst, ◌∙◌}
use Rattle.std.specs.List.{list_all}
use Rattle.sched_core.specs.declared.parts.Fill.TheVariants.{Emptied}
use Rattle.sched_core.specs.State.{IsEdge, is_emptied}
use Rattle.sched_core.specs.Table.{Table, state_of}
use Rattle.sched_core.specs.Views.{table_of}
use Rattle.sched_core.proofs.Tested.{emptied-test}
use Rattle.sched_core.proofs.sched.Sched.is_emptied.Goals as goal

pub returns : goal.returns
returns c =
    let P : Table → Type 0 = λ s. IsTrue c.all_emptied.result ↔ ((i : ℕ) → IsEdge s.callees c.args.m i → ((state_of s).edge c.args.m i).fill ≡ Emptied) in
    subst P c.self.view_is
    (emptied-test (table_of c.self.inside) c.args.m c.all_emptied.result c.self.invariant
    (c.all_emptied.ensures ∙ ap (list_all (λ e. is_emptied e.fill)) (c.row.ensures ∙ ap (λ (s : Table). get_or s.edges c.args.m []) (sym c.self.view_is))))
