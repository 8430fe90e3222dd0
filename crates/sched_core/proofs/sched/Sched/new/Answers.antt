use Rattle.std.proofs.Common.{refl}
use Rattle.sched_core.specs.Views.{table_of}
use Rattle.sched_core.proofs.FirstTable.{new-kept, new-state}
use Rattle.sched_core.proofs.sched.Sched.new.Goals as goal

pub invariant_of-result : goal.invariant_of-result
invariant_of-result c =
    new-kept (λ v. v.items) c.args.callees.now (table_of record {
      callees = c.in_ok-clone_callees.field-0;
      leaves = c.in_ok-leaf_modules.field-0;
      uses = c.in_ok-uses.field-0;
      stages = c.in_ok-waiting_stages.field-0;
      edges = c.in_ok-new_edges.field-0;
      pending_edges = c.in_ok-lengths.field-0;
      leaf = 0;
      splits = 0;
      workers = c.in_ok-first_worker.field-0;
      heirs = c.in_ok-worker_numbers.field-0;
      busy = c.in_ok-no_modules.field-0;
      untold = c.in_ok-no_edges.field-0;
    }) (record {
      callees = c.in_ok-clone_callees.ensures {u = tt};
      leaf_modules = c.in_ok-leaf_modules.ensures {u = tt};
      size = (c.in_ok-uses.ensures {u = tt}).len;
      uses = (c.in_ok-uses.ensures {u = tt}).counts;
      stages = c.in_ok-waiting_stages.ensures {u = tt};
      edges = c.in_ok-new_edges.ensures {u = tt};
      pending_edges = c.in_ok-lengths.ensures {u = tt};
      leaf = refl;
      splits = refl;
      workers = c.in_ok-first_worker.ensures {u = tt};
      many = (c.in_ok-worker_numbers.ensures {u = tt}).len;
      heirs = (c.in_ok-worker_numbers.ensures {u = tt}).numbers;
      busy = c.in_ok-no_modules.ensures {u = tt};
      untold = c.in_ok-no_edges.ensures {u = tt};
    }) c.requires

pub returns : goal.returns
returns c =
    new-state (λ v. v.items) c.args.callees.now (table_of record {
      callees = c.in_ok-clone_callees.field-0;
      leaves = c.in_ok-leaf_modules.field-0;
      uses = c.in_ok-uses.field-0;
      stages = c.in_ok-waiting_stages.field-0;
      edges = c.in_ok-new_edges.field-0;
      pending_edges = c.in_ok-lengths.field-0;
      leaf = 0;
      splits = 0;
      workers = c.in_ok-first_worker.field-0;
      heirs = c.in_ok-worker_numbers.field-0;
      busy = c.in_ok-no_modules.field-0;
      untold = c.in_ok-no_edges.field-0;
    }) (record {
      callees = c.in_ok-clone_callees.ensures {u = tt};
      leaf_modules = c.in_ok-leaf_modules.ensures {u = tt};
      size = (c.in_ok-uses.ensures {u = tt}).len;
      uses = (c.in_ok-uses.ensures {u = tt}).counts;
      stages = c.in_ok-waiting_stages.ensures {u = tt};
      edges = c.in_ok-new_edges.ensures {u = tt};
      pending_edges = c.in_ok-lengths.ensures {u = tt};
      leaf = refl;
      splits = refl;
      workers = c.in_ok-first_worker.ensures {u = tt};
      many = (c.in_ok-worker_numbers.ensures {u = tt}).len;
      heirs = (c.in_ok-worker_numbers.ensures {u = tt}).numbers;
      busy = c.in_ok-no_modules.ensures {u = tt};
      untold = c.in_ok-no_edges.ensures {u = tt};
    })
