use Rattle.ir_store.specs.Designs.{design_of, module_of, numbered_module}
use Rattle.miter_blast.specs.Pairs.{HaveSamePorts, no_left, no_right, ports}
use Rattle.miter_blast.proofs.Finding.{below_of, found_here, not_told, so_told}
use Rattle.miter_blast.proofs.pair.pair_of.Goals as goal

pub module_in-one-requires : goal.module_in-one-requires
module_in-one-requires c = below_of (design_of c.args.left.now.design) c.in-Some.first c.in-Some.ensures.0 c.in-Some.ensures.1

pub module_in-two-requires : goal.module_in-two-requires
module_in-two-requires c = below_of (design_of c.args.right.now.design) c.in-Some-find_in.second c.in-Some-find_in.ensures.0 c.in-Some-find_in.ensures.1

pub returns-in_default-clause-refused : goal.returns-in_default-clause-refused
returns-in_default-clause-refused c =
    rw c.at_file.ensures (no_left c.in_default.ensures)

pub returns-in_default-find_in-clause-refused : goal.returns-in_default-find_in-clause-refused
returns-in_default-find_in-clause-refused c =
    rw c.at_file-in_default-find_in.ensures
    (no_right c.in-Some.ensures.0 c.in-Some.ensures.2 c.in_default-find_in.ensures)

pub returns-then-not-branch-clause-refused : goal.returns-then-not-branch-clause-refused
returns-then-not-branch-clause-refused c =
    let m = numbered_module (module_of c.module_in-one.result.now) in
    let n = numbered_module (module_of c.module_in-two.result.now) in
    rw c.at_module.ensures
    (ports m n (record {
      one = found_here (design_of c.args.left.now.design) c.args.a.now c.in-Some.first m c.in-Some.ensures c.module_in-one.ensures;
      two = found_here (design_of c.args.right.now.design) c.args.b.now c.in-Some-find_in.second n c.in-Some-find_in.ensures c.module_in-two.ensures;
    })
    (not_told c.in_ok-have_same_ports.field-0 (HaveSamePorts m.ports n.ports) c.in_ok-have_same_ports.ensures c.if-not-branch.true))

pub returns-clause-ok : goal.returns-clause-ok
returns-clause-ok c =
    let m = numbered_module (module_of c.module_in-one.result.now) in
    let n = numbered_module (module_of c.module_in-two.result.now) in
    record {
      left = m;
      right = n;
      left_at = c.module_in-one.ensures;
      right_at = c.module_in-two.ensures;
      found = record {
        one = found_here (design_of c.args.left.now.design) c.args.a.now c.in-Some.first m c.in-Some.ensures c.module_in-one.ensures;
        two = found_here (design_of c.args.right.now.design) c.args.b.now c.in-Some-find_in.second n c.in-Some-find_in.ensures c.module_in-two.ensures;
      };
      ports = so_told c.in_ok-have_same_ports.field-0 (HaveSamePorts m.ports n.ports) c.in_ok-have_same_ports.ensures c.if-not-branch.false;
    }
