use Rattle.std.proofs.Common.{◌≡◌, ◌++◌, ◌+◌, suc, [], length, take, replicate, ap, sym, subst, ◌∙◌, arith}
use Rattle.std.proofs.lemmas.List.{length-map, length-replicate, replicate-append-replicate}
use Rattle.ir_store.specs.Designs.{design_of, modules_of, module_of, numbered_module, port_of}
use Rattle.graphs.specs.Graphs.{lists_of}
use Rattle.port_checks.specs.ResetPorts.{port_count}
use Rattle.port_checks.proofs.Numbering.{HaveStarts, no_starts, more_starts, all_starts, count_next}
use Rattle.graphs.proofs.Marking.{length-lists}
use Rattle.ir_store.proofs.StoredModules.{stored_at}
use Rattle.port_checks.proofs.numbers.port_row.Goals as goal

pub loop-number-init : goal.loop-number-init
loop-number-init c = record {
  starts = subst (HaveStarts (design_of c.args.design.now) 0) (sym c.new-starts.ensures.items) (no_starts (design_of c.args.design.now));
  joined = ap lists_of c.new-joined.ensures.items;
}

pub loop-number-preserved : goal.loop-number-preserved
loop-number-preserved c =
    let d = design_of c.args.design.now in
    let n = c.loop-number.number in
    let m = numbered_module (module_of c.module.result.now) in
    let joined = c.loop-number.joined.items in
    let next : suc n ≡ n + 1 = omega arith in
    let size : length joined ≡ port_count (take n d) =
    sym (length-lists joined) ∙ ap length c.loop-number.invariant.joined ∙ length-replicate (port_count (take n d)) [] in
    let start : c.in_ok-count_of.field-0 ≡ port_count (take n d) = c.in_ok-count_of.ensures ∙ ap length c.as_slice.ensures.value ∙ size in
    let count : port_count (take (n + 1) d) ≡ port_count (take n d) + length m.ports =
    ap (λ k. port_count (take k d)) (sym next) ∙ count_next d n m (stored_at (modules_of c.args.design.now) n (module_of c.module.result.now) c.module.ensures) in
    let more : c.len.result ≡ length m.ports =
    omega (arith, c.len.ensures, c.module.result.now.ports.ports.ok.0, length-map c.module.result.now.ports.ports.items port_of) in
    record {
      starts =
          subst (λ k. HaveStarts d k c.push.new.self.items) next
          (subst (HaveStarts d (suc n)) (sym c.in_ok-push.ensures.items) (more_starts d n c.loop-number.starts.items c.in_ok-count_of.field-0 c.loop-number.invariant.starts start));
      joined =
          c.in_ok-push_ports.ensures
          ∙ ap (λ ls. ls ++ replicate c.len.result []) c.loop-number.invariant.joined
          ∙ replicate-append-replicate (port_count (take n d)) c.len.result []
          ∙ ap (λ k. replicate (port_count (take n d) + k) []) more
          ∙ ap (λ k. replicate k []) (sym count);
    }

pub returns-clause-starts : goal.returns-clause-starts
returns-clause-starts c =
    let d = design_of c.args.design.now in
    let n = c.loop-number.number in
    let joined = c.loop-number.joined.items in
    let size : length joined ≡ port_count (take n d) =
    sym (length-lists joined) ∙ ap length c.loop-number.invariant.joined ∙ length-replicate (port_count (take n d)) [] in
    let start : c.in_ok-count_of-2.field-0 ≡ port_count (take n d) = c.in_ok-count_of-2.ensures ∙ ap length c.as_slice-2.ensures.value ∙ size in
    let all : n ≡ length d =
    omega (arith, c.loop-number-test.false, c.loop-number.auto.number-end, c.module_count-number-end.ensures, length-map (modules_of c.args.design.now) numbered_module) in
    all_starts d c.push-2.new.self.items
    (subst (λ k. HaveStarts d (suc k) c.push-2.new.self.items) all
    (subst (HaveStarts d (suc n)) (sym c.in_ok-push-2.ensures.items) (more_starts d n c.loop-number.starts.items c.in_ok-count_of-2.field-0 c.loop-number.invariant.starts start)))
