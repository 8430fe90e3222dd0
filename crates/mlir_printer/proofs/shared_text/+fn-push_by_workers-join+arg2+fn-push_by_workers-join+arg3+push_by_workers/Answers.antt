use denote.Param.Send.{sendable}
use Rattle.std.proofs.Crossing.{crosses}
use Rattle.std.proofs.Common.{◌≡◌, ◌++◌, map, ap, subst, ◌∙◌, Result}
use Rattle.std.specs.Prelude.{IfOk}
use Rattle.io_edge.proofs.byte_text.Text.TheSendSync as text
use Rattle.ir_store.specs.Designs.{module_of}
use Rattle.mlir_printer.specs.Texts.{stored_bytes}
use Rattle.mlir_printer.proofs.Sending.{module_send}
use Rattle.mlir_printer.proofs.steps.Runs.{joined_runs}
use Rattle.mlir_printer.proofs.shared_text.+fn-push_by_workers-join+arg2+fn-push_by_workers-join+arg3+push_by_workers.Goals as goal

pub join-front-requires-send-F : goal.join-front-requires-send-F
join-front-requires-send-F g c κs within = search (sendable, module_send, text.the_send, crosses) depth 40 fits 20000

pub returns : goal.returns
returns g t c =
    joined_runs c.middle.result c.args.modules.items c.split_off.new.self.items c.in_ok-others.others.items c.args.out c.in_ok-front.front c.in_ok-back.back c.push_bytes.new.self
    c.in_ok-others.ensures.items c.in_ok-others.ensures.tail
    (subst (λ (r : Result _ _). IfOk r (λ x. x ≡ c.args.out ++ stored_bytes (map module_of c.split_off.new.self.items))) c.in_ok-front.was c.join-front.ensures.first)
    (subst (λ (r : Result _ _). IfOk r (λ x. x ≡ stored_bytes (map module_of c.in_ok-others.others.items))) c.in_ok-back.was c.join-front.ensures.second)
    (c.in_ok-push_bytes.ensures.ok ∙ ap (λ b. c.in_ok-front.front ++ b) c.as_bytes.ensures)
