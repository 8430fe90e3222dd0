use Rattle.std.proofs.lemmas.Result.{on_ok_weaker}
use Rattle.ir_store.specs.Designs.{modules_of}
use Rattle.inline_pass.specs.Received.{held}
use Rattle.inline_pass.proofs.Receiving.{received_inlinable, received_flat}
use Rattle.inline_pass.proofs.received.flatten_received.Goals as goal

pub by_number-requires : goal.by_number-requires
by_number-requires c = c.requires.2.many

pub inline_into-requires : goal.inline_into-requires
inline_into-requires c =
    received_inlinable c.requires.0 c.requires.1 (modules_of c.args.headers.now) c.args.numbers.now c.args.received.now c.args.body.now c.requires.2 (held c.in_ok-bodies.bodies) c.in_ok-bodies.ensures

pub returns : goal.returns
returns c =
    on_ok_weaker c.inline_into.result
    (λ made d k one. received_flat d k (modules_of c.args.headers.now) c.args.numbers.now c.args.received.now c.args.body.now one (held c.in_ok-bodies.bodies) c.in_ok-bodies.ensures c.inline_into.new.body made)
    c.inline_into.ensures
