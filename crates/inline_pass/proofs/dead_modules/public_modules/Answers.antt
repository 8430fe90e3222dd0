use Rattle.std.proofs.Common.{◌≡◌, length, ap, ◌∙◌, arith}
use Rattle.std.proofs.lemmas.List.{length-map}
use Rattle.ir_store.specs.Designs.{design_of, modules_of, module_of, numbered_module}
use Rattle.inline_pass.proofs.PublicNumbers.{stored_at, public_more, public_same, public_all}
use Rattle.inline_pass.proofs.dead_modules.public_modules.Goals as goal
use Rattle.inline_pass.proofs.dead_modules.public_modules.Goals.{then-not-module+in_ok-push, else-not-module}

pub loop-number-preserved : goal.loop-number-preserved
loop-number-preserved c =
    elim c.if-not-module.branch [
      | then-not-module+in_ok-push w ↦
          public_more (design_of c.args.design.now) c.loop-number.number (numbered_module (module_of c.module.result.now))
          (stored_at (modules_of c.args.design.now) c.loop-number.number (module_of c.module.result.now) c.module.ensures) c.loop-number.numbers.items c.loop-number.invariant
          c.if-not-module.numbers.items w.if-not-module.true (ap (λ v. v.items) w.numbers-is ∙ w.in_ok-push.ensures.items)
      | else-not-module w ↦
          let same : c.if-not-module.numbers.items ≡ c.loop-number.numbers.items = ap (λ v. v.items) w.numbers-is in
          public_same (design_of c.args.design.now) c.loop-number.number (numbered_module (module_of c.module.result.now))
          (stored_at (modules_of c.args.design.now) c.loop-number.number (module_of c.module.result.now) c.module.ensures) c.if-not-module.numbers.items
          (rw same c.loop-number.invariant) w.if-not-module.false
    ]

pub returns : goal.returns
returns c =
    let size : length (design_of c.args.design.now) ≡ length (modules_of c.args.design.now) = length-map (modules_of c.args.design.now) numbered_module in
    public_all (design_of c.args.design.now) c.loop-number.number c.loop-number.numbers.items (omega (arith, c.module_count-number-end.ensures)) c.loop-number.invariant
