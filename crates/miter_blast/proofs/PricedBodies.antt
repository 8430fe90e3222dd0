-- The price of a flat module is that of its body.
use Rattle.std.proofs.Common.{◌≡◌, ◌+◌, ap, ◌∙◌}
use Rattle.hw_model.specs.Types.{Name}
use Rattle.hw_model.specs.Design.{Module, Design}
use Rattle.flat_module_laws.specs.FlatPrices.{op_price, module_price}
use Rattle.flat_module_laws.specs.Sides.{IsPlain}
use Rattle.flat_module_gates.proofs.PlainOrders.{plain_has_order}
use Rattle.miter_blast.specs.ComparisonPrices.{register_price, copy_price}
use Rattle.miter_blast.proofs.RegisterCosts.{body_registers_total}
use Rattle.miter_blast.specs.BodyPrices.{body_price}
use Rattle.miter_blast.proofs.CappedSums.{total_both}

pub price_of_body : (d : Design) (top : Name) (m : Module) → IsPlain d top m → copy_price d top m ≡ body_price m.ports m.body
price_of_body d top m plain =
    let order = plain_has_order d top m plain in
    let registers = body_registers_total d top m order.0 (record { plain = plain; stands = order.1 }) in
    ap (λ k. module_price m + k) registers ∙ total_both (op_price m.ports m.body) register_price m.body
