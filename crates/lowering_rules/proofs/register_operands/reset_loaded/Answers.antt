use Rattle.std.proofs.Common.{◌≡◌, ◌∷◌, [], ◌++◌, length, ap, ◌∙◌, arith}
use Rattle.std.proofs.lemmas.List.{length-map}
use Rattle.aggregate_laws.specs.Leaves.{part}
use Rattle.aggregate_laws.specs.OperationRules.{argument}
use Rattle.lowering_rules.specs.Reading.{new_refs}
use Rattle.lowering_rules.specs.LeafTables.{leaves_at, arguments_of}
use Rattle.lowering_rules.proofs.ResetOperands.{of_four, refs_more, first_ref, joined_four}
use Rattle.lowering_rules.proofs.register_operands.reset_loaded.Goals as goal

pub returns : goal.returns
returns c =
    let args = arguments_of c.args.arguments in
    let i = c.args.leaf in
    let size = length-map c.args.arguments.operands.now (leaves_at c.args.arguments.table.now) in
    let count : length args ≡ 4 = omega (arith, size, c.in-len4.len_at_least, c.in-len4.len_below) in
    let r0 = part (argument 0 args) i in
    let p0 : new_refs c.push.new.self.items ≡ r0 ∷ [] =
    first_ref c.new-values.result.items c.push.new.self.items c.part.result r0 c.new-values.ensures.items c.in_ok-push.ensures.items (c.part.ensures ∙ ap (λ rs. part rs i) c.nth.ensures) in
    let p1 : new_refs c.extend_from_slice.new.self.items ≡ (r0 ∷ []) ++ argument 1 args =
    refs_more c.push.new.self.items c.nth-2.result.now c.extend_from_slice.new.self.items (r0 ∷ []) (argument 1 args) c.in_ok-extend_from_slice.ensures.items p0 c.nth-2.ensures in
    let p2 : new_refs c.extend_from_slice-2.new.self.items ≡ ((r0 ∷ []) ++ argument 1 args) ++ argument 2 args =
    refs_more c.extend_from_slice.new.self.items c.nth-3.result.now c.extend_from_slice-2.new.self.items ((r0 ∷ []) ++ argument 1 args) (argument 2 args) c.in_ok-extend_from_slice-2.ensures.items p1 c.nth-3.ensures in
    refs_more c.extend_from_slice-2.new.self.items (c.part-2.result ∷ []) c.push-2.new.self.items (((r0 ∷ []) ++ argument 1 args) ++ argument 2 args) (part (argument 3 args) i ∷ []) c.in_ok-push-2.ensures.items p2
    (ap (λ r. r ∷ []) (c.part-2.ensures ∙ ap (λ rs. part rs i) c.nth-4.ensures))
    ∙ joined_four r0 (argument 1 args) (argument 2 args) (part (argument 3 args) i ∷ [])
    ∙ of_four args i count
