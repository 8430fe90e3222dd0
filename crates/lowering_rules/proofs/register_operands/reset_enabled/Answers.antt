use Rattle.std.proofs.Common.{◌≡◌, ◌∷◌, [], ◌++◌, length, ap, ◌∙◌, arith}
use Rattle.std.proofs.lemmas.List.{length-map}
use Rattle.aggregate_laws.specs.Leaves.{part}
use Rattle.aggregate_laws.specs.OperationRules.{argument}
use Rattle.lowering_rules.specs.Reading.{new_refs}
use Rattle.lowering_rules.specs.LeafTables.{leaves_at, arguments_of}
use Rattle.lowering_rules.proofs.ResetOperands.{of_five, refs_more, first_ref, joined_five}
use Rattle.lowering_rules.proofs.register_operands.reset_enabled.Goals as goal

pub returns : goal.returns
returns c =
    let args = arguments_of c.args.arguments in
    let i = c.args.leaf in
    let size = length-map c.args.arguments.operands.now (leaves_at c.args.arguments.table.now) in
    let count : length args ≡ 5 = omega (arith, size, c.in-len5.len_at_least, c.in-len5.len_below) in
    let r0 = part (argument 0 args) i in
    let p0 : new_refs c.push.new.self.items ≡ r0 ∷ [] =
    first_ref c.new-values.result.items c.push.new.self.items c.part.result r0 c.new-values.ensures.items c.in_ok-push.ensures.items (c.part.ensures ∙ ap (λ rs. part rs i) c.nth.ensures) in
    let p1 : new_refs c.extend_from_slice.new.self.items ≡ (r0 ∷ []) ++ argument 1 args =
    refs_more c.push.new.self.items c.nth-2.result.now c.extend_from_slice.new.self.items (r0 ∷ []) (argument 1 args) c.in_ok-extend_from_slice.ensures.items p0 c.nth-2.ensures in
    let p2 : new_refs c.extend_from_slice-2.new.self.items ≡ ((r0 ∷ []) ++ argument 1 args) ++ argument 2 args =
    refs_more c.extend_from_slice.new.self.items c.nth-3.result.now c.extend_from_slice-2.new.self.items ((r0 ∷ []) ++ argument 1 args) (argument 2 args) c.in_ok-extend_from_slice-2.ensures.items p1 c.nth-3.ensures in
    let p3 : new_refs c.extend_from_slice-3.new.self.items ≡ (((r0 ∷ []) ++ argument 1 args) ++ argument 2 args) ++ argument 3 args =
    refs_more c.extend_from_slice-2.new.self.items c.nth-4.result.now c.extend_from_slice-3.new.self.items (((r0 ∷ []) ++ argument 1 args) ++ argument 2 args) (argument 3 args) c.in_ok-extend_from_slice-3.ensures.items p2 c.nth-4.ensures in
    refs_more c.extend_from_slice-3.new.self.items (c.part-2.result ∷ []) c.push-2.new.self.items ((((r0 ∷ []) ++ argument 1 args) ++ argument 2 args) ++ argument 3 args) (part (argument 4 args) i ∷ []) c.in_ok-push-2.ensures.items p3
    (ap (λ r. r ∷ []) (c.part-2.ensures ∙ ap (λ rs. part rs i) c.nth-5.ensures))
    ∙ joined_five r0 (argument 1 args) (argument 2 args) (argument 3 args) (part (argument 4 args) i ∷ [])
    ∙ of_five args i count
