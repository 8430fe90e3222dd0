use Rattle.std.proofs.Common.{◌+◌, ◌∷◌, [], ◌++◌, drop, sym, ap, ◌∙◌}
use Rattle.ir_store.specs.Bodies.{ops_of}
use Rattle.ir_store.specs.Numbered.{ops_by_position}
use Rattle.body_index.specs.OpIndexes.{op_view}
use Rattle.module_names.specs.ModuleNames.{register_name, register_names}
use Rattle.module_names.proofs.NameLists.{one_made, register_next, no_register_next}
use Rattle.module_names.proofs.names.push_register_names.Goals as goal
use Rattle.module_names.proofs.names.push_register_names.Goals.{then-is_register+in_ok-register_name+in_ok-push, else-is_register}

pub loop-position-preserved : goal.loop-position-preserved
loop-position-preserved c =
    let b = c.in_ok-ops.ops.body.now in
    let os = ops_by_position (ops_of b) in
    let o = op_view b c.op_at-op.result in
    let i = c.loop-position.position in
    let made = c.loop-position.names.items in
    elim c.if-is_register.branch [
      | then-is_register+in_ok-register_name+in_ok-push w ↦
          one_made made c.if-is_register.names.items (c.args.names.now.items ++ register_names os) (register_names (drop i os)) (register_names (drop (i + 1) os)) (register_name o.name)
          (ap (λ v. v.items) w.names-is ∙ w.in_ok-push.ensures.items ∙ ap (λ n. made ++ n ∷ []) w.in_ok-register_name.ensures)
          (register_next os i o c.op_at-op.ensures (sym c.is_register.ensures ∙ w.if-is_register.true)) c.loop-position.invariant
      | else-is_register w ↦
          ap (λ v. v.items ++ register_names (drop (i + 1) os)) w.names-is
          ∙ ap (λ xs. made ++ xs) (sym (no_register_next os i o c.op_at-op.ensures (sym c.is_register.ensures ∙ w.if-is_register.false))) ∙ c.loop-position.invariant
    ]
