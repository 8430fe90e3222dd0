use Rattle.std.proofs.Common.{sym, ap, subst, ◌∙◌, ◌+◌, take, arith, [], ◌++◌}
use Rattle.std.proofs.lemmas.List.{take_all}
use Rattle.gates.specs.Circuits.{Runs}
use Rattle.ir_store.specs.Bodies.{ops_of}
use Rattle.ir_store.specs.Numbered.{ops_by_position}
use Rattle.body_index.specs.OpIndexes.{op_view}
use Rattle.flat_module_gates.specs.FlatGateLists.{word_at}
use Rattle.flat_module_gates.specs.FlatSteps.{loaded_of, content_gate_list}
use Rattle.flat_module_gates.proofs.Loading.{content_begin, content_skip, content_more, old_is}
use Rattle.flat_module_gates.proofs.registers.loaded_content.Goals as goal
use Rattle.flat_module_gates.proofs.registers.loaded_content.Goals.{then-is_register+in_ok-old+in_ok-word+in_ok-extend_from_slice, else-is_register}

pub loop-position-init : goal.loop-position-init
loop-position-init c =
    let os = ops_by_position (ops_of c.args.body.now.ops.now.body.now) in
    let words = word_at c.args.body.now.words.now.ports.items c.args.body.now.words.now.results.items in
    subst (Runs (content_gate_list (loaded_of os words) [] c.args.content.now) c.args.gates.now c.args.gates.now) (sym c.in_ok-made.ensures.items)
    (content_begin (loaded_of os words) c.args.content.now c.args.gates.now)

pub loop-position-preserved : goal.loop-position-preserved
loop-position-preserved c =
    let b = c.args.body.now.ops.now.body.now in
    let os = ops_by_position (ops_of b) in
    let words = word_at c.args.body.now.words.now.ports.items c.args.body.now.words.now.results.items in
    let o = op_view b c.op_at-op.result in
    let i = c.loop-position.position in
    elim c.if-is_register.branch [
      | then-is_register+in_ok-old+in_ok-word+in_ok-extend_from_slice w ↦
          subst (λ g. Runs (content_gate_list (loaded_of os words) (take (i + 1) os) c.args.content.now) c.args.gates.now g c.if-is_register.made.items) (sym w.gates-is)
          (content_more (loaded_of os words) os i o c.args.content.now c.args.gates.now c.loop-position.gates w.loaded_word.new.gates c.loop-position.made.items w.in_ok-word.word.items c.if-is_register.made.items
          c.op_at-op.ensures (sym c.is_register.ensures ∙ w.if-is_register.true) c.loop-position.invariant
          (subst (λ xs. Runs (loaded_of os words o xs) c.loop-position.gates w.loaded_word.new.gates w.in_ok-word.word.items)
          (w.as_slice.ensures ∙ w.in_ok-old.ensures ∙ old_is os c.args.body.now.starts.now i o c.args.content.now c.op_at-op.ensures c.args.body.now.begins) w.in_ok-word.ensures)
          (ap (λ v. v.items) w.made-is ∙ w.in_ok-extend_from_slice.ensures.items ∙ ap (λ xs. c.loop-position.made.items ++ xs) w.as_slice-then-is_register.ensures.value))
      | else-is_register w ↦
          subst (λ g. Runs (content_gate_list (loaded_of os words) (take (i + 1) os) c.args.content.now) c.args.gates.now g c.if-is_register.made.items) (sym w.gates-is)
          (subst (Runs (content_gate_list (loaded_of os words) (take (i + 1) os) c.args.content.now) c.args.gates.now c.loop-position.gates) (sym (ap (λ v. v.items) w.made-is))
          (content_skip (loaded_of os words) os i o c.args.content.now c.args.gates.now c.loop-position.gates c.loop-position.made.items c.op_at-op.ensures (sym c.is_register.ensures ∙ w.if-is_register.false) c.loop-position.invariant))
    ]

pub returns : goal.returns
returns c =
    let os = ops_by_position (ops_of c.args.body.now.ops.now.body.now) in
    let words = word_at c.args.body.now.words.now.ports.items c.args.body.now.words.now.results.items in
    subst (λ xs. Runs (content_gate_list (loaded_of os words) xs c.args.content.now) c.args.gates.now c.loop-position.gates c.loop-position.made.items)
    (take_all c.loop-position.position os (omega (arith, c.count-position-end.ensures, c.loop-position-test.false))) c.loop-position.invariant
