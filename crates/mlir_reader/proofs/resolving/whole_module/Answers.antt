-- The parts of a module are those of its text.
use Rattle.std.proofs.Common.{Bool, true, false, ◌≡◌, refl, ap, sym, ◌∙◌, cond, map, ◌++◌, ◌∷◌, []}
use Rattle.std.specs.Prelude.{◌||◌}
use Rattle.ir_store.specs.Bodies.{ops_of}
use Rattle.ir_store.specs.Designs.{ports_in}
use Rattle.ir_store.specs.DictionaryViews.{entries_in}
use Rattle.ir_store.specs.Numbered.{op_by}
use Rattle.opcode.specs.declared.listed.Listed.TheVariants as listed
use Rattle.mlir_reader.specs.Resolving.{no_meaning, port_meanings, meanings, kept_entries, ends_with_output, has_outputs, left_out_output}
use Rattle.mlir_reader.proofs.Modules.{module_is}
use Rattle.mlir_reader.proofs.resolving.whole_module.Goals.{then-body, else-body}
use Rattle.mlir_reader.proofs.resolving.whole_module.Goals as goal

-- one end or the other
either : (a b c d e : Bool) → a ≡ c → b ≡ d → e ≡ (a || b) → e ≡ (c || d)
either a b c d e p q r = r ∙ ap (λ x. x || b) p ∙ ap (λ x. c || x) q

first_end : (a b e : Bool) → a ≡ true → e ≡ a → e ≡ (a || b)
first_end a b e p q = q ∙ p ∙ sym (ap (λ x. x || b) p)

other_end : (a b e : Bool) → a ≡ false → e ≡ b → e ≡ (a || b)
other_end a b e p q = q ∙ sym (ap (λ x. x || b) p)

pub returns : goal.returns
returns c t h b =
    let body = c.args.body.operations in
    let given : c.if-body.ends ≡ (body.ends || c.args.head.outputs) = elim c.if-body.branch [
      | then-body w ↦ first_end body.ends c.args.head.outputs c.if-body.ends w.if-body.true w.ends-is
      | else-body w ↦ other_end body.ends c.args.head.outputs c.if-body.ends w.if-body.false w.ends-is
    ] in
    let ends = either body.ends c.args.head.outputs (ends_with_output t.operations) (has_outputs t.ports) c.if-body.ends b.operations.ends h.outputs given in
    let before = map (op_by (λ i. i)) (ops_of body.body) in
    let closed = c.in_ok-completed.ensures.ops ∙ ap (λ location. cond c.if-body.ends before (before ++ left_out_output location ∷ [])) b.close in
    let kept = c.in_ok-dictionary.ensures ∙ ap (kept_entries listed.HwModule) b.dictionary in
    rw (h.symbol, h.private, h.location)
    (module_is t (ops_of body.body) (ops_of c.in_ok-completed.completed) (meanings t) no_meaning (port_meanings t.ports) c.if-body.ends
    (ports_in c.args.head.ports) (entries_in c.in_ok-dictionary.dictionary) refl refl h.ports refl kept
    b.operations.body.ops b.operations.body.ids closed c.in_ok-completed.ensures.ids ends)
