use Rattle.std.proofs.Common.{◌≡◌, ℕ, ◌+◌, ◌++◌, ◌∷◌, [], Vec, Global, map, length, decimal, arith, ap, ◌∙◌}
use Rattle.std.specs.Prelude.{slice_get}
use Rattle.mlir_printer.proofs.names.Numbered.{known_push}
use Rattle.mlir_printer.proofs.numerals.Numerals.reach.Goals as goal

pub invariant_of-self-2 : goal.invariant_of-self-2
invariant_of-self-2 c =
    let self = c.args.self.now in
    let texts = self.texts.items in
    let last : c.args.number ≡ length texts = omega (arith, c.requires, c.if-number-len.false, c.len.ensures) in
    let digits : c.in_ok-text.text.items ≡ decimal (length texts) =
    c.in_ok-text.ensures.items ∙ c.as_bytes.ensures.value ∙ c.format.ensures.text ∙ ap decimal last in
    let items : c.push_reserved.new.self.items ≡ texts ++ c.in_ok-text.text ∷ [] =
    c.push_reserved.ensures.items ∙ ap (λ l. l ++ c.in_ok-text.text ∷ []) c.reserve.ensures.items in
    let more : length c.push_reserved.new.self.items ≡ length texts + 1 = omega (arith, c.push_reserved.ensures.len, c.reserve.ensures.len) in
    record {
      spelled = λ n lt. ap (λ l. slice_get (map (λ (text : Vec ℕ Global). text.items) l) n) items
          ∙ known_push (λ (text : Vec ℕ Global). text.items) decimal texts c.in_ok-text.text self.spelled digits n (omega (arith, lt, more));
    }
