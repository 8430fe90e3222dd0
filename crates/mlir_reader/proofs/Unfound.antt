-- How many operands stand before the first whose name stands for nothing, one by one.
use Rattle.std.proofs.Common.{◌≡◌, ℕ, suc, ◌+◌, ◌<◌, Bool, true, false, cond, not, List, ◌∷◌, map, drop, length, get_or, ap, sym, ◌∙◌, arith}
use Rattle.std.proofs.Math.ListN.{get_or-map}
use Rattle.std.proofs.lemmas.List.{length-map, get_or_default}
use Rattle.std.specs.Prelude.{Option, Some, None, is_some, option_map}
use Rattle.mlir_reader.specs.Drafts.{found_count}
use Rattle.mlir_reader.specs.Resolving.{Meanings, Defined}
use Rattle.mlir_operations.specs.Views.{operand_of}
use Rattle.mlir_reader.specs.Meanings.{defined_of}
use Rattle.mlir_reader.specs.declared.names.Defined as code
use Rattle.mlir_operations.specs.declared.syntax.OperandName.{OperandName}
use Rattle.mlir_reader.proofs.Defining.{rest_at}

-- what is found of a name, by the test that nothing is
said : (r : Option code.Defined) (m : Option Defined) (b : Bool) → option_map defined_of r ≡ m → is_some r ≡ not b → is_some m ≡ not b
said None m b is test = ap (λ (x : Option Defined). is_some x) (sym is) ∙ test
said (Some d) m b is test = ap (λ (x : Option Defined). is_some x) (sym is) ∙ test

module _ (means : Meanings) (os : List OperandName) (i : ℕ) (o : OperandName) (below : i < length os) (r : Option code.Defined) (b : Bool)
    (is : option_map defined_of r ≡ means (get_or os i o).name.now) (test : is_some r ≡ not b) where
  rest : drop i (map operand_of os) ≡ operand_of (get_or os i o) ∷ drop (i + 1) (map operand_of os)
  rest =
      let size : length (map operand_of os) ≡ length os = length-map os operand_of in
      rest_at (map operand_of os) i (operand_of (get_or os i o)) (omega arith)
      (sym (get_or-map operand_of os i (get_or os i o) ∙ ap operand_of (get_or_default os i (get_or os i o) o below)))

  counted : found_count means (drop i (map operand_of os)) ≡ cond (not b) (suc (found_count means (drop (i + 1) (map operand_of os)))) 0
  counted =
      ap (found_count means) rest
      ∙ ap (λ f. cond f (suc (found_count means (drop (i + 1) (map operand_of os)))) 0) (said r (means (get_or os i o).name.now) b is test)

  pub unfound_here : (n : ℕ) → b ≡ true → n ≡ i + found_count means (drop i (map operand_of os)) → i ≡ n
  unfound_here n none count =
      let zero : found_count means (drop i (map operand_of os)) ≡ 0 = counted ∙ ap (λ f. cond (not f) (suc (found_count means (drop (i + 1) (map operand_of os)))) 0) none in
      omega arith

  pub found_here : (n : ℕ) → b ≡ false → n ≡ i + found_count means (drop i (map operand_of os)) → n ≡ (i + 1) + found_count means (drop (i + 1) (map operand_of os))
  found_here n some count =
      let more : found_count means (drop i (map operand_of os)) ≡ suc (found_count means (drop (i + 1) (map operand_of os))) =
      counted ∙ ap (λ f. cond (not f) (suc (found_count means (drop (i + 1) (map operand_of os)))) 0) some in
      omega arith
