-- The declarations of the wires of an operation's results, added one after another.
use Rattle.std.proofs.Common.{◌≡◌, ℕ, suc, ◌+◌, ◌-◌, ◌<◌, ◌≤◌, [], ◌++◌, sym, ◌∙◌, ap, append_assoc, arith}
use Rattle.std.proofs.lemmas.List.{append-nil}
use Rattle.hw_model.specs.Design.Ref.{result}
use Rattle.verilog_expr.specs.declared.scope.Scope.{Scope}
use Rattle.verilog_expr.specs.declared.value_names.ValueNames.{ValueNames}
use Rattle.export_verilog.specs.Layout.{Text, item_text, items_text}
use Rattle.export_verilog.specs.Values.{value_wire, value_wires}
use Rattle.export_verilog.proofs.text.ItemRests.{items_first}

module _ (s : Scope) (v : ValueNames) (i : ℕ) where
  -- what is left of so many wires
  abbrev pub wires_left : ℕ → ℕ → Text
  wires_left k n = items_text (value_wires s v i k (n - k)) []

  pub wires_step : (k n : ℕ) (out one whole : Text) → k < n → out ++ wires_left k n ≡ whole → one ≡ out ++ item_text (value_wire s v (result i k)) []
      → one ++ wires_left (k + 1) n ≡ whole
  wires_step k n out one whole lt inv e =
      let count : n - k ≡ suc (n - (k + 1)) = omega (arith, lt) in
      ap (λ x. x ++ wires_left (k + 1) n) e ∙ append_assoc out (item_text (value_wire s v (result i k)) []) (wires_left (k + 1) n)
      ∙ ap (λ x. out ++ x) (sym (items_first (value_wire s v (result i k)) (value_wires s v i (k + 1) (n - (k + 1)))) ∙ sym (ap (λ z. items_text (value_wires s v i k z) []) count)) ∙ inv

  pub wires_end : (k n : ℕ) (out whole : Text) → n ≤ k → out ++ wires_left k n ≡ whole → out ≡ whole
  unfolding items_text
  wires_end k n out whole le inv =
      let none : n - k ≡ 0 = omega (arith, le) in
      sym (append-nil out) ∙ sym (ap (λ z. out ++ items_text (value_wires s v i k z) []) none) ∙ inv
