-- The operands of a module's output, and the assignments to its output ports, added port after port.
use Rattle.std.proofs.Common.{◌≡◌, ℕ, suc, ◌+◌, ◌≤◌, Bool, true, false, cond, List, [], ◌∷◌, ◌++◌, length, map, drop, slice_get, Some, refl, sym, ◌∙◌, ap, append_assoc, arith}
use Rattle.std.proofs.lemmas.List.{append-nil, drop_all}
use Rattle.wiring.proofs.Lists.{drop_some}
use Rattle.hw_model.specs.Types.{Name}
use Rattle.hw_model.specs.Design.{Ref, Port, Op, Module, is_output_op, output_refs}
use Rattle.verilog_model.specs.Tree.{Expr, Item}
use Rattle.verilog_model.specs.Tree.Item.{assign}
use Rattle.lowering_options.specs.declared.lowering.Lowering.{Lowering}
use Rattle.export_verilog.specs.Lowerings.{load_place}
use Rattle.export_verilog.specs.Identifiers.{identifier_text}
use Rattle.export_verilog.specs.Identifiers.Identifier.{port_identifier}
use Rattle.export_verilog.specs.Exported.{expression, expr_or_none, others, output_assigns}
use Rattle.export_verilog.specs.Layout.{Text, item_text, items_text}
use Rattle.export_verilog.proofs.text.ItemRests.{items_first}
use Rattle.export_verilog.proofs.text.Joining.{others_drop}

-- ---- the operands of the first output of a body

module _ (os : List Op) (i : ℕ) (whole : List Ref) (inv : output_refs (drop i os) ≡ whole) where
  pub output_here : (o : Op) → slice_get os i ≡ Some o → is_output_op o ≡ true → o.operands ≡ whole
  output_here o at is = sym (ap (λ b. cond b o.operands (output_refs (drop (suc i) os))) is) ∙ ap output_refs (sym (drop_some os i o at)) ∙ inv

  pub output_later : (o : Op) → slice_get os i ≡ Some o → is_output_op o ≡ false → output_refs (drop (i + 1) os) ≡ whole
  output_later o at is =
      let next : i + 1 ≡ suc i = omega arith in
      ap (λ n. output_refs (drop n os)) next ∙ sym (ap (λ b. cond b o.operands (output_refs (drop (suc i) os))) is) ∙ ap output_refs (sym (drop_some os i o at)) ∙ inv

  pub output_nowhere : length os ≤ i → [] ≡ whole
  output_nowhere le = ap output_refs (sym (drop_all i os le)) ∙ inv

-- ---- the assignments to the output ports

or_none_same : (f g : Ref → Expr) → ((r : Ref) → f r ≡ g r) → (rs : List Ref) → expr_or_none f rs ≡ expr_or_none g rs
or_none_same f g same [] = refl
or_none_same f g same (r ∷ rs) = same r

module _ (via : Lowering) {A : Type 0} (m : Module) (view : A → Ref) (xs : List A) where
  -- the text of the assignments to the output ports from the i-th on, of the operands from the u-th on
  abbrev pub outputs_left : ℕ → ℕ → Text
  outputs_left i u = items_text (output_assigns via m i (drop i m.ports) (map view (drop u xs))) []

  module _ (i u : ℕ) (p : Port) (out whole : Text) (at : slice_get m.ports i ≡ Some p) (inv : out ++ outputs_left i u ≡ whole) where
    abbrev rest : List Ref → List Item
    rest rs = output_assigns via m (suc i) (drop (suc i) m.ports) rs

    next : i + 1 ≡ suc i
    next = omega arith

    abbrev given : List Ref
    given = map view (drop u xs)

    abbrev here : Item
    here = assign (identifier_text m (port_identifier i)) (expr_or_none (expression m (load_place via)) given)

    -- what is left, by the direction of the port
    by_direction : (b : Bool) → p.is_output ≡ b → out ++ items_text (cond b (here ∷ rest (others given)) (rest given)) [] ≡ whole
    by_direction b is =
        sym (ap (λ z. out ++ items_text (cond z (here ∷ rest (others given)) (rest given)) []) is)
        ∙ ap (λ l. out ++ items_text (output_assigns via m i l given) []) (sym (drop_some m.ports i p at)) ∙ inv

    pub outputs_assigned : (n : Name) (ex : Ref → Expr) (one : Text) → p.is_output ≡ true → n ≡ identifier_text m (port_identifier i) → ((r : Ref) → ex r ≡ expression m (load_place via) r)
        → one ≡ out ++ item_text (assign n (expr_or_none ex given)) [] → one ++ outputs_left (i + 1) (u + 1) ≡ whole
    outputs_assigned n ex one is named same e =
        ap (λ k. one ++ items_text (output_assigns via m k (drop k m.ports) (map view (drop (u + 1) xs))) []) next
        ∙ ap (λ rs. one ++ items_text (rest rs) []) (sym (others_drop view xs u))
        ∙ ap (λ x. x ++ items_text (rest (others given)) [])
        (e ∙ ap (λ x. out ++ item_text (assign x (expr_or_none ex given)) []) named ∙ ap (λ x. out ++ item_text (assign (identifier_text m (port_identifier i)) x) []) (or_none_same ex (expression m (load_place via)) same given))
        ∙ append_assoc out (item_text here []) (items_text (rest (others given)) [])
        ∙ ap (λ x. out ++ x) (sym (items_first here (rest (others given)))) ∙ by_direction true is

    pub outputs_passed : p.is_output ≡ false → out ++ outputs_left (i + 1) u ≡ whole
    outputs_passed is = ap (λ k. out ++ items_text (output_assigns via m k (drop k m.ports) given) []) next ∙ by_direction false is

  pub outputs_end : (i u : ℕ) (out whole : Text) → length m.ports ≤ i → out ++ outputs_left i u ≡ whole → out ≡ whole
  unfolding items_text
  outputs_end i u out whole le inv =
      sym (append-nil out) ∙ ap (λ l. out ++ items_text (output_assigns via m i l (map view (drop u xs))) []) (sym (drop_all i m.ports le)) ∙ inv
