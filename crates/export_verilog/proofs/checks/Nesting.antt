-- No module of an exported tree is within itself, and clocks come from the inputs at the top.
use Rattle.std.proofs.Common.{◌≡◌, ℕ, zero, suc, ◌<◌, ◌≤◌, Bool, true, List, [], ◌∷◌, map, length, slice_get, Some, refl, sym, ◌∙◌, ap, subst, inl, inr, arith}
use Rattle.std.proofs.lemmas.List.{length-map}
use Rattle.wiring.specs.Wiring.{In, HasHeights}
use Rattle.wiring.proofs.Members.{In-slice_get}
use Rattle.wiring.proofs.Heights.{height-le, FallsAlong-height}
use Rattle.hw_model.specs.Types.{Name}
use Rattle.hw_model.specs.Kinds.{Instance}
use Rattle.hw_model.specs.Design.{Op, Module, Design, find_module, instance_in}
use Rattle.hw_model.specs.Hierarchy.{calls, callee_symbols}
use Rattle.hw_model.specs.Sound.{body_of}
use Rattle.hw_model.proofs.Content.{call_heights}
use Rattle.hw_model.proofs.Finite.{calls_within}
use Rattle.hw_model.proofs.Gone.{called_In}
use Rattle.verilog_model.specs.Tree.{Item}
use Rattle.verilog_model.specs.Tree.Item.{wire, reg, assign, always, instance}
use Rattle.verilog_model.specs.Checks.{instances_end, items_of, ends_within, nesting_checks}
use Rattle.verilog_model.proofs.Numerals.{and_intro}
use Rattle.lowering_options.specs.declared.lowering.Lowering.{Lowering}
use Rattle.export_verilog.specs.Exported.{symbol_name, vitems, vmodule, tree_of}
use Rattle.export_verilog.proofs.names.Symbols.{vmodule_found}
use Rattle.export_verilog.proofs.items.Items.{From, from_items}
use Rattle.export_verilog.proofs.items.Items.From.{net_wire, variable_reg, result_wire, net_assign, variable_block, an_instance, output_assign}
use Rattle.export_verilog.proofs.items.Settings.{Setting, Called, called_by}

-- what one item asks
abbrev item_ends : (Name → Bool) → Item → Bool
item_ends ends (instance m u cs) = ends m
item_ends ends _ = true

ends_more : (ends : Name → Bool) (y : Item) (ys : List Item) → item_ends ends y ≡ true → instances_end ends ys ≡ true → instances_end ends (y ∷ ys) ≡ true
ends_more ends (wire h n) ys a b = b
ends_more ends (reg h n) ys a b = b
ends_more ends (assign n e) ys a b = b
ends_more ends (always c e) ys a b = b
ends_more ends (instance m u cs) ys a b = and_intro (ends m) (instances_end ends ys) a b

module _ (via : Lowering) (d : Design) (x : Setting d) where
  heights : HasHeights (calls d)
  heights = call_heights d x.ok.finite

  h : Name → ℕ
  h = heights.0

  -- each instance's module ends
  module _ (s : Name) (m : Module) (is : find_module d s ≡ Some m) (ends : Name → Bool) (each_ends : (i : ℕ) (o : Op) (y : Instance) → slice_get m.body i ≡ Some o → instance_in o.kind ≡ Some y → ends (symbol_name d y.symbol) ≡ true) where
    one_ends : (y : Item) → From via d m y → item_ends ends y ≡ true
    one_ends y (net_wire i o there emission same) = ap (item_ends ends) same
    one_ends y (variable_reg i o there emission same) = ap (item_ends ends) same
    one_ends y (result_wire i k o r there emission at same) = ap (item_ends ends) same
    one_ends y (net_assign i o there emission same) = ap (item_ends ends) same
    one_ends y (variable_block i o r there emission at same) = ap (item_ends ends) same
    one_ends y (an_instance i o z there emission at same) = ap (item_ends ends) same ∙ each_ends i o z there at
    one_ends y (output_assign j p there out same) = ap (item_ends ends) same

    all_end : (ys : List Item) → ((y : Item) → In y ys → From via d m y) → instances_end ends ys ≡ true
    all_end [] from = refl
    all_end (y ∷ ys) from = ends_more ends y ys (one_ends y (from y (inl refl))) (all_end ys (λ z w. from z (inr w)))

    items_end : instances_end ends (vitems via d m) ≡ true
    items_end = all_end (vitems via d m) (λ y w. from_items via d m y w)

  lower : (s : Name) (m : Module) → find_module d s ≡ Some m → (i : ℕ) (o : Op) (y : Instance) → slice_get m.body i ≡ Some o → instance_in o.kind ≡ Some y → h y.symbol < h s
  unfolding h
  lower s m is i o y there kind =
      FallsAlong-height (calls d) (heights.0) (heights.1) s y.symbol
      (subst (λ z. In y.symbol (callee_symbols (body_of z))) (sym is) (called_In m.body o y (In-slice_get o m.body i there) kind))

  ends_by_height : (n : ℕ) (s : Name) (m : Module) → find_module d s ≡ Some m → h s ≤ n → ends_within n (tree_of via d) (symbol_name d s) ≡ true
  unfolding h
  ends_by_height zero s m is low = let positive : heights.0 s ≡ suc _ = heights.1 s in absurd (omega (arith, positive, low))
  ends_by_height (suc n) s m is low =
      ap (λ z. instances_end (ends_within n (tree_of via d)) (items_of z)) (vmodule_found d x.ok x.symbols via s m is)
      ∙ items_end s m is (ends_within n (tree_of via d)) (λ i o y there kind. let c : Called d m o = called_by d x s m is i o there y kind in
      let less : heights.0 y.symbol < heights.0 s = lower s m is i o y there kind in
      ends_by_height n y.symbol c.module_of c.there (omega (arith, less, low)))

  pub nesting_is_checked : (s : Name) (m : Module) → find_module d s ≡ Some m → nesting_checks (tree_of via d) (vmodule via d m) ≡ true
  unfolding h
  nesting_is_checked s m is =
      items_end s m is (ends_within (length (tree_of via d)) (tree_of via d)) (λ i o y there kind. let c : Called d m o = called_by d x s m is i o there y kind in
      let less : heights.0 y.symbol < heights.0 s = lower s m is i o y there kind in
      let few : heights.0 s ≤ suc (length d) = subst (λ k. heights.0 s ≤ suc k) (length-map d (λ (z : Module). z.symbol)) (height-le (calls d) (map (λ (z : Module). z.symbol) d) (calls_within d) heights.0 heights.1 s) in
      let many : length (tree_of via d) ≡ length d = length-map d (vmodule via d) in
      ends_by_height (length (tree_of via d)) y.symbol c.module_of c.there (omega (arith, less, few, many)))
