-- The items of a body, added operation after operation, and the items of a module, added part after part.
use Rattle.std.proofs.Common.{◌≡◌, ℕ, suc, ◌+◌, ◌≤◌, List, [], ◌++◌, length, drop, slice_get, Some, refl, sym, ◌∙◌, ap, arith}
use Rattle.std.proofs.lemmas.List.{append-nil, drop_all}
use Rattle.wiring.proofs.Lists.{drop_some}
use Rattle.verilog_model.specs.Tree.{Item}
use Rattle.export_verilog.specs.Identifiers.{each}
use Rattle.export_verilog.specs.Layout.{Text, items_text}
use Rattle.export_verilog.proofs.text.ItemRests.{items_added}

-- ---- what each element of a list gives

module _ {A : Type 0} (f : ℕ → A → List Item) (xs : List A) where
  -- the text of what the elements from the i-th on give
  abbrev pub each_left : ℕ → Text
  each_left i = items_text (each f i (drop i xs)) []

  pub each_step : (i : ℕ) (x : A) (is : List Item) (out one whole : Text) → slice_get xs i ≡ Some x → is ≡ f i x → one ≡ out ++ items_text is []
      → out ++ each_left i ≡ whole → one ++ each_left (i + 1) ≡ whole
  each_step i x is out one whole at same e inv =
      let next : i + 1 ≡ suc i = omega arith in
      let rest = each f (suc i) (drop (suc i) xs) in
      ap (λ n. one ++ items_text (each f n (drop n xs)) []) next
      ∙ items_added out one (one ++ items_text rest []) is rest e refl
      ∙ ap (λ l. out ++ items_text (l ++ rest) []) same
      ∙ ap (λ l. out ++ items_text (each f i l) []) (sym (drop_some xs i x at)) ∙ inv

  pub each_end : (i : ℕ) (out whole : Text) → length xs ≤ i → out ++ each_left i ≡ whole → out ≡ whole
  unfolding items_text
  each_end i out whole le inv = sym (append-nil out) ∙ ap (λ l. out ++ items_text (each f i l) []) (sym (drop_all i xs le)) ∙ inv

-- ---- the parts of a module

pub items_joined : (out one two end : Text) (ds ss os : List Item) → one ≡ out ++ items_text ds [] → two ≡ one ++ items_text ss [] → end ≡ two ++ items_text os []
    → end ≡ out ++ items_text (ds ++ (ss ++ os)) []
items_joined out one two end ds ss os p q r = items_added out one end ds (ss ++ os) p (items_added one two end ss os q r)
