-- Runs of modules, one after another.
use Rattle.std.proofs.Common.{◌≡◌, ℕ, zero, suc, List, [], ◌∷◌, ◌++◌, map, take, drop, refl, sym, ap, ◌∙◌, append_assoc}
use Rattle.ir_store.specs.Designs.{module_of, numbered_module}
use Rattle.ir_store.specs.declared.design.Module.{Module}
use Rattle.mlir_printer.specs.Modules.{module_bytes}
use Rattle.mlir_printer.specs.Texts.{stored_bytes, module_shown}

-- the text of modules that are cut in two
stored_cut : (n : ℕ) (ms : List Module) → stored_bytes (map module_of (take n ms)) ++ stored_bytes (map module_of (drop n ms)) ≡ stored_bytes (map module_of ms)
unfolding stored_bytes
stored_cut zero ms = refl
stored_cut (suc n) [] = refl
stored_cut (suc n) (m ∷ ms) =
    let one = module_bytes (module_shown (numbered_module (module_of m))) in
    append_assoc one (stored_bytes (map module_of (take n ms))) (stored_bytes (map module_of (drop n ms))) ∙ ap (λ t. one ++ t) (stored_cut n ms)

-- the text of the second part is put after the text of the first one
pub joined_runs : (n : ℕ) (ms front back : List Module) (out one two whole : List ℕ) → front ≡ take n ms → back ≡ drop n ms
    → one ≡ out ++ stored_bytes (map module_of front) → two ≡ stored_bytes (map module_of back) → whole ≡ one ++ two → whole ≡ out ++ stored_bytes (map module_of ms)
joined_runs n ms front back out one two whole cut_front cut_back first second both =
    let text = λ (l : List Module). stored_bytes (map module_of l) in
    both ∙ ap (λ t. t ++ two) (first ∙ ap (λ l. out ++ text l) cut_front) ∙ ap (λ t. (out ++ text (take n ms)) ++ t) (second ∙ ap text cut_back)
    ∙ append_assoc out (text (take n ms)) (text (drop n ms)) ∙ ap (λ t. out ++ t) (stored_cut n ms)
