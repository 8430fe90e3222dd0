-- The design grows by one module, and by the numbers that this draws.
use Rattle.std.proofs.Common.{◌≡◌, ℕ, zero, suc, ◌+◌, ◌-◌, ◌*◌, ◌/◌, ◌<◌, List, [], ◌∷◌, ◌++◌, map, length, sym, ap, ap₂, ◌∙◌, arith, add-one}
use Rattle.std.proofs.lemmas.List.{map-append, length-map}
use Rattle.ir_store.specs.Designs.{StoredModule, numbered_module}
use Rattle.generator.specs.Draws.{state_after}
use Rattle.generator.specs.Generated.{instance_op, xor_op, output_op, last_ops, generated_module, first_modules}
use Rattle.generator.proofs.GeneratedModules.{count_first}

-- one more module
pub design_more : (seed n k x : ℕ) (before now : List StoredModule) (m : StoredModule) → now ≡ before ++ m ∷ [] → map numbered_module before ≡ first_modules seed n k
    → x ≡ state_after seed (4 * k) → numbered_module m ≡ generated_module n k x → map numbered_module now ≡ first_modules seed n (k + 1)
design_more seed n k x before now m is was state made =
    ap (map numbered_module) is ∙ map-append numbered_module before (m ∷ []) ∙ ap₂ (λ xs y. xs ++ y ∷ []) was (made ∙ ap (generated_module n k) state)
    ∙ sym (ap (first_modules seed n) (add-one k))

-- four more draws
pub state_more : (seed k x y : ℕ) → y ≡ state_after x 4 → x ≡ state_after seed (4 * k) → y ≡ state_after seed (4 * (k + 1))
state_more seed k x y is was =
    let e : 4 * (k + 1) ≡ suc (suc (suc (suc (4 * k)))) = omega arith in
    is ∙ ap (λ z. state_after z 4) was ∙ sym (ap (state_after seed) e)

-- so many modules are there
pub count_modules : (seed n k : ℕ) (modules : List StoredModule) → map numbered_module modules ≡ first_modules seed n k → length modules ≡ k
count_modules seed n k modules are = sym (length-map modules numbered_module) ∙ ap length are ∙ count_first seed n k

-- the last operations of a module that is not the first
pub last_later : (k : ℕ) → 0 < k → last_ops k ≡ instance_op ((k - 1) / 2) ∷ xor_op 5 ∷ output_op 6 ∷ []
last_later zero some = absurd (omega arith)
last_later (suc k) some = let e : suc k - 1 ≡ k = omega arith in ap (λ j. instance_op (j / 2) ∷ xor_op 5 ∷ output_op 6 ∷ []) (sym e)
