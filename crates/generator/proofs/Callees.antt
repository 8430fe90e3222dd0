-- Each module instances an earlier one at most, so none is within itself, and none is heavy.
use Rattle.std.proofs.Common.{◌≡◌, ◌⊎◌, ℕ, zero, suc, ◌+◌, ◌*◌, ◌/◌, ◌<◌, ◌≤◌, ◌^◌, [], ◌∷◌, ◌++◌, length, slice_get, Some, sym, ap, subst, ◌∙◌, inl, inr, arith}
use Rattle.wiring.specs.Wiring.{In, Chain, Depends as IsReached}
use Rattle.wiring.proofs.Members.{In-slice_get}
use Rattle.hw_model.specs.Types.{Name}
use Rattle.hw_model.specs.Kinds.{Instance}
use Rattle.hw_model.specs.Design.{Op, Module, Design, instance_in}
use Rattle.hw_model.specs.Hierarchy.{callee_symbols, calls}
use Rattle.hw_model.specs.Sound.{body_of}
use Rattle.hw_model.specs.Weight.{body_weight, weight_of, module_weight, weight}
use Rattle.op_verifier.specs.Verdict.{IsRecursive, IsTooLarge}
use Rattle.generator.specs.Draws.{state_after}
use Rattle.generator.specs.Generated.{module_symbol, instance_of_module, first_ops, last_ops, generated}
use Rattle.generator.proofs.FirstOps.{only_call, calls_first, calls_next, weight_rest}
use Rattle.generator.proofs.GeneratedModules.{made, made_at, symbol_injective, found}

-- ---- weights

-- module k, where the one that it instances weighs so much
first_weight : (inner : Name → ℕ) (x : ℕ) → body_weight inner (first_ops x ++ last_ops zero) ≡ 22
first_weight inner x = weight_rest x (last_ops zero) inner

next_weight : (inner : Name → ℕ) (x k : ℕ) → body_weight inner (first_ops x ++ last_ops (suc k)) ≡ 28 + inner (module_symbol (k / 2))
next_weight inner x k = let rest = weight_rest x (last_ops (suc k)) inner in omega (arith, rest)

module _ (seed n : ℕ) (few : n ≤ 10000) where
  abbrev design : Design
  design = generated seed n

  -- each module weighs at most 33 more than the one that it instances
  light : (depth k : ℕ) → k < n → module_weight depth design (module_symbol k) ≤ 33 * (k + 1)
  light zero k low = omega arith
  light (suc depth) k low = subst (λ o. weight_of (module_weight depth design) o ≤ 33 * (k + 1)) (sym (found seed n few k low)) (go k low (light depth))
    where
      go : (k : ℕ) → k < n → ((j : ℕ) → j < n → module_weight depth design (module_symbol j) ≤ 33 * (j + 1)) → weight_of (module_weight depth design) (Some (made seed n k)) ≤ 33 * (k + 1)
      go zero low inner = let is = first_weight (module_weight depth design) (state_after seed (4 * zero)) in omega (arith, is)
      go (suc k) low inner =
          let is = next_weight (module_weight depth design) (state_after seed (4 * suc k)) k in
          let before : module_weight depth design (module_symbol (k / 2)) ≤ 33 * (k / 2 + 1) = inner (k / 2) (omega arith) in
          omega (arith, is, before)

  pub none_large : (i : ℕ) (m : Module) → slice_get design i ≡ Some m → IsTooLarge design m → ⊥
  none_large i m there large =
      let is = made_at seed n i m there in
      let low : i < n = is.0 in
      let bound : weight design (module_symbol i) ≤ 33 * (i + 1) = light (suc (length design)) i low in
      let heavy : 2 ^ 28 < weight design (module_symbol i) = subst (λ (x : Module). 2 ^ 28 < weight design x.symbol) is.1 large in
      absurd (omega (arith, bound, heavy))

  -- ---- chains of modules

  -- what module k instances comes before it
  pub call_before : (k : ℕ) (s : Name) → k < n → In s (calls design (module_symbol k)) → (j : ℕ) × (s ≡ module_symbol j) × (j < k)
  call_before k s low here = go k (subst (λ o. In s (callee_symbols (body_of o))) (found seed n few k low) here)
    where
      go : (k : ℕ) → In s (callee_symbols (made seed n k).body) → (j : ℕ) × (s ≡ module_symbol j) × (j < k)
      go zero never = absurd (subst (In s) (calls_first (state_after seed (4 * zero))) never)
      go (suc k) called = only (subst (In s) (calls_next (state_after seed (4 * suc k)) k) called)
        where
          only : In s (module_symbol (k / 2) ∷ []) → (j : ℕ) × (s ≡ module_symbol j) × (j < suc k)
          only (inl same) = (k / 2, same, omega arith)
          only (inr never) = absurd never

  chain_before : (steps k : ℕ) (s : Name) → k < n → Chain (calls design) steps (module_symbol k) s → (j : ℕ) × (s ≡ module_symbol j) × (j + steps ≤ k)
  chain_before zero k s low same = (k, sym same, omega arith)
  chain_before (suc steps) k s low (t, need, chain) =
      let first = call_before k t low need in
      let earlier : first.0 < k = first.2 in
      let rest = chain_before steps first.0 s (omega arith) (subst (λ u. Chain (calls design) steps u s) first.1 chain) in
      let bound : rest.0 + steps ≤ first.0 = rest.2 in
      (rest.0, rest.1, omega arith)

  -- no instance is of a module that leads back to its own
  pub none_recursive : (i j : ℕ) (m : Module) (o : Op) → slice_get design i ≡ Some m → slice_get m.body j ≡ Some o → IsRecursive design m j o → ⊥
  none_recursive i j m o there at (x, inst, around) =
      let is = made_at seed n i m there in
      let low : i < n = is.0 in
      let location : slice_get (made seed n i).body j ≡ Some o = ap (λ (y : Module). slice_get y.body j) (sym is.1) ∙ at in
      let call = only_call (state_after seed (4 * i)) i o x (In-slice_get o (made seed n i).body j location) inst in
      let half : call.before / 2 < i = let next : i ≡ suc call.before = call.is_next in omega (arith, next) in
      let named : Some x ≡ Some (instance_of_module (call.before / 2)) = sym inst ∙ ap (λ (y : Op). instance_in y.kind) call.is in
      let symbol_is : x.symbol ≡ module_symbol (call.before / 2) = let same : x ≡ instance_of_module (call.before / 2) = cc in ap (λ (y : Instance). y.symbol) same in
      go (call.before / 2) half low symbol_is (subst (λ (y : Module). (x.symbol ≡ y.symbol) ⊎ IsReached (calls design) x.symbol y.symbol) is.1 around)
    where
      go : (b : ℕ) → b < i → i < n → x.symbol ≡ module_symbol b → (x.symbol ≡ module_symbol i) ⊎ IsReached (calls design) x.symbol (module_symbol i) → ⊥
      go b less low is (inl same) = let equal : b ≡ i = symbol_injective b i (omega arith) (omega arith) (sym is ∙ same) in absurd (omega arith)
      go b less low is (inr (steps, chain)) =
          let back = chain_before (suc steps) b (module_symbol i) (omega arith) (subst (λ u. Chain (calls design) (suc steps) u (module_symbol i)) is chain) in
          let bound : back.0 + suc steps ≤ b = back.2 in
          let equal : i ≡ back.0 = symbol_injective i back.0 (omega arith) (omega arith) back.1 in
          absurd (omega arith)
