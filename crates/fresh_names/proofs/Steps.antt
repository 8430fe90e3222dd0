-- One step of the search for a free name.
use Rattle.std.proofs.Common.{◌≡◌, ℕ, suc, ◌+◌, ◌-◌, ◌<◌, true, false, cond, List, ap, ◌∙◌, sym, arith}
use Rattle.fresh_names.specs.Fresh.{Name, is_taken, with_suffix, free_from}

pub free_step : (taken : List Name) (w : Name) (n k : ℕ) → k < n
    → free_from taken w (n - k) k ≡ cond (is_taken taken (with_suffix w k)) (free_from taken w (n - (k + 1)) (k + 1)) (with_suffix w k)
free_step taken w n k h = let e : n - k ≡ suc (n - (k + 1)) = omega arith in ap (λ m. free_from taken w m k) e

pub free_next : (taken : List Name) (w : Name) (n k : ℕ) (whole : Name) → k < n → is_taken taken (with_suffix w k) ≡ true
    → free_from taken w (n - k) k ≡ whole → free_from taken w (n - (k + 1)) (k + 1) ≡ whole
free_next taken w n k whole h t e =
    sym (ap (λ b. cond b (free_from taken w (n - (k + 1)) (k + 1)) (with_suffix w k)) t) ∙ sym (free_step taken w n k h) ∙ e

pub free_here : (taken : List Name) (w : Name) (n k : ℕ) (whole : Name) → k < n → is_taken taken (with_suffix w k) ≡ false
    → free_from taken w (n - k) k ≡ whole → with_suffix w k ≡ whole
free_here taken w n k whole h t e =
    sym (ap (λ b. cond b (free_from taken w (n - (k + 1)) (k + 1)) (with_suffix w k)) t) ∙ sym (free_step taken w n k h) ∙ e

pub free_end : (taken : List Name) (w : Name) (n k : ℕ) (whole : Name) → n - k ≡ 0 → k ≡ n → free_from taken w (n - k) k ≡ whole → with_suffix w n ≡ whole
free_end taken w n k whole z q e = ap (with_suffix w) (sym q) ∙ sym (ap (λ m. free_from taken w m k) z) ∙ e
