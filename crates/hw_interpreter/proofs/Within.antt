-- Where a depth reaches all that nets need, the values within it are the settled map.
use Rattle.std.proofs.Common.{◌≡◌, ℕ, zero, suc, ◌<◌, ◌≤◌, List, [], ◌∷◌, ◌++◌, map, refl, sym, ap, ap₂, subst, ◌∙◌, append_assoc, arith}
use Rattle.wiring.specs.Wiring.{IsHeight, greatest}
use Rattle.wiring.proofs.Members.{map_same}
use Rattle.wiring.proofs.Heights.{FallsAlong-height}
use Rattle.bits_core.specs.Word.{Word}
use Rattle.hw_model.specs.Types.{Name}
use Rattle.hw_model.specs.Design.{Ref, Design}
use Rattle.hw_model.specs.Flat.{Net, net}
use Rattle.hw_model.specs.Machine.{Step, RunAfter, Run}
use Rattle.hw_model.specs.Meaning.{needs, value, Settled, outputs, machine}
use Rattle.hw_interpreter.specs.Depth.{value_within, risen_within, values_within, content_within, run_after_within, run_within, Suffices}

module _ (d : Design) (top : Name) where
  -- at and above a net's height its value stays
  steady : (inputs content : Word) (height : Net → ℕ) → IsHeight (needs d top) height → (m n : ℕ) (a : Net) → height a ≤ m → height a ≤ n
      → value_within d top inputs content m a ≡ value_within d top inputs content n a
  steady inputs content height is zero n a low also =
      let e : height a ≡ suc (greatest (map height (needs d top a))) = is a in absurd (omega arith)
  steady inputs content height is (suc m) zero a low also =
      let e : height a ≡ suc (greatest (map height (needs d top a))) = is a in absurd (omega arith)
  steady inputs content height is (suc m) (suc n) a low also =
      ap (value d top inputs content a) (map_same (value_within d top inputs content m) (value_within d top inputs content n) (needs d top a)
      (λ b need.
      let lower : height b < height a = FallsAlong-height (needs d top) height is a b need in
      steady inputs content height is m n b (omega arith) (omega arith)))

  pub within_settled : (depth : ℕ) → Suffices d top depth → (inputs content : Word) → Settled d top inputs content (value_within d top inputs content depth)
  within_settled zero (height, is, low) inputs content a =
      let e : height a ≡ suc (greatest (map height (needs d top a))) = is a in
      let none : height a ≤ 0 = low a in absurd (omega arith)
  within_settled (suc n) (height, is, low) inputs content a =
      ap (value d top inputs content a) (map_same (value_within d top inputs content n) (value_within d top inputs content (suc n)) (needs d top a)
      (λ b need.
      let lower : height b < height a = FallsAlong-height (needs d top) height is a b need in
      let most : height a ≤ suc n = low a in
      steady inputs content height is n (suc n) b (omega arith) (low b)))

  -- one step more of a run
  pub run_more : (depth : ℕ) (before held : Word) (steps : List Word) (s : Word) (rest outs all : List Word) (o after : Word) → steps ≡ s ∷ rest
      → o ≡ outputs d top (values_within d top before s held depth) → after ≡ content_within d top before s held depth
      → outs ++ run_after_within d top depth before held steps ≡ all → (outs ++ (o ∷ [])) ++ run_after_within d top depth s after rest ≡ all
  run_more depth before held steps s rest outs all o after is read taken so_far =
      append_assoc outs (o ∷ []) (run_after_within d top depth s after rest)
      ∙ ap (λ z. outs ++ z) (ap₂ (λ x c. x ∷ run_after_within d top depth s c rest) read taken ∙ sym (ap (run_after_within d top depth before held) is))
      ∙ so_far

  -- a step under these values is one of the module
  pub step_within : (depth : ℕ) → Suffices d top depth → (before inputs content outs after : Word)
      → outs ≡ outputs d top (values_within d top before inputs content depth)
      → after ≡ content_within d top before inputs content depth
      → Step (machine d top) before inputs content outs after
  step_within depth reaches before inputs content outs after read taken = record {
    earlier = value_within d top before content depth;
    first_map = value_within d top inputs content depth;
    map_of = values_within d top before inputs content depth;
    settled_earlier = within_settled depth reaches before content;
    settled_first = within_settled depth reaches inputs content;
    settled = within_settled depth reaches inputs (risen_within d top before inputs content depth);
    read = read;
    taken = taken;
  }

  -- and so are the steps of a run
  run_holds : (depth : ℕ) → Suffices d top depth → (before content : Word) (steps : List Word)
      → RunAfter (machine d top) before content steps (run_after_within d top depth before content steps)
  run_holds depth reaches before content [] = tt
  run_holds depth reaches before content (s ∷ steps) =
      let after = content_within d top before s content depth in
      (after, step_within depth reaches before s content (outputs d top (values_within d top before s content depth)) after refl refl, run_holds depth reaches s after steps)

  pub run_holds_of : (depth : ℕ) (content : Word) (steps outs : List Word) → outs ≡ run_within d top depth content steps → Suffices d top depth
      → Run (machine d top) content steps outs
  run_holds_of depth content steps outs is reaches = subst (Run (machine d top) content steps) (sym is) (run_holds depth reaches [] content steps)

-- the values of nets of the module itself, by their operands
pub own_nets : (ρ : Net → Word) (rs : List Ref) → map ρ (map (net []) rs) ≡ map (λ r. ρ (net [] r)) rs
own_nets ρ [] = refl
own_nets ρ (r ∷ rs) = ap (λ z. ρ (net [] r) ∷ z) (own_nets ρ rs)
