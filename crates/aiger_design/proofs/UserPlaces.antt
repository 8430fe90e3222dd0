-- Where the users of latches, of gates and of outputs are.
use Rattle.std.proofs.Common.{◌≡◌, ℕ, zero, suc, ◌+◌, List, [], ◌∷◌, ◌++◌, map, length, slice_get, Option, Some, option_map, refl, sym, ap, ◌∙◌}
use Rattle.std.proofs.lemmas.List.{length-map}
use Rattle.std.proofs.lemmas.Option.{slice_get-map}
use Rattle.wiring.proofs.Lists.{slice_get-append_right, slice_get-append_some, slice_get-append_at}
use Rattle.aiger_laws.specs.declared.tree.Latch.{Latch}
use Rattle.aiger_laws.specs.declared.tree.AndGate.{AndGate}
use Rattle.aiger_laws.specs.Trees.{Aiger}
use Rattle.aiger_design.specs.Operations.{register_op}
use Rattle.aiger_design.specs.Positions.{User, users, latch_users, gate_user, output_user}

-- the user of a latch
abbrev pub latch_user : ℕ → Latch → User
latch_user n l = record { made = register_op n; literals = l.next ∷ [] }

latch_user_at : (s : ℕ) (ls : List Latch) (more : List User) (k : ℕ) (l : Latch) → slice_get ls k ≡ Some l
    → (n : ℕ) × (slice_get (latch_users s ls ++ more) k ≡ Some (latch_user n l))
latch_user_at s [] more k l at = absurd (let w : ⊥ = cc in w)
latch_user_at s (a ∷ ls) more zero l at = (s, ap (λ (o : Option Latch). option_map (latch_user s) o) at)
latch_user_at s (a ∷ ls) more (suc k) l at = latch_user_at (suc s) ls more k l at

length-latch_users : (s : ℕ) (ls : List Latch) → length (latch_users s ls) ≡ length ls
length-latch_users s [] = refl
length-latch_users s (l ∷ ls) = ap suc (length-latch_users (suc s) ls)

module _ (t : Aiger) where
  -- what uses latches stands first
  pub latch_at : (k : ℕ) (l : Latch) → slice_get t.latches k ≡ Some l → (n : ℕ) × (slice_get (users t) k ≡ Some (latch_user n l))
  latch_at k l at = latch_user_at 0 t.latches (map gate_user t.gates ++ output_user t.outputs ∷ []) k l at

  -- then the gates
  pub gate_at : (k : ℕ) (g : AndGate) → slice_get t.gates k ≡ Some g → slice_get (users t) (length t.latches + k) ≡ Some (gate_user g)
  gate_at k g at =
      ap (λ n. slice_get (users t) (n + k)) (sym (length-latch_users 0 t.latches))
      ∙ slice_get-append_right (latch_users 0 t.latches) (map gate_user t.gates ++ output_user t.outputs ∷ []) k
      ∙ slice_get-append_some (map gate_user t.gates) (output_user t.outputs ∷ []) k (gate_user g)
      (slice_get-map gate_user t.gates k ∙ ap (option_map gate_user) at)

  -- and last the outputs
  pub output_at : slice_get (users t) (length t.latches + length t.gates) ≡ Some (output_user t.outputs)
  output_at =
      ap (λ n. slice_get (users t) (n + length t.gates)) (sym (length-latch_users 0 t.latches))
      ∙ slice_get-append_right (latch_users 0 t.latches) (map gate_user t.gates ++ output_user t.outputs ∷ []) (length t.gates)
      ∙ ap (slice_get (map gate_user t.gates ++ output_user t.outputs ∷ [])) (sym (length-map t.gates gate_user))
      ∙ slice_get-append_at (map gate_user t.gates) (output_user t.outputs) []
