-- Which constants operations use, by the lists of a text.
use Rattle.std.proofs.Common.{◌≡◌, ℕ, suc, ◌||◌, Bool, true, false, List, [], ◌∷◌, ◌++◌, map, refl, sym, ap₂, ◌∙◌}
use Rattle.std.specs.List.{list_any}
use Rattle.std.proofs.lemmas.List.Folds.{list_any-append}
use Rattle.aiger_laws.specs.declared.tree.Latch.{Latch}
use Rattle.aiger_laws.specs.declared.tree.AndGate.{AndGate}
use Rattle.aiger_laws.specs.Trees.{Aiger}
use Rattle.aiger_design.specs.Positions.{User, latch_users, gate_user, output_user, users, uses}

or_false : (b : Bool) → (b || false) ≡ b
or_false true = refl
or_false false = refl

module _ (test : ℕ → Bool) where
  abbrev any_literal : User → Bool
  any_literal u = list_any test u.literals

  of_latches : (k : ℕ) (ls : List Latch) → list_any any_literal (latch_users k ls) ≡ list_any (λ (l : Latch). test l.next) ls
  of_latches k [] = refl
  of_latches k (l ∷ ls) = ap₂ (λ a b. a || b) (or_false (test l.next)) (of_latches (suc k) ls)

  of_gates : (gs : List AndGate) → list_any any_literal (map gate_user gs) ≡ list_any (λ (g : AndGate). test g.left || test g.right) gs
  of_gates [] = refl
  of_gates (g ∷ gs) = ap₂ (λ a b. (test g.left || a) || b) (or_false (test g.right)) (of_gates gs)

  -- what operations use is what latches, gates and outputs do
  pub uses_by_lists : (t : Aiger) → (list_any (λ (l : Latch). test l.next) t.latches || (list_any (λ (g : AndGate). test g.left || test g.right) t.gates || list_any test t.outputs))
      ≡ uses test (users t)
  uses_by_lists t =
      ap₂ (λ a b. a || b) (sym (of_latches 0 t.latches))
      (ap₂ (λ a b. a || b) (sym (of_gates t.gates)) (sym (or_false (list_any test t.outputs))) ∙ sym (list_any-append any_literal (map gate_user t.gates) (output_user t.outputs ∷ [])))
      ∙ sym (list_any-append any_literal (latch_users 0 t.latches) (map gate_user t.gates ++ output_user t.outputs ∷ []))
