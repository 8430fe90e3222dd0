-- Each literal that an operation of an imported design uses is defined in its text.
use Rattle.std.proofs.Common.{◌≡◌, ◌⊎◌, ℕ, suc, Bool, true, false, not, ◌&&◌, ◌==◌, List, [], ◌∷◌, ◌++◌, map, refl, sym, ap, subst, ◌∙◌, inl, inr, true≢false}
use Rattle.wiring.specs.Wiring.{In}
use Rattle.wiring.proofs.Members.{In-append_cases, from_In-map}
use Rattle.aiger_laws.specs.declared.tree.Latch.{Latch}
use Rattle.aiger_laws.specs.declared.tree.AndGate.{AndGate}
use Rattle.aiger_laws.specs.Trees.{Aiger, variable}
use Rattle.aiger_laws.specs.Rows.{is_defined}
use Rattle.aiger_laws.specs.Grammar.{is_undefined, IsAiger}
use Rattle.aiger_laws.proofs.DefinedTexts.{AreDefined, all_defined, text_frees}
use Rattle.aiger_design.specs.Positions.{User, latch_users, gate_user, output_user, users}
use Rattle.aiger_design.proofs.Operands.{IsDefined}

module _ (t : Aiger) (all : AreDefined t) where
  -- each literal of a user is defined
  abbrev UsesDefined : User → Type 0
  UsesDefined u = (l : ℕ) → In l u.literals → is_undefined t l ≡ false

  one_defined : (m : ℕ) → is_undefined t m ≡ false → (l : ℕ) → In l (m ∷ []) → is_undefined t l ≡ false
  one_defined m is l (inl same) = ap (is_undefined t) same ∙ is
  one_defined m is l (inr never) = absurd never

  latches_defined : (k : ℕ) (ls : List Latch) → ((l : Latch) → In l ls → In l t.latches) → (u : User) → In u (latch_users k ls) → UsesDefined u
  latches_defined k [] there u never = absurd never
  latches_defined k (l ∷ ls) there u (inl same) = subst UsesDefined (sym same) (one_defined l.next (all.latches l (there l (inl refl))))
  latches_defined k (l ∷ ls) there u (inr here) = latches_defined (suc k) ls (λ m within. there m (inr within)) u here

  users_defined : (u : User) → In u (users t) → UsesDefined u
  users_defined u here = go (In-append_cases u (latch_users 0 t.latches) (map gate_user t.gates ++ output_user t.outputs ∷ []) here)
    where
      gate : (u : User) → In u (map gate_user t.gates) → UsesDefined u
      gate v within = let from = from_In-map gate_user v t.gates within in subst UsesDefined (sym from.2) (two from)
        where
          two : (from : (g : AndGate) × In g t.gates × (v ≡ gate_user g)) → UsesDefined (gate_user from.0)
          two from l (inl same) = ap (is_undefined t) same ∙ all.lefts from.0 from.1
          two from l (inr last) = one_defined from.0.right (all.rights from.0 from.1) l last

      later : In u (map gate_user t.gates) ⊎ In u (output_user t.outputs ∷ []) → UsesDefined u
      later (inl within) = gate u within
      later (inr (inl same)) = subst UsesDefined (sym same) all.outputs
      later (inr (inr never)) = absurd never

      go : In u (latch_users 0 t.latches) ⊎ In u (map gate_user t.gates ++ output_user t.outputs ∷ []) → UsesDefined u
      go (inl latch) = latches_defined 0 t.latches (λ l within. within) u latch
      go (inr behind) = later (In-append_cases u (map gate_user t.gates) (output_user t.outputs ∷ []) behind)

-- what a text says is defined
pub imported_defined : (bytes : List ℕ) (t : Aiger) → IsAiger bytes t → IsDefined t
imported_defined bytes t says = record {
  constant = text_frees bytes t says.reads;
  used = λ u l here within. users_defined t (all_defined t says.defined) u here l within;
}

-- a variable other than that of constants is then one that is defined
pub defined_variable : (t : Aiger) (l : ℕ) → is_undefined t l ≡ false → (variable l == 0) ≡ false → is_defined t (variable l) ≡ true
defined_variable t l used some = go (variable l == 0) (is_defined t (variable l)) some used
  where
    go : (z d : Bool) → z ≡ false → (not z && not d) ≡ false → d ≡ true
    go true d is used = absurd (true≢false is)
    go false true is used = refl
    go false false is used = absurd (true≢false used)
