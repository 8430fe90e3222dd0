-- A text says at most one tree, or has at most one first fault.
use Rattle.std.proofs.Common.{◌≡◌, ℕ, ◌+◌, ◌<◌, ◌⊎◌, List, refl, sym, ap, subst, ◌∙◌, inl, inr, arith}
use Rattle.std.specs.Prelude.{Option, Some, None, Result, Ok, Err}
use Rattle.aiger_laws.specs.declared.fault.Fault.{Fault}
use Rattle.aiger_laws.specs.declared.fault.Fault.TheVariants.{GateCycle}
use Rattle.aiger_laws.specs.Trees.{Aiger}
use Rattle.aiger_laws.specs.Drivers.{HasNoCycle}
use Rattle.aiger_laws.specs.Grammar.{tree_of_text, undefined_line, gate_line, IsOnCycle, IsFirstOnCycle, IsAiger, IsFirstFault, in_line, undefined, on_cycle}

-- the tree of a result, or another one
abbrev tree_in : Aiger → Result Aiger (ℕ × Fault) → Aiger
tree_in other (Ok t) = t
tree_in other (Err fault) = other

-- the fault of a result, or another one
abbrev fault_in : ℕ × Fault → Result Aiger (ℕ × Fault) → ℕ × Fault
fault_in other (Ok t) = other
fault_in other (Err fault) = fault

-- the line, or another one
abbrev line_in : ℕ → Option ℕ → ℕ
line_in other (Some n) = n
line_in other None = other

same_tree : (r : Result Aiger (ℕ × Fault)) (s t : Aiger) → r ≡ Ok s → r ≡ Ok t → s ≡ t
same_tree r s t first second = ap (tree_in s) (sym first ∙ second)

apart : (r : Result Aiger (ℕ × Fault)) (t : Aiger) (p : ℕ × Fault) → r ≡ Ok t → r ≡ Err p → ⊥
apart (Ok s) t p reads fails = cc
apart (Err q) t p reads fails = cc

none_some : (o : Option ℕ) (n : ℕ) → o ≡ None → o ≡ Some n → ⊥
none_some None n is also = cc
none_some (Some m) n is also = cc

-- a text says one tree at most
pub one_tree : (bytes : List ℕ) (s t : Aiger) → IsAiger bytes s → IsAiger bytes t → s ≡ t
one_tree bytes s t first second = same_tree (tree_of_text bytes) s t first.reads second.reads

-- a gate that needs itself is a cycle
pub cyclic : (t : Aiger) (k : ℕ) → IsOnCycle t k → HasNoCycle t → ⊥
cyclic t k on acyclic = acyclic _ on.2

-- a text that says a tree has no fault
pub no_fault : (bytes : List ℕ) (t : Aiger) (n : ℕ) (fault : Fault) → IsAiger bytes t → IsFirstFault bytes n fault → ⊥
no_fault bytes t n fault says (in_line m cause is) = apart (tree_of_text bytes) t (m, cause) says.reads is
no_fault bytes t n fault says (undefined m s is at) =
    none_some (undefined_line t) m says.defined (ap undefined_line (same_tree (tree_of_text bytes) t s says.reads is) ∙ at)
no_fault bytes t n fault says (on_cycle k s is defined first) =
    cyclic t k (subst (λ (u : Aiger). IsOnCycle u k) (same_tree (tree_of_text bytes) s t is says.reads) first.on) says.acyclic

-- two first gates that need themselves are one
first_same : (t : Aiger) (j k : ℕ) → IsFirstOnCycle t j → IsFirstOnCycle t k → j ≡ k
first_same t j k one two = go (grind arith)
  where
    go : (j < k) ⊎ ((j ≡ k) ⊎ (k < j)) → j ≡ k
    go (inl below) = absurd (two.first j below one.on)
    go (inr (inl same)) = same
    go (inr (inr below)) = absurd (one.first k below two.on)

-- a text has one first fault at most
pub one_fault : (bytes : List ℕ) (m n : ℕ) (f g : Fault) → IsFirstFault bytes m f → IsFirstFault bytes n g → (m ≡ n) × (f ≡ g)
one_fault bytes m n f g (in_line i a is) (in_line j b also) =
    let e : (i, a) ≡ (j, b) = ap (fault_in (i, a)) (sym is ∙ also) in (ap (λ (p : ℕ × Fault). p.0) e, ap (λ (p : ℕ × Fault). p.1) e)
one_fault bytes m n f g (in_line i a is) (undefined j t also at) = absurd (apart (tree_of_text bytes) t (i, a) also is)
one_fault bytes m n f g (in_line i a is) (on_cycle k t also defined first) = absurd (apart (tree_of_text bytes) t (i, a) also is)
one_fault bytes m n f g (undefined i s is at) (in_line j b also) = absurd (apart (tree_of_text bytes) s (j, b) is also)
one_fault bytes m n f g (undefined i s is at) (undefined j t also on) =
    (ap (line_in i) (sym at ∙ ap undefined_line (same_tree (tree_of_text bytes) s t is also) ∙ on), refl)
one_fault bytes m n f g (undefined i s is at) (on_cycle k t also defined first) =
    absurd (none_some (undefined_line t) i defined (ap undefined_line (same_tree (tree_of_text bytes) t s also is) ∙ at))
one_fault bytes m n f g (on_cycle k s is defined first) (in_line j b also) = absurd (apart (tree_of_text bytes) s (j, b) is also)
one_fault bytes m n f g (on_cycle k s is defined first) (undefined j t also at) =
    absurd (none_some (undefined_line s) j defined (ap undefined_line (same_tree (tree_of_text bytes) s t is also) ∙ at))
one_fault bytes m n f g (on_cycle j s is defined first) (on_cycle k t also fits second) = go (same_tree (tree_of_text bytes) s t is also) first
  where
    go : s ≡ t → IsFirstOnCycle s j → (gate_line s + j ≡ gate_line t + k) × (GateCycle ≡ GateCycle)
    go same one =
        let at : j ≡ k = first_same t j k (subst (λ (u : Aiger). IsFirstOnCycle u j) same one) second in
        (ap (λ (u : Aiger). gate_line u + j) same ∙ ap (λ (i : ℕ). gate_line t + i) at, refl)
