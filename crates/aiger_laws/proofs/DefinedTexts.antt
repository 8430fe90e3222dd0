-- In the tree that a text says each literal that is used is defined, and nothing gives the variable of constants its bit.
use Rattle.std.proofs.Common.{◌≡◌, ℕ, ◌+◌, ◌/◌, ◌≤◌, ◌==◌, ◌||◌, Bool, true, false, cond, List, [], ◌∷◌, length, Option, Some, None, refl, ap, subst, ◌∙◌, inl, inr, arith}
use Rattle.std.specs.Prelude.{Result, Ok, Err, nat_lt}
use Rattle.std.specs.List.{list_any}
use Rattle.std.proofs.lemmas.Bool.{ltb-false, ne_eqb, or_parts}
use Rattle.wiring.specs.Wiring.{In}
use Rattle.text_lines.specs.Lines.{lines}
use Rattle.aiger_laws.specs.declared.fault.Fault.{Fault}
use Rattle.aiger_laws.specs.declared.fault.Fault.TheVariants.{BadLine, OutOfRange, DefinedTwice}
use Rattle.aiger_laws.specs.declared.tree.Latch.{Latch}
use Rattle.aiger_laws.specs.declared.tree.AndGate.{AndGate}
use Rattle.aiger_laws.specs.Trees.{Aiger, empty_tree, variable, is_negated}
use Rattle.aiger_laws.specs.Fields.{fields}
use Rattle.aiger_laws.specs.Drivers.{nothing, input_bit, held_bit, gate_bit, driver}
use Rattle.aiger_laws.specs.Rows.{Header, header_of, is_defined, is_beyond, defining_fault, with_input, with_latch, with_output, with_gate, input_added, latch_added, output_added}
use Rattle.aiger_laws.specs.Rows.{gate_added, one_number, latch_of, gate_of, row_added, has_more}
use Rattle.aiger_laws.specs.Grammar.{no_symbol, when_ended, goes_on, tree_from, tree_behind, tree_of_lines, tree_of_text, is_undefined, first_from, or_later, latch_line, output_line, gate_line, undefined_line}
use Rattle.aiger_laws.proofs.MoreDrivers.{driver_input, driver_latch, driver_output, driver_gate}
use Rattle.aiger_laws.proofs.GateDrivers.{free_of, unless_ok}

-- ---- literals that are used

later_none : (a b : Option ℕ) → or_later a b ≡ None → (a ≡ None) × (b ≡ None)
later_none None b is = (refl, is)
later_none (Some n) b is = absurd (let w : ⊥ = cc in w)

module _ {A : Type 0} where
  none_passes : (test : A → Bool) (n : ℕ) (xs : List A) → first_from test n xs ≡ None → (x : A) → In x xs → test x ≡ false
  none_passes test n [] is x never = absurd never
  none_passes test n (y ∷ ys) is x here = go (test y) refl is here (none_passes test (n + 1) ys)
    where
      go : (b : Bool) → test y ≡ b → cond b (Some n) (first_from test (n + 1) ys) ≡ None → In x (y ∷ ys)
          → (first_from test (n + 1) ys ≡ None → (z : A) → In z ys → test z ≡ false) → test x ≡ false
      go true passes h within rest = absurd (let w : ⊥ = cc in w)
      go false fails h (inl same) rest = ap test same ∙ fails
      go false fails h (inr there) rest = rest h x there

-- each literal that latches, outputs and gates use is defined
pub record AreDefined (t : Aiger) : Type 0 where
  pub latches : (l : Latch) → In l t.latches → is_undefined t l.next ≡ false
  pub outputs : (l : ℕ) → In l t.outputs → is_undefined t l ≡ false
  pub lefts : (g : AndGate) → In g t.gates → is_undefined t g.left ≡ false
  pub rights : (g : AndGate) → In g t.gates → is_undefined t g.right ≡ false

pub all_defined : (t : Aiger) → undefined_line t ≡ None → AreDefined t
unfolding undefined_line
all_defined t is =
    let first = later_none (first_from (λ (l : Latch). is_undefined t l.next) (latch_line t) t.latches) _ is in
    let second = later_none (first_from (is_undefined t) (output_line t) t.outputs) _ first.1 in
    record {
      latches = none_passes (λ (l : Latch). is_undefined t l.next) (latch_line t) t.latches first.0;
      outputs = none_passes (is_undefined t) (output_line t) t.outputs second.0;
      lefts = λ g here. (or_parts (is_undefined t g.left) (is_undefined t g.right) (gates second.1 g here)).0;
      rights = λ g here. (or_parts (is_undefined t g.left) (is_undefined t g.right) (gates second.1 g here)).1;
    }
  where
    gates : first_from (λ (g : AndGate). is_undefined t g.left || is_undefined t g.right) (gate_line t) t.gates ≡ None → (g : AndGate) → In g t.gates
        → (is_undefined t g.left || is_undefined t g.right) ≡ false
    gates none = none_passes (λ (g : AndGate). is_undefined t g.left || is_undefined t g.right) (gate_line t) t.gates none

-- ---- the variable of constants

-- nothing gives the variable of constants its bit
abbrev pub HasFreeConstants : Aiger → Type 0
HasFreeConstants t = driver t 0 ≡ nothing

-- a literal that can be defined has another variable
other_variable : (most : ℕ) (t : Aiger) (l : ℕ) (used : List ℕ) → defining_fault most t l used ≡ None → (variable l == 0) ≡ false
other_variable most t l used is = go (is_beyond most l) (is_negated l) (nat_lt l 2) refl (list_any (is_beyond most) used) is
  where
    go : (a b c : Bool) → nat_lt l 2 ≡ c → (d : Bool) → cond ((a || (b || c)) || d) (Some OutOfRange) (cond (is_defined t (variable l)) (Some DefinedTwice) None) ≡ None → (variable l == 0) ≡ false
    go true b c small d h = absurd (let w : ⊥ = cc in w)
    go false true c small d h = absurd (let w : ⊥ = cc in w)
    go false false true small d h = absurd (let w : ⊥ = cc in w)
    go false false false small d h = let big : 2 ≤ l = ltb-false l 2 small in ne_eqb (l / 2) 0 (λ none. absurd (omega (arith, big, none)))

input_frees : (most : ℕ) (t : Aiger) (o : Option ℕ) (s : Aiger) → input_added most t o ≡ Ok s → HasFreeConstants t → HasFreeConstants s
input_frees most t None s is free = absurd (let w : ⊥ = cc in w)
input_frees most t (Some l) s is free =
    let parts = unless_ok (defining_fault most t l []) (with_input t l) s is in
    subst HasFreeConstants parts.1
    (driver_input t l 0 (free_of most t l [] parts.0) ∙ ap (λ b. cond b (input_bit (length t.inputs)) (driver t 0)) (other_variable most t l [] parts.0) ∙ free)

latch_frees : (most : ℕ) (t : Aiger) (o : Option Latch) (s : Aiger) → latch_added most t o ≡ Ok s → HasFreeConstants t → HasFreeConstants s
latch_frees most t None s is free = absurd (let w : ⊥ = cc in w)
latch_frees most t (Some l) s is free =
    let parts = unless_ok (defining_fault most t l.literal (l.next ∷ [])) (with_latch t l) s is in
    subst HasFreeConstants parts.1
    (driver_latch t l 0 (free_of most t l.literal (l.next ∷ []) parts.0) ∙ ap (λ b. cond b (held_bit (length t.latches)) (driver t 0)) (other_variable most t l.literal (l.next ∷ []) parts.0) ∙ free)

output_frees : (most : ℕ) (t : Aiger) (o : Option ℕ) (s : Aiger) → output_added most t o ≡ Ok s → HasFreeConstants t → HasFreeConstants s
output_frees most t None s is free = absurd (let w : ⊥ = cc in w)
output_frees most t (Some l) s is free = go (is_beyond most l) is
  where
    in_ok : Result Aiger Fault → Aiger
    in_ok (Ok u) = u
    in_ok (Err fault) = t

    go : (b : Bool) → cond b (Err OutOfRange) (Ok (with_output t l)) ≡ Ok s → HasFreeConstants s
    go true h = absurd (let w : ⊥ = cc in w)
    go false h = subst HasFreeConstants (ap in_ok h) (driver_output t l 0 ∙ free)

gate_frees : (most : ℕ) (t : Aiger) (o : Option AndGate) (s : Aiger) → gate_added most t o ≡ Ok s → HasFreeConstants t → HasFreeConstants s
gate_frees most t None s is free = absurd (let w : ⊥ = cc in w)
gate_frees most t (Some g) s is free =
    let parts = unless_ok (defining_fault most t g.literal (g.left ∷ g.right ∷ [])) (with_gate t g) s is in
    subst HasFreeConstants parts.1
    (driver_gate t g 0 (free_of most t g.literal (g.left ∷ g.right ∷ []) parts.0)
    ∙ ap (λ b. cond b (gate_bit (length t.gates)) (driver t 0)) (other_variable most t g.literal (g.left ∷ g.right ∷ []) parts.0) ∙ free)

row_frees : (h : Header) (t s : Aiger) (ws : List (List ℕ)) → row_added h t ws ≡ Ok s → HasFreeConstants t → HasFreeConstants s
unfolding row_added
row_frees h t s ws is free = go (nat_lt (length t.inputs) h.inputs) (nat_lt (length t.latches) h.latches) (nat_lt (length t.outputs) h.outputs) is
  where
    go : (a b c : Bool)
        → cond a (input_added h.most t (one_number ws)) (cond b (latch_added h.most t (latch_of ws)) (cond c (output_added h.most t (one_number ws)) (gate_added h.most t (gate_of ws)))) ≡ Ok s
        → HasFreeConstants s
    go true b c at = input_frees h.most t (one_number ws) s at free
    go false true c at = latch_frees h.most t (latch_of ws) s at free
    go false false true at = output_frees h.most t (one_number ws) s at free
    go false false false at = gate_frees h.most t (gate_of ws) s at free

ended_frees : (t s : Aiger) (o : Option ℕ) → when_ended t o ≡ Ok s → HasFreeConstants t → HasFreeConstants s
ended_frees t s None is free = subst HasFreeConstants (ap in_ok is) free
  where
    in_ok : Result Aiger (ℕ × Fault) → Aiger
    in_ok (Ok u) = u
    in_ok (Err fault) = t
ended_frees t s (Some n) is free = absurd (let w : ⊥ = cc in w)

-- the text ends before its time
abbrev ends_early : ℕ → Result Aiger (ℕ × Fault)
ends_early n = Err (n, BadLine)

from_frees : (h : Header) (n : ℕ) (t s : Aiger) (ls : List (List ℕ)) → tree_from h n t ls ≡ Ok s → HasFreeConstants t → HasFreeConstants s
unfolding tree_from
from_frees h n t s [] is free = go (has_more h t) is
  where
    go : (b : Bool) → cond b (ends_early n) (Ok t) ≡ Ok s → HasFreeConstants s
    go true at = absurd (let w : ⊥ = cc in w)
    go false at = ended_frees t s None at free
from_frees h n t s (l ∷ ls) is free = go (λ u. from_frees h (n + 1) u s ls) (has_more h t) (row_added h t (fields l)) refl is
  where
    go : ((u : Aiger) → tree_from h (n + 1) u ls ≡ Ok s → HasFreeConstants u → HasFreeConstants s) → (b : Bool) (r : Result Aiger Fault) → row_added h t (fields l) ≡ r
        → cond b (goes_on n r (λ u. tree_from h (n + 1) u ls)) (when_ended t (no_symbol n (l ∷ ls))) ≡ Ok s → HasFreeConstants s
    go more true (Ok u) row at = more u at (row_frees h t u (fields l) row free)
    go more true (Err fault) row at = absurd (let w : ⊥ = cc in w)
    go more false r row at = ended_frees t s (no_symbol n (l ∷ ls)) at free

empty_frees : HasFreeConstants empty_tree
unfolding driver
empty_frees = refl

-- nothing gives the variable of constants its bit in the tree that a text says
pub text_frees : (bytes : List ℕ) (t : Aiger) → tree_of_text bytes ≡ Ok t → HasFreeConstants t
unfolding tree_of_text
text_frees bytes t is = go (lines bytes) is
  where
    behind : (o : Option Header) (ls : List (List ℕ)) → tree_behind o ls ≡ Ok t → HasFreeConstants t
    behind None ls at = absurd (let w : ⊥ = cc in w)
    behind (Some h) ls at = from_frees h 2 empty_tree t ls at empty_frees

    go : (ls : List (List ℕ)) → tree_of_lines ls ≡ Ok t → HasFreeConstants t
    go [] at = absurd (let w : ⊥ = cc in w)
    go (l ∷ ls) at = behind (header_of (fields l)) ls at
