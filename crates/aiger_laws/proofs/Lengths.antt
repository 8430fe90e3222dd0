-- A tree has fewer lines than its text has bytes: each number takes a byte and what ends it.
use Rattle.std.proofs.Common.{◌≡◌, ℕ, suc, ◌+◌, ◌*◌, ◌≤◌, ◌==◌, Bool, true, false, cond, List, [], ◌∷◌, ◌++◌, length, Option, Some, None, refl, ap, subst, arith, length-append}
use Rattle.std.specs.Prelude.{Result, Ok, Err, nat_lt}
use Rattle.text_lines.specs.Lines.{lines, onto}
use Rattle.aiger_laws.specs.declared.fault.Fault.{Fault}
use Rattle.aiger_laws.specs.declared.fault.Fault.TheVariants.{BadLine, OutOfRange}
use Rattle.aiger_laws.specs.declared.tree.Latch.{Latch}
use Rattle.aiger_laws.specs.declared.tree.AndGate.{AndGate}
use Rattle.aiger_laws.specs.Trees.{Aiger, empty_tree}
use Rattle.aiger_laws.specs.Fields.{fields, numeral}
use Rattle.aiger_laws.specs.Rows.{Header, header_of, both, one_number, latch_by, is_reset, latch_of, gate_by, gate_of, is_beyond, defining_fault, with_input, with_latch, with_output, with_gate, input_added, latch_added, output_added, gate_added, row_added, has_more}
use Rattle.aiger_laws.specs.Grammar.{no_symbol, when_ended, goes_on, tree_from, tree_behind, tree_of_lines, tree_of_text}
use Rattle.aiger_laws.proofs.GateDrivers.{unless_ok}

-- how many bytes pieces have, each with one that ends it
abbrev pub ended : List (List ℕ) → ℕ
ended [] = 0
ended (l ∷ ls) = suc (length l) + ended ls

onto_ended : (n b : ℕ) (ps : List (List ℕ)) → ended ps ≤ suc n → ended (onto b ps) ≤ suc (suc n)
onto_ended n b [] few = omega arith
onto_ended n b (p ∷ ps) few = let step : ended (p ∷ ps) ≤ suc n = few in omega arith

lines_ended : (bytes : List ℕ) → ended (lines bytes) ≤ suc (length bytes)
unfolding lines
lines_ended [] = omega arith
lines_ended (b ∷ bs) = go (b == 10) (lines_ended bs)
  where
    go : (t : Bool) → ended (lines bs) ≤ suc (length bs) → ended (cond t ([] ∷ lines bs) (onto b (lines bs))) ≤ suc (suc (length bs))
    go true rest = omega arith
    go false rest = onto_ended (length bs) b (lines bs) rest

fields_ended : (line : List ℕ) → ended (fields line) ≤ suc (length line)
unfolding fields
fields_ended [] = omega arith
fields_ended (b ∷ bs) = go (b == 32) (fields_ended bs)
  where
    go : (t : Bool) → ended (fields bs) ≤ suc (length bs) → ended (cond t ([] ∷ fields bs) (onto b (fields bs))) ≤ suc (suc (length bs))
    go true rest = omega arith
    go false rest = onto_ended (length bs) b (fields bs) rest

-- a number has a byte
some_byte : (w : List ℕ) (n : ℕ) → numeral w ≡ Some n → 1 ≤ length w
unfolding numeral
some_byte [] n is = absurd (let w : ⊥ = cc in w)
some_byte (b ∷ bs) n is = omega arith

-- what numbers of lines take
abbrev pub least_bytes : Aiger → ℕ
least_bytes t = 2 * length t.inputs + 4 * length t.latches + 2 * length t.outputs + 6 * length t.gates

-- ---- the numbers of a line

both_some : (a b : Option ℕ) (p : ℕ × ℕ) → both a b ≡ Some p → (a ≡ Some p.0) × (b ≡ Some p.1)
both_some None b p is = absurd (let w : ⊥ = cc in w)
both_some (Some m) None p is = absurd (let w : ⊥ = cc in w)
both_some (Some m) (Some n) p is = let same : (m, n) ≡ p = ap in_some is in (ap (λ (q : ℕ × ℕ). Some q.0) same, ap (λ (q : ℕ × ℕ). Some q.1) same)
  where
    in_some : Option (ℕ × ℕ) → ℕ × ℕ
    in_some None = (m, n)
    in_some (Some q) = q

one_ended : (ws : List (List ℕ)) (n : ℕ) → one_number ws ≡ Some n → 2 ≤ ended ws
one_ended [] n is = absurd (let w : ⊥ = cc in w)
one_ended (a ∷ []) n is = let byte : 1 ≤ length a = some_byte a n is in omega arith
one_ended (a ∷ b ∷ ws) n is = absurd (let w : ⊥ = cc in w)

two_ended : (a b : List ℕ) (l : Latch) → latch_by (both (numeral a) (numeral b)) ≡ Some l → 4 ≤ ended (a ∷ b ∷ [])
two_ended a b l is = go (both (numeral a) (numeral b)) refl is
  where
    go : (o : Option (ℕ × ℕ)) → both (numeral a) (numeral b) ≡ o → latch_by o ≡ Some l → 4 ≤ ended (a ∷ b ∷ [])
    go None at h = absurd (let w : ⊥ = cc in w)
    go (Some p) at h =
        let parts = both_some (numeral a) (numeral b) p at in
        let first : 1 ≤ length a = some_byte a p.0 parts.0 in
        let second : 1 ≤ length b = some_byte b p.1 parts.1 in
        omega arith

latch_ended : (ws : List (List ℕ)) (l : Latch) → latch_of ws ≡ Some l → 4 ≤ ended ws
latch_ended [] l is = absurd (let w : ⊥ = cc in w)
latch_ended (a ∷ []) l is = absurd (let w : ⊥ = cc in w)
latch_ended (a ∷ b ∷ []) l is = two_ended a b l is
latch_ended (a ∷ b ∷ c ∷ []) l is = go (is_reset a c) is
  where
    go : (t : Bool) → cond t (latch_by (both (numeral a) (numeral b))) None ≡ Some l → 4 ≤ ended (a ∷ b ∷ c ∷ [])
    go true h = let less : 4 ≤ ended (a ∷ b ∷ []) = two_ended a b l h in omega arith
    go false h = absurd (let w : ⊥ = cc in w)
latch_ended (a ∷ b ∷ c ∷ d ∷ ws) l is = absurd (let w : ⊥ = cc in w)

three_ended : (a b c : List ℕ) (g : AndGate) → gate_by (both (numeral a) (numeral b)) (numeral c) ≡ Some g → 6 ≤ ended (a ∷ b ∷ c ∷ [])
three_ended a b c g is = go (both (numeral a) (numeral b)) (numeral c) refl refl is
  where
    go : (o : Option (ℕ × ℕ)) (n : Option ℕ) → both (numeral a) (numeral b) ≡ o → numeral c ≡ n → gate_by o n ≡ Some g → 6 ≤ ended (a ∷ b ∷ c ∷ [])
    go None n at last h = absurd (let w : ⊥ = cc in w)
    go (Some p) None at last h = absurd (let w : ⊥ = cc in w)
    go (Some p) (Some n) at last h =
        let parts = both_some (numeral a) (numeral b) p at in
        let first : 1 ≤ length a = some_byte a p.0 parts.0 in
        let second : 1 ≤ length b = some_byte b p.1 parts.1 in
        let third : 1 ≤ length c = some_byte c n last in
        omega arith

gate_ended : (ws : List (List ℕ)) (g : AndGate) → gate_of ws ≡ Some g → 6 ≤ ended ws
gate_ended [] g is = absurd (let w : ⊥ = cc in w)
gate_ended (a ∷ []) g is = absurd (let w : ⊥ = cc in w)
gate_ended (a ∷ b ∷ []) g is = absurd (let w : ⊥ = cc in w)
gate_ended (a ∷ b ∷ c ∷ []) g is = three_ended a b c g is
gate_ended (a ∷ b ∷ c ∷ d ∷ ws) g is = absurd (let w : ⊥ = cc in w)

-- ---- one more line

-- the tree grows by no more than a line has
abbrev IsGrown : Aiger → List (List ℕ) → Aiger → Type 0
IsGrown t ws s = least_bytes s ≤ least_bytes t + ended ws

input_grows : (most : ℕ) (t : Aiger) (ws : List (List ℕ)) (s : Aiger) → input_added most t (one_number ws) ≡ Ok s → IsGrown t ws s
input_grows most t ws s is = go (one_number ws) refl is
  where
    go : (o : Option ℕ) → one_number ws ≡ o → input_added most t o ≡ Ok s → IsGrown t ws s
    go None at h = absurd (let w : ⊥ = cc in w)
    go (Some l) at h =
        let line : 2 ≤ ended ws = one_ended ws l at in
        let size : length (t.inputs ++ l ∷ []) ≡ length t.inputs + 1 = length-append t.inputs (l ∷ []) in
        subst (IsGrown t ws) (unless_ok (defining_fault most t l []) (with_input t l) s h).1 (omega (arith, line, size))

latch_grows : (most : ℕ) (t : Aiger) (ws : List (List ℕ)) (s : Aiger) → latch_added most t (latch_of ws) ≡ Ok s → IsGrown t ws s
latch_grows most t ws s is = go (latch_of ws) refl is
  where
    go : (o : Option Latch) → latch_of ws ≡ o → latch_added most t o ≡ Ok s → IsGrown t ws s
    go None at h = absurd (let w : ⊥ = cc in w)
    go (Some l) at h =
        let line : 4 ≤ ended ws = latch_ended ws l at in
        let size : length (t.latches ++ l ∷ []) ≡ length t.latches + 1 = length-append t.latches (l ∷ []) in
        subst (IsGrown t ws) (unless_ok (defining_fault most t l.literal (l.next ∷ [])) (with_latch t l) s h).1 (omega (arith, line, size))

output_grows : (most : ℕ) (t : Aiger) (ws : List (List ℕ)) (s : Aiger) → output_added most t (one_number ws) ≡ Ok s → IsGrown t ws s
output_grows most t ws s is = go (one_number ws) refl is
  where
    in_ok : Result Aiger Fault → Aiger
    in_ok (Ok u) = u
    in_ok (Err fault) = t

    added : (l : ℕ) → one_number ws ≡ Some l → (b : Bool) → cond b (Err OutOfRange) (Ok (with_output t l)) ≡ Ok s → IsGrown t ws s
    added l at true h = absurd (let w : ⊥ = cc in w)
    added l at false h =
        let line : 2 ≤ ended ws = one_ended ws l at in
        let size : length (t.outputs ++ l ∷ []) ≡ length t.outputs + 1 = length-append t.outputs (l ∷ []) in
        subst (IsGrown t ws) (ap in_ok h) (omega (arith, line, size))

    go : (o : Option ℕ) → one_number ws ≡ o → output_added most t o ≡ Ok s → IsGrown t ws s
    go None at h = absurd (let w : ⊥ = cc in w)
    go (Some l) at h = added l at (is_beyond most l) h

gate_grows : (most : ℕ) (t : Aiger) (ws : List (List ℕ)) (s : Aiger) → gate_added most t (gate_of ws) ≡ Ok s → IsGrown t ws s
gate_grows most t ws s is = go (gate_of ws) refl is
  where
    go : (o : Option AndGate) → gate_of ws ≡ o → gate_added most t o ≡ Ok s → IsGrown t ws s
    go None at h = absurd (let w : ⊥ = cc in w)
    go (Some g) at h =
        let line : 6 ≤ ended ws = gate_ended ws g at in
        let size : length (t.gates ++ g ∷ []) ≡ length t.gates + 1 = length-append t.gates (g ∷ []) in
        subst (IsGrown t ws) (unless_ok (defining_fault most t g.literal (g.left ∷ g.right ∷ [])) (with_gate t g) s h).1 (omega (arith, line, size))

row_grows : (h : Header) (t s : Aiger) (ws : List (List ℕ)) → row_added h t ws ≡ Ok s → IsGrown t ws s
unfolding row_added
row_grows h t s ws is = go (nat_lt (length t.inputs) h.inputs) (nat_lt (length t.latches) h.latches) (nat_lt (length t.outputs) h.outputs) is
  where
    go : (a b c : Bool)
        → cond a (input_added h.most t (one_number ws)) (cond b (latch_added h.most t (latch_of ws)) (cond c (output_added h.most t (one_number ws)) (gate_added h.most t (gate_of ws)))) ≡ Ok s
        → IsGrown t ws s
    go true b c at = input_grows h.most t ws s at
    go false true c at = latch_grows h.most t ws s at
    go false false true at = output_grows h.most t ws s at
    go false false false at = gate_grows h.most t ws s at

-- ---- all lines

ended_grows : (t s : Aiger) (o : Option ℕ) → when_ended t o ≡ Ok s → least_bytes s ≤ least_bytes t
ended_grows t s None is = subst (λ (u : Aiger). least_bytes u ≤ least_bytes t) (ap in_ok is) (omega arith)
  where
    in_ok : Result Aiger (ℕ × Fault) → Aiger
    in_ok (Ok u) = u
    in_ok (Err fault) = t
ended_grows t s (Some n) is = absurd (let w : ⊥ = cc in w)

-- the text ends before its time
abbrev ends_early : ℕ → Result Aiger (ℕ × Fault)
ends_early n = Err (n, BadLine)

from_grows : (h : Header) (n : ℕ) (t s : Aiger) (ls : List (List ℕ)) → tree_from h n t ls ≡ Ok s → least_bytes s ≤ least_bytes t + ended ls
unfolding tree_from
from_grows h n t s [] is = go (has_more h t) is
  where
    go : (b : Bool) → cond b (ends_early n) (Ok t) ≡ Ok s → least_bytes s ≤ least_bytes t + 0
    go true at = absurd (let w : ⊥ = cc in w)
    go false at = let same : least_bytes s ≤ least_bytes t = ended_grows t s None at in omega arith
from_grows h n t s (l ∷ ls) is = go (λ u. from_grows h (n + 1) u s ls) (has_more h t) (row_added h t (fields l)) refl is
  where
    go : ((u : Aiger) → tree_from h (n + 1) u ls ≡ Ok s → least_bytes s ≤ least_bytes u + ended ls) → (b : Bool) (r : Result Aiger Fault) → row_added h t (fields l) ≡ r
        → cond b (goes_on n r (λ u. tree_from h (n + 1) u ls)) (when_ended t (no_symbol n (l ∷ ls))) ≡ Ok s → least_bytes s ≤ least_bytes t + (suc (length l) + ended ls)
    go more true (Ok u) row at =
        let rest : least_bytes s ≤ least_bytes u + ended ls = more u at in
        let one : least_bytes u ≤ least_bytes t + ended (fields l) = row_grows h t u (fields l) row in
        let line : ended (fields l) ≤ suc (length l) = fields_ended l in
        omega (arith, rest, one, line)
    go more true (Err fault) row at = absurd (let w : ⊥ = cc in w)
    go more false r row at = let same : least_bytes s ≤ least_bytes t = ended_grows t s (no_symbol n (l ∷ ls)) at in omega arith

-- a tree takes no more bytes than its text has, and one
pub text_long : (bytes : List ℕ) (t : Aiger) → tree_of_text bytes ≡ Ok t → least_bytes t ≤ suc (length bytes)
unfolding tree_of_text
text_long bytes t is = let all : ended (lines bytes) ≤ suc (length bytes) = lines_ended bytes in let told : least_bytes t ≤ ended (lines bytes) = go (lines bytes) is in omega (arith, all, told)
  where
    behind : (o : Option Header) (ls : List (List ℕ)) → tree_behind o ls ≡ Ok t → least_bytes t ≤ ended ls
    behind None ls at = absurd (let w : ⊥ = cc in w)
    behind (Some h) ls at = let all : least_bytes t ≤ least_bytes empty_tree + ended ls = from_grows h 2 empty_tree t ls at in omega (arith, all)

    go : (ls : List (List ℕ)) → tree_of_lines ls ≡ Ok t → least_bytes t ≤ ended ls
    go [] at = absurd (let w : ⊥ = cc in w)
    go (l ∷ ls) at = let rest : least_bytes t ≤ ended ls = behind (header_of (fields l)) ls at in omega (arith, rest)
