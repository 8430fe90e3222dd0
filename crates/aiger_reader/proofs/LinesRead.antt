-- Lines that are read one after another.
use Rattle.std.proofs.Common.{◌≡◌, ℕ, suc, ◌+◌, ◌<◌, ◌≤◌, ◌^◌, ◌||◌, ◌==◌, Bool, true, false, cond, List, [], ◌∷◌, ◌++◌, length, refl, sym, ap, subst, ◌∙◌, arith, nat_lt, length-append}
use Rattle.std.specs.Prelude.{Option, Some, None, option_map, Result, Ok, Err}
use Rattle.std.proofs.lemmas.Bool.{ltb-true, ltb-false, lt-ltb, le-ltb}
use Rattle.text_lines.specs.Lines.{lines, onto}
use Rattle.text_lines.proofs.Splitting.{no_lines}
use Rattle.aiger_laws.specs.declared.fault.Fault.{Fault}
use Rattle.aiger_laws.specs.declared.fault.Fault.TheVariants.{BadLine, OutOfRange}
use Rattle.aiger_laws.specs.declared.tree.Latch.{Latch}
use Rattle.aiger_laws.specs.declared.tree.AndGate.{AndGate}
use Rattle.aiger_laws.specs.Trees.{Aiger, empty_tree}
use Rattle.aiger_laws.specs.Fields.{fields}
use Rattle.aiger_laws.specs.Rows.{Header, header_of, is_beyond, defining_fault, unless, with_input, with_latch, with_output, with_gate, input_added, latch_added, output_added, gate_added, one_number, latch_of, gate_of, row_added, has_more}
use Rattle.aiger_laws.specs.Grammar.{no_symbol, when_ended, goes_on, tree_from, tree_behind, tree_of_lines, tree_of_text}
use Rattle.aiger_laws.proofs.GateDrivers.{unless_ok}
use Rattle.aiger_reader.specs.Saturated.{saturated, outputs_saturated}
use Rattle.aiger_reader.specs.Told.{line_count}

-- ---- how many lines a tree has

-- one more line, of which at most one is an output
pub record Grows (t s : Aiger) : Type 0 where
  pub count : line_count s ≡ line_count t + 1
  pub outputs : length s.outputs ≤ length t.outputs + 1

input_grows : (t : Aiger) (l : ℕ) → Grows t (with_input t l)
input_grows t l = let e : length (t.inputs ++ l ∷ []) ≡ length t.inputs + 1 = length-append t.inputs (l ∷ []) in record { count = omega (arith, e); outputs = omega arith }

latch_grows : (t : Aiger) (l : Latch) → Grows t (with_latch t l)
latch_grows t l = let e : length (t.latches ++ l ∷ []) ≡ length t.latches + 1 = length-append t.latches (l ∷ []) in record { count = omega (arith, e); outputs = omega arith }

output_grows : (t : Aiger) (l : ℕ) → Grows t (with_output t l)
output_grows t l = let e : length (t.outputs ++ l ∷ []) ≡ length t.outputs + 1 = length-append t.outputs (l ∷ []) in record { count = omega (arith, e); outputs = omega (arith, e) }

gate_grows : (t : Aiger) (g : AndGate) → Grows t (with_gate t g)
gate_grows t g = let e : length (t.gates ++ g ∷ []) ≡ length t.gates + 1 = length-append t.gates (g ∷ []) in record { count = omega (arith, e); outputs = omega arith }

input_more : (most : ℕ) (t : Aiger) (o : Option ℕ) (s : Aiger) → input_added most t o ≡ Ok s → Grows t s
input_more most t None s is = absurd (let w : ⊥ = cc in w)
input_more most t (Some l) s is = let parts = unless_ok (defining_fault most t l []) (with_input t l) s is in subst (Grows t) parts.1 (input_grows t l)

latch_more : (most : ℕ) (t : Aiger) (o : Option Latch) (s : Aiger) → latch_added most t o ≡ Ok s → Grows t s
latch_more most t None s is = absurd (let w : ⊥ = cc in w)
latch_more most t (Some l) s is = let parts = unless_ok (defining_fault most t l.literal (l.next ∷ [])) (with_latch t l) s is in subst (Grows t) parts.1 (latch_grows t l)

output_more : (most : ℕ) (t : Aiger) (o : Option ℕ) (s : Aiger) → output_added most t o ≡ Ok s → Grows t s
output_more most t None s is = absurd (let w : ⊥ = cc in w)
output_more most t (Some l) s is = go (is_beyond most l) is
  where
    in_ok : Result Aiger Fault → Aiger
    in_ok (Ok u) = u
    in_ok (Err fault) = t

    go : (b : Bool) → cond b (Err OutOfRange) (Ok (with_output t l)) ≡ Ok s → Grows t s
    go true h = absurd (let w : ⊥ = cc in w)
    go false h = subst (Grows t) (ap in_ok h) (output_grows t l)

gate_more : (most : ℕ) (t : Aiger) (o : Option AndGate) (s : Aiger) → gate_added most t o ≡ Ok s → Grows t s
gate_more most t None s is = absurd (let w : ⊥ = cc in w)
gate_more most t (Some g) s is =
    let parts = unless_ok (defining_fault most t g.literal (g.left ∷ g.right ∷ [])) (with_gate t g) s is in subst (Grows t) parts.1 (gate_grows t g)

pub row_more : (h : Header) (t s : Aiger) (ws : List (List ℕ)) → row_added h t ws ≡ Ok s → Grows t s
unfolding row_added
row_more h t s ws is = go (nat_lt (length t.inputs) h.inputs) (nat_lt (length t.latches) h.latches) (nat_lt (length t.outputs) h.outputs) is
  where
    go : (a b c : Bool) → cond a (input_added h.most t (one_number ws)) (cond b (latch_added h.most t (latch_of ws)) (cond c (output_added h.most t (one_number ws)) (gate_added h.most t (gate_of ws)))) ≡ Ok s
        → Grows t s
    go true b c at = input_more h.most t (one_number ws) s at
    go false true c at = latch_more h.most t (latch_of ws) s at
    go false false true at = output_more h.most t (one_number ws) s at
    go false false false at = gate_more h.most t (gate_of ws) s at

-- ---- one line after another

-- a result that is an error
abbrev failed : ℕ → Fault → Result Aiger (ℕ × Fault)
failed n fault = Err (n, fault)

-- no line is left, and the header says more
pub from_end : (h : Header) (n : ℕ) (t : Aiger) (rest : List ℕ) → has_more h t ≡ true → length rest ≡ 0 → tree_from h n t (lines rest) ≡ failed n BadLine
unfolding tree_from
from_end h n t rest more none = ap (tree_from h n t) (no_lines rest none) ∙ ap (λ (b : Bool). cond b (failed n BadLine) (Ok t)) more

-- a line that has a fault
pub from_fault : (h : Header) (n : ℕ) (t : Aiger) (rest line others : List ℕ) (fault : Fault) → has_more h t ≡ true → lines rest ≡ line ∷ lines others → row_added h t (fields line) ≡ Err fault
    → tree_from h n t (lines rest) ≡ failed n fault
unfolding tree_from
from_fault h n t rest line others fault more split row =
    ap (tree_from h n t) split
    ∙ ap (λ (b : Bool). cond b (goes_on n (row_added h t (fields line)) (λ u. tree_from h (n + 1) u (lines others))) (when_ended t (no_symbol n (line ∷ lines others)))) more
    ∙ ap (λ (r : Result Aiger Fault). goes_on n r (λ u. tree_from h (n + 1) u (lines others))) row

-- a line that has none
pub from_more : (h : Header) (n : ℕ) (t s : Aiger) (rest line others : List ℕ) → has_more h t ≡ true → lines rest ≡ line ∷ lines others → row_added h t (fields line) ≡ Ok s
    → tree_from h (n + 1) s (lines others) ≡ tree_from h n t (lines rest)
unfolding tree_from
from_more h n t s rest line others more split row =
    sym (ap (tree_from h n t) split
    ∙ ap (λ (b : Bool). cond b (goes_on n (row_added h t (fields line)) (λ u. tree_from h (n + 1) u (lines others))) (when_ended t (no_symbol n (line ∷ lines others)))) more
    ∙ ap (λ (r : Result Aiger Fault). goes_on n r (λ u. tree_from h (n + 1) u (lines others))) row)

-- the header says no more
pub from_done : (h : Header) (n : ℕ) (t : Aiger) (ls : List (List ℕ)) → has_more h t ≡ false → tree_from h n t ls ≡ when_ended t (no_symbol n ls)
unfolding tree_from no_symbol
from_done h n t [] done = ap (λ (b : Bool). cond b (failed n BadLine) (Ok t)) done
from_done h n t (l ∷ ls) done =
    ap (λ (b : Bool). cond b (goes_on n (row_added h t (fields l)) (λ u. tree_from h (n + 1) u ls)) (when_ended t (no_symbol n (l ∷ ls)))) done

-- ---- a number of outputs that is told up to 2^32

below_saturated : (k n : ℕ) → k < 2 ^ 32 → nat_lt k (saturated n) ≡ nat_lt k n
below_saturated k n small = go (nat_lt k n) refl
  where
    go : (b : Bool) → nat_lt k n ≡ b → nat_lt k (saturated n) ≡ b
    go true e = let below : k < n = ltb-true k n e in lt-ltb k (saturated n) (omega (arith, below, small))
    go false e = let above : n ≤ k = ltb-false k n e in le-ltb k (saturated n) (omega (arith, above, small))

more_saturated : (h : Header) (t : Aiger) → length t.outputs < 2 ^ 32 → has_more (outputs_saturated h) t ≡ has_more h t
unfolding has_more
more_saturated h t small =
    ap (λ (b : Bool). nat_lt (length t.inputs) h.inputs || (nat_lt (length t.latches) h.latches || (b || nat_lt (length t.gates) h.gates))) (below_saturated (length t.outputs) h.outputs small)

row_saturated : (h : Header) (t : Aiger) (ws : List (List ℕ)) → length t.outputs < 2 ^ 32 → row_added (outputs_saturated h) t ws ≡ row_added h t ws
unfolding row_added
row_saturated h t ws small =
    ap (λ (b : Bool). cond (nat_lt (length t.inputs) h.inputs) (input_added h.most t (one_number ws))
    (cond (nat_lt (length t.latches) h.latches) (latch_added h.most t (latch_of ws)) (cond b (output_added h.most t (one_number ws)) (gate_added h.most t (gate_of ws)))))
    (below_saturated (length t.outputs) h.outputs small)

pub from_saturated : (h : Header) (n : ℕ) (t : Aiger) (ls : List (List ℕ)) → length t.outputs + length ls < 2 ^ 32 → tree_from (outputs_saturated h) n t ls ≡ tree_from h n t ls
unfolding tree_from
from_saturated h n t [] small = ap (λ (b : Bool). cond b (failed n BadLine) (Ok t)) (more_saturated h t (omega (arith, small)))
from_saturated h n t (l ∷ ls) small =
    ap (λ (b : Bool). cond b (goes_on n (row_added (outputs_saturated h) t (fields l)) (λ u. tree_from (outputs_saturated h) (n + 1) u ls)) (when_ended t (no_symbol n (l ∷ ls))))
    (more_saturated h t (omega (arith, small)))
    ∙ ap (λ (r : Result Aiger Fault). cond (has_more h t) (goes_on n r (λ u. tree_from (outputs_saturated h) (n + 1) u ls)) (when_ended t (no_symbol n (l ∷ ls))))
    (row_saturated h t (fields l) (omega (arith, small)))
    ∙ go (λ u fits. from_saturated h (n + 1) u ls fits) (has_more h t) (row_added h t (fields l)) refl
  where
    go : ((u : Aiger) → length u.outputs + length ls < 2 ^ 32 → tree_from (outputs_saturated h) (n + 1) u ls ≡ tree_from h (n + 1) u ls) → (b : Bool) (r : Result Aiger Fault) → row_added h t (fields l) ≡ r
        → cond b (goes_on n r (λ u. tree_from (outputs_saturated h) (n + 1) u ls)) (when_ended t (no_symbol n (l ∷ ls)))
        ≡ cond b (goes_on n r (λ u. tree_from h (n + 1) u ls)) (when_ended t (no_symbol n (l ∷ ls)))
    go more true (Ok u) row = let grows : Grows t u = row_more h t u (fields l) row in more u (omega (arith, grows.outputs, small))
    go more true (Err fault) row = refl
    go more false r row = refl

length-onto : (b : ℕ) (ls : List (List ℕ)) → length (onto b ls) ≤ suc (length ls)
length-onto b [] = omega arith
length-onto b (l ∷ ls) = omega arith

pub length-lines : (bs : List ℕ) → length (lines bs) ≤ length bs
unfolding lines
length-lines [] = omega arith
length-lines (b ∷ bs) = go (b == 10) (length-lines bs)
  where
    go : (t : Bool) → length (lines bs) ≤ length bs → length (cond t ([] ∷ lines bs) (onto b (lines bs))) ≤ suc (length bs)
    go true ih = omega (arith, ih)
    go false ih = omega (arith, ih, length-onto b (lines bs))

-- the header as it is told gives the same tree
pub behind_told : (o : Option Header) (told : Header) (rest : List ℕ) → Some told ≡ option_map outputs_saturated o → length rest ≤ 2 ^ 26
    → tree_from told 2 empty_tree (lines rest) ≡ tree_behind o (lines rest)
behind_told None told rest is short = absurd (let w : ⊥ = cc in w)
behind_told (Some h) told rest is short =
    ap (λ (x : Header). tree_from x 2 empty_tree (lines rest)) (ap in_some is) ∙ from_saturated h 2 empty_tree (lines rest) (omega (arith, length-lines rest, short))
  where
    in_some : Option Header → Header
    in_some (Some x) = x
    in_some None = told

-- no header is told where there is none
pub behind_none : (o : Option Header) (ls : List (List ℕ)) → None ≡ option_map outputs_saturated o → tree_behind o ls ≡ failed 1 BadLine
behind_none None ls is = refl
behind_none (Some h) ls is = absurd (let w : ⊥ = cc in w)

-- a text without a line
pub text_none : (bytes : List ℕ) → length bytes ≡ 0 → tree_of_text bytes ≡ failed 1 BadLine
unfolding tree_of_text
text_none bytes none = ap tree_of_lines (no_lines bytes none)

-- a text with a first line
pub text_some : (bytes line others : List ℕ) → lines bytes ≡ line ∷ lines others → tree_behind (header_of (fields line)) (lines others) ≡ tree_of_text bytes
unfolding tree_of_text
text_some bytes line others split = sym (ap tree_of_lines split)
