-- Headers and lines of numbers that are told up to 2^32.
use Rattle.std.proofs.lemmas.Bool.{ltb-true, leb-true, lt-ltb, le-leb}
use Rattle.std.proofs.Common.{◌≡◌, ℕ, ◌+◌, ◌*◌, ◌≤◌, ◌<◌, ◌^◌, ◌||◌, ◌&&◌, min, ◌==◌, nat_lt, nat_le, Bool, true, false, cond, List, [], ◌∷◌, ◌++◌, refl, sym, ap, ap₂, ◌∙◌, arith}
use Rattle.std.specs.Prelude.{Option, Some, None, option_map, is_some}
use Rattle.aiger_laws.specs.declared.tree.Latch.{Latch}
use Rattle.aiger_laws.specs.declared.tree.AndGate.{AndGate}
use Rattle.text_lines.specs.Lines.{onto}
use Rattle.aiger_laws.specs.Fields.{fields, numeral}
use Rattle.aiger_laws.specs.Rows.{both, counts, Header, is_ample, if_ample, one_number, latch_of, latch_by, gate_of, gate_by, is_reset, is_named}
use Rattle.aiger_reader.specs.Saturated.{saturated, saturated_latch, saturated_gate, saturated_header, outputs_saturated, ends_latch, fields_left}

-- a pair of such numbers
abbrev pub saturated_pair : ℕ × ℕ → ℕ × ℕ
saturated_pair p = (saturated p.0, saturated p.1)

pub both_saturated : (a b : Option ℕ) → both (option_map saturated a) (option_map saturated b) ≡ option_map saturated_pair (both a b)
both_saturated None b = refl
both_saturated (Some a) None = refl
both_saturated (Some a) (Some b) = refl

pub counts_saturated : (a b : Option (ℕ × ℕ)) (g : Option ℕ)
    → counts (option_map saturated_pair a) (option_map saturated_pair b) (option_map saturated g) ≡ option_map saturated_header (counts a b g)
counts_saturated None b g = refl
counts_saturated (Some a) None g = refl
counts_saturated (Some a) (Some b) None = refl
counts_saturated (Some a) (Some b) (Some g) = refl

pub latch_saturated : (o : Option (ℕ × ℕ)) → latch_by (option_map saturated_pair o) ≡ option_map saturated_latch (latch_by o)
latch_saturated None = refl
latch_saturated (Some p) = refl

pub gate_saturated : (o : Option (ℕ × ℕ)) (r : Option ℕ) → gate_by (option_map saturated_pair o) (option_map saturated r) ≡ option_map saturated_gate (gate_by o r)
gate_saturated None r = refl
gate_saturated (Some p) None = refl
gate_saturated (Some p) (Some r) = refl

-- there is a first field
pub fields_some : (bs : List ℕ) → (w : List ℕ) × (ws : List (List ℕ)) × (fields bs ≡ w ∷ ws)
unfolding fields
fields_some [] = ([], [], refl)
fields_some (b ∷ bs) = go (b == 32) (fields bs)
  where
    go : (t : Bool) (ws : List (List ℕ)) → (w : List ℕ) × (vs : List (List ℕ)) × (cond t ([] ∷ ws) (onto b ws) ≡ w ∷ vs)
    go true ws = ([], ws, refl)
    go false [] = (b ∷ [], [], refl)
    go false (w ∷ ws) = (b ∷ w, ws, refl)

-- a second field
pub one_more : (a bs : List ℕ) → one_number (a ∷ fields bs) ≡ None
one_more a bs = let f = fields_some bs in ap (λ (ws : List (List ℕ)). one_number (a ∷ ws)) f.2

-- a further field behind that on how a latch begins
pub ends_more : (a c bs : List ℕ) → ends_latch a (c ∷ fields bs) ≡ false
ends_more a c bs = let f = fields_some bs in ap (λ (ws : List (List ℕ)). ends_latch a (c ∷ ws)) f.2

-- a fourth field
pub gate_more : (a b c bs : List ℕ) → gate_of (a ∷ b ∷ c ∷ fields bs) ≡ None
gate_more a b c bs = let f = fields_some bs in ap (λ (ws : List (List ℕ)). gate_of (a ∷ b ∷ c ∷ ws)) f.2

-- a field behind the number of a symbol
pub named_more : (a bs : List ℕ) → is_named (a ∷ fields bs) ≡ is_some (numeral a)
named_more a bs = let f = fields_some bs in ap (λ (ws : List (List ℕ)). is_named (a ∷ ws)) f.2

-- whether a number is there does not change
pub some_saturated : (o : Option ℕ) → is_some (option_map saturated o) ≡ is_some o
some_saturated None = refl
some_saturated (Some n) = refl

-- a latch of a line, by what stands behind its two literals
pub latch_split : (a b : List ℕ) (ws : List (List ℕ)) → latch_of (a ∷ b ∷ ws) ≡ cond (ends_latch a ws) (latch_by (both (numeral a) (numeral b))) None
latch_split a b [] = refl
latch_split a b (c ∷ []) = refl
latch_split a b (c ∷ d ∷ ws) = refl

both_true : (a b : Bool) → a && b ≡ true → (a ≡ true) × (b ≡ true)
both_true true b is = (refl, is)
both_true false b is = cc

-- what it is for a header's numbers to fit
pub ample_parts : (h : Header) → is_ample h ≡ true → (h.most < 2 ^ 31) × (h.inputs + h.latches + h.gates ≤ h.most)
ample_parts h is =
    let parts = both_true (nat_lt h.most (2 ^ 31)) (nat_le (h.inputs + h.latches + h.gates) h.most) is in
    (ltb-true h.most (2 ^ 31) parts.0, leb-true (h.inputs + h.latches + h.gates) h.most parts.1)

ample_from : (h : Header) → h.most < 2 ^ 31 → h.inputs + h.latches + h.gates ≤ h.most → is_ample h ≡ true
ample_from h small within = ap₂ (λ (a b : Bool). a && b) (lt-ltb h.most (2 ^ 31) small) (le-leb (h.inputs + h.latches + h.gates) h.most within)

abbrev header_by : ℕ → ℕ → ℕ → ℕ → ℕ → Header
header_by m i l o a = record { most = m; inputs = i; latches = l; outputs = o; gates = a }

header_same : (m i l o a n j k b : ℕ) → m ≡ n → i ≡ j → l ≡ k → a ≡ b → header_by m i l o a ≡ header_by n j k o b
header_same m i l o a n j k b first second third fourth =
    ap (λ (x : ℕ). header_by x i l o a) first ∙ ap (λ (x : ℕ). header_by n x l o a) second ∙ ap (λ (x : ℕ). header_by n j x o a) third ∙ ap (header_by n j k o) fourth

-- of a header whose numbers fit only the number of outputs may be greater
pub ample_saturated : (o : Option Header) → if_ample (option_map saturated_header o) ≡ option_map outputs_saturated (if_ample o)
ample_saturated None = refl
ample_saturated (Some h) = go (is_ample h) refl (is_ample (saturated_header h)) refl
  where
    go : (b : Bool) → is_ample h ≡ b → (c : Bool) → is_ample (saturated_header h) ≡ c
        → cond c (Some (saturated_header h)) None ≡ option_map outputs_saturated (cond b (Some h) None)
    go true is true also =
        let parts = ample_parts h is in
        ap Some (header_same (saturated h.most) (saturated h.inputs) (saturated h.latches) (saturated h.outputs) (saturated h.gates) h.most h.inputs h.latches h.gates
        (omega (arith, parts.0)) (omega (arith, parts.0, parts.1)) (omega (arith, parts.0, parts.1)) (omega (arith, parts.0, parts.1)))
    go true is false also =
        let parts = ample_parts h is in
        let e : is_ample (saturated_header h) ≡ true = ample_from (saturated_header h) (omega (arith, parts.0)) (omega (arith, parts.0, parts.1)) in
        absurd (let w : ⊥ = cc in w)
    go false is true also =
        let parts = ample_parts (saturated_header h) also in
        let e : is_ample h ≡ true = ample_from h (omega (arith, parts.0)) (omega (arith, parts.0, parts.1)) in
        absurd (let w : ⊥ = cc in w)
    go false is false also = refl

-- a header of saturated numbers
pub header_saturated : (m i l o a : Option ℕ)
    → if_ample (counts (both (option_map saturated m) (option_map saturated i)) (both (option_map saturated l) (option_map saturated o)) (option_map saturated a))
    ≡ option_map outputs_saturated (if_ample (counts (both m i) (both l o) a))
header_saturated m i l o a =
    ap₂ (λ (p q : Option (ℕ × ℕ)). if_ample (counts p q (option_map saturated a))) (both_saturated m i) (both_saturated l o)
    ∙ ap if_ample (counts_saturated (both m i) (both l o) a)
    ∙ ample_saturated (counts (both m i) (both l o) a)
