-- Positions of leaves in a row.
use Rattle.std.proofs.Common.{◌≡◌, ℕ, zero, suc, ◌+◌, ◌*◌, ◌-◌, ◌<◌, List, [], ◌∷◌, ◌++◌, length, map, replicate, refl, sym, ap, ap₂, subst, ◌∙◌, arith, append_assoc}
use Rattle.std.specs.Prelude.{Result, IfOk}
use Rattle.std.proofs.lemmas.Result.{IfOk-weaker}
use Rattle.hw_model.specs.Types.{HwType, width}
use Rattle.hw_model.specs.Kinds.{Kind}
use Rattle.hw_model.specs.Design.{Op}
use Rattle.aggregate_laws.specs.Leaves.{in_row}
use Rattle.aggregate_laws.specs.Rules.{Rule}
use Rattle.aggregate_laws.specs.OperationRules.{all_leaves}
use Rattle.aggregate_laws.specs.Choices.{choice_count, choice_end}
use Rattle.aggregate_laws.specs.Bitcasts.{pieces, joined_end, piece_count, piece_end}
use Rattle.lowering_rules.specs.declared.shapes.Shape.{Shape}
use Rattle.lowering_rules.specs.declared.forms.Form.{Form}
use Rattle.lowering_rules.specs.FormRules.{form_rule}
use Rattle.lowering_rules.specs.Pieces.{leaf_pieces_of}
use Rattle.lowering_rules.specs.Shapes.{ends, last_end, HasShape, HasOffsets}

-- ---- rules

pub rule_same : {A : Type 0} (f g : ℕ → A) → ((i : ℕ) → f i ≡ g i) → (s n : ℕ) → in_row f s n ≡ in_row g s n
rule_same f g same s zero = refl
rule_same f g same s (suc n) = ap₂ (λ x xs. x ∷ xs) (same s) (rule_same f g same (suc s) n)

pub rule_shift : {A : Type 0} (f : ℕ → A) (s n : ℕ) → in_row f (suc s) n ≡ in_row (λ i. f (suc i)) s n
rule_shift f s zero = refl
rule_shift f s (suc n) = ap (λ xs. f (suc s) ∷ xs) (rule_shift f (suc s) n)

pub rule_moved : {A : Type 0} (f : ℕ → A) (k s n : ℕ) → in_row f (k + s) n ≡ in_row (λ i. f (k + i)) s n
rule_moved f k s zero = refl
rule_moved f k s (suc n) =
    let next : suc (k + s) ≡ k + suc s = omega arith in
    ap (λ xs. f (k + s) ∷ xs) (ap (λ j. in_row f j n) next ∙ rule_moved f k (suc s) n)

pub rule_replicate : {A : Type 0} (x : A) (s n : ℕ) → in_row (λ i. x) s n ≡ replicate n x
rule_replicate x s zero = refl
rule_replicate x s (suc n) = ap (λ xs. x ∷ xs) (rule_replicate x (suc s) n)

-- one more of a rule
pub rule_more : {A : Type 0} (f : ℕ → A) (xs whole : List A) (s e : ℕ) → s < e → xs ++ in_row f s (e - s) ≡ whole → (xs ++ f s ∷ []) ++ in_row f (s + 1) (e - (s + 1)) ≡ whole
rule_more f xs whole s e lt is =
    let next : s + 1 ≡ suc s = omega arith in
    let left : suc (e - (s + 1)) ≡ e - s = omega arith in
    append_assoc xs (f s ∷ []) (in_row f (s + 1) (e - (s + 1)))
    ∙ ap (λ j. xs ++ (f s ∷ in_row f j (e - (s + 1)))) next
    ∙ ap (λ n. xs ++ in_row f s n) left
    ∙ is

-- ---- positions after blocks

pub ends_rule : (sizes : ℕ → ℕ) (next l k : ℕ) → ends next (in_row sizes l k) ≡ in_row (λ i. next + choice_end sizes l i) 0 k
ends_rule sizes next l zero = refl
ends_rule sizes next l (suc k) =
    ap (λ xs. (next + sizes l) ∷ xs)
    (ends_rule sizes (next + sizes l + 1) (suc l) k
    ∙ rule_same (λ i. next + sizes l + 1 + choice_end sizes (suc l) i) (λ i. next + choice_end sizes l (suc i)) (λ i. omega arith) 0 k
    ∙ sym (rule_shift (λ i. next + choice_end sizes l i) 0 k))

pub last_rule : (sizes : ℕ → ℕ) (next l k : ℕ) → last_end next (in_row sizes l k) ≡ next + choice_count sizes l k
last_rule sizes next l zero = omega arith
last_rule sizes next l (suc k) = let rest = last_rule sizes (next + sizes l + 1) (suc l) k in omega (arith, rest)

pub ends_pieces : (us : List HwType) (ts : List HwType) (next skip : ℕ)
    → ends next (map joined_end (leaf_pieces_of 0 us skip ts)) ≡ in_row (λ i. next + piece_end us skip ts i) 0 (length ts)
ends_pieces us [] next skip = refl
ends_pieces us (t ∷ ts) next skip =
    let own = joined_end (pieces 0 us skip (width t)) in
    ap (λ xs. (next + own) ∷ xs)
    (ends_pieces us ts (next + own + 1) (skip + width t)
    ∙ rule_same (λ i. next + own + 1 + piece_end us (skip + width t) ts i) (λ i. next + piece_end us skip (t ∷ ts) (suc i)) (λ i. omega arith) 0 (length ts)
    ∙ sym (rule_shift (λ i. next + piece_end us skip (t ∷ ts) i) 0 (length ts)))

pub last_pieces : (us : List HwType) (ts : List HwType) (next skip : ℕ) → last_end next (map joined_end (leaf_pieces_of 0 us skip ts)) ≡ next + piece_count us skip ts
last_pieces us [] next skip = omega arith
last_pieces us (t ∷ ts) next skip =
    let rest = last_pieces us ts (next + joined_end (pieces 0 us skip (width t)) + 1) (skip + width t) in omega (arith, rest)

-- ---- shapes

pub shape_by : (rule : Rule) (o : Op) (count : ℕ) (offsets : List ℕ) (s : Shape) → HasOffsets count offsets s → count ≡ rule.count → offsets ≡ in_row rule.position 0 (length (all_leaves o))
    → HasShape rule o s
shape_by rule o count offsets s has c p = record { count = has.count_is ∙ c; offsets = has.positions_are ∙ p }

-- a form has the shape of its rule
pub shaped : {E : Type 0} (named : Op → Kind) (form f : Form) (o : Op) (count : ℕ) (offsets : List ℕ) (r : Result Shape E) → form ≡ f → IfOk r (HasOffsets count offsets)
    → count ≡ (form_rule named f o).count → offsets ≡ in_row (form_rule named f o).position 0 (length (all_leaves o)) → IfOk r (HasShape (form_rule named form o) o)
shaped named form f o count offsets r is has c p =
    subst (λ g. IfOk r (HasShape (form_rule named g o) o)) (sym is)
    (IfOk-weaker r (HasOffsets count offsets) (HasShape (form_rule named f o) o) (λ s h. shape_by (form_rule named f o) o count offsets s h c p) has)

-- ---- blocks after two operations for each of n elements

pub blocks_end : (sizes : ℕ → ℕ) (n k l : ℕ) → k ≡ l → last_end (n + n) (in_row sizes 0 k) ≡ 2 * n + choice_count sizes 0 l
blocks_end sizes n k l is = let last = last_rule sizes (n + n) 0 k in let same : choice_count sizes 0 k ≡ choice_count sizes 0 l = ap (choice_count sizes 0) is in omega (arith, last, same)

pub blocks_positions : (sizes : ℕ → ℕ) (n k l : ℕ) → k ≡ l → ends (n + n) (in_row sizes 0 k) ≡ in_row (λ i. 2 * n + choice_end sizes 0 i) 0 l
blocks_positions sizes n k l is =
    ends_rule sizes (n + n) 0 k
    ∙ rule_same (λ i. n + n + choice_end sizes 0 i) (λ i. 2 * n + choice_end sizes 0 i) (λ i. omega arith) 0 k
    ∙ ap (in_row (λ i. 2 * n + choice_end sizes 0 i) 0) is

pub turn_positions : (n k l : ℕ) → k ≡ l → in_row (λ i. i) (n + n) k ≡ in_row (λ i. 2 * n + i) 0 l
turn_positions n k l is =
    let from : n + n ≡ n + n + 0 = omega arith in
    ap (λ j. in_row (λ i. i) j k) from
    ∙ rule_moved (λ i. i) (n + n) 0 k
    ∙ rule_same (λ i. n + n + i) (λ i. 2 * n + i) (λ i. omega arith) 0 k
    ∙ ap (in_row (λ i. 2 * n + i) 0) is
