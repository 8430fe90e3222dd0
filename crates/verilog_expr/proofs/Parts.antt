-- Further templates of `built`: selects, concatenations, replications, and choices.
use Rattle.std.proofs.Common.{◌≡◌, ℕ, suc, ◌+◌, ◌-◌, ◌*◌, ◌/◌, ◌<◌, ◌≤◌, ◌^◌, Bool, true, false, cond, ◌&&◌, ◌==◌, nat_lt, List, [], ◌∷◌, ◌++◌, map, length, decimal, Some, refl, sym, ap, ap₂, subst, ◌∙◌, arith, append-nil, length-append}
use Rattle.std.proofs.lemmas.Bool.{eqb-true, eqb-false}
use Rattle.std.proofs.Math.Nat.{mul-div_cancel}
use Rattle.wiring.specs.Lists.{total}
use Rattle.bits_core.specs.Word.{Word, extract, copies}
use Rattle.bits_core.proofs.Numbers.{length-copies, length-extract}
use Rattle.bits_core.proofs.First.{extract_all}
use Rattle.hw_model.specs.Types.{Name, HwType, width}
use Rattle.hw_model.specs.Flat.{width_of}
use Rattle.hw_model.specs.Value.{concat_words as joined_words, is_high}
use Rattle.verilog_model.specs.Numerals.{decimal_number}
use Rattle.verilog_model.specs.Tree.{Expr}
use Rattle.verilog_model.specs.Tree.Expr.{name, bit_select, part_select, repeated}
use Rattle.verilog_model.specs.Tree.Exprs.{last}
use Rattle.verilog_model.specs.Grammar.{choice_level}
use Rattle.verilog_model.specs.Expression.{length_of, lengths_of, is_true, values, own_value}
use Rattle.verilog_model.proofs.Numerals.{decimal_number-decimal}
use Rattle.verilog_expr.specs.Building.{unsigned, parenthesize, unsigned_at, select, select_bits, exprs_of, concatenation, conditional}
use Rattle.verilog_expr.specs.Values.{value_in, values_in, HasBits, HaveBits, IsWholeName}
use Rattle.verilog_expr.proofs.Own.{extended_full, long_same, own_in, bits_weaker, placed_own, unsigned_is, unsigned_at_is, choice_is}
use Rattle.verilog_expr.proofs.Templates.{Gives, gives}

is_true-high : (x : Word) → length x ≡ 1 → is_true x ≡ is_high x
is_true-high [] size = absurd (omega arith)
is_true-high (true ∷ []) size = refl
is_true-high (false ∷ []) size = refl
is_true-high (b ∷ c ∷ x) size = absurd (omega arith)

module _ (widths : Name → ℕ) (ρ : Name → Word) where
  pub gives_own : (P : Type 0) (given : Bool) (w : ℕ) (e : Expr) (x : Word) → length_of widths e ≡ w → value_in widths ρ w e ≡ x → length x ≡ w → Gives widths ρ P given w e x
  gives_own P given w e x long worth size = record {
    bits = record { long = long_same given w (length_of widths e) long; full = λ h. long; worth = ap length worth ∙ size };
    worth = λ p. worth;
  }

  -- ---- selects

  bit_gives : (P : Type 0) (given : Bool) (n : Name) (low : ℕ) → low < 2 ^ 64 → low + 1 ≤ length (ρ n) → Gives widths ρ P given 1 (bit_select n (decimal low)) (extract low 1 (ρ n))
  bit_gives P given n low small room =
      let size : length (extract low 1 (ρ n)) ≡ 1 = length-extract low 1 (ρ n) room in
      let numbers : decimal_number (decimal low) ≡ low = decimal_number-decimal low small in
      let size' : length (extract (decimal_number (decimal low)) 1 (ρ n)) ≡ 1 = ap (λ m. length (extract m 1 (ρ n))) numbers ∙ size in
      gives_own P given 1 (bit_select n (decimal low)) (extract low 1 (ρ n)) refl
      (extended_full 1 false (extract (decimal_number (decimal low)) 1 (ρ n)) size' ∙ ap (λ m. extract m 1 (ρ n)) numbers)
      size

  part_gives : (P : Type 0) (given : Bool) (n : Name) (low w : ℕ) → low + w < 2 ^ 64 → 1 ≤ w → low + w ≤ length (ρ n)
      → Gives widths ρ P given w (part_select n (decimal (low + w - 1)) (decimal low)) (extract low w (ρ n))
  part_gives P given n low w small some room =
      let size : length (extract low w (ρ n)) ≡ w = length-extract low w (ρ n) room in
      let first : decimal_number (decimal low) ≡ low = decimal_number-decimal low (omega arith) in
      let second : decimal_number (decimal (low + w - 1)) ≡ low + w - 1 = decimal_number-decimal (low + w - 1) (omega arith) in
      let long : decimal_number (decimal (low + w - 1)) - decimal_number (decimal low) + 1 ≡ w = omega arith in
      let same : extract (decimal_number (decimal low)) (decimal_number (decimal (low + w - 1)) - decimal_number (decimal low) + 1) (ρ n) ≡ extract low w (ρ n) =
      ap₂ (λ m k. extract m k (ρ n)) first long in
      gives_own P given w (part_select n (decimal (low + w - 1)) (decimal low)) (extract low w (ρ n)) long
      (extended_full w false _ (ap length same ∙ size) ∙ same)
      size

  select_gives : (P : Type 0) (given : Bool) (n : Name) (low w : ℕ) → low + w < 2 ^ 64 → 1 ≤ w → low + w ≤ length (ρ n)
      → Gives widths ρ P given w (select low w (name n)) (extract low w (ρ n))
  select_gives P given n low w small some room = go (w == 1) refl where
    go : (b : Bool) → (w == 1) ≡ b
        → Gives widths ρ P given w (cond b (bit_select n (decimal low)) (part_select n (decimal (low + w - 1)) (decimal low))) (extract low w (ρ n))
    go true is =
        let one : w ≡ 1 = eqb-true w 1 is in
        subst (λ m. Gives widths ρ P given m (bit_select n (decimal low)) (extract low m (ρ n))) (sym one) (bit_gives P given n low (omega arith) (omega arith))
    go false is = part_gives P given n low w small some room

  cut_gives : (P : Type 0) (given : Bool) (low w v : ℕ) (a : Expr) → low + w ≤ v → 1 ≤ w → v < 2 ^ 64 → IsWholeName widths ρ v a
      → Gives widths ρ P given w (select low w a) (extract low w (value_in widths ρ v a))
  cut_gives P given low w v a room some small whole =
      let word : value_in widths ρ v a ≡ ρ whole.called = ap (value_in widths ρ v) whole.same ∙ extended_full v false (ρ whole.called) whole.whole in
      let long : length (ρ whole.called) ≡ v = whole.whole in
      subst (λ e. Gives widths ρ P given w (select low w e) (extract low w (value_in widths ρ v a))) (sym whole.same)
      (subst (λ x. Gives widths ρ P given w (select low w (name whole.called)) (extract low w x)) (sym word)
      (select_gives P given whole.called low w (omega arith) some (omega arith)))

  all_gives : (P : Type 0) (given : Bool) (low w v : ℕ) (a : Expr) → HasBits widths ρ given v a → low ≡ 0 → w ≡ v
      → Gives widths ρ P given w a (extract low w (value_in widths ρ v a))
  all_gives P given low w v a has none same = record {
    bits = subst (λ k. HasBits widths ρ given k a) (sym same) has;
    worth = λ p. ap (λ k. value_in widths ρ k a) same
        ∙ sym (ap₂ (λ m k. extract m k (value_in widths ρ v a)) none (same ∙ sym has.worth) ∙ extract_all (value_in widths ρ v a));
  }

  pub selected_gives : (P : Type 0) (given : Bool) (low w v : ℕ) (a : Expr) → HasBits widths ρ given v a → low + w ≤ v → 1 ≤ w → v < 2 ^ 64
      → (nat_lt w v ≡ true → IsWholeName widths ρ v a) → Gives widths ρ P given w (select_bits low v w a) (extract low w (value_in widths ρ v a))
  selected_gives P given low w v a has room some small whole = go (low == 0) refl (w == v) refl where
    go : (b : Bool) → (low == 0) ≡ b → (c : Bool) → (w == v) ≡ c → Gives widths ρ P given w (cond (b && c) a (select low w a)) (extract low w (value_in widths ρ v a))
    go true none true same = all_gives P given low w v a has (eqb-true low 0 none) (eqb-true w v same)
    go true none false differ = cut_gives P given low w v a room some small (whole (grind (arith, eqb-false w v differ)))
    go false higher c is = cut_gives P given low w v a room some small (whole (grind (arith, eqb-false low 0 higher)))

  -- ---- concatenations and replications

  -- parts stand by themselves
  first_apart : (at : ℕ → Bool) → ((i : ℕ) → at i ≡ false) → (w : ℕ) (e : Expr) → HasBits widths ρ (at 0) w e → HasBits widths ρ false w e
  first_apart at apart w e has = bits_weaker widths ρ (at 0) false w e (λ h. sym (apart 0) ∙ h) has

  parts_long : (at : ℕ → Bool) → ((i : ℕ) → at i ≡ false) → (u : ℕ) (us : List HwType) (e : Expr) (es : List Expr) → HasBits widths ρ (at 0) u e
      → HaveBits widths ρ (λ i. at (suc i)) (map (λ (t : HwType). Some t) us) es → lengths_of widths (exprs_of e es) ≡ u + total (map width us)
  parts_long at apart u [] e [] has have = let l : length_of widths e ≡ u = (first_apart at apart u e has).long in omega arith
  parts_long at apart u [] e (f ∷ es) has have = absurd have
  parts_long at apart u (v ∷ us) e [] has have = absurd have
  parts_long at apart u (v ∷ us) e (f ∷ es) has have =
      let l : length_of widths e ≡ u = (first_apart at apart u e has).long in
      let rest : lengths_of widths (exprs_of f es) ≡ width v + total (map width us) = parts_long (λ i. at (suc i)) (λ i. apart (suc i)) (width v) us f es have.0 have.1 in
      omega arith

  parts_worth : (at : ℕ → Bool) → ((i : ℕ) → at i ≡ false) → (u : HwType) (us : List HwType) (e : Expr) (es : List Expr)
      → HaveBits widths ρ at (map (λ (t : HwType). Some t) (u ∷ us)) (e ∷ es)
      → values widths ρ (exprs_of e es) ≡ joined_words (values_in widths ρ (map width_of (map (λ (t : HwType). Some t) (u ∷ us))) (e ∷ es))
  parts_worth at apart u [] e [] have = own_in widths ρ (width u) e (first_apart at apart (width u) e have.0) ∙ sym (append-nil (value_in widths ρ (width u) e))
  parts_worth at apart u [] e (f ∷ es) have = absurd have.1
  parts_worth at apart u (v ∷ us) e [] have = absurd have.1
  parts_worth at apart u (v ∷ us) e (f ∷ es) have =
      ap₂ (λ x y. x ++ y) (own_in widths ρ (width u) e (first_apart at apart (width u) e have.0)) (parts_worth (λ i. at (suc i)) (λ i. apart (suc i)) v us f es have.1)

  parts_size : (at : ℕ → Bool) (us : List HwType) (es : List Expr) → HaveBits widths ρ at (map (λ (t : HwType). Some t) us) es
      → length (joined_words (values_in widths ρ (map width_of (map (λ (t : HwType). Some t) us)) es)) ≡ total (map width us)
  parts_size at [] [] have = refl
  parts_size at [] (e ∷ es) have = absurd have
  parts_size at (u ∷ us) [] have = absurd have
  parts_size at (u ∷ us) (e ∷ es) have =
      let first : length (value_in widths ρ (width u) e) ≡ width u = have.0.worth in
      let rest : length (joined_words (values_in widths ρ (map width_of (map (λ (t : HwType). Some t) us)) es)) ≡ total (map width us) = parts_size (λ i. at (suc i)) us es have.1 in
      omega (arith, length-append (value_in widths ρ (width u) e) (joined_words (values_in widths ρ (map width_of (map (λ (t : HwType). Some t) us)) es)))

  pub concatenation_gives : (P : Type 0) (given : Bool) (at : ℕ → Bool) → ((i : ℕ) → at i ≡ false) → (us : List HwType) (es : List Expr)
      → HaveBits widths ρ at (map (λ (t : HwType). Some t) us) es → 1 ≤ total (map width us)
      → Gives widths ρ P given (total (map width us)) (concatenation es) (joined_words (values_in widths ρ (map width_of (map (λ (t : HwType). Some t) us)) es))
  concatenation_gives P given at apart [] es have some = absurd (omega arith)
  concatenation_gives P given at apart (u ∷ us) [] have some = absurd have
  concatenation_gives P given at apart (u ∷ us) (e ∷ es) have some =
      let long : lengths_of widths (exprs_of e es) ≡ width u + total (map width us) = parts_long at apart (width u) us e es have.0 have.1 in
      let x : Word = joined_words (values_in widths ρ (map width_of (map (λ (t : HwType). Some t) (u ∷ us))) (e ∷ es)) in
      let size : length x ≡ width u + total (map width us) = parts_size at (u ∷ us) (e ∷ es) have in
      let worth : values widths ρ (exprs_of e es) ≡ x = parts_worth at apart u us e es have in
      gives_own P given (width u + total (map width us)) (concatenation (e ∷ es)) x long
      (extended_full (width u + total (map width us)) false (values widths ρ (exprs_of e es)) (ap length worth ∙ size) ∙ worth)
      size

  -- n copies of v bits
  copies_give : (P : Type 0) (given : Bool) (n v : ℕ) (a : Expr) → HasBits widths ρ false v a → n < 2 ^ 64
      → Gives widths ρ P given (n * v) (repeated (decimal n) (last a)) (copies n (value_in widths ρ v a))
  copies_give P given n v a has small =
      let numbers : decimal_number (decimal n) ≡ n = decimal_number-decimal n small in
      let long : decimal_number (decimal n) * length_of widths a ≡ n * v = ap₂ (λ k l. k * l) numbers has.long in
      let size : length (copies n (value_in widths ρ v a)) ≡ n * v = length-copies n (value_in widths ρ v a) ∙ ap (λ l. n * l) has.worth in
      let same : copies (decimal_number (decimal n)) (own_value widths ρ a) ≡ copies n (value_in widths ρ v a) =
      ap₂ (λ k x. copies k x) numbers (own_in widths ρ v a has) in
      gives_own P given (n * v) (repeated (decimal n) (last a)) (copies n (value_in widths ρ v a)) long
      (extended_full (n * v) false (copies (decimal_number (decimal n)) (own_value widths ρ a)) (ap length same ∙ size) ∙ same)
      size

  pub repeated_gives : (P : Type 0) (given : Bool) (w n v : ℕ) (a : Expr) → HasBits widths ρ false v a → 0 < v → w ≡ n * v → w < 2 ^ 64
      → Gives widths ρ P given w (repeated (decimal (w / v)) (last a)) (copies (w / length (value_in widths ρ v a)) (value_in widths ρ v a))
  repeated_gives P given w n v a has positive times small =
      let count : w / v ≡ n = ap (λ k. k / v) times ∙ mul-div_cancel n positive in
      let count' : w / length (value_in widths ρ v a) ≡ n = ap (λ l. w / l) has.worth ∙ count in
      let bound : n < 2 ^ 64 = at_most_product n v positive (subst (λ k. k < 2 ^ 64) times small) in
      subst (λ m. Gives widths ρ P given w (repeated (decimal m) (last a)) (copies (w / length (value_in widths ρ v a)) (value_in widths ρ v a))) (sym count)
      (subst (λ m. Gives widths ρ P given w (repeated (decimal n) (last a)) (copies m (value_in widths ρ v a))) (sym count')
      (subst (λ m. Gives widths ρ P given m (repeated (decimal n) (last a)) (copies n (value_in widths ρ v a))) (sym times) (copies_give P given n v a has bound)))
    where
      at_most_product : (n v : ℕ) → 0 < v → n * v < 2 ^ 64 → n < 2 ^ 64
      at_most_product n v positive small = grind arith

  -- ---- choices

  pub conditional_gives : (P : Type 0) (given : Bool) (w : ℕ) (c a b : Expr) → HasBits widths ρ false 1 c → HasBits widths ρ given w a → HasBits widths ρ given w b
      → Gives widths ρ P given w (conditional c a b) (cond (is_high (value_in widths ρ 1 c)) (value_in widths ρ w a) (value_in widths ρ w b))
  conditional_gives P given w c a b has first second =
      let truth : is_true (own_value widths ρ (parenthesize (suc choice_level) c)) ≡ is_high (value_in widths ρ 1 c) =
      ap is_true (placed_own widths ρ (suc choice_level) c ∙ own_in widths ρ 1 c has) ∙ is_true-high (value_in widths ρ 1 c) has.worth in
      gives widths ρ P given w false (conditional c a b) _ _
      (choice_is widths ρ given w (parenthesize (suc choice_level) c) (unsigned a) (unsigned_at choice_level b) (value_in widths ρ w a) (value_in widths ρ w b)
      (unsigned_is widths ρ given w a first) (unsigned_at_is widths ρ given choice_level w b second))
      (ap (λ b'. cond b' (value_in widths ρ w a) (value_in widths ρ w b)) truth)
