-- What `parse` reads in a numeral.
use Rattle.std.proofs.Common.{◌≡◌, ℕ, ◌<◌, ◌^◌, ◌&&◌, ◌||◌, ◌==◌, Bool, true, false, cond, not, List, length, Some, None, Result, Ok, Err, refl, sym, ap, subst, ◌∙◌, arith}
use Rattle.std.specs.Prelude.{nat_le, nat_lt, slice_index}
use Rattle.std.specs.Result.{OkIff}
use Rattle.std.specs.Str.{all_ascii_digits}
use Rattle.std.specs.Str.Parse.{digits_value, ParsesUnsigned}
use Rattle.std.proofs.lemmas.Bool.{and_parts, ltb-true, leb-true}
use Rattle.std.proofs.lemmas.Str.Parse.{IsNumeralModel, numerals_by_value, tells_all_ascii_digits, parse_digits}
use Rattle.command_line.specs.Numbers.{is_numeral, if_between, number_between}

own : IsNumeralModel (λ ds. all_ascii_digits ds ≡ true) (digits_value 10)
own = numerals_by_value (λ ds. all_ascii_digits ds ≡ true) tells_all_ascii_digits

module _ (text : List ℕ) (is : is_numeral text ≡ true) where
  parts : (nat_lt 0 (length text) ≡ true) × ((all_ascii_digits text && (length text == 1 || not (slice_index text 0 == 48))) ≡ true)
  parts = and_parts (nat_lt 0 (length text)) (all_ascii_digits text && (length text == 1 || not (slice_index text 0 == 48))) is

  some : 0 < length text
  some = ltb-true 0 (length text) parts.0

  digits : all_ascii_digits text ≡ true
  digits = (and_parts (all_ascii_digits text) (length text == 1 || not (slice_index text 0 == 48)) parts.1).0

  pub parsed : {E : Type 0} (least most : ℕ) (number : ℕ) (r : Result ℕ E) → ParsesUnsigned 64 10 text r → r ≡ Ok number → if_between least most number ≡ number_between least most text
  parsed least most number r gives ok = go r (parse_digits own 64 text r gives digits) ok
    where
      go : {E : Type 0} (r : Result ℕ E) → OkIff r ((0 < length text) × (digits_value 10 text < 2 ^ 64)) (digits_value 10 text) → r ≡ Ok number → if_between least most number ≡ number_between least most text
      go (Ok n) h e = let same : n ≡ number = cc in ap (if_between least most) (sym same ∙ h.1) ∙ ap (λ b. cond b (if_between least most (digits_value 10 text)) None) (sym is)
      go (Err x) h e = cc

  pub unparsed : {E : Type 0} (least most : ℕ) (r : Result ℕ E) {e : E} → most < 2 ^ 64 → ParsesUnsigned 64 10 text r → r ≡ Err e → None ≡ number_between least most text
  unparsed least most r {e} small gives failed =
      out (nat_le (digits_value 10 text) most) refl ∙ ap (λ b. cond b (if_between least most (digits_value 10 text)) None) (sym is)
    where
      out : (b : Bool) → nat_le (digits_value 10 text) most ≡ b → None ≡ if_between least most (digits_value 10 text)
      out true within = absurd (parse_digits own 64 text (Err e) (subst (ParsesUnsigned 64 10 text) failed gives) digits (some, (let low = leb-true (digits_value 10 text) most within in omega (arith, low, small))))
      out false past = go (nat_le least (digits_value 10 text)) past
        where
          go : (b : Bool) → nat_le (digits_value 10 text) most ≡ false → None ≡ cond (b && nat_le (digits_value 10 text) most) (Some (digits_value 10 text)) None
          go true past = ap (λ t. cond t (Some (digits_value 10 text)) None) (sym past)
          go false past = refl
