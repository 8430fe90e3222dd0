-- An integer of a dictionary, whose refusal has the location after the minus.
use Rattle.std.proofs.Common.{◌≡◌, ℕ, ℤ, pos, Bool, true, false, cond, List, Ok, Err, refl, sym, ap, ◌∙◌}
use Rattle.diag.specs.declared.refusal.OpName.{OpName}
use Rattle.diag.specs.declared.cause.Cause.TheVariants.{NumberTooLarge}
use Rattle.mlir_lexer.specs.declared.token.TokenKind.TheVariants as kind
use Rattle.mlir_syntax.specs.Stream.{StreamToken, is_next, after, refusal_at}
use Rattle.mlir_syntax.specs.Reads.{Read, Reads, on}
use Rattle.mlir_syntax.specs.Numerals.{number_below, number_limit, negative, signed, integer}
use Rattle.mlir_syntax.specs.AttributeText.{is_stored, stored_integer}

on-on : {A B C : Type 0} (r : Read A) (f : A → B) (g : B → Reads C) → on (on r (λ n left. Ok (f n, left))) g ≡ on r (λ n left. g (f n) left)
on-on (Err e) f g = refl
on-on (Ok p) f g = refl

-- what is stored, where the digits begin there
abbrev pub stored_from : Bool → OpName → List StreamToken → Read ℤ
stored_from minus op digits =
    on (number_below number_limit op digits) (λ n left. cond (is_stored (signed minus n)) (Ok (signed minus n, left)) (Err (refusal_at NumberTooLarge op digits)))

stored_at : (op : OpName) (s : List StreamToken) (minus : Bool) → minus ≡ is_next kind.Minus s → stored_integer op s ≡ stored_from minus op (cond minus (after s) s)
unfolding stored_integer integer
stored_at op s true e = rw (sym e) (on-on (number_below number_limit op (after s)) negative _)
stored_at op s false e = rw (sym e) (on-on (number_below number_limit op s) (λ n. pos n) _)

pub stored_is : (op : OpName) (s digits : List StreamToken) (minus : Bool) → minus ≡ is_next kind.Minus s → digits ≡ cond minus (after s) s
    → stored_integer op s ≡ stored_from minus op digits
stored_is op s digits minus e d = stored_at op s minus e ∙ ap (stored_from minus op) (sym d)

pub stored_given : (op : OpName) (s digits left : List StreamToken) (minus : Bool) (n : ℕ) (z : ℤ) (b : Bool) → minus ≡ is_next kind.Minus s
    → digits ≡ cond minus (after s) s → number_below number_limit op digits ≡ Ok (n, left) → z ≡ signed minus n → is_stored z ≡ b
    → stored_integer op s ≡ cond b (Ok (z, left)) (Err (refusal_at NumberTooLarge op digits))
stored_given op s digits left minus n z b e d given is_z is_b =
    stored_is op s digits minus e d ∙ rw (given, sym is_z, is_b) refl
