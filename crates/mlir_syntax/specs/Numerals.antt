-- Numbers in a text (MLIR language reference, "Common syntax": integer literals).
use Rattle.std.specs.Prelude.{ℕ, Bool, ◌+◌, ◌-◌, ◌*◌, ◌^◌, cond, ◌==◌, nat_lt, List, [], ◌∷◌, Option, Some, None, Ok, Err, ℤ, pos, negsuc}
use Rattle.diag.specs.declared.refusal.OpName.{OpName}
use Rattle.diag.specs.declared.cause.Cause.TheVariants.{NumberTooLarge}
use Rattle.mlir_lexer.specs.Contents.{hex_value}
use Rattle.mlir_lexer.specs.declared.token.TokenKind.TheVariants as kind
use Rattle.mlir_syntax.specs.Stream.{StreamToken, is_next, after, refusal_at}
use Rattle.mlir_syntax.specs.Reads.{Reads, Read, on, want}

-- the number that digits stand for in a base, where so much stands before
abbrev pub number_in : ℕ → ℕ → List ℕ → ℕ
number_in base prefix [] = prefix
number_in base prefix (b ∷ bs) = number_in base (prefix * base + hex_value b) bs

-- decimal, or hexadecimal after `0x`
abbrev pub number_of : List ℕ → ℕ
number_of [] = 0
number_of (a ∷ []) = number_in 10 0 (a ∷ [])
number_of (a ∷ b ∷ bs) = cond (b == 120) (number_in 16 0 bs) (number_in 10 0 (a ∷ b ∷ bs))

-- the limit of widths, counts and positions
abbrev pub count_limit : ℕ
count_limit = 2 ^ 32

-- the limit of all numbers
abbrev pub number_limit : ℕ
number_limit = 2 ^ 128

-- a number where it is below a limit
abbrev pub below : ℕ → ℕ → Option ℕ
below limit n = cond (nat_lt n limit) (Some n) None

-- a number that is below a limit, or the refusal of its token
unfoldable pub below_limit : ℕ → OpName → List StreamToken → ℕ → List StreamToken → Read ℕ
below_limit limit op s n left = cond (nat_lt n limit) (Ok (n, left)) (Err (refusal_at NumberTooLarge op s))

-- a number below a limit
unfoldable pub number_below : ℕ → OpName → Reads ℕ
number_below limit op s = on (want op kind.Integer s) (λ t left. below_limit limit op s (number_of t.text) left)

-- the integer with a sign before it
abbrev pub negative : ℕ → ℤ
negative n = cond (n == 0) (pos 0) (negsuc (n - 1))

-- an integer by its distance from 0, with a minus before it or not
abbrev pub signed : Bool → ℕ → ℤ
signed minus n = cond minus (negative n) (pos n)

-- an integer whose distance from 0 is below 2^128, with its sign
unfoldable pub integer : OpName → Reads ℤ
integer op s =
    cond (is_next kind.Minus s)
    (on (number_below number_limit op (after s)) (λ n left. Ok (negative n, left)))
    (on (number_below number_limit op s) (λ n left. Ok (pos n, left)))
