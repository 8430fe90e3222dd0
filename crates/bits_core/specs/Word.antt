-- Words of bits, most significant first, and the operations of hardware on them.
-- A word of w bits stands for a number below 2 ^ w, and by its top bit for a signed one (two's complement).
-- Arithmetic is that of vectors in IEEE 1364-2005, 5.1, where every bit is known.
use Rattle.std.specs.declared.cmp.Ordering.{Ordering}
use Rattle.std.specs.declared.cmp.Ordering.TheVariants.{Less, Equal, Greater}
use Rattle.std.specs.Prelude.{ℕ, zero, suc, ◌+◌, ◌-◌, ◌*◌, ◌/◌, ◌%◌, ◌^◌, min, Bool, true, false, if◌then◌else◌, not, ◌&&◌, ◌||◌, ◌==◌, nat_lt, List, [], ◌∷◌, ◌++◌, map, length, take, drop, replicate, ℤ, pos, negsuc, ◌-ℤ◌, int_lt, int_div, int_rem}

-- a word: its bits, the most significant first
abbrev pub Word : Type 0
Word = List Bool

-- ---- words and numbers

-- a bit as a number
abbrev pub bit : Bool → ℕ
bit false = 0
bit true = 1

-- the number that a word stands for: each bit counts the power of 2 of the bits below it
abbrev pub number : Word → ℕ
number [] = 0
number (b ∷ bs) = bit b * 2 ^ length bs + number bs

-- the low w bits of a number
abbrev pub bits : ℕ → ℕ → Word
bits zero n = []
bits (suc w) n = (n / 2 ^ w % 2 == 1) ∷ bits w n

-- the top bit
abbrev pub sign : Word → Bool
sign [] = false
sign (b ∷ bs) = b

-- the two's complement reading: 2 ^ w less where the top bit is 1
abbrev pub signed : Word → ℤ
signed x = if sign x then pos (number x) -ℤ pos (2 ^ length x) else pos (number x)

-- the low w bits of an integer in two's complement, where -(n + 1) has the bits of n inverted
abbrev pub bits_of_ℤ : ℕ → ℤ → Word
bits_of_ℤ w (pos n) = bits w n
bits_of_ℤ w (negsuc n) = map not (bits w n)

-- ---- words of a given width

-- n bits of 0
abbrev pub zeros : ℕ → Word
zeros n = replicate n false

-- n bits of 1
abbrev pub ones : ℕ → Word
ones n = replicate n true

-- one bit
abbrev pub flag : Bool → Word
flag b = b ∷ []

-- the first w bits, with bits of 0 past the end
abbrev pub first : ℕ → Word → Word
first zero s = []
first (suc w) [] = false ∷ first w []
first (suc w) (b ∷ s) = b ∷ first w s

-- the bits low to low + width - 1, counted from the least significant (part select: IEEE 1364-2005, 5.2.1)
abbrev pub extract : ℕ → ℕ → Word → Word
extract low width x = take width (drop (length x - (low + width)) x)

-- n copies, one after another (replication: IEEE 1364-2005, 5.1.14)
abbrev pub copies : ℕ → Word → Word
copies zero x = []
copies (suc n) x = x ++ copies n x

-- ---- arithmetic modulo 2 ^ w, at the width w of the first word (IEEE 1364-2005, 5.1.5)

-- the sum
abbrev pub add : Word → Word → Word
add x y = bits (length x) (number x + number y)

-- the difference
abbrev pub sub : Word → Word → Word
sub x y = bits_of_ℤ (length x) (pos (number x) -ℤ pos (number y))

-- the product
abbrev pub mul : Word → Word → Word
mul x y = bits (length x) (number x * number y)

-- the quotient, and 0 where the divisor is 0
abbrev pub quotient : Word → Word → Word
quotient x y = bits (length x) (number x / number y)

-- the rest of that quotient, and the dividend where the divisor is 0
abbrev pub rest : Word → Word → Word
rest x y = bits (length x) (number x % number y)

-- the quotient of the signed readings, rounded to zero, and 0 where the divisor is 0
abbrev pub signed_quotient : Word → Word → Word
signed_quotient x y = bits_of_ℤ (length x) (int_div (signed x) (signed y))

-- the rest of that quotient, with the dividend's sign, and the dividend where the divisor is 0
abbrev pub signed_rest : Word → Word → Word
signed_rest x y = bits_of_ℤ (length x) (int_rem (signed x) (signed y))

-- ---- bit by bit (IEEE 1364-2005, 5.1.10)

-- exclusive or of two bits
abbrev pub xor : Bool → Bool → Bool
xor false b = b
xor true b = not b

-- an operation on each bit of a word and the bit of another in its place
abbrev pub bitwise : (Bool → Bool → Bool) → Word → Word → Word
bitwise f [] y = []
bitwise f (a ∷ x) [] = []
bitwise f (a ∷ x) (b ∷ y) = f a b ∷ bitwise f x y

abbrev pub and_words : Word → Word → Word
and_words = bitwise (λ a b. a && b)

abbrev pub or_words : Word → Word → Word
or_words = bitwise (λ a b. a || b)

abbrev pub xor_words : Word → Word → Word
xor_words = bitwise xor

abbrev pub not_word : Word → Word
not_word = map not

-- exclusive or of all bits (reduction: IEEE 1364-2005, 5.1.11)
abbrev pub parity : Word → Bool
parity [] = false
parity (b ∷ bs) = xor b (parity bs)

-- ---- shifts by any number of bits (IEEE 1364-2005, 5.1.12)

-- up, with bits of 0 from below
abbrev pub shift_left : Word → ℕ → Word
shift_left x n = drop n x ++ zeros (min n (length x))

-- down, with bits of 0 from above
abbrev pub shift_right : Word → ℕ → Word
shift_right x n = zeros (min n (length x)) ++ take (length x - n) x

-- down, with copies of the top bit from above
abbrev pub shift_right_signed : Word → ℕ → Word
shift_right_signed x n = replicate (min n (length x)) (sign x) ++ take (length x - n) x

-- ---- comparison (IEEE 1364-2005, 5.1.7 and 5.1.8)

-- whether the number of the first is below that of the second
abbrev pub less : Word → Word → Bool
less x y = nat_lt (number x) (number y)

-- the same of the signed readings
abbrev pub signed_less : Word → Word → Bool
signed_less x y = int_lt (signed x) (signed y)

-- whether two words have the same bits
abbrev pub same_word : Word → Word → Bool
same_word [] [] = true
same_word [] (b ∷ y) = false
same_word (a ∷ x) [] = false
same_word (a ∷ x) (b ∷ y) = not (xor a b) && same_word x y

-- the order of two values, by whether the first is less and whether they are equal
abbrev pub ordering : Bool → Bool → Ordering
ordering true equal = Less
ordering false true = Equal
ordering false false = Greater

-- the order of two words of one width, by their signed readings or by their numbers
abbrev pub order : Bool → Word → Word → Ordering
order true x y = ordering (signed_less x y) (same_word x y)
order false x y = ordering (less x y) (same_word x y)
