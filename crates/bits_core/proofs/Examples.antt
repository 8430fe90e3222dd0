-- The definitions of `specs/Word.antt` computed on words of eight bits.
use Rattle.std.proofs.Common.{◌≡◌, refl, ℕ, true, false, [], ◌∷◌, pos, negsuc}
use Rattle.bits_core.specs.Word.{Word, number, bits, sign, signed, bits_of_ℤ, zeros, ones, flag, first, extract, copies, add, sub, mul, quotient, rest, signed_quotient, signed_rest, and_words, or_words, xor_words, not_word, parity, shift_left, shift_right, shift_right_signed, less, signed_less, same_word}

abbrev byte : ℕ → Word
byte n = bits 8 n

most_significant_first : bits 4 11 ≡ true ∷ false ∷ true ∷ true ∷ []
most_significant_first = refl

number_of_it : number (true ∷ false ∷ true ∷ true ∷ []) ≡ 11
number_of_it = refl

low_bits : number (bits 4 27) ≡ 11
low_bits = refl

top_bit : sign (byte 0x80) ≡ true
top_bit = refl

least : signed (byte 0x80) ≡ negsuc 127
least = refl

greatest : signed (byte 0x7f) ≡ pos 127
greatest = refl

minus_one : bits_of_ℤ 8 (negsuc 0) ≡ byte 0xff
minus_one = refl

padded : first 4 (true ∷ []) ≡ bits 4 8
padded = refl

cut : first 4 (byte 0xa5) ≡ bits 4 0xa
cut = refl

middle : extract 2 4 (byte 0xb6) ≡ bits 4 0xd
middle = refl

three_copies : copies 3 (bits 2 1) ≡ bits 6 0x15
three_copies = refl

sum_wraps : add (byte 0xff) (byte 2) ≡ byte 1
sum_wraps = refl

difference_wraps : sub (byte 1) (byte 2) ≡ byte 0xff
difference_wraps = refl

product_wraps : mul (byte 0x10) (byte 0x11) ≡ byte 0x10
product_wraps = refl

quotient_unsigned : quotient (byte 0xf9) (byte 3) ≡ byte 0x53
quotient_unsigned = refl

rest_unsigned : rest (byte 0xf9) (byte 4) ≡ byte 1
rest_unsigned = refl

by_zero : quotient (byte 7) (byte 0) ≡ byte 0
by_zero = refl

rest_by_zero : rest (byte 7) (byte 0) ≡ byte 7
rest_by_zero = refl

least_by_minus_one : signed_quotient (byte 0x80) (byte 0xff) ≡ byte 0x80
least_by_minus_one = refl

its_rest : signed_rest (byte 0x80) (byte 0xff) ≡ byte 0
its_rest = refl

to_zero : signed_quotient (byte 0xf9) (byte 2) ≡ byte 0xfd
to_zero = refl

sign_of_dividend : signed_rest (byte 0xf9) (byte 3) ≡ byte 0xff
sign_of_dividend = refl

signed_by_zero : signed_quotient (byte 0xf9) (byte 0) ≡ byte 0
signed_by_zero = refl

signed_rest_by_zero : signed_rest (byte 0xf9) (byte 0) ≡ byte 0xf9
signed_rest_by_zero = refl

ands : and_words (byte 0xcc) (byte 0xaa) ≡ byte 0x88
ands = refl

ors : or_words (byte 0xcc) (byte 0xaa) ≡ byte 0xee
ors = refl

xors : xor_words (byte 0xcc) (byte 0xaa) ≡ byte 0x66
xors = refl

inverted : not_word (byte 0xcc) ≡ byte 0x33
inverted = refl

odd_ones : parity (byte 0x07) ≡ true
odd_ones = refl

even_ones : parity (byte 0xff) ≡ false
even_ones = refl

left : shift_left (byte 0x81) 3 ≡ byte 0x08
left = refl

left_out : shift_left (byte 0xff) 200 ≡ zeros 8
left_out = refl

right : shift_right (byte 0x81) 3 ≡ byte 0x10
right = refl

right_out : shift_right (byte 0x80) 8 ≡ byte 0
right_out = refl

right_signed : shift_right_signed (byte 0x81) 3 ≡ byte 0xf0
right_signed = refl

right_signed_out : shift_right_signed (byte 0x80) 9 ≡ ones 8
right_signed_out = refl

below : less (byte 0x7f) (byte 0x80) ≡ true
below = refl

not_below_signed : signed_less (byte 0x7f) (byte 0x80) ≡ false
not_below_signed = refl

below_signed : signed_less (byte 0x80) (byte 0xff) ≡ true
below_signed = refl

alike : same_word (byte 0x5a) (byte 0x5a) ≡ true
alike = refl

unlike : same_word (byte 0x5a) (byte 0x5b) ≡ false
unlike = refl

unlike_widths : same_word (bits 3 0) (bits 4 0) ≡ false
unlike_widths = refl

one_bit : flag true ≡ bits 1 1
one_bit = refl
