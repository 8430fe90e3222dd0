-- Tokens of a pipeline: names, and other bytes one by one (MLIR documentation, "Pass infrastructure": textual pass pipeline specification).
use Rattle.std.specs.Prelude.{ℕ, ◌+◌, Bool, false, cond, ◌&&◌, ◌||◌, ◌==◌, List, [], ◌∷◌, take, nat_le}

-- A to Z, a to z
abbrev pub is_letter : ℕ → Bool
is_letter b = (nat_le 65 b && nat_le b 90) || (nat_le 97 b && nat_le b 122)

-- 0 to 9
abbrev pub is_digit : ℕ → Bool
is_digit b = nat_le 48 b && nat_le b 57

-- letters, digits, `.`, `_`, `-`
abbrev pub is_name_byte : ℕ → Bool
is_name_byte b = is_letter b || (is_digit b || (b == 46 || (b == 95 || b == 45)))

-- a space stands between tokens, and means nothing
abbrev pub is_space : ℕ → Bool
is_space b = b == 32

-- how many bytes at the beginning are bytes of names
abbrev pub name_length : List ℕ → ℕ
name_length [] = 0
name_length (b ∷ bs) = cond (is_name_byte b) (name_length bs + 1) 0

-- the token at the beginning: the longest name, or else one byte
unfoldable pub token_in : List ℕ → List ℕ
token_in bytes = cond (name_length bytes == 0) (take 1 bytes) (take (name_length bytes) bytes)

-- whether a token is a name
abbrev pub is_name : List ℕ → Bool
is_name [] = false
is_name (b ∷ bs) = is_name_byte b
