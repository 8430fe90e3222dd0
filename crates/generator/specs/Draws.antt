-- The numbers that a linear congruential generator draws (D. E. Knuth, The Art of Computer Programming, 3.2.1: the linear congruential method).
use Rattle.std.specs.Prelude.{ℕ, zero, suc, ◌+◌, ◌*◌, ◌/◌, ◌%◌, ◌^◌}

-- what one draw makes of the state
abbrev pub next_state : ℕ → ℕ
next_state x = (1664525 * x + 1013904223) % 2 ^ 32

-- the state after so many draws
abbrev pub state_after : ℕ → ℕ → ℕ
state_after x zero = x
state_after x (suc n) = next_state (state_after x n)

-- the number that draw n gives, from 1: the state that it leaves, divided by 65536 and rounded down
abbrev pub number_drawn : ℕ → ℕ → ℕ
number_drawn x n = state_after x n / 65536
