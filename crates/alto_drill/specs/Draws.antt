-- The numbers that a drill takes: a generator that steps along the numbers of 64 bits.
use Rattle.std.specs.Prelude.{ℕ, zero, suc, ◌+◌, ◌*◌, ◌/◌, ◌%◌, ◌^◌}

-- the state that follows
unfoldable pub next_state : ℕ → ℕ
next_state x = (6364136223846793005 * x + 1442695040888963407) % 2 ^ 64

-- the state after so many draws
unfoldable pub state_after : ℕ → ℕ → ℕ
state_after x zero = x
state_after x (suc n) = next_state (state_after x n)

-- the draw that leaves a state: its high bits
abbrev pub draw_of : ℕ → ℕ
draw_of x = x / 2 ^ 33

-- the n-th draw from a state on, n from 1
unfoldable pub draw : ℕ → ℕ → ℕ
draw x n = draw_of (state_after x n)
