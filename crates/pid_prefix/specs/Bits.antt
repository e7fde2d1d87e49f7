-- Blocks of numbers of 128 bits, whose first bits, as many as a length says, are the same (RFC 4291, section 2.3).
use Rattle.std.specs.Prelude.{◌≡◌, ℕ, ◌+◌, ◌-◌, ◌%◌, ◌^◌, ◌≤◌}

-- the number behind the last of the block
abbrev pub end_of : ℕ → ℕ → ℕ
end_of first len = first + 2 ^ (128 - len)

-- a block of 128 bits begins with the number: the bits past the length are zero
abbrev pub IsBlock : ℕ → ℕ → Type 0
IsBlock first len = (len ≤ 128) × (first % 2 ^ (128 - len) ≡ 0) × (end_of first len ≤ 2 ^ 128)
