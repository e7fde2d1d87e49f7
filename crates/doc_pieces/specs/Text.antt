-- Texts whose bytes stand for themselves between quotes (RFC 8259, section 7).
use Rattle.std.specs.Prelude.{ℕ, Bool, not, ◌&&◌, ◌==◌, nat_lt}

-- a byte that stands for itself between quotes
abbrev pub is_plain : ℕ → Bool
is_plain b = not (nat_lt b 32) && not (b == 34) && not (b == 92)
