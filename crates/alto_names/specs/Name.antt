-- What a name is: its alphabet, its length, and the first fault of bytes that are none (RFC 7285, sections 10.1 and
-- 10.6).
use Rattle.std.specs.Prelude.{◌≡◌, ℕ, Bool, not, ◌==◌, ◌||◌, ◌&&◌, nat_le, nat_lt, List, [], ◌∷◌, length, Result, Ok}
use Rattle.std.specs.Prelude.{Err, Option, Some, None, if◌then◌else◌, codes}
use Rattle.std.specs.List.{list_any, position_from}
use Rattle.std.specs.Char.{is_ascii_alphanumeric}
use Rattle.alto_names.specs.declared.label.NameFault.{NameFault}
use Rattle.alto_names.specs.declared.label.NameFault.TheVariants.{Empty, TooLong, BadByte}

-- a letter or a digit of US-ASCII
abbrev pub is_letter_or_digit : ℕ → Bool
is_letter_or_digit byte = is_ascii_alphanumeric byte

-- a byte of a network's name: a letter, a digit, `-` or `_`
abbrev pub is_net_byte : ℕ → Bool
is_net_byte byte = is_letter_or_digit byte || list_any (λ mark. byte == mark) (codes "-_")

-- a byte of a PID's name: also `:` and `@`
abbrev pub is_pid_byte : ℕ → Bool
is_pid_byte byte = is_letter_or_digit byte || list_any (λ mark. byte == mark) (codes "-:@_")

-- a byte of a metric's or a property's name: also `:`, but no `@`
abbrev pub is_metric_byte : ℕ → Bool
is_metric_byte byte = is_letter_or_digit byte || list_any (λ mark. byte == mark) (codes "-:_")

-- a byte of an import's id: visible, from U+0021 to U+007E
abbrev pub is_import_byte : ℕ → Bool
is_import_byte byte = nat_le 0x21 byte && nat_le byte 0x7E

-- the place of the first byte that isn't in the alphabet
abbrev pub first_bad : (ℕ → Bool) → List ℕ → Option ℕ
first_bad alphabet text = position_from (λ byte. not (alphabet byte)) 0 text

-- the text as a name, if no byte of it is bad
abbrev pub unless_bad : List ℕ → Option ℕ → Result (List ℕ) NameFault
unless_bad text None = Ok text
unless_bad text (Some place) = Err (BadByte place)

-- what bytes read as: the name that they are, or their first fault
abbrev pub named : (ℕ → Bool) → ℕ → List ℕ → Result (List ℕ) NameFault
named alphabet longest [] = Err Empty
named alphabet longest (byte ∷ rest) =
    if nat_lt longest (length (byte ∷ rest))
    then Err (TooLong (length (byte ∷ rest)))
    else unless_bad (byte ∷ rest) (first_bad alphabet (byte ∷ rest))

-- the bytes are a network's name
abbrev pub IsNetName : List ℕ → Type 0
IsNetName name = named is_net_byte 24 name ≡ Ok name

-- the bytes are a PID's name
abbrev pub IsPidName : List ℕ → Type 0
IsPidName name = named is_pid_byte 64 name ≡ Ok name

-- the bytes are a metric's name
abbrev pub IsMetric : List ℕ → Type 0
IsMetric name = named is_metric_byte 32 name ≡ Ok name

-- the bytes are a property's name
abbrev pub IsPropName : List ℕ → Type 0
IsPropName name = named is_metric_byte 32 name ≡ Ok name

-- the bytes are the name of an abstract network element
abbrev pub IsAneName : List ℕ → Type 0
IsAneName name = named is_pid_byte 32 name ≡ Ok name

-- the bytes are an import's id
abbrev pub IsImportId : List ℕ → Type 0
IsImportId name = named is_import_byte 64 name ≡ Ok name

-- the bytes are an epoch
abbrev pub IsEpoch : List ℕ → Type 0
IsEpoch name = named is_letter_or_digit 20 name ≡ Ok name
