-- The authority of the URIs in a reply (RFC 3986, section 3.2): that of the Host field, if it is one (RFC 9110, 7.2).
use Rattle.std.specs.Prelude.{ℕ, Bool, false, true, ◌&&◌, ◌||◌, ◌==◌, nat_le, List, [], ◌∷◌, length, drop, Option, Some}
use Rattle.std.specs.Prelude.{None, if◌then◌else◌, codes}
use Rattle.std.specs.Char.{is_ascii_alphanumeric, is_ascii_digit, is_ascii_hexdigit}
use Rattle.std.specs.List.{list_all, list_any, before_first, position_or_len}

-- the code of a colon
abbrev pub colon : ℕ
colon = 58

-- the code of the bracket that opens an address
abbrev pub opening_bracket : ℕ
opening_bracket = 91

-- the code of the bracket that closes an address
abbrev pub closing_bracket : ℕ
closing_bracket = 93

-- a byte of a host's name
abbrev pub is_host_byte : ℕ → Bool
is_host_byte byte = is_ascii_alphanumeric byte || list_any (λ mark. byte == mark) (codes "-._")

-- a byte of an address in brackets
abbrev pub is_address_byte : ℕ → Bool
is_address_byte byte = is_ascii_hexdigit byte || list_any (λ mark. byte == mark) (codes ":.")

-- the name of a host: one byte or more
unfoldable pub is_name : List ℕ → Bool
is_name text = nat_le 1 (length text) && list_all is_host_byte text

-- an address, as it stands in brackets
unfoldable pub is_address : List ℕ → Bool
is_address text = nat_le 2 (length text) && nat_le (length text) 45 && list_all is_address_byte text

-- a port
unfoldable pub is_port : List ℕ → Bool
is_port text = nat_le 1 (length text) && nat_le (length text) 5 && list_all is_ascii_digit text

-- what may follow a host: nothing, or a colon and a port
unfoldable pub follows_host : List ℕ → Bool
follows_host [] = true
follows_host (mark ∷ port) = mark == colon && is_port port

-- what may follow an address: the bracket that closes it, and then what may follow a host
unfoldable pub follows_address : List ℕ → Bool
follows_address [] = false
follows_address (mark ∷ rest) = mark == closing_bracket && follows_host rest

-- a text from the first such byte on
abbrev pub from_first : ℕ → List ℕ → List ℕ
from_first byte text = drop (position_or_len (λ b. b == byte) text) text

-- the name of a host, and perhaps a port
unfoldable pub is_named : List ℕ → Bool
is_named text = is_name (before_first (λ b. b == colon) text) && follows_host (from_first colon text)

-- what follows the opening bracket: an address, the closing bracket, and perhaps a port
unfoldable pub is_bracketed : List ℕ → Bool
is_bracketed text =
    is_address (before_first (λ b. b == closing_bracket) text) && follows_address (from_first closing_bracket text)

-- a host, and perhaps a port: a host is a name, or an address in brackets
unfoldable pub is_authority : List ℕ → Bool
is_authority [] = false
is_authority (first ∷ rest) = if first == opening_bracket then is_bracketed rest else is_named (first ∷ rest)

-- the authority where the request names none
abbrev pub local : List ℕ
local = codes "localhost"

-- the authority that a text names, in 255 bytes at most
abbrev pub authority_in : List ℕ → List ℕ
authority_in text = if nat_le (length text) 255 && is_authority text then text else local

-- the authority that a request's Host field names
unfoldable pub authority_of : Option (List ℕ) → List ℕ
authority_of (Some host) = authority_in host
authority_of None = local
