-- An authority is text: all its bytes are of US-ASCII.
use Rattle.std.proofs.Common.{◌≡◌, ℕ, ◌<◌, Bool, true, false, ◌&&◌, ◌==◌, cond, List, [], ◌∷◌, take, drop, refl, subst}
use Rattle.std.proofs.Common.{arith}
use Rattle.std.proofs.lemmas.Bool.Decides.{nat_tests}
use Rattle.std.specs.Char.{is_ascii_digit}
use Rattle.std.specs.List.{list_all, position_or_len}
use Rattle.std.specs.Str.{IsUtf8, IsAscii}
use Rattle.std.proofs.lemmas.List.{take-append-drop}
use Rattle.std.proofs.lemmas.Str.{IsUtf8-from_ascii, IsAscii-append}
use Rattle.std.proofs.lemmas.Str.Ascii.{IsAscii-nil, IsAscii-cons}
use Rattle.alto_answers.specs.Authority.{is_host_byte, is_address_byte, is_name, is_address, is_port, follows_host}
use Rattle.alto_answers.specs.Authority.{follows_address, is_named, is_bracketed, is_authority}

left : (a b : Bool) → (a && b) ≡ true → a ≡ true
left true b h = refl
left false b h = cc

right : (a b : Bool) → (a && b) ≡ true → b ≡ true
right true b h = h
right false b h = cc

host_byte_ascii : (byte : ℕ) → is_host_byte byte ≡ true → byte < 128
host_byte_ascii byte h = grind (arith, nat_tests)

address_byte_ascii : (byte : ℕ) → is_address_byte byte ≡ true → byte < 128
address_byte_ascii byte h = grind (arith, nat_tests)

digit_ascii : (byte : ℕ) → is_ascii_digit byte ≡ true → byte < 128
digit_ascii byte h = grind (arith, nat_tests)

-- a text of an alphabet of US-ASCII is ASCII
all_ascii : (alphabet : ℕ → Bool) (text : List ℕ) → ((byte : ℕ) → alphabet byte ≡ true → byte < 128)
    → list_all alphabet text ≡ true → IsAscii text
all_ascii alphabet [] ascii h = IsAscii-nil
all_ascii alphabet (byte ∷ rest) ascii h =
    IsAscii-cons byte rest (ascii byte (left (alphabet byte) _ h))
    (all_ascii alphabet rest ascii (right (alphabet byte) _ h))

-- a text is ASCII whose two parts are
whole_ascii : (place : ℕ) (text : List ℕ) → IsAscii (take place text) → IsAscii (drop place text) → IsAscii text
whole_ascii place text front back =
    subst IsAscii (take-append-drop place text) (IsAscii-append (take place text) (drop place text) front back)

name_ascii : (text : List ℕ) → is_name text ≡ true → IsAscii text
unfolding is_name
name_ascii text h = all_ascii is_host_byte text host_byte_ascii (right _ _ h)

address_ascii : (text : List ℕ) → is_address text ≡ true → IsAscii text
unfolding is_address
address_ascii text h = all_ascii is_address_byte text address_byte_ascii (right _ _ h)

port_ascii : (text : List ℕ) → is_port text ≡ true → IsAscii text
unfolding is_port
port_ascii text h = all_ascii is_ascii_digit text digit_ascii (right _ _ h)

after_host_ascii : (text : List ℕ) → follows_host text ≡ true → IsAscii text
unfolding follows_host
after_host_ascii [] h = IsAscii-nil
after_host_ascii (mark ∷ port) h =
    let colon : (mark == 58) ≡ true = left (mark == 58) _ h in
    IsAscii-cons mark port (grind (arith, nat_tests)) (port_ascii port (right (mark == 58) _ h))

after_address_ascii : (text : List ℕ) → follows_address text ≡ true → IsAscii text
unfolding follows_address
after_address_ascii [] h = IsAscii-nil
after_address_ascii (mark ∷ rest) h =
    let bracket : (mark == 93) ≡ true = left (mark == 93) _ h in
    IsAscii-cons mark rest (grind (arith, nat_tests)) (after_host_ascii rest (right (mark == 93) _ h))

named_ascii : (text : List ℕ) → is_named text ≡ true → IsAscii text
unfolding is_named
named_ascii text h = whole_ascii (position_or_len (λ b. b == 58) text) text (name_ascii _ (left _ _ h))
    (after_host_ascii _ (right _ _ h))

bracketed_ascii : (text : List ℕ) → is_bracketed text ≡ true → IsAscii text
unfolding is_bracketed
bracketed_ascii text h =
    whole_ascii (position_or_len (λ b. b == 93) text) text (address_ascii _ (left _ _ h))
    (after_address_ascii _ (right _ _ h))

chosen_ascii : (opens : Bool) (first : ℕ) (rest : List ℕ) → (first == 91) ≡ opens
    → cond opens (is_bracketed rest) (is_named (first ∷ rest)) ≡ true → IsAscii (first ∷ rest)
chosen_ascii true first rest bracket h = IsAscii-cons first rest (grind (arith, nat_tests)) (bracketed_ascii rest h)
chosen_ascii false first rest bracket h = named_ascii (first ∷ rest) h

authority_ascii : (text : List ℕ) → is_authority text ≡ true → IsAscii text
unfolding is_authority
authority_ascii [] h = IsAscii-nil
authority_ascii (first ∷ rest) h = chosen_ascii (first == 91) first rest refl h

-- an authority is valid UTF-8
pub authority_is_text : (text : List ℕ) → is_authority text ≡ true → IsUtf8 text
authority_is_text text h = IsUtf8-from_ascii text (authority_ascii text h)
