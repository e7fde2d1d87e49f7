-- The dotted text of an address of IPv4.
use Rattle.std.proofs.Common.{◌≡◌, ℕ, ◌-◌, ◌<◌, ◌≤◌, ◌^◌, ◌/◌, ◌%◌, ◌++◌, ◌∷◌, List, [], length, take, drop, decimal}
use Rattle.std.proofs.Common.{IsAscii, IsUtf8, arith, length-drop}
use Rattle.std.specs.Net.Text.{ipv4_text}
use Rattle.std.proofs.lemmas.List.{take_all}
use Rattle.std.proofs.lemmas.Fmt.{length-decimal-le, IsAscii-decimal}
use Rattle.std.proofs.lemmas.Str.{IsAscii-append, IsUtf8-from_ascii}
use Rattle.std.proofs.lemmas.Str.Ascii.{IsAscii-cons, IsAscii-nil}
use Rattle.alto_addr.specs.Text.{octets_of}

-- an octet has three digits at most
pub octet_is_short : (octet : ℕ) → octet < 256 → length (decimal octet) ≤ 3
octet_is_short octet h = length-decimal-le 3 octet (omega arith) (omega arith) (omega arith)

-- octets with dots between them are text
pub dotted_is_utf8 : (number : ℕ) → number < 2 ^ 32 → IsUtf8 (ipv4_text (octets_of number))
dotted_is_utf8 number h =
    let first = IsAscii-decimal (number / 2 ^ 24) (omega (arith, h)) in
    let second = IsAscii-decimal (number / 2 ^ 16 % 256) (omega arith) in
    let third = IsAscii-decimal (number / 2 ^ 8 % 256) (omega arith) in
    let last = IsAscii-decimal (number % 256) (omega arith) in
    let dot = IsAscii-cons 46 [] (omega arith) IsAscii-nil in
    IsUtf8-from_ascii (ipv4_text (octets_of number))
    (IsAscii-append _ _ (IsAscii-append _ _ (IsAscii-append _ _
    (IsAscii-append _ _ (IsAscii-append _ _ (IsAscii-append _ _ first dot) second) dot) third) dot) last)

-- what stands in the room from a place up to its end
pub whole_end : (start : ℕ) (room : List ℕ) → length room ≡ 15 → take (15 - start) (drop start room) ≡ drop start room
whole_end start room e = take_all (15 - start) (drop start room) (omega (arith, length-drop start room, e))
