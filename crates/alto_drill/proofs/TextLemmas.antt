-- The texts in documents of good rows are in UTF-8.
use Rattle.std.proofs.Common.{◌≡◌, ℕ, zero, suc, ◌^◌, ◌<◌, ◌≤◌, inl, inr, Bool, true, false, List, [], ◌∷◌, ◌++◌}
use Rattle.std.proofs.Common.{length, get_or, Option, Some, None, Ok, Err, if◌then◌else◌, codes, decimal, refl, arith}
use Rattle.std.proofs.lemmas.Bool.Decides.{nat_tests}
use Rattle.std.proofs.lemmas.Fmt.{IsAscii-decimal}
use Rattle.std.proofs.lemmas.List.Elements.{All-weaker}
use Rattle.std.proofs.lemmas.Str.{IsUtf8-append, IsUtf8-from_ascii}
use Rattle.std.proofs.lemmas.Str.Ascii.{IsAscii-cons, IsAscii-from_all, IsAscii-nil}
use Rattle.std.proofs.NetLemmas.Alphabet.{All-hex_groups_text, All-ipv4_text, IsDigitOrDot, IsHexOrColon}
use Rattle.std.specs.List.{list_all}
use Rattle.std.specs.Prelude.{◌&&◌, ◌==◌, nat_lt}
use Rattle.std.specs.Str.{IsAscii, IsUtf8}
use Rattle.alto_addr.specs.Bits.{HasBits, width_of}
use Rattle.alto_addr.specs.declared.addr.Addr.{Addr}
use Rattle.alto_addr.specs.declared.addr.Addr.TheVariants.{V4, V6}
use Rattle.alto_addr.specs.declared.prefix.Prefix.{Prefix}
use Rattle.alto_addr.specs.Text.{addr_text, groups_of, octets_of, prefix_text}
use Rattle.alto_names.specs.declared.label.NameFault.{NameFault}
use Rattle.alto_names.specs.Name.{first_bad, is_letter_or_digit, is_metric_byte, is_net_byte, is_pid_byte, IsEpoch}
use Rattle.alto_names.specs.Name.{IsMetric, IsNetName, IsPidName, IsPropName, named, unless_bad}
use Rattle.alto_names.proofs.NameLemmas.{text_if_none_bad}
use Rattle.alto_rows.specs.declared.entity.Entity.{Entity}
use Rattle.alto_rows.specs.declared.entity.Entity.TheVariants as entity
use Rattle.alto_rows.specs.Entities.{block_text, entity_text, type_tag}
use Rattle.alto_rows.specs.Good.{IsEntity}

-- ---- names

not_bad : (b : Bool) (fault : NameFault) (text : List ℕ) (bad : Option ℕ)
    → (if b then Err fault else unless_bad text bad) ≡ Ok text → None ≡ bad
not_bad true fault text bad h = cc
not_bad false fault text None h = refl
not_bad false fault text (Some place) h = cc

named_text : (alphabet : ℕ → Bool) (longest : ℕ) (text : List ℕ) → ((byte : ℕ) → alphabet byte ≡ true → byte < 128)
    → named alphabet longest text ≡ Ok text → IsUtf8 text
named_text alphabet longest [] ascii h = cc
named_text alphabet longest (byte ∷ text) ascii h =
    text_if_none_bad alphabet (byte ∷ text) ascii (not_bad (nat_lt longest (length (byte ∷ text))) _ (byte ∷ text)
    (first_bad alphabet (byte ∷ text)) h)

pub net_text : (name : List ℕ) → IsNetName name → IsUtf8 name
net_text name is = named_text is_net_byte 24 name (λ byte h. grind (arith, nat_tests)) is

pub pid_text : (name : List ℕ) → IsPidName name → IsUtf8 name
pid_text name is = named_text is_pid_byte 64 name (λ byte h. grind (arith, nat_tests)) is

pub metric_text : (name : List ℕ) → IsMetric name → IsUtf8 name
metric_text name is = named_text is_metric_byte 32 name (λ byte h. grind (arith, nat_tests)) is

pub prop_text : (name : List ℕ) → IsPropName name → IsUtf8 name
prop_text name is = named_text is_metric_byte 32 name (λ byte h. grind (arith, nat_tests)) is

pub epoch_text : (name : List ℕ) → IsEpoch name → IsUtf8 name
epoch_text name is = named_text is_letter_or_digit 20 name (λ byte h. grind (arith, nat_tests)) is

-- ---- written texts

all_below : (text : List ℕ) → list_all (λ byte. nat_lt byte 128) text ≡ true → IsAscii text
all_below [] h = IsAscii-nil
all_below (byte ∷ text) h = by (nat_lt byte 128) refl (λ rest. all_below text rest) h
  where
    by : (b : Bool) → nat_lt byte 128 ≡ b → (list_all (λ byte. nat_lt byte 128) text ≡ true → IsAscii text)
        → (b && list_all (λ byte. nat_lt byte 128) text) ≡ true → IsAscii (byte ∷ text)
    by true e below rest = IsAscii-cons byte text (grind (arith, nat_tests)) (below rest)
    by false e below rest = cc

-- a text that is written out
pub plain_text : (text : List ℕ) → list_all (λ byte. nat_lt byte 128) text ≡ true → IsUtf8 text
plain_text text h = IsUtf8-from_ascii text (all_below text h)

pub decimal_text : (n : ℕ) → n < 2 ^ 64 → IsUtf8 (decimal n)
decimal_text n small = IsUtf8-from_ascii (decimal n) (IsAscii-decimal n small)

dotted_low : (c : ℕ) → IsDigitOrDot c → c < 128
dotted_low c (inl h) = omega (arith, h.0, h.1)
dotted_low c (inr h) = omega (arith, h)

hex_low : (c : ℕ) → IsHexOrColon c → c < 128
hex_low c (inl h) = omega (arith, h.0, h.1)
hex_low c (inr h) = omega (arith, h.0, h.1)

octets_fit : (number : ℕ) → number < 2 ^ 32 → (k : ℕ) → get_or (octets_of number) k 0 < 2 ^ 8
octets_fit number small zero = omega (arith, small)
octets_fit number small (suc zero) = omega arith
octets_fit number small (suc (suc zero)) = omega arith
octets_fit number small (suc (suc (suc zero))) = omega arith
octets_fit number small (suc (suc (suc (suc k)))) = omega arith

groups_fit : (number : ℕ) → number < 2 ^ 128 → (k : ℕ) → get_or (groups_of number) k 0 < 2 ^ 16
groups_fit number small zero = omega (arith, small)
groups_fit number small (suc zero) = omega arith
groups_fit number small (suc (suc zero)) = omega arith
groups_fit number small (suc (suc (suc zero))) = omega arith
groups_fit number small (suc (suc (suc (suc zero)))) = omega arith
groups_fit number small (suc (suc (suc (suc (suc zero))))) = omega arith
groups_fit number small (suc (suc (suc (suc (suc (suc zero)))))) = omega arith
groups_fit number small (suc (suc (suc (suc (suc (suc (suc zero))))))) = omega arith
groups_fit number small (suc (suc (suc (suc (suc (suc (suc (suc k)))))))) = omega arith

-- of addresses, prefixes and entities
addr_is_text : (addr : Addr) → HasBits addr → IsUtf8 (addr_text addr)
addr_is_text (V4 number) small =
    IsUtf8-from_ascii _ (IsAscii-from_all
    _ (All-weaker IsDigitOrDot (λ c. c < 128) dotted_low
    _ (All-ipv4_text (octets_of number) (octets_fit number small))))
addr_is_text (V6 number) small =
    IsUtf8-from_ascii _ (IsAscii-from_all
    _ (All-weaker IsHexOrColon (λ c. c < 128) hex_low
    _ (All-hex_groups_text (groups_of number) (groups_fit number small))))

width_small : (addr : Addr) (len : ℕ) → len ≤ width_of addr → len < 2 ^ 64
width_small (V4 number) len short = omega (arith, short)
width_small (V6 number) len short = omega (arith, short)

pub prefix_is_text : (prefix : Prefix) → HasBits prefix.addr → IsUtf8 (prefix_text prefix.addr prefix.len)
prefix_is_text prefix bits =
    IsUtf8-append (addr_text prefix.addr ++ codes "/") (decimal prefix.len)
    (IsUtf8-append (addr_text prefix.addr) (codes "/") (addr_is_text prefix.addr bits) (plain_text (codes "/") refl))
    (decimal_text prefix.len (width_small prefix.addr prefix.len prefix.is_prefix.0))

tag_is_text : (addr : Addr) → IsUtf8 (type_tag addr)
tag_is_text (V4 number) = plain_text (codes "ipv4:") refl
tag_is_text (V6 number) = plain_text (codes "ipv6:") refl

block_is_text : (block : Prefix) → HasBits block.addr → IsUtf8 (block_text block)
block_is_text block bits = by (block.len == width_of block.addr)
  where
    by : (b : Bool) → IsUtf8 (if b then addr_text block.addr else prefix_text block.addr block.len)
    by true = addr_is_text block.addr bits
    by false = prefix_is_text block bits

pub entity_is_text : (net : List ℕ) (entity : Entity) → IsNetName net → IsEntity entity
    → IsUtf8 (entity_text net entity)
entity_is_text net (entity.Block block) is bits =
    IsUtf8-append (type_tag block.addr) (block_text block) (tag_is_text block.addr) (block_is_text block bits)
entity_is_text net (entity.Pid pid) is named =
    IsUtf8-append net (codes ".pid:" ++ pid) (net_text net is)
    (IsUtf8-append (codes ".pid:") pid (plain_text (codes ".pid:") refl) (pid_text pid named))
