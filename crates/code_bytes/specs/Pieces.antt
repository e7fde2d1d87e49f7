-- The bytes of the pieces of stored rows: numbers, names, prefixes.
use Rattle.std.specs.Prelude.{◌≡◌, ℕ, ◌≤◌, ◌*◌, ◌/◌, ◌%◌, ◌^◌, Bool, true, List, [], ◌∷◌, ◌++◌, length, Ok, IsUtf8}
use Rattle.std.specs.Int.{bytes_high_first}
use Rattle.std.specs.List.{AllByRecursion}
use Rattle.alto_addr.specs.declared.addr.Addr.{Addr}
use Rattle.alto_addr.specs.declared.addr.Addr.TheVariants.{V4, V6}
use Rattle.alto_addr.specs.declared.prefix.Prefix.{Prefix}
use Rattle.alto_addr.specs.Bits.{HasBits, IsPrefix}
use Rattle.alto_addr.specs.Order.{family_of}
use Rattle.alto_names.specs.Name.{named}
use Rattle.code_bytes.specs.Stuck.{Chain}

-- a number in so many bytes, the highest first
abbrev pub number : ℕ → ℕ → List ℕ
number count n = bytes_high_first count n

-- a name: its length and its bytes
abbrev pub name : List ℕ → List ℕ
name text = length text ∷ text

-- the bytes of an address, those of IPv6 as two halves
abbrev pub address : Addr → List ℕ
address (V4 n) = number 4 n
address (V6 n) = number 8 (n / 2 ^ 64) ++ number 8 (n % 2 ^ 64)

-- a prefix: its family, its address and its length
abbrev pub prefix : Prefix → List ℕ
prefix p = family_of p.addr ∷ (address p.addr ++ (p.len ∷ []))

-- the texts of the numbers of a range
pub record Numbers (count least most : ℕ) (text : List ℕ) : Type 0 where
  pub value : ℕ
  pub above : least ≤ value
  pub below : value ≤ most
  pub spelled : text ≡ number count value

-- the last `count` bytes of the numbers of a range whose bytes before them are those of `before`
pub record NumbersFrom (count before least most : ℕ) (text : List ℕ) : Type 0 where
  pub value : ℕ
  pub above : least ≤ value
  pub below : value ≤ most
  pub begins : value / 2 ^ (8 * count) ≡ before
  pub spelled : text ≡ number count value

-- some number of the range begins so
abbrev pub Begins : ℕ → ℕ → ℕ → ℕ → Type 0
Begins count before least most = (least / 2 ^ (8 * count) ≤ before) × (before ≤ most / 2 ^ (8 * count))

-- so many bytes
abbrev pub Fixed : ℕ → List ℕ → Type 0
Fixed count text = length text ≡ count

-- so many bytes of an alphabet
abbrev pub Letters : (ℕ → Bool) → ℕ → List ℕ → Type 0
Letters alphabet count text = (length text ≡ count) × AllByRecursion (λ byte. alphabet byte ≡ true) text

-- the texts of the names of an alphabet
pub record Names (alphabet : ℕ → Bool) (longest : ℕ) (text : List ℕ) : Type 0 where
  pub value : List ℕ
  pub is_name : named alphabet longest value ≡ Ok value
  pub spelled : text ≡ name value

-- the texts of prefixes
pub record Prefixes (text : List ℕ) : Type 0 where
  pub value : Prefix
  pub has_bits : HasBits value.addr
  pub spelled : text ≡ prefix value

-- the texts of prefixes behind the byte of their family
pub record PrefixesOf (family : ℕ) (text : List ℕ) : Type 0 where
  pub value : Prefix
  pub has_bits : HasBits value.addr
  pub is_of : family ≡ family_of value.addr
  pub spelled : text ≡ address value.addr ++ (value.len ∷ [])

-- the texts of the lengths that an address may have
pub record LengthsOf (addr : Addr) (text : List ℕ) : Type 0 where
  pub len : ℕ
  pub is_prefix : IsPrefix addr len
  pub spelled : text ≡ len ∷ []

-- what depends on a number before it
pub record Behind (count least most : ℕ) (Body : ℕ → List ℕ → Type 0) (front text : List ℕ) : Type 0 where
  pub value : ℕ
  pub above : least ≤ value
  pub below : value ≤ most
  pub spelled : front ≡ number count value
  pub body : Body value text

-- a number, and then what depends on it
abbrev pub Counted : ℕ → ℕ → ℕ → (ℕ → List ℕ → Type 0) → List ℕ → Type 0
Counted count least most Body text = Chain (Numbers count least most) (Behind count least most Body) text

-- the texts in UTF-8 of so many bytes
abbrev pub Texts : ℕ → List ℕ → Type 0
Texts count text = IsUtf8 text × (length text ≡ count)

-- this byte
abbrev pub One : ℕ → List ℕ → Type 0
One byte text = text ≡ byte ∷ []
