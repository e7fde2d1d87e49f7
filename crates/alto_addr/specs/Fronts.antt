-- The grammar of addresses from the left: what may follow when so many numbers or groups may still come (RFC 4291,
-- section 2.2).
use Rattle.std.specs.Prelude.{ℕ, zero, suc, List}
use Rattle.alto_addr.specs.Languages.{Sequence, Behind, Either, Nothing}
use Rattle.alto_addr.specs.Tokens.{IsOctet, IsGroup}

-- `.`
abbrev pub dot : ℕ
dot = 46

-- `:`
abbrev pub colon : ℕ
colon = 58

-- a number, and n more with a dot before each
unfoldable pub Octets : ℕ → List ℕ → Type 0
Octets zero = IsOctet
Octets (suc n) = Sequence IsOctet (Behind dot (Octets n))

-- behind `::` a group, and up to n more with a colon before each: an IPv4 text may stand for the last two
unfoldable pub TailGroups : ℕ → List ℕ → Type 0
TailGroups zero = IsGroup
TailGroups (suc n) = Either (Sequence IsGroup (Either Nothing (Behind colon (TailGroups n)))) (Octets 3)

-- behind `::` up to n groups
unfoldable pub TailUpTo : ℕ → List ℕ → Type 0
TailUpTo zero = Nothing
TailUpTo (suc n) = Either Nothing (TailGroups n)

-- a group and a colon, and then one more colon and up to n groups, or the next groups
abbrev pub GroupThen : ℕ → (List ℕ → Type 0) → List ℕ → Type 0
GroupThen n Next = Sequence IsGroup (Behind colon (Either (Behind colon (TailUpTo n)) Next))

-- a group, and n more with a colon before each, some of which `::` may stand for: an IPv4 text may stand for the last
-- two
unfoldable pub HeadGroups : ℕ → List ℕ → Type 0
HeadGroups zero = IsGroup
HeadGroups (suc zero) = Either (GroupThen zero IsGroup) (Octets 3)
HeadGroups (suc (suc n)) = GroupThen (suc n) (HeadGroups (suc n))

-- an IPv6 text: `::` and up to seven groups, or eight groups
unfoldable pub ColonHex : List ℕ → Type 0
ColonHex = Either (Behind colon (Behind colon (TailUpTo 7))) (HeadGroups 7)

-- a text of either family
unfoldable pub Address : List ℕ → Type 0
Address = Either ColonHex (Octets 3)
