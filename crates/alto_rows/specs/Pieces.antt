-- The pieces of ids: the bytes of a network's name, and what is behind them.
use Rattle.std.specs.Prelude.{◌≡◌, ℕ, ◌≤◌, true, false, List, [], ◌∷◌, ◌++◌, length, take, drop, Option, Some, None}
use Rattle.std.specs.Prelude.{codes, ⊤}
use Rattle.std.specs.List.{AllByRecursion}
use Rattle.alto_names.specs.Name.{is_net_byte}
use Rattle.alto_rows.specs.declared.resource.Resource.{Resource}
use Rattle.alto_rows.specs.declared.resource.Resource.TheVariants as resource
use Rattle.alto_rows.specs.Order.{net_of}
use Rattle.alto_rows.specs.Good.{IsResource}

-- what an id has behind the name of the network
abbrev pub id_rest : Resource → List ℕ
id_rest (resource.Net net) = []
id_rest (resource.Cost net metric) = codes ":cost:" ++ metric
id_rest (resource.Prop net) = codes ":prop"

-- of a network, the resource whose id has this behind the network's name
abbrev pub IsOfRest : List ℕ → List ℕ → Resource → Type 0
IsOfRest net rest of = IsResource of × (net_of of ≡ net) × (id_rest of ≡ rest)

-- the resource of a network whose id has this behind the network's name, if there is one
abbrev pub ReadsRest : List ℕ → List ℕ → Option Resource → Type 0
ReadsRest net rest None = (of : Resource) → ¬ (IsOfRest net rest of)
ReadsRest net rest (Some of) = IsOfRest net rest of

-- each byte is one of names of networks
abbrev pub AreNetBytes : List ℕ → Type 0
AreNetBytes text = AllByRecursion (λ byte. is_net_byte byte ≡ true) text

-- the text doesn't begin with such a byte
abbrev pub EndsNet : List ℕ → Type 0
EndsNet [] = ⊤
EndsNet (byte ∷ rest) = is_net_byte byte ≡ false

-- the text begins with n such bytes, and has none behind them
pub record IsNetEnd (text : List ℕ) (n : ℕ) : Type 0 where
  pub within : n ≤ length text
  pub net : AreNetBytes (take n text)
  pub ends : EndsNet (drop n text)
