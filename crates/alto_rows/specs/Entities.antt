-- The texts of typed addresses (RFC 7285, section 10.4) and of entities (RFC 9240, section 5.1.3).
use Rattle.std.specs.Prelude.{◌≡◌, ℕ, ◌==◌, List, ◌++◌, ◌⊎◌, codes, if◌then◌else◌}
use Rattle.alto_addr.specs.declared.addr.Addr.{Addr}
use Rattle.alto_addr.specs.declared.addr.Addr.TheVariants.{V4, V6}
use Rattle.alto_addr.specs.declared.prefix.Prefix.{Prefix}
use Rattle.alto_addr.specs.Bits.{width_of}
use Rattle.alto_addr.specs.Text.{IsAddrText, IsPrefixText, addr_text, prefix_text}
use Rattle.alto_names.specs.Name.{IsPidName}
use Rattle.alto_rows.specs.declared.entity.Entity.{Entity}
use Rattle.alto_rows.specs.declared.entity.Entity.TheVariants as entity

-- the type of an address, and a colon
abbrev pub type_tag : Addr → List ℕ
type_tag (V4 number) = codes "ipv4:"
type_tag (V6 number) = codes "ipv6:"

-- what is written of a typed address
abbrev pub typed_addr_text : Addr → List ℕ
typed_addr_text addr = type_tag addr ++ addr_text addr

-- the text writes this typed address
abbrev pub WritesTypedAddr : List ℕ → Addr → Type 0
WritesTypedAddr text addr = (written : List ℕ) × (text ≡ type_tag addr ++ written) × IsAddrText written addr

-- what is written of a block behind its type: of one of full length its address alone
abbrev pub block_text : Prefix → List ℕ
block_text block = if block.len == width_of block.addr then addr_text block.addr else prefix_text block.addr block.len

-- the text writes this block: as a prefix, or, where it has full length, as an address
abbrev pub WritesBlock : List ℕ → Prefix → Type 0
WritesBlock text block =
    IsPrefixText text block.addr block.len ⊎ (IsAddrText text block.addr × (block.len ≡ width_of block.addr))

-- the text writes this block behind the type of its addresses
abbrev pub WritesTypedBlock : List ℕ → Prefix → Type 0
WritesTypedBlock text block = (written : List ℕ) × (text ≡ type_tag block.addr ++ written) × WritesBlock written block

-- what is written of an entity of a network
abbrev pub entity_text : List ℕ → Entity → List ℕ
entity_text net (entity.Block block) = type_tag block.addr ++ block_text block
entity_text net (entity.Pid pid) = net ++ (codes ".pid:" ++ pid)

-- the text writes this entity of a network
abbrev pub WritesEntity : List ℕ → List ℕ → Entity → Type 0
WritesEntity net text (entity.Block block) = WritesTypedBlock text block
WritesEntity net text (entity.Pid pid) = (text ≡ net ++ (codes ".pid:" ++ pid)) × IsPidName pid
