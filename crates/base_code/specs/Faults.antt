-- Where pieces leave those of bases.
use Rattle.std.specs.Prelude.{◌≡◌, ℕ, ◌<◌, ◌≤◌, ◌^◌, ◌%◌, ◌⊎◌, List, [], ◌∷◌, ◌++◌}
use Rattle.std.specs.Prelude.{length, take, All, decimal, codes, ⊤}
use Rattle.alto_rows.specs.Rows.{Rows}
use Rattle.code_bytes.specs.declared.stop.Stop.{Stop}
use Rattle.code_bytes.specs.declared.stop.Stop.TheVariants as stop
use Rattle.base_code.specs.Bases.{AreStored, BaseData, IsBase, IsKept, KeptData}
use Rattle.base_code.specs.Pieces.{base_pieces, first_piece, pieces_of}
use Rattle.base_code.specs.declared.fault.BaseFault.{BaseFault}
use Rattle.base_code.specs.declared.fault.BaseFault.TheVariants as fault

-- what the first pieces of a base hold: how many batches and rows it has, and the first of its receipts and rows
pub record BeginningData : Type 0 where
  pub b : ℕ
  pub count : ℕ
  pub receipts : List KeptData
  pub rows : Rows

-- the first of `count` items: all of them, or as many as whole pieces of 4,096 hold
pub record AreFirst {A : Type 0} (count : ℕ) (items : List A) : Type 0 where
  pub within : length items ≤ count
  pub whole : length items < count → length items % 4096 ≡ 0

-- a base may begin so: rows come behind all receipts
pub record IsBeginning (begun : BeginningData) : Type 0 where
  pub some : 1 ≤ begun.b
  pub most : begun.b < 2 ^ 64
  pub few : begun.count ≤ 400000
  pub first_receipts : AreFirst begun.b begun.receipts
  pub receipts : All IsKept begun.receipts
  pub first_rows : AreFirst begun.count begun.rows
  pub rows : AreStored begun.rows
  pub in_turn : length begun.receipts < begun.b → begun.rows ≡ []

-- the pieces of what a base begins with
unfoldable pub beginning_pieces : BeginningData → List (List ℕ)
beginning_pieces begun = first_piece begun.b begun.count ∷ pieces_of begun.receipts begun.rows

-- the base has as many batches and rows, and these are its first receipts and rows
pub record IsFirstOf (begun : BeginningData) (base : BaseData) : Type 0 where
  pub same_b : base.b ≡ begun.b
  pub same_count : length base.rows ≡ begun.count
  pub more_receipts : List KeptData
  pub more_rows : Rows
  pub all_receipts : base.receipts ≡ begun.receipts ++ more_receipts
  pub all_rows : base.rows ≡ begun.rows ++ more_rows

-- a base may begin with what these pieces hold
abbrev pub AreBeginning : List (List ℕ) → Type 0
AreBeginning pieces = (begun : BeginningData) × IsBeginning begun × (pieces ≡ beginning_pieces begun)

-- each of the pieces is in its place: there are none, or they are of a beginning
abbrev pub AreInPlace : List (List ℕ) → Type 0
AreInPlace pieces = (pieces ≡ []) ⊎ AreBeginning pieces

-- the pieces are those of a base
abbrev pub AreOfBase : List (List ℕ) → Type 0
AreOfBase pieces = (base : BaseData) × IsBase base × (pieces ≡ base_pieces base)

-- the pieces are no base's, and the longest prefix of them in which each is in its place has `place` pieces: so the
-- piece at `place` is the first that isn't, or, where there is none, more are wanted
pub record IsBadPiece (pieces : List (List ℕ)) (place : ℕ) : Type 0 where
  pub no_base : ¬ (AreOfBase pieces)
  pub within : place ≤ length pieces
  pub before : AreInPlace (take place pieces)
  pub longest : (n : ℕ) → n ≤ length pieces → AreInPlace (take n pieces) → n ≤ place

-- a fault of these pieces
abbrev pub IsBaseFault : List (List ℕ) → BaseFault → Type 0
IsBaseFault pieces (fault.BadPiece place) = IsBadPiece pieces place
IsBaseFault pieces fault.Memory = ⊤

-- the fault where the reader of the piece at a place stops
abbrev pub fault_at : ℕ → Stop → BaseFault
fault_at place (stop.Left left) = fault.BadPiece place
fault_at place stop.Memory = fault.Memory

-- what is written of a fault
abbrev pub base_fault_text : BaseFault → List ℕ
base_fault_text (fault.BadPiece place) = codes "no base, from piece " ++ (decimal place ++ codes " on")
base_fault_text fault.Memory = codes "out of memory"
