-- What a reader of one piece finds.
use Rattle.std.specs.Prelude.{◌≡◌, ℕ, ◌-◌, ◌^◌, ◌<◌, ◌≤◌, List, ◌∷◌, ◌++◌, length, All, min, ⊤}
use Rattle.alto_names.specs.Name.{is_import_byte}
use Rattle.alto_rows.specs.Rows.{Rows}
use Rattle.code_bytes.specs.Pieces.{Fixed, Names, Numbers, number}
use Rattle.code_bytes.specs.Stuck.{Pair}
use Rattle.code_bytes.specs.declared.stop.Stop.{Stop}
use Rattle.code_bytes.specs.declared.stop.Stop.TheVariants as stop
use Rattle.base_code.specs.Bases.{AreStored}
use Rattle.base_code.specs.Pieces.{first_piece, piece_of, rows_piece}

-- a reader stops where there is no such thing, or out of memory
abbrev pub Denies : Type 0 → Stop → Type 0
Denies Thing (stop.Left left) = ¬ Thing
Denies Thing stop.Memory = ⊤

-- a first piece has these numbers of batches and of rows
pub record IsFirstPiece (piece : List ℕ) (b count : ℕ) : Type 0 where
  pub some : 1 ≤ b
  pub most : b < 2 ^ 64
  pub few : count ≤ 400000
  pub spelled : piece ≡ first_piece b count

-- the receipts that can be stored, from the left
abbrev pub Receipts : List ℕ → Type 0
Receipts text = Pair (Names is_import_byte 64) (Pair (Fixed 32) (Numbers 8 0 (2 ^ 64 - 1))) text

-- a piece of this mark and count has these bytes behind them
abbrev pub GoesOn : ℕ → ℕ → List ℕ → List ℕ → Type 0
GoesOn mark count piece rest = piece ≡ mark ∷ 0x01 ∷ (number 2 count ++ rest)

-- a piece of this mark and count holds these items
pub record HasItems {A : Type 0} (mark : ℕ) (spell : A → List ℕ) (IsA : A → Type 0) (count : ℕ) (piece : List ℕ)
    (items : List A) : Type 0 where
  pub all : All IsA items
  pub many : length items ≡ count
  pub spelled : piece ≡ piece_of mark spell items

-- a piece of this count holds these rows, and they may stand behind the others
pub record HasRows (rows : Rows) (count : ℕ) (piece : List ℕ) (more : Rows) : Type 0 where
  pub stored : AreStored (rows ++ more)
  pub many : length more ≡ count
  pub spelled : piece ≡ rows_piece more

-- how many of `total` items the next piece holds, where those before it hold `done`
abbrev pub next_count : ℕ → ℕ → ℕ
next_count total done = min 4096 (total - done)
