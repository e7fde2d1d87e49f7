-- The pieces in which a base is stored.
use Rattle.std.specs.Prelude.{ℕ, List, [], ◌∷◌, ◌++◌, ◌==◌, if◌then◌else◌, length, map}
use Rattle.std.specs.Fork.{slice_chunk}
use Rattle.std.specs.List.{flat_map, range_with_len}
use Rattle.std.specs.Slice.Iter.{chunk_count}
use Rattle.alto_rows.specs.Rows.{Rows}
use Rattle.code_bytes.specs.Pieces.{name, number}
use Rattle.base_code.specs.Bases.{BaseData, KeptData, write_of}
use Rattle.batch_code.specs.Spelling.{write_bytes}

-- a receipt: the id, the digest, and the moment
abbrev pub kept_bytes : KeptData → List ℕ
kept_bytes kept = name kept.id ++ (kept.digest ++ number 8 kept.moment)

-- a piece of a kind: its mark, 01, how many items there are, and the items
abbrev pub piece_of : {A : Type 0} → ℕ → (A → List ℕ) → List A → List ℕ
piece_of mark spell items = mark ∷ 0x01 ∷ (number 2 (length items) ++ flat_map spell items)

-- a piece of receipts
abbrev pub receipts_piece : List KeptData → List ℕ
receipts_piece receipts = piece_of 0x44 kept_bytes receipts

-- a piece of rows: the writes that put them
abbrev pub rows_piece : Rows → List ℕ
rows_piece rows = piece_of 0x45 write_bytes (map write_of rows)

-- the first piece: 43, 01, the number of the batches, and how many rows there are
abbrev pub first_piece : ℕ → ℕ → List ℕ
first_piece b count = 0x43 ∷ 0x01 ∷ (number 8 b ++ number 4 count)

-- a list in parts of 4,096, the last of which may be shorter
unfoldable pub parts : {A : Type 0} → List A → List (List A)
parts items = map (slice_chunk items 4096) (range_with_len 0 (chunk_count (length items) 4096))

-- the pieces of receipts, and then those of rows
abbrev pub pieces_of : List KeptData → Rows → List (List ℕ)
pieces_of receipts rows = map receipts_piece (parts receipts) ++ map rows_piece (parts rows)

-- the pieces of a base: none where there were no batches
unfoldable pub base_pieces : BaseData → List (List ℕ)
base_pieces base =
    if base.b == 0 then [] else first_piece base.b (length base.rows) ∷ pieces_of base.receipts base.rows
