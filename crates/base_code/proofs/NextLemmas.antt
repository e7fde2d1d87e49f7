-- The first piece of a base, and the next.
use Rattle.std.proofs.Common.{◌≡◌, ℕ, ◌<◌, ◌≤◌, inl, inr, List, [], ◌∷◌, ◌++◌, length, refl, sym, ap, ◌∙◌, arith}
use Rattle.std.proofs.lemmas.List.Elements.{All-nil}
use Rattle.std.specs.List.Sorted.{IsStrictlySortedBy}
use Rattle.alto_rows.specs.Rows.{Rows}
use Rattle.batch_code.specs.Storable.{IsStored}
use Rattle.code_bytes.specs.declared.stop.Stop.{Stop}
use Rattle.base_code.specs.Bases.{AreStored, IsKept, KeptData, write_of}
use Rattle.base_code.specs.Faults.{AreBeginning, BeginningData, IsBeginning, beginning_pieces}
use Rattle.base_code.specs.Parts.{Denies, HasItems, HasRows, IsFirstPiece, next_count}
use Rattle.base_code.specs.Pieces.{first_piece, kept_bytes, pieces_of}
use Rattle.base_code.proofs.PartLemmas.{first_none}
use Rattle.base_code.proofs.PieceLemmas.{denied_as}
use Rattle.base_code.proofs.BeginningLemmas.{Adds, Grown, added, bare_pieces, grown}

-- ---- the first piece

pub is_first_piece : (piece : List ℕ) → AreBeginning (piece ∷ []) → (b : ℕ) × (count : ℕ) × IsFirstPiece piece b count
unfolding beginning_pieces
is_first_piece piece (begun, is, e) =
    let whole : piece ∷ [] ≡ first_piece begun.b begun.count ∷ pieces_of begun.receipts begun.rows = e in
    let first : piece ≡ first_piece begun.b begun.count = cc in
    (begun.b, begun.count, record { some = is.some; most = is.most; few = is.few; spelled = first })

pub no_first_piece : (piece : List ℕ) (why : Stop) → Denies ((b : ℕ) × (count : ℕ) × IsFirstPiece piece b count) why
    → Denies (AreBeginning (piece ∷ [])) why
no_first_piece piece why never =
    denied_as ((b : ℕ) × (count : ℕ) × IsFirstPiece piece b count) (AreBeginning (piece ∷ []))
    why (is_first_piece piece) never

pub no_rows : AreStored []
unfolding IsStrictlySortedBy
no_rows = record { sorted = tt; each = All-nil (λ row. IsStored (write_of row)) }

-- what the first piece holds
abbrev pub bare : ℕ → ℕ → BeginningData
bare b count = record { b = b; count = count; receipts = []; rows = [] }

pub bare_is : (b count : ℕ) (piece : List ℕ) → IsFirstPiece piece b count → IsBeginning (bare b count)
bare_is b count piece is = record {
  some = is.some;
  most = is.most;
  few = is.few;
  first_receipts = first_none b;
  receipts = All-nil IsKept;
  first_rows = first_none count;
  rows = no_rows;
  in_turn = λ lt. refl;
}

pub bare_begins : (b count : ℕ) (piece : List ℕ) → IsFirstPiece piece b count
    → beginning_pieces (bare b count) ≡ piece ∷ []
bare_begins b count piece is = bare_pieces (bare b count) (record { receipts = refl; rows = refl })
    ∙ ap (λ p. p ∷ []) (sym is.spelled)

-- ---- the next piece

left_over : (total done count : ℕ) → count ≡ next_count total done → 0 < count → done < total
left_over total done count e some = omega (arith, e, some)

all_done : (total done : ℕ) → done ≤ total → next_count total done ≡ 0 → done ≡ total
all_done total done within none = omega (arith, within, none)

pub receipts_stop : (begun : BeginningData) (piece : List ℕ) (count : ℕ) (why : Stop) → IsBeginning begun
    → count ≡ next_count begun.b (length begun.receipts) → 0 < count
    → Denies ((receipts : List KeptData) × HasItems 0x44 kept_bytes IsKept count piece receipts) why
    → Denies (AreBeginning (beginning_pieces begun ++ (piece ∷ []))) why
receipts_stop begun piece count why is e some never =
    denied_as ((receipts : List KeptData) × HasItems 0x44 kept_bytes IsKept count piece receipts)
    (AreBeginning (beginning_pieces begun ++ (piece ∷ []))) why
    (λ next. by (added begun piece is next).0 (added begun piece is next).2) never
  where
    by : (more : BeginningData) → Adds begun piece more
        → (receipts : List KeptData) × HasItems 0x44 kept_bytes IsKept count piece receipts
    by more (inl adds) = (adds.last, record { all = adds.all; many = adds.many ∙ sym e; spelled = adds.spelled })
    by more (inr adds) = absurd (omega (arith, adds.turn, left_over begun.b (length begun.receipts) count e some))

pub receipts_add : (begun : BeginningData) (piece : List ℕ) (count : ℕ) (receipts : List KeptData) → IsBeginning begun
    → count ≡ next_count begun.b (length begun.receipts) → 0 < count
    → HasItems 0x44 kept_bytes IsKept count piece receipts
    → Grown begun piece (record begun { receipts = begun.receipts ++ receipts })
receipts_add begun piece count receipts is e some has =
    grown begun piece (record begun { receipts = begun.receipts ++ receipts }) is (inl (record {
      last = receipts;
      is = refl;
      turn = left_over begun.b (length begun.receipts) count e some;
      many = has.many ∙ e;
      all = has.all;
      spelled = has.spelled;
    }))

pub nothing_more : (begun : BeginningData) (piece : List ℕ) → IsBeginning begun
    → next_count begun.b (length begun.receipts) ≡ 0
    → next_count begun.count (length begun.rows) ≡ 0 → ¬ (AreBeginning (beginning_pieces begun ++ (piece ∷ [])))
nothing_more begun piece is none last next = by (added begun piece is next).0 (added begun piece is next).2
  where
    by : (more : BeginningData) → Adds begun piece more → ⊥
    by more (inl adds) = omega (
      arith,
      adds.turn,
      all_done begun.b (length begun.receipts)
          is.first_receipts.within none,
    )
    by more (inr adds) = omega (arith, adds.left, all_done begun.count (length begun.rows) is.first_rows.within last)

pub rows_stop : (begun : BeginningData) (piece : List ℕ) (count : ℕ) (why : Stop) → IsBeginning begun
    → next_count begun.b (length begun.receipts) ≡ 0
    → count ≡ next_count begun.count (length begun.rows)
    → Denies ((more : Rows) × HasRows begun.rows count piece more) why
    → Denies (AreBeginning (beginning_pieces begun ++ (piece ∷ []))) why
rows_stop begun piece count why is none e never =
    denied_as ((more : Rows) × HasRows begun.rows count piece more)
    (AreBeginning (beginning_pieces begun ++ (piece ∷ []))) why
    (λ next. by (added begun piece is next).0 (added begun piece is next).2) never
  where
    by : (more : BeginningData) → Adds begun piece more → (rows : Rows) × HasRows begun.rows count piece rows
    by more (inl adds) =
        absurd (omega (arith, adds.turn, all_done begun.b (length begun.receipts) is.first_receipts.within none))
    by more (inr adds) = (adds.last, record { stored = adds.all; many = adds.many ∙ sym e; spelled = adds.spelled })

pub rows_add : (begun : BeginningData) (piece : List ℕ) (count : ℕ) (more : Rows) → IsBeginning begun
    → next_count begun.b (length begun.receipts) ≡ 0
    → count ≡ next_count begun.count (length begun.rows) → 0 < count → HasRows begun.rows count piece more
    → Grown begun piece (record begun { rows = begun.rows ++ more })
rows_add begun piece count more is none e some has =
    grown begun piece (record begun { rows = begun.rows ++ more }) is (inr (record {
      last = more;
      is = refl;
      turn = all_done begun.b (length begun.receipts) is.first_receipts.within none;
      left = left_over begun.count (length begun.rows) count e some;
      many = has.many ∙ e;
      all = has.stored;
      spelled = has.spelled;
    }))
