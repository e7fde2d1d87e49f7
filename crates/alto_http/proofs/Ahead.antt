-- Reading ahead, piece by piece.
use Rattle.std.proofs.Common.{◌≡◌, ℕ, ◌+◌, ◌<◌, ◌≤◌, List, [], ◌++◌, length, take, drop, min, slice_range, Option, ap}
use Rattle.std.proofs.Common.{sym, ◌∙◌, append_assoc, append-nil, length-append, arith}
use Rattle.std.proofs.lemmas.List.{drop_all, take-append-drop}
use Rattle.alto_http.specs.Link.{followed_by}
use Rattle.alto_http.specs.Intake.{ReadsAhead, KeepsWhole}
use Rattle.alto_http.proofs.Links.{followed_by-followed_by}
use Rattle.alto_http.proofs.Ranges.{range_more, swap_rests}

-- one piece came after others
pub ahead_more : (a b c : List ℕ) (l m n : Option (List ℕ)) → ReadsAhead a l b m → ReadsAhead b m c n
    → ReadsAhead a l c n
ahead_more a b c l m n before now = record {
  piece = before.piece ++ now.piece;
  behind = now.behind ∙ ap (λ xs. xs ++ now.piece) before.behind ∙ append_assoc a before.piece now.piece;
  given = before.given ∙ ap (followed_by before.piece) now.given ∙ followed_by-followed_by before.piece now.piece n;
}

-- reading ahead loses nothing
pub ahead_whole : (a b : List ℕ) (l m : Option (List ℕ)) → ReadsAhead a l b m → followed_by a l ≡ followed_by b m
ahead_whole a b l m reads =
    ap (followed_by a) reads.given ∙ followed_by-followed_by a reads.piece m
    ∙ ap (λ xs. followed_by xs m) (sym reads.behind)

-- a piece that was read behind others in a buffer
pub full_more : (first before after : Option (List ℕ)) (old new : List ℕ) (start at k : ℕ)
    → start ≤ at → at + k ≤ length new → take at new ≡ take at old
    → first ≡ followed_by (slice_range old start at) before → before ≡ followed_by (slice_range new at (at + k)) after
    → first ≡ followed_by (slice_range new start (at + k)) after
full_more first before after old new start at k h w kept had given =
    let piece = slice_range new at (at + k) in
    had ∙ ap (followed_by (slice_range old start at)) given
    ∙ followed_by-followed_by (slice_range old start at) piece after
    ∙ ap (λ xs. followed_by xs after) (sym (range_more old new start at k h w kept))

-- a body that was handed over from the front, and then read
pub body_whole : (ahead into : List ℕ) (left left' : Option (List ℕ)) (n : ℕ)
    → n ≡ min (length ahead) (length into) → take n into ≡ take n ahead → left ≡ followed_by (drop n into) left'
    → followed_by ahead left ≡ followed_by (into ++ drop n ahead) left'
body_whole ahead into left left' n count front given =
    ap (followed_by ahead) given ∙ followed_by-followed_by ahead (drop n into) left'
    ∙ ap (λ xs. followed_by xs left') (swap_rests ahead into n count front)

-- a body that was handed over, and whose rest did not come whole
pub body_cut : (ahead into taken : List ℕ) (left left' : Option (List ℕ)) (n : ℕ)
    → n ≡ min (length ahead) (length into) → n + length taken < length into → left ≡ followed_by taken left'
    → followed_by ahead left ≡ followed_by ((ahead ++ taken) ++ drop n ahead) left'
body_cut ahead into taken left left' n count short given =
    let none : drop n ahead ≡ [] = drop_all n ahead (omega arith) in
    ap (followed_by ahead) given ∙ followed_by-followed_by ahead taken left'
    ∙ ap (λ xs. followed_by xs left') (sym (ap (λ xs. (ahead ++ taken) ++ xs) none ∙ append-nil (ahead ++ taken)))

-- what was handed over and what then came are too short together
pub joined_short : (ahead taken into : List ℕ) (n : ℕ) → n ≡ min (length ahead) (length into)
    → n + length taken < length into
    → length (ahead ++ taken) < length into
joined_short ahead taken into n count short = simp length-append (omega arith)

-- bytes were read ahead, and none taken
pub whole_same : (a b : List ℕ) (l m : Option (List ℕ)) → ReadsAhead a l b m → KeepsWhole a l b m
whole_same a b l m reads = ([], ahead_whole a b l m reads)

-- bytes were read ahead, a head was taken from the front, and then more
pub whole_taken : (a b c : List ℕ) (l m n : Option (List ℕ)) (size : ℕ)
    → ReadsAhead a l b m → KeepsWhole (drop size b) m c n → KeepsWhole a l c n
whole_taken a b c l m n size reads after = (
  take size b ++ after.0,
  ahead_whole a b l m reads
      ∙ ap (λ xs. followed_by xs m) (sym (take-append-drop size b))
      ∙ sym (followed_by-followed_by (take size b) (drop size b) m)
      ∙ ap (followed_by (take size b)) after.1
      ∙ followed_by-followed_by (take size b) (after.0 ++ c) n
      ∙ ap (λ xs. followed_by xs n) (sym (append_assoc (take size b) after.0 c)),
)
