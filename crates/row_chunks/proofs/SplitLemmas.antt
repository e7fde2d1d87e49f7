-- Changes that a cut divides.
use Rattle.std.proofs.Common.{◌≡◌, ℕ, refl, ap, sym, ◌∙◌, append-nil, arith, length, take, drop}
use Rattle.std.proofs.Math.Path.{fun_ext}
use Rattle.std.proofs.lemmas.List.{drop_all, take-append-drop, take_all}
use Rattle.std.proofs.lemmas.List.Elements.{filter-append}
use Rattle.std.proofs.lemmas.List.Kept.{IsStrictlySortedBy-filter}
use Rattle.std.proofs.lemmas.Map.Keys.{sorted_head}
use Rattle.std.specs.Prelude.{Bool, true, false, not, List, [], ◌∷◌, filter, slice_get, Option, None, Some}
use Rattle.std.specs.List.{AllByRecursion}
use Rattle.std.specs.List.Sorted.{IsPartitionPoint, IsStrictlySortedBy}
use Rattle.std.specs.Map.{keys_of}
use Rattle.std.specs.Ordering.{is_gt}
use Rattle.std.specs.declared.cmp.Ordering.TheVariants.{Less}
use Rattle.alto_rows.specs.declared.key.Key.{Key}
use Rattle.alto_rows.specs.declared.value.Value.{Value}
use Rattle.alto_rows.specs.Changes.{Changes, AreOrdered}
use Rattle.alto_rows.specs.Order.{key_cmp}
use Rattle.row_chunks.specs.declared.cut.Cut.{Cut}
use Rattle.row_chunks.specs.Blocks.{Placed}
use Rattle.row_chunks.specs.Cut.{keeps}
use Rattle.row_chunks.specs.Split.{changes_before, changes_behind, later_changes, own_changes}
use Rattle.row_chunks.proofs.CutLemmas.{keeps_later, kept_at_point, passed_at_point}

-- changes that are all before a cut
before_all : (cut : Cut) (changes : Changes) → AllByRecursion (λ change. keeps cut change.0 ≡ false) changes
    → changes_before cut changes ≡ changes
before_all cut [] h = refl
before_all cut (change ∷ changes) h = rw h.0 (ap (λ (more : Changes). change ∷ more) (before_all cut changes h.1))

behind_none : (cut : Cut) (changes : Changes) → AllByRecursion (λ change. keeps cut change.0 ≡ false) changes
    → changes_behind cut changes ≡ []
behind_none cut [] h = refl
behind_none cut (change ∷ changes) h = rw h.0 (behind_none cut changes h.1)

-- changes that are all behind it
behind_all : (cut : Cut) (changes : Changes) → AllByRecursion (λ change. keeps cut change.0 ≡ true) changes
    → changes_behind cut changes ≡ changes
behind_all cut [] h = refl
behind_all cut (change ∷ changes) h = rw h.0 (ap (λ (more : Changes). change ∷ more) (behind_all cut changes h.1))

before_none : (cut : Cut) (changes : Changes) → AllByRecursion (λ change. keeps cut change.0 ≡ true) changes
    → changes_before cut changes ≡ []
before_none cut [] h = refl
before_none cut (change ∷ changes) h = rw h.0 (before_none cut changes h.1)

-- at the place of a cut those before it end
pub take_at_cut : (cut : Cut) (changes : Changes) (at : ℕ)
    → IsPartitionPoint (λ change. not (keeps cut change.0) ≡ true) (λ change. not (keeps cut change.0) ≡ false) changes
    at → take at changes ≡ changes_before cut changes
take_at_cut cut changes at point =
    sym
    (ap (λ all. changes_before cut all) (sym (take-append-drop at changes))
    ∙ filter-append (λ change. not (keeps cut change.0)) (take at changes) (drop at changes)
    ∙ rw (
      before_all cut (take at changes) (passed_at_point (λ (change : Key × Option Value). change.0) cut changes at
          point),
      before_none cut (drop at changes) (kept_at_point (λ (change : Key × Option Value). change.0) cut
          changes at point),
    )
    (append-nil (take at changes)))

-- and those behind it begin
pub drop_at_cut : (cut : Cut) (changes : Changes) (at : ℕ)
    → IsPartitionPoint (λ change. not (keeps cut change.0) ≡ true) (λ change. not (keeps cut change.0) ≡ false) changes
    at → drop at changes ≡ changes_behind cut changes
drop_at_cut cut changes at point =
    sym
    (ap (λ all. changes_behind cut all) (sym (take-append-drop at changes))
    ∙ filter-append (λ change. keeps cut change.0) (take at changes) (drop at changes)
    ∙ rw (
      behind_none cut (take at changes) (passed_at_point (λ (change : Key × Option Value). change.0) cut changes at
          point),
      behind_all cut (drop at changes) (kept_at_point (λ (change : Key × Option Value). change.0) cut
          changes at point),
    )
    refl)

-- where the first change is behind a cut, all are
all_kept : (cut : Cut) (first : Key × Option Value) (changes : Changes) → AreOrdered (first ∷ changes)
    → keeps cut first.0 ≡ true
    → AllByRecursion (λ change. keeps cut change.0 ≡ true) (first ∷ changes)
all_kept cut first changes o k = (k, by changes (sorted_head key_cmp first.0 (keys_of changes) o))
  where
    by : (more : Changes) → AllByRecursion (λ other. key_cmp first.0 other ≡ Less) (keys_of more)
        → AllByRecursion (λ change. keeps cut change.0 ≡ true) more
    by [] h = tt
    by (change ∷ more) h = (keeps_later cut first.0 change.0 h.0 k, by more h.1)

-- so none is before it
pub before_from_first : (cut : Cut) (first : Key × Option Value) (changes : Changes) → AreOrdered changes
    → slice_get changes 0 ≡ Some first → keeps cut first.0 ≡ true
    → take 0 changes ≡ changes_before cut changes
before_from_first cut first [] o is k = refl
before_from_first cut first (change ∷ changes) o is k =
    let same : change ≡ first = cc in
    sym (before_none cut (change ∷ changes) (all_kept cut change changes o (rw same k)))

pub behind_from_first : (cut : Cut) (first : Key × Option Value) (changes : Changes) → AreOrdered changes
    → slice_get changes 0 ≡ Some first → keeps cut first.0 ≡ true
    → drop 0 changes ≡ changes_behind cut changes
behind_from_first cut first [] o is k = refl
behind_from_first cut first (change ∷ changes) o is k =
    let same : change ≡ first = cc in
    sym (behind_all cut (change ∷ changes) (all_kept cut change changes o (rw same k)))

-- the keys of changes that pass a test of keys
keys_of-filter : (p : Key → Bool) (changes : Changes)
    → keys_of (filter (λ change. p change.0) changes) ≡ filter p (keys_of changes)
keys_of-filter p [] = refl
keys_of-filter p (change ∷ changes) = by (keys_of-filter p changes) (p change.0) refl
  where
    by : keys_of (filter (λ change. p change.0) changes) ≡ filter p (keys_of changes) → (b : Bool) → p change.0 ≡ b
        → keys_of (filter (λ change. p change.0) (change ∷ changes)) ≡ filter p (keys_of (change ∷ changes))
    by below true e = rw e (ap (λ (more : List Key). change.0 ∷ more) below)
    by below false e = rw e below

-- they are in order
ordered_filter : (p : Key → Bool) (changes : Changes) → AreOrdered changes
    → AreOrdered (filter (λ change. p change.0) changes)
ordered_filter p changes o = rw (keys_of-filter p changes) (IsStrictlySortedBy-filter key_cmp p (keys_of changes) o)

-- so are a block's own changes
pub ordered_own : (slots : List Placed) (changes : Changes) → AreOrdered changes
    → AreOrdered (own_changes slots changes)
ordered_own [] changes o = o
ordered_own (slot ∷ slots) changes o = ordered_filter (λ key. is_gt (key_cmp slot.first key)) changes o

-- and those of the blocks behind it
pub ordered_later : (slots : List Placed) (changes : Changes) → AreOrdered changes
    → AreOrdered (later_changes slots changes)
unfolding IsStrictlySortedBy
ordered_later [] changes o = tt
ordered_later (slot ∷ slots) changes o = ordered_filter (λ key. not (is_gt (key_cmp slot.first key))) changes o

not_not : (b : Bool) → not (not b) ≡ b
not_not true = refl
not_not false = refl

-- what isn't from a key on is before it
before_key : (low : Key) (changes : Changes)
    → filter (λ change. not (not (is_gt (key_cmp low change.0)))) changes
    ≡ filter (λ change. is_gt (key_cmp low change.0)) changes
before_key low changes = ap (λ (test : Key × Option Value → Bool). filter test changes)
    (fun_ext (λ change. not_not (is_gt (key_cmp low change.0))))

-- the changes before the first key of the next block are the block's own
pub own_by_first : (next : Placed) (key : Key) (later : List Placed) (changes : Changes) → slice_get later 0 ≡ Some next
    → key ≡ next.first
    → filter (λ change. not (not (is_gt (key_cmp key change.0)))) changes ≡ own_changes later changes
own_by_first next key [] changes is at = cc
own_by_first next key (slot ∷ later) changes is at = let same : slot ≡ next = cc in
    rw (same, at) (before_key next.first changes)

-- and those from there on fall to the blocks behind
pub later_by_first : (next : Placed) (key : Key) (later : List Placed) (changes : Changes)
    → slice_get later 0 ≡ Some next → key ≡ next.first
    → filter (λ change. not (is_gt (key_cmp key change.0))) changes ≡ later_changes later changes
later_by_first next key [] changes is at = cc
later_by_first next key (slot ∷ later) changes is at = let same : slot ≡ next = cc in rw (same, at) refl

-- with no later block all changes are the block's own
pub own_at_last : (later : List Placed) (changes : Changes) → slice_get later 0 ≡ None
    → take (length changes) changes ≡ own_changes later changes
own_at_last [] changes none = take_all (length changes) changes (omega arith)
own_at_last (slot ∷ later) changes none = cc

pub later_at_last : (later : List Placed) (changes : Changes) → slice_get later 0 ≡ None
    → drop (length changes) changes ≡ later_changes later changes
later_at_last [] changes none = drop_all (length changes) changes (omega arith)
later_at_last (slot ∷ later) changes none = cc
