-- Ranges whose firsts stand apart from their PIDs, and those that begin below a number.
use Rattle.std.proofs.Common.{◌≡◌, ℕ, ◌+◌, ◌-◌, ◌/◌, ◌<◌, ◌≤◌, rules, refl, ap, sym, subst, ◌∙◌, arith}
use Rattle.std.proofs.Common.{take, get_or, zero, suc, ⊎_elim}
use Rattle.std.specs.Prelude.{List, [], ◌∷◌, ◌++◌, length, map, Option, None, Bool, true, false}
use Rattle.std.specs.Prelude.{cond, nat_le, nat_lt, IsTrue, ◌↔◌}
use Rattle.std.specs.List.{All, AllWithin, filter, zip}
use Rattle.std.specs.List.Sorted.{IsNonDecreasingBy, IsPartitionPoint}
use Rattle.std.proofs.lemmas.Bool.{cases_lt, le-leb, le-ltb, lt-leb, lt-ltb}
use Rattle.std.proofs.lemmas.List.{append-nil, get_or-map, get_or_default, length-map, length_push, map_push}
use Rattle.std.proofs.lemmas.List.Elements.{All-filter, AllWithin-none, filter_more}
use Rattle.std.proofs.lemmas.Slice.Zip.{firsts-zip, get_or-zip}
use Rattle.pid_prefix.specs.declared.range.Range.{Range}
use Rattle.pid_prefix.specs.Index.{EndsIn}
use Rattle.pid_prefix.specs.Longest.{Row}
use Rattle.pid_prefix.specs.PidRanges.{PidRange, last_pid, pid_at, row_pid, with_pid}
use Rattle.pid_prefix.specs.Ranges.{AreRising, below, last_row, row_at}
use Rattle.pid_prefix.proofs.RangeLemmas.{rising_places}

-- ---- firsts and PIDs

-- as many ranges as firsts
pub length-zipped : {A B : Type 0} (value : A → ℕ) (firsts : List A) (pids : List B) → length firsts ≡ length pids
    → length (zip (map value firsts) pids) ≡ length firsts
length-zipped value firsts pids same =
    let long : length pids ≡ length (map value firsts) = sym (length-map firsts value ∙ same) in
    sym (length-map (zip (map value firsts) pids) (λ range. range.0))
    ∙ (ap length (firsts-zip (map value firsts) pids long) ∙ length-map firsts value)

-- a first and a PID more are a range more
pub zip-push : {A B : Type 0} (firsts : List A) (pids : List B) (first : A) (pid : B) → length firsts ≡ length pids
    → zip (firsts ++ first ∷ []) (pids ++ pid ∷ []) ≡ zip firsts pids ++ (first, pid) ∷ []
zip-push [] [] first pid same = refl
zip-push [] (other ∷ pids) first pid same = absurd (omega (arith, same))
zip-push (one ∷ firsts) [] first pid same = absurd (omega (arith, same))
zip-push {A} {B} (one ∷ firsts) (other ∷ pids) first pid same =
    ap (λ (rest : List (A × B)). (one, other) ∷ rest) (zip-push firsts pids first pid (omega (arith, same)))

-- ---- a search among the firsts

-- the firsts of ranges that don't fall don't either
pub firsts_rise : {A : Type 0} (value : A → ℕ) (firsts : List A) (pids : List (Option (List ℕ)))
    → length firsts ≡ length pids → IsNonDecreasingBy (λ range. range.0) (zip (map value firsts) pids)
    → IsNonDecreasingBy value firsts
firsts_rise value firsts pids same rising i j d order low =
    let ranges = zip (map value firsts) pids in
    let e : PidRange = (value d, None) in
    let at : (k : ℕ) → k < length firsts → (get_or ranges k e).0 ≡ value (get_or firsts k d) =
    λ k below_end. ap (λ range. range.0) (get_or-zip (map value firsts) pids k e
    (omega (arith, length-map firsts value, below_end)) (omega (arith, same, below_end)))
    ∙ get_or-map value firsts k d (value d) below_end in
    let rises = rising i j e order (omega (arith, length-zipped value firsts pids same, low)) in
    omega (arith, rises, at i (omega arith), at j low)

-- half of the part where those that are by a number end is one again, by what the number says of its middle
pub ends_in_half : {A : Type 0} (value : A → ℕ) (firsts : List A) (number begun left : ℕ) (middle : A) (t : Bool)
    → IsNonDecreasingBy value firsts → EndsIn value firsts number begun left → 0 < left
    → middle ≡ get_or firsts (begun + left / 2) middle → (IsTrue t ↔ (value middle ≤ number))
    → EndsIn value firsts number (cond t (begun + (left - left / 2)) begun) (left / 2)
ends_in_half value firsts number begun left middle true rising part some is answer =
    let by : value middle ≤ number = search rules in
    record {
      within = omega (arith, part.within);
      before = λ k d low high.
          let at : value (get_or firsts (begun + left / 2) d) ≡ value middle =
          ap value (get_or_default firsts (begun + left / 2) d middle (omega (arith, part.within)) ∙ sym is) in
          omega (arith, at, by, rising k (begun + left / 2) d (omega arith) (omega (arith, part.within)));
      behind = λ k d low high. part.behind k d (omega arith) high;
    }
ends_in_half value firsts number begun left middle false rising part some is answer =
    let past : number < value middle = search rules in
    record {
      within = omega (arith, part.within);
      before = part.before;
      behind = λ k d low high.
          let at : value (get_or firsts (begun + left / 2) d) ≡ value middle =
          ap value (get_or_default firsts (begun + left / 2) d middle (omega (arith, part.within)) ∙ sym is) in
          omega (arith, at, past, rising (begun + left / 2) k d low high);
    }

-- where so many firsts are by the number, and the others behind it, the PID is the one beside the last of them
last_pid-begun : {A : Type 0} (value : A → ℕ) (number : ℕ) (pid : Option (List ℕ)) (firsts : List A)
    (pids : List (Option (List ℕ))) (count : ℕ) → length firsts ≡ length pids → count ≤ length firsts
    → IsPartitionPoint (λ first. value first ≤ number) (λ first. number < value first) firsts count
    → last_pid pid (filter (λ range. nat_le range.0 number) (zip (map value firsts) pids))
    ≡ get_or (pid ∷ pids) count None
last_pid-begun value number pid [] pids zero same within parted = refl
last_pid-begun value number pid [] pids (suc count) same within parted = absurd (omega (arith, within))
last_pid-begun value number pid (first ∷ firsts) [] count same within parted = absurd (omega (arith, same))
last_pid-begun value number pid (first ∷ firsts) (own ∷ pids) zero same within parted =
    let past : number < value first = parted.1 zero first (omega arith) (omega arith) in
    rw (lt-leb (value first) number past)
    (last_pid-begun value number pid firsts pids zero (omega (arith, same)) (omega arith) (
      AllWithin-none (λ first. value first ≤ number) firsts 0,
      λ k d low high. parted.1 (suc k) d (omega arith) (omega (arith, high)),
    ))
last_pid-begun value number pid (first ∷ firsts) (own ∷ pids) (suc count) same within parted =
    let by : value first ≤ number = parted.0 zero first (omega arith) (omega arith) in
    rw (le-leb (value first) number by)
    (last_pid-begun value number own firsts pids count (omega (arith, same)) (omega (arith, within)) (
      λ k d low high. parted.0 (suc k) d (omega arith) (omega (arith, high)),
      λ k d low high. parted.1 (suc k) d (omega (arith, low)) (omega (arith, high)),
    ))

-- the same in the words of the code
pub pid_at-begun : {A : Type 0} (value : A → ℕ) (firsts searched : List A) (pids : List (Option (List ℕ)))
    (ranges : List PidRange) (number count : ℕ) → searched ≡ firsts → zip (map value firsts) pids ≡ ranges
    → length firsts ≡ length pids → count ≤ length searched
    → IsPartitionPoint (λ first. value first ≤ number) (λ first. number < value first) searched count
    → get_or (None ∷ pids) count None ≡ pid_at ranges number
unfolding pid_at
pid_at-begun value firsts searched pids ranges number count e is same within parted =
    sym (last_pid-begun value number None firsts pids count same (subst (λ all. count ≤ length all) e within)
    (subst (λ all. IsPartitionPoint (λ first. value first ≤ number) (λ first. number < value first) all count) e
    parted))
    ∙ ap (λ all. last_pid None (filter (λ range. nat_le range.0 number) all)) is

-- ---- ranges with the PIDs of their rows

-- of rising ranges they don't fall
pub with_pids_rise : (rows : List Row) (ranges : List Range) → AreRising ranges
    → IsNonDecreasingBy (λ range. range.0) (map (with_pid rows) ranges)
with_pids_rise rows [] rising i j d order low = absurd (omega arith)
with_pids_rise rows (first ∷ rest) rising i j d order low =
    let ranges = first ∷ rest in
    let many : length (map (with_pid rows) ranges) ≡ length ranges = length-map ranges (with_pid rows) in
    let at : (k : ℕ) → k < length ranges
    → (get_or (map (with_pid rows) ranges) k d).0 ≡ (get_or ranges k first).first =
    λ k below_end. ap (λ range. range.0) (get_or-map (with_pid rows) ranges k first d below_end) in
    let rises = rising_places ranges rising i j first order (omega (arith, many, low)) in
    omega (arith, rises, at i (omega (arith, many, low)), at j (omega (arith, many, low)))

-- they give a number the PID of its row
pub pid_at-with_pids : (rows : List Row) (ranges : List Range) (number : ℕ)
    → pid_at (map (with_pid rows) ranges) number ≡ row_pid rows (row_at ranges number)
unfolding pid_at row_at
pid_at-with_pids rows ranges number = last_pid-with_pids None ranges
  where
    last_pid-with_pids : (row : Option ℕ) (ranges : List Range)
        → last_pid (row_pid rows row) (filter (λ range. nat_le range.0 number) (map (with_pid rows) ranges))
        ≡ row_pid rows (last_row row (filter (λ range. nat_le range.first number) ranges))
    last_pid-with_pids row [] = refl
    last_pid-with_pids row (range ∷ rest) =
        ⊎_elim
        (λ (past : number < range.first). rw (lt-leb range.first number past) (last_pid-with_pids row rest))
        (λ (by : range.first ≤ number). rw (le-leb range.first number by) (last_pid-with_pids range.row rest))
        (cases_lt number range.first)

-- ---- ranges that begin below a number

-- of rising ranges they rise
pub rising_below : (limit : ℕ) (ranges : List Range) → AreRising ranges → AreRising (below limit ranges)
rising_below limit [] rising = tt
rising_below limit (range ∷ rest) rising =
    let Kept : Bool → Type 0 = λ t. AreRising (cond t (range ∷ below limit rest) (below limit rest)) in
    let later = rising_below limit rest rising.1 in
    let first : All (λ later. range.first ≤ later.first) (below limit rest) =
    All-filter (λ (range : Range). nat_lt range.first limit) (λ later. range.first ≤ later.first) rest rising.0 in
    kept_or_left Kept (nat_lt range.first limit) (first, later) later
  where
    kept_or_left : (P : Bool → Type 0) (t : Bool) → P true → P false → P t
    kept_or_left P true kept left = kept
    kept_or_left P false kept left = left

-- they are no more
pub length-below : (limit : ℕ) (ranges : List Range) → length (below limit ranges) ≤ length ranges
length-below limit [] = omega arith
length-below limit (range ∷ rest) =
    let less = length-below limit rest in
    ⊎_elim
    (λ (low : range.first < limit). rw (lt-ltb range.first limit low) (omega (arith, less)))
    (λ (high : limit ≤ range.first). rw (le-ltb range.first limit high) (omega (arith, less)))
    (cases_lt range.first limit)

-- each number below the limit has the same row among them
pub row_at-below : (limit number : ℕ) (ranges : List Range) → number < limit
    → row_at (below limit ranges) number ≡ row_at ranges number
unfolding row_at
row_at-below limit number ranges low = ap (last_row None) (begun_below limit number ranges low)
  where
    skipped : (number : ℕ) (range : Range) (kept : List Range) (t : Bool) → number < range.first
        → filter (λ range. nat_le range.first number) (cond t (range ∷ kept) kept)
        ≡ filter (λ range. nat_le range.first number) kept
    skipped number range kept true past = rw (lt-leb range.first number past) refl
    skipped number range kept false past = refl

    begun_below : (limit number : ℕ) (ranges : List Range) → number < limit
        → filter (λ range. nat_le range.first number) (below limit ranges)
        ≡ filter (λ range. nat_le range.first number) ranges
    begun_below limit number [] low = refl
    begun_below limit number (range ∷ rest) low =
        let more = begun_below limit number rest low in
        ⊎_elim
        (λ (past : number < range.first). rw (lt-leb range.first number past)
        (skipped number range (below limit rest) (nat_lt range.first limit) past ∙ more))
        (λ (by : range.first ≤ number). rw (lt-ltb range.first limit (omega (arith, low)), le-leb range.first number by)
        (ap (λ (kept : List Range). range ∷ kept) more))
        (cases_lt number range.first)

-- ---- making them, range by range

-- what firsts and PIDs keep of ranges is those that begin below the limit, with the PIDs of their rows
abbrev pub Keeps : {A : Type 0} → (A → ℕ) → ℕ → List Row → List Range → List A → List (Option (List ℕ)) → Type 0
Keeps value limit rows ranges firsts pids = (length firsts ≡ length pids)
    × (zip (map value firsts) pids ≡ map (with_pid rows) (below limit ranges))

-- with one more that begins below it
pub keeps_more : {A : Type 0} (value : A → ℕ) (limit : ℕ) (rows : List Row) (ranges : List Range) (i : ℕ)
    (d e : Range) (firsts next : List A) (first : A) (pids more : List (Option (List ℕ))) → i < length ranges
    → (value first ≡ (get_or ranges i d).first) × ((get_or ranges i d).first < limit)
    → next ≡ firsts ++ first ∷ [] → more ≡ pids ++ row_pid rows (get_or ranges i e).row ∷ []
    → Keeps value limit rows (take i ranges) firsts pids → Keeps value limit rows (take (i + 1) ranges) next more
keeps_more value limit rows ranges i d e firsts next first pids more low own is_next is_more kept =
    let range = get_or ranges i d in
    let pid = row_pid rows range.row in
    let begun : List ℕ = map value firsts in
    let both : length begun ≡ length pids = length-map firsts value ∙ kept.0 in
    let added : more ≡ pids ++ pid ∷ [] =
    is_more ∙ ap (λ (r : Range). pids ++ row_pid rows r.row ∷ []) (get_or_default ranges i e d low) in (
      omega (arith, ap length is_next, ap length added, length_push firsts first, length_push pids pid, kept.0),
      ap (λ all. zip (map value all) more) is_next
          ∙ (ap (zip (map value (firsts ++ first ∷ []))) added
          ∙ (ap (λ all. zip all (pids ++ pid ∷ [])) (map_push value firsts first)
          ∙ (zip-push begun pids (value first) pid both
          ∙ (ap (λ start. zip begun pids ++ (start, pid) ∷ []) own.0
          ∙ (ap (λ (all : List PidRange). all ++ with_pid rows range ∷ []) kept.1
          ∙ (sym (map_push (with_pid rows) (below limit (take i ranges)) range)
          ∙ ap (map (with_pid rows)) (sym (filter_more (λ range. nat_lt range.first limit) ranges i d low
          ∙ ap (λ t. below limit (take i ranges) ++ cond t (range ∷ []) [])
          (lt-ltb range.first limit own.1))))))))),
    )

-- and with one more that doesn't
pub keeps_same : {A : Type 0} (value : A → ℕ) (limit : ℕ) (rows : List Row) (ranges : List Range) (i : ℕ) (d : Range)
    (firsts next : List A) (pids more : List (Option (List ℕ))) → i < length ranges → limit ≤ (get_or ranges i d).first
    → next ≡ firsts → more ≡ pids
    → Keeps value limit rows (take i ranges) firsts pids → Keeps value limit rows (take (i + 1) ranges) next more
keeps_same value limit rows ranges i d firsts next pids more low high is_next is_more kept =
    let range = get_or ranges i d in (
      ap length is_next ∙ (kept.0 ∙ sym (ap length is_more)),
      ap (λ all. zip (map value all) more) is_next
          ∙ (ap (zip (map value firsts)) is_more ∙ (kept.1
          ∙ ap (map (with_pid rows)) (sym (filter_more (λ range. nat_lt range.first limit) ranges i d low
          ∙ (ap (λ t. below limit (take i ranges) ++ cond t (range ∷ []) []) (le-ltb range.first limit high)
          ∙ append-nil (below limit (take i ranges))))))),
    )
