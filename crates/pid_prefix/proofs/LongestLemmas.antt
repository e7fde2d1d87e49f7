-- The row with the longest prefix: how one row more changes it, that it is what the relation says, and that it is the
-- only one.
use Rattle.std.proofs.Common.{◌≡◌, ℕ, ◌+◌, ◌*◌, ◌/◌, ◌%◌, ◌^◌, ◌-◌, ◌<◌, ◌≤◌, refl, ap, sym, ◌∙◌, arith, subst, ⊎_elim}
use Rattle.std.proofs.Common.{get_or, take, zero, suc}
use Rattle.std.specs.Prelude.{Bool, true, false, cond, ◌&&◌, List, [], ◌∷◌, ◌++◌, length, Option, Some, None, nat_le}
use Rattle.std.specs.Prelude.{nat_lt}
use Rattle.std.specs.Bool.{Decides}
use Rattle.std.specs.Option.{option_map}
use Rattle.std.specs.List.{AllByRecursion, Contains, filter, find, list_all}
use Rattle.std.proofs.lemmas.Bool.{leb-true, leb-false, le-leb, lt-ltb, le-ltb, and_parts, and_right, cases_order}
use Rattle.std.proofs.lemmas.Bool.{false≢true}
use Rattle.std.proofs.lemmas.Bool.Decides.{Decides-eqb}
use Rattle.std.proofs.lemmas.List.{get_or_default, append-nil}
use Rattle.std.proofs.lemmas.List.Folds.{list_all-append}
use Rattle.std.proofs.lemmas.List.Elements.{All-contains, filter_more, All-from_recursion, All-weaker}
use Rattle.std.proofs.lemmas.Nat.{div-add-mod'}
use denote.Struct.Props.{props}
use Rattle.alto_addr.specs.declared.addr.Addr.{Addr}
use Rattle.alto_addr.specs.declared.addr.Addr.TheVariants.{V4, V6}
use Rattle.alto_addr.specs.declared.prefix.Prefix.{Prefix}
use Rattle.alto_addr.specs.Bits.{Holds, IsPrefix}
use Rattle.pid_prefix.specs.Longest.{Row, IsHeldBy, IsLongest, AreDistinct, holds, holding, is_longest, longer}
use Rattle.pid_prefix.specs.Longest.{longest_prefix}

-- of some rows, the first with the longest prefix
abbrev pub longest : List Row → Option Row
longest rows = find (is_longest rows) rows

-- ---- a row in front

-- two tests that agree find the same
found_alike : (p q : Row → Bool) → ((row : Row) → p row ≡ q row) → (rows : List Row) → find p rows ≡ find q rows
found_alike p q same [] = refl
found_alike p q same (row ∷ rows) =
    ap (λ t. cond t (Some row) (find p rows)) (same row)
    ∙ ap (λ o. cond (q row) (Some row) o) (found_alike p q same rows)

-- where some row is longer than one, so is each that none is longer than
above : (row other : Row) (rows : List Row) → is_longest rows row ≡ false → is_longest rows other ≡ true
    → row.0.len ≤ other.0.len
above row other [] below top = absurd (cc)
above row other (next ∷ rows) below top =
    by (nat_le next.0.len row.0.len) (nat_le next.0.len other.0.len) refl refl below top (above row other rows)
  where
    by : (t u : Bool) → nat_le next.0.len row.0.len ≡ t → nat_le next.0.len other.0.len ≡ u
        → (t && is_longest rows row) ≡ false
        → (u && is_longest rows other) ≡ true → (is_longest rows row ≡ false → is_longest rows other ≡ true
        → row.0.len ≤ other.0.len)
        → row.0.len ≤ other.0.len
    by true true e f below top rest = rest below top
    by t false e f below top rest = absurd (cc)
    by false true e f below top rest =
        omega (arith, leb-false next.0.len row.0.len e, leb-true next.0.len other.0.len f)

-- the first is the longest where no later one is longer
pub longest-cons : (row : Row) (rows : List Row) (t : Bool) → is_longest rows row ≡ t
    → longest (row ∷ rows) ≡ cond t (Some row) (longest rows)
longest-cons row rows true e = rw (le-leb row.0.len row.0.len (omega arith), e) refl
longest-cons row rows false e =
    rw (le-leb row.0.len row.0.len (omega arith), e)
    (found_alike _ _ (λ other. by other (is_longest rows other) refl) rows)
  where
    by : (other : Row) (t : Bool) → is_longest rows other ≡ t
        → (nat_le row.0.len other.0.len && is_longest rows other) ≡ is_longest rows other
    by other true f = rw (le-leb row.0.len other.0.len (above row other rows e f)) refl
    by other false f = and_right _ _ f ∙ sym f

-- ---- what is found

-- what is found is among the rows, and passes
pub found_passes : (p : Row → Bool) (rows : List Row) (row : Row) → find p rows ≡ Some row
    → (p row ≡ true) × ((q : Row → Bool) → list_all q rows ≡ true → q row ≡ true)
found_passes p [] row e = absurd (cc)
found_passes p (next ∷ rows) row e = by (p next) refl e (found_passes p rows row)
  where
    by : (t : Bool) → p next ≡ t → cond t (Some next) (find p rows) ≡ Some row
        → (find p rows ≡ Some row → (p row ≡ true) × ((q : Row → Bool) → list_all q rows ≡ true → q row ≡ true))
        → (p row ≡ true) × ((q : Row → Bool) → (q next && list_all q rows) ≡ true → q row ≡ true)
    by true f e rest =
        let same : next ≡ row = cc in (
          subst (λ r. p r ≡ true) same f,
          λ q all. subst (λ r. q r ≡ true)
              same (and_parts (q next) (list_all q rows) all).0,
        )
    by false f e rest = ((rest e).0, λ q all. (rest e).1 q (and_parts (q next) (list_all q rows) all).1)

-- where there is a row, there is a longest one
pub some_longest : (row : Row) (rows : List Row) → longest (row ∷ rows) ≡ None → ⊥
some_longest row [] e = absurd (cc ((longest-cons row [] true refl)))
some_longest row (next ∷ rows) e = by (is_longest (next ∷ rows) row) refl (some_longest next rows)
  where
    by : (t : Bool) → is_longest (next ∷ rows) row ≡ t → (longest (next ∷ rows) ≡ None → ⊥) → ⊥
    by true f rest = absurd (cc (longest-cons row (next ∷ rows) true f))
    by false f rest = rest (sym (longest-cons row (next ∷ rows) false f) ∙ e)

-- ---- a row behind

-- no longer one among rows and one more
is_longest-push : (rows : List Row) (next row : Row) (t u : Bool) → is_longest rows row ≡ t
    → nat_le next.0.len row.0.len ≡ u
    → is_longest (rows ++ next ∷ []) row ≡ (t && (u && true))
is_longest-push rows next row t u e f = rw (list_all-append, e, f) refl

longest-push_step : (row next : Row) (rows : List Row) (t u : Bool) (best : Option Row) → is_longest rows row ≡ t
    → nat_le next.0.len row.0.len ≡ u
    → longest rows ≡ best → longest (rows ++ next ∷ []) ≡ Some (longer best next)
    → longest (row ∷ (rows ++ next ∷ [])) ≡ Some (longer (cond t (Some row) best) next)
longest-push_step row next rows true true best e f b rest =
    let keeps : nat_lt row.0.len next.0.len ≡ false = le-ltb row.0.len next.0.len (leb-true next.0.len row.0.len f) in
    longest-cons row (rows ++ next ∷ []) true (is_longest-push rows next row true true e f)
    ∙ sym (ap (λ t. Some (cond t next row)) keeps)
longest-push_step row next rows true false None e f b rest =
    let takes : nat_lt row.0.len next.0.len ≡ true = lt-ltb row.0.len next.0.len (leb-false next.0.len row.0.len f) in
    longest-cons row (rows ++ next ∷ []) false (is_longest-push rows next row true false e f)
    ∙ (rest ∙ sym (ap (λ t. Some (cond t next row)) takes))
longest-push_step row next rows true false (Some best) e f b rest =
    let low : best.0.len ≤ row.0.len =
    leb-true best.0.len row.0.len ((found_passes _ rows best b).1 (λ other. nat_le other.0.len row.0.len) e) in
    let high : row.0.len < next.0.len = leb-false next.0.len row.0.len f in
    let takes : nat_lt row.0.len next.0.len ≡ true = lt-ltb row.0.len next.0.len high in
    let both : nat_lt best.0.len next.0.len ≡ true = lt-ltb best.0.len next.0.len (omega arith) in
    longest-cons row (rows ++ next ∷ []) false (is_longest-push rows next row true false e f)
    ∙ (rest ∙ (ap (λ t. Some (cond t next best)) both ∙ sym (ap (λ t. Some (cond t next row)) takes)))
longest-push_step row next rows false u best e f b rest =
    longest-cons row (rows ++ next ∷ []) false (is_longest-push rows next row false u e f) ∙ rest

-- one row more is the longest where it is longer than each before
pub longest-push : (rows : List Row) (next : Row) → longest (rows ++ next ∷ []) ≡ Some (longer (longest rows) next)
longest-push [] next = longest-cons next [] true refl
longest-push (row ∷ rows) next =
    longest-push_step row next rows (is_longest rows row) (nat_le next.0.len row.0.len) (longest rows) refl refl
    refl (longest-push rows next)
    ∙ ap (λ best. Some (longer best next)) (sym (longest-cons row rows (is_longest rows row) refl))

-- ---- the relation

-- the test of a prefix is right
pub holds_decides : (addr : Addr) (len : ℕ) (other : Addr) → Decides (holds addr len other) (Holds addr len other)
holds_decides (V4 a) len (V4 b) = Decides-eqb _ _
holds_decides (V6 a) len (V6 b) = Decides-eqb _ _
holds_decides (V4 a) len (V6 b) = (λ e. absurd (cc), λ h. absurd h)
holds_decides (V6 a) len (V4 b) = (λ e. absurd (cc), λ h. absurd h)

-- what is among the rows that pass is among the rows, and passes
kept_contains : (p : Row → Bool) (rows : List Row) (row : Row) → Contains (filter p rows) row
    → Contains rows row × (p row ≡ true)
kept_contains p [] row h = absurd (omega (arith, h.1))
kept_contains p (next ∷ rows) row h = by (p next) refl h (kept_contains p rows row)
  where
    more : Contains rows row → Contains (next ∷ rows) row
    more h = (suc h.0, omega (arith, h.1), h.2)

    by : (t : Bool) → p next ≡ t → Contains (cond t (next ∷ filter p rows) (filter p rows)) row
        → (Contains (filter p rows) row → Contains rows row × (p row ≡ true))
        → Contains (next ∷ rows) row × (p row ≡ true)
    by true f (zero, below, is) rest = ((zero, omega arith, is), subst (λ r. p r ≡ true) is f)
    by true f (suc k, below, is) rest = let far = rest (k, omega (arith, below), is) in (more far.0, far.1)
    by false f h rest = (more (rest h).0, (rest h).1)

-- what no row that passes exceeds, no row that passes exceeds
kept_all : (p q : Row → Bool) (rows : List Row) → list_all q (filter p rows) ≡ true
    → AllByRecursion (λ row. p row ≡ true → q row ≡ true) rows
kept_all p q [] e = tt
kept_all p q (next ∷ rows) e = by (p next) refl e (kept_all p q rows)
  where
    by : (t : Bool) → p next ≡ t → list_all q (cond t (next ∷ filter p rows) (filter p rows)) ≡ true
        → (list_all q (filter p rows) ≡ true → AllByRecursion (λ row. p row ≡ true → q row ≡ true) rows)
        → (p next ≡ true → q next ≡ true) × AllByRecursion (λ row. p row ≡ true → q row ≡ true) rows
    by true f e rest = let both = and_parts (q next) (list_all q (filter p rows)) e in (λ _. both.0, rest both.1)
    by false f e rest = (λ g. absurd (cc), rest e)

-- what is found is one of the rows
found_contains : (p : Row → Bool) (rows : List Row) (row : Row) → find p rows ≡ Some row → Contains rows row
found_contains p [] row e = absurd (cc)
found_contains p (next ∷ rows) row e = by (p next) e (found_contains p rows row)
  where
    by : (t : Bool) → cond t (Some next) (find p rows) ≡ Some row → (find p rows ≡ Some row → Contains rows row)
        → Contains (next ∷ rows) row
    by true e rest = let same : next ≡ row = cc in (zero, omega arith, same)
    by false e rest = let h = rest e in (suc h.0, omega (arith, h.1), h.2)

-- where no row is the longest, none is there
none_kept : (rows : List Row) → longest rows ≡ None → list_all (λ _. false) rows ≡ true
none_kept [] e = refl
none_kept (row ∷ rows) e = absurd (some_longest row rows e)

-- the row that is found, as the relation has it
longest_answers : (rows : List Row) (addr : Addr) (best : Option Row) → longest (holding rows addr) ≡ best
    → IsLongest rows addr (option_map (λ row. row.1) best)
longest_answers rows addr None e =
    let Never : Row → Type 0 = λ row. holds row.0.addr row.0.len addr ≡ true → false ≡ true in
    let none : AllByRecursion Never rows =
    kept_all (λ row. holds row.0.addr row.0.len addr) (λ _. false) rows (none_kept (holding rows addr) e) in
    All-weaker Never (λ row. IsHeldBy addr row
    → ⊥) (λ row never held. false≢true (never ((holds_decides row.0.addr row.0.len addr).1 held))) rows
    (All-from_recursion Never rows none)
longest_answers rows addr (Some row) e =
    let kept : Contains rows row × (holds row.0.addr row.0.len addr ≡ true) =
    kept_contains _ rows row (found_contains _ (holding rows addr) row e) in
    let top : is_longest (holding rows addr) row ≡ true = (found_passes _ (holding rows addr) row e).0 in
    let Low : Row → Type 0 = λ other. holds other.0.addr other.0.len addr ≡ true
    → nat_le other.0.len row.0.len ≡ true in
    let each : AllByRecursion Low rows =
    kept_all (λ other. holds other.0.addr other.0.len addr) (λ other. nat_le other.0.len row.0.len) rows top in (
      row,
      kept.0,
      refl,
      (holds_decides row.0.addr row.0.len addr).0 kept.1,
      All-weaker Low (λ other. IsHeldBy addr other → other.0.len ≤ row.0.len)
          (λ other low held. leb-true other.0.len
          row.0.len (low ((holds_decides other.0.addr other.0.len addr).1 held)))
          rows (All-from_recursion Low rows each),
    )

-- the longest prefix is one that the relation names
pub longest_prefix_answers : (rows : List Row) (addr : Addr) → IsLongest rows addr (longest_prefix rows addr)
unfolding longest_prefix
longest_prefix_answers rows addr = longest_answers rows addr (longest (holding rows addr)) refl

-- ---- one prefix

-- two numbers that agree in their first bits and have no others are one
one_number : (size a b c : ℕ) → a % size ≡ 0 → b % size ≡ 0 → a / size ≡ c / size → b / size ≡ c / size → a ≡ b
one_number size a b c none_a none_b e f =
    let same : a / size * size ≡ b / size * size = ap (λ n. n * size) (e ∙ sym f) in
    omega (arith, div-add-mod' a size, div-add-mod' b size)

-- two prefixes of one length that hold one address begin alike
one_address : (a b c : Addr) (len : ℕ) → IsPrefix a len → IsPrefix b len → Holds a len c → Holds b len c → a ≡ b
one_address (V4 a) (V4 b) (V4 c) len p q g h = ap (λ n. V4 n) (one_number (2 ^ (32 - len)) a b c p.1 q.1 g h)
one_address (V6 a) (V6 b) (V6 c) len p q g h = ap (λ n. V6 n) (one_number (2 ^ (128 - len)) a b c p.1 q.1 g h)
one_address (V4 a) b (V6 c) len p q g h = absurd g
one_address (V6 a) b (V4 c) len p q g h = absurd g
one_address (V4 a) (V6 b) (V4 c) len p q g h = absurd h
one_address (V6 a) (V4 b) (V6 c) len p q g h = absurd h

-- a prefix of these parts
abbrev made : (addr : Addr) (len : ℕ) → IsPrefix addr len → Prefix
made addr len is = record { addr = addr; len = len; is_prefix = is }

-- that an address and a length make a prefix has one proof
one_proof : (addr : Addr) (len : ℕ) → IsProp (IsPrefix addr len)
one_proof addr len = hlevel props

-- prefixes of one length that hold one address are one
one_prefix : (p q : Prefix) (addr : Addr) → p.len ≡ q.len → Holds p.addr p.len addr → Holds q.addr q.len addr → p ≡ q
one_prefix p q addr lens g h =
    let held : Holds p.addr q.len addr = subst (λ len. Holds p.addr len addr) lens g in
    let is : IsPrefix p.addr q.len = subst (λ len. IsPrefix p.addr len) lens p.is_prefix in
    let addrs : p.addr ≡ q.addr = one_address p.addr q.addr addr q.len is q.is_prefix held h in
    let same_len : (is : IsPrefix p.addr q.len) → p ≡ made p.addr q.len is =
    subst (λ len. (is : IsPrefix p.addr len)
    → p ≡ made p.addr len is) lens (λ is i. made p.addr p.len (one_proof p.addr p.len p.is_prefix is i)) in
    subst (λ addr. (is : IsPrefix addr q.len) → p ≡ made addr q.len is) addrs same_len q.is_prefix

-- ---- one answer

-- distinct rows that have the same prefix are one
one_row : (rows : List Row) (row other : Row) → AreDistinct rows → Contains rows row → Contains rows other
    → row.0 ≡ other.0 → row ≡ other
one_row rows row other distinct (j, below, is) (k, under, too) same =
    ⊎_elim
    (λ e. sym is ∙ (get_or_default rows j row other below ∙ (ap (λ n. get_or rows n other) e ∙ too)))
    (λ apart. ⊎_elim
    (λ lt. absurd (distinct j k row lt under (ap (λ r. r.0) is
    ∙ (same ∙ ap (λ r. r.0) (sym too ∙ get_or_default rows k other row under)))))
    (λ lt. absurd (distinct k j row lt below (ap (λ r. r.0) (get_or_default rows k row other under ∙ too)
    ∙ (sym same ∙ ap (λ r. r.0) (sym is)))))
    apart)
    (cases_order j k)

-- of distinct rows, the relation names one PID at most
pub one_longest : (rows : List Row) (addr : Addr) (one other : Option (List ℕ)) → AreDistinct rows
    → IsLongest rows addr one → IsLongest rows addr other
    → one ≡ other
one_longest rows addr None None distinct g h = refl
one_longest rows addr None (Some b) distinct g h =
    absurd (All-contains (λ row. IsHeldBy addr row → ⊥) rows h.0 g h.1 h.3)
one_longest rows addr (Some a) None distinct g h =
    absurd (All-contains (λ row. IsHeldBy addr row → ⊥) rows g.0 h g.1 g.3)
one_longest rows addr (Some a) (Some b) distinct g h =
    let low : g.0.0.len ≤ h.0.0.len = All-contains (λ other. IsHeldBy addr other
    → other.0.len ≤ h.0.0.len) rows g.0 h.4 g.1 g.3 in
    let high : h.0.0.len ≤ g.0.0.len = All-contains (λ other. IsHeldBy addr other
    → other.0.len ≤ g.0.0.len) rows h.0 g.4 h.1 h.3 in
    let same : g.0.0 ≡ h.0.0 = one_prefix g.0.0 h.0.0 addr (omega arith) g.3 h.3 in
    ap (λ (pid : List ℕ). Some pid) (sym g.2
    ∙ (ap (λ (row : Row). row.1) (one_row rows g.0 h.0 distinct g.1 h.1 same) ∙ h.2))

-- ---- a scan

-- the longest of the rows that hold the address, one row on
longest-more : (rows : List Row) (addr : Addr) (i : ℕ) (row : Row) (t : Bool) → i < length rows
    → row ≡ get_or rows i row
    → holds row.0.addr row.0.len addr ≡ t
    → longest (holding (take (i + 1) rows) addr)
    ≡ cond t (Some (longer (longest (holding (take i rows) addr)) row)) (longest (holding (take i rows) addr))
longest-more rows addr i row t below is e =
    let more : holding (take (i + 1) rows) addr ≡ holding (take i rows) addr ++ cond t (row ∷ []) [] =
    filter_more (λ row. holds row.0.addr row.0.len addr) rows i row below
    ∙ (ap (λ (r : Row). holding (take i rows) addr ++ cond (holds r.0.addr r.0.len addr) (r ∷ []) []) (sym is)
    ∙ ap (λ u. holding (take i rows) addr ++ cond u (row ∷ []) []) e) in
    ap longest more ∙ by t (holding (take i rows) addr)
  where
    by : (t : Bool) (kept : List Row)
        → longest (kept ++ cond t (row ∷ []) []) ≡ cond t (Some (longer (longest kept) row)) (longest kept)
    by true kept = longest-push kept row
    by false kept = ap longest (append-nil kept)

-- a row that holds the address
pub longest-held : (rows : List Row) (addr : Addr) (i : ℕ) (row : Row) → i < length rows → row ≡ get_or rows i row
    → IsHeldBy addr row
    → Some (longer (longest (holding (take i rows) addr)) row) ≡ longest (holding (take (i + 1) rows) addr)
longest-held rows addr i row below is held =
    sym (longest-more rows addr i row true below is ((holds_decides row.0.addr row.0.len addr).1 held))

-- a row that doesn't
pub longest-passed : (rows : List Row) (addr : Addr) (i : ℕ) (row : Row) → i < length rows → row ≡ get_or rows i row
    → (IsHeldBy addr row → ⊥)
    → longest (holding (take i rows) addr) ≡ longest (holding (take (i + 1) rows) addr)
longest-passed rows addr i row below is passed = by (holds row.0.addr row.0.len addr) refl
  where
    by : (t : Bool) → holds row.0.addr row.0.len addr ≡ t
        → longest (holding (take i rows) addr) ≡ longest (holding (take (i + 1) rows) addr)
    by true e = absurd (passed ((holds_decides row.0.addr row.0.len addr).0 e))
    by false e = sym (longest-more rows addr i row false below is e)
