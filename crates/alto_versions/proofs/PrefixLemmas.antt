-- The prefixes of a network: in good rows they are distinct, and writes of no prefix of its own leave them.
use Rattle.std.proofs.Common.{◌≡◌, ◌≢◌, refl, ap, sym, ◌∙◌, subst, arith}
use Rattle.std.proofs.lemmas.List.Elements.{All-from_recursion}
use Rattle.std.proofs.lemmas.List.Kept.{AllPairs-cons}
use Rattle.std.specs.Prelude.{ℕ, Bool, true, false, List, [], ◌∷◌, Option, Some, None}
use Rattle.std.specs.List.{AllByRecursion, filter_map, list_any}
use Rattle.std.specs.Ordering.{is_eq}
use Rattle.std.specs.declared.cmp.Ordering.{Ordering}
use Rattle.std.specs.declared.cmp.Ordering.TheVariants.{Less, Equal, Greater}
use Rattle.alto_addr.specs.declared.prefix.Prefix.{Prefix}
use Rattle.alto_rows.specs.declared.key.Key.{Key}
use Rattle.alto_rows.specs.declared.key.Key.TheVariants as key
use Rattle.alto_rows.specs.declared.span.Span.{Span}
use Rattle.alto_rows.specs.declared.span.Span.TheVariants as span
use Rattle.alto_rows.specs.declared.value.Value.{Value}
use Rattle.alto_rows.specs.declared.write.Write.{Write}
use Rattle.alto_rows.specs.Good.{AreGood}
use Rattle.alto_rows.specs.Order.{key_cmp, same_name}
use Rattle.alto_rows.specs.Prefixes.{prefix_declared, prefixes_in}
use Rattle.alto_rows.specs.Rows.{Rows, AreSorted, after, has_row, with_value}
use Rattle.alto_rows.specs.Span.{is_in, rows_in}
use Rattle.alto_rows.proofs.OrderLemmas.{key_cmp_exact, key_cmp_itself, one_key}
use Rattle.alto_rows.proofs.RowsLemmas.{ArePast, past_first, sorted_rest}
use Rattle.alto_rows.proofs.TouchesLemmas.{one_name}
use Rattle.pid_prefix.specs.Longest.{Row, AreDistinct}

-- ---- in good rows they are distinct

-- each of these keys has a row
abbrev HaveRows : Rows → Rows → Type 0
HaveRows rows some = AllByRecursion (λ row. has_row rows row.0 ≡ true) some

-- a key has a row among more rows too
has_more : (row : Key × Value) (rows : Rows) (at : Key) → has_row rows at ≡ true → has_row (row ∷ rows) at ≡ true
has_more row rows at h = by (is_eq (key_cmp at row.0)) refl
  where
    by : (b : Bool) → is_eq (key_cmp at row.0) ≡ b → has_row (row ∷ rows) at ≡ true
    by true e = rw e refl
    by false e = rw e h

have_more : (row : Key × Value) (rows some : Rows) → HaveRows rows some → HaveRows (row ∷ rows) some
have_more row rows [] h = tt
have_more row rows (one ∷ some) h = (has_more row rows one.0 h.0, have_more row rows some h.1)

-- each key of rows has a row
have_all : (rows : Rows) → HaveRows rows rows
have_all [] = tt
have_all (row ∷ rows) = (rw (key_cmp_itself row.0) refl, have_more row rows rows (have_all rows))

-- the keys of two prefixes of a network are apart, so the prefixes are
apart : (rows : Rows) (net of pid owner : List ℕ) (prefix other : Prefix) → AreGood rows → net ≡ of
    → has_row rows (key.Prefix net pid prefix) ≡ true → has_row rows (key.Prefix of owner other) ≡ true
    → key_cmp (key.Prefix net pid prefix) (key.Prefix of owner other) ≡ Less → prefix ≢ other
apart rows net of pid owner prefix other good same has second less = λ alike.
    let back : has_row rows (key.Prefix net owner prefix) ≡ true =
    subst (λ (n : List ℕ). has_row rows (key.Prefix n owner prefix) ≡ true) (sym same)
    (subst (λ (p : Prefix). has_row rows (key.Prefix of owner p) ≡ true) (sym alike) second) in
    let one : pid ≡ owner = good.one_pid net pid owner prefix has back in
    let keys : key.Prefix of owner other ≡ key.Prefix net pid prefix = cc in
    let itself : key_cmp (key.Prefix net pid prefix) (key.Prefix net pid prefix) ≡ Less =
    subst (λ (at : Key). key_cmp (key.Prefix net pid prefix) at ≡ Less) keys less in
    two_orders (sym (key_cmp_itself (key.Prefix net pid prefix)) ∙ itself)
  where
    two_orders : Equal ≡ Less → ⊥
    two_orders h = cc

-- the prefixes behind a row of one are others
others : (rows : Rows) (net of pid : List ℕ) (prefix : Prefix) (rest : Rows) → AreGood rows → net ≡ of
    → has_row rows (key.Prefix of pid prefix) ≡ true → HaveRows rows rest → ArePast (key.Prefix of pid prefix) rest
    → AllByRecursion (λ (other : Row). prefix ≢ other.0) (prefixes_in rest net)
others rows net of pid prefix [] good same has all past = tt
others rows net of pid prefix ((key.Prefix one owner other, v) ∷ rest) good same has all past =
    by (same_name net one) refl (others rows net of pid prefix rest good same has all.1 past.1)
  where
    by : (b : Bool) → same_name net one ≡ b → AllByRecursion (λ (other : Row). prefix ≢ other.0) (prefixes_in rest net)
        → AllByRecursion (λ (other : Row). prefix ≢ other.0) (prefixes_in ((key.Prefix one owner other, v) ∷ rest) net)
    by true e below = rw e (
      apart rows of one pid owner prefix other good (sym same ∙ one_name net one e) has
          all.0 past.0,
      below,
    )
    by false e below = rw e below
others rows net of pid prefix ((_, v) ∷ rest) good same has all past =
    others rows net of pid prefix rest good same has all.1 past.1

no_prefixes : AreDistinct []
no_prefixes i j d lt within = absurd (omega arith)

distinct_among : (rows some : Rows) (net : List ℕ) → AreGood rows → AreSorted some → HaveRows rows some
    → AreDistinct (prefixes_in some net)
distinct_among rows [] net good s all = no_prefixes
distinct_among rows ((key.Prefix of pid prefix, v) ∷ some) net good s all =
    by (same_name net of) refl (distinct_among rows some net
    good (sorted_rest (key.Prefix of pid prefix, v) some s) all.1)
  where
    by : (b : Bool) → same_name net of ≡ b → AreDistinct (prefixes_in some net)
        → AreDistinct (prefixes_in ((key.Prefix of pid prefix, v) ∷ some) net)
    by true e below =
        let behind : AllByRecursion (λ (other : Row). prefix ≢ other.0) (prefixes_in some net) =
        others rows net of pid prefix some good (one_name net of e) all.0
        all.1 (past_first (key.Prefix of pid prefix, v) some s) in
        rw e
        (AllPairs-cons (λ (one other : Row). one.0 ≢ other.0) (prefix, pid) (prefixes_in some net)
        (All-from_recursion (λ (other : Row). prefix ≢ other.0) (prefixes_in some net) behind) below)
    by false e below = rw e below
distinct_among rows ((at, v) ∷ some) net good s all =
    distinct_among rows some net good (sorted_rest (at, v) some s) all.1

-- no two prefixes of a network are one
pub prefixes_distinct : (rows : Rows) (net : List ℕ) → AreGood rows → AreDistinct (prefixes_in rows net)
prefixes_distinct rows net good = distinct_among rows rows net good good.sorted (have_all rows)

-- ---- writes of none of them

rows_in-put : (s : Span) (rows : Rows) (at : Key) (v : Value) → is_in s at ≡ false
    → rows_in (with_value rows at (Some v)) s ≡ rows_in rows s
rows_in-put s [] at v out = rw out refl
rows_in-put s (row ∷ rows) at v out = by (rows_in-put s rows at v out) (key_cmp at row.0) refl
  where
    kept : (b : Bool) → is_in s row.0 ≡ b → rows_in (with_value rows at (Some v)) s ≡ rows_in rows s
        → rows_in (row ∷ with_value rows at (Some v)) s ≡ rows_in (row ∷ rows) s
    kept true e below = rw e (ap (λ (more : Rows). row ∷ more) below)
    kept false e below = rw e below

    by : rows_in (with_value rows at (Some v)) s ≡ rows_in rows s → (o : Ordering) → key_cmp at row.0 ≡ o
        → rows_in (with_value (row ∷ rows) at (Some v)) s ≡ rows_in (row ∷ rows) s
    by below Less e = rw (e, out) refl
    by below Equal e = let outside : is_in s row.0 ≡ false = ap (is_in s) (sym (key_cmp_exact at row.0 e)) ∙ out in
        rw (e, outside) refl
    by below Greater e = rw e (kept (is_in s row.0) refl below)

rows_in-delete : (s : Span) (rows : Rows) (at : Key) → is_in s at ≡ false
    → rows_in (with_value rows at None) s ≡ rows_in rows s
rows_in-delete s [] at out = refl
rows_in-delete s (row ∷ rows) at out = by (rows_in-delete s rows at out) (is_eq (key_cmp at row.0)) refl
  where
    kept : (b : Bool) → is_in s row.0 ≡ b → rows_in (with_value rows at None) s ≡ rows_in rows s
        → rows_in (row ∷ with_value rows at None) s ≡ rows_in (row ∷ rows) s
    kept true e below = rw e (ap (λ (more : Rows). row ∷ more) below)
    kept false e below = rw e below

    by : rows_in (with_value rows at None) s ≡ rows_in rows s → (b : Bool) → is_eq (key_cmp at row.0) ≡ b
        → rows_in (with_value (row ∷ rows) at None) s ≡ rows_in (row ∷ rows) s
    by below true e = let outside : is_in s row.0 ≡ false = ap (is_in s) (sym (one_key at row.0 e)) ∙ out in
        rw (e, outside) refl
    by below false e = rw e (kept (is_in s row.0) refl below)

rows_in-with_value : (s : Span) (rows : Rows) (at : Key) (v : Option Value) → is_in s at ≡ false
    → rows_in (with_value rows at v) s ≡ rows_in rows s
rows_in-with_value s rows at (Some v) out = rows_in-put s rows at v out
rows_in-with_value s rows at None out = rows_in-delete s rows at out

-- writes of no key of a span leave its rows
rows_in-after : (s : Span) (rows : Rows) (writes : List Write) → list_any (λ write. is_in s write.key) writes ≡ false
    → rows_in (after rows writes) s ≡ rows_in rows s
rows_in-after s rows [] none = refl
rows_in-after s rows (write ∷ writes) none =
    by (is_in s write.key) refl (rows_in-after s (with_value rows write.key write.value) writes)
  where
    by : (b : Bool) → is_in s write.key ≡ b
        → (list_any (λ write. is_in s write.key) writes ≡ false
        → rows_in (after (with_value rows write.key write.value) writes) s
        ≡ rows_in (with_value rows write.key write.value) s)
        → rows_in (after rows (write ∷ writes)) s ≡ rows_in rows s
    by true e later = let some : true ≡ false = rw e at none in cc
    by false e later = later (rw e at none) ∙ rows_in-with_value s rows write.key write.value e

-- writes of no prefix of a network leave its prefixes
pub prefixes_stay : (rows : Rows) (net : List ℕ) (writes : List Write)
    → list_any (λ write. is_in (span.Prefixes net) write.key) writes ≡ false
    → prefixes_in (after rows writes) net ≡ prefixes_in rows net
prefixes_stay rows net writes none =
    ap (λ (some : Rows). filter_map prefix_declared some) (rows_in-after (span.Prefixes net) rows writes none)
