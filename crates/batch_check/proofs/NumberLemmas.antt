-- Good rows are within the numbers where each declared network and metric is.
use Rattle.std.proofs.Common.{◌≡◌, refl, sym, ◌∙◌, arith, ◌<◌, ◌≤◌}
use Rattle.std.proofs.lemmas.Bool.{and_from, and_parts, both_ways, le-leb, leb-true}
use Rattle.std.specs.Prelude.{ℕ, Bool, true, false, cond, nat_le, Decides, List, [], ◌∷◌, length, Option, Some, None}
use Rattle.std.specs.Prelude.{IfSome, is_some}
use Rattle.std.specs.List.{AllByRecursion, list_all}
use Rattle.std.specs.Ordering.{is_eq}
use Rattle.alto_rows.specs.declared.key.Key.{Key}
use Rattle.alto_rows.specs.declared.key.Key.TheVariants as key
use Rattle.alto_rows.specs.declared.span.Span.{Span}
use Rattle.alto_rows.specs.declared.span.Span.TheVariants as span
use Rattle.alto_rows.specs.declared.value.Value.{Value}
use Rattle.alto_rows.specs.declared.write.Write.{Write}
use Rattle.alto_rows.specs.Good.{AreGood, needs}
use Rattle.alto_rows.specs.Order.{key_cmp, same_name}
use Rattle.alto_rows.specs.Rows.{Rows, value_of, has_row}
use Rattle.alto_rows.specs.Span.{count_in, is_in, rows_in}
use Rattle.alto_rows.proofs.DeletionLemmas.{each_row}
use Rattle.alto_rows.proofs.NeedsLemmas.{is_among, among_first}
use Rattle.alto_rows.proofs.OrderLemmas.{one_key}
use Rattle.alto_rows.proofs.SoundLemmas.{need_has_row, sound_of_good}
use Rattle.alto_rows.proofs.TouchesLemmas.{one_name, same_name_itself}
use Rattle.alto_rows.proofs.WithinLemmas.{value_of-rows_in}
use Rattle.alto_edits.specs.declared.rule.Past.{Past}
use Rattle.alto_edits.specs.Limits.{AreWithin, most_in}
use Rattle.batch_check.specs.Numbers.{IsRoomFor, metric_fits, net_fits, row_fits}

-- ---- spans of what isn't declared

-- a key is needed by the rows of a span
abbrev AreNeeded : Span → Key → Type 0
AreNeeded of declaring = (at : Key) (v : Value) → is_in of at ≡ true → is_among declaring (needs at v) ≡ true

-- a span whose rows need a key that has no row is empty
none_in : (rows : Rows) (of : Span) (declaring : Key) → AreGood rows → AreNeeded of declaring
    → has_row rows declaring ≡ false → count_in rows of ≡ 0
none_in rows of declaring good needed out = by rows (each_row rows rows good.sorted (λ at v h. h))
  where
    first : (row : Key × Value) → value_of rows row.0 ≡ Some row.1 → (b : Bool) → is_in of row.0 ≡ b → b ≡ false
    first row is true e =
        absurd (both_ways (has_row rows declaring)
        out (need_has_row rows declaring row.0 row.1 (sound_of_good rows good) is (needed row.0 row.1 e)))
    first row is false e = refl

    by : (rest : Rows) → AllByRecursion (λ row. value_of rows row.0 ≡ Some row.1) rest → count_in rest of ≡ 0
    by [] all = refl
    by (row ∷ rest) all = rw (first row all.0 (is_in of row.0) refl) (by rest all.1)

-- the rows of a network's spans need the network
pids_need : (net : List ℕ) → AreNeeded (span.Pids net) (key.Net net)
pids_need net (key.Pid of pid) v h = rw (← one_name net of h) (among_first (key.Net net) [])
pids_need net _ v h = cc

prefixes_need : (net : List ℕ) → AreNeeded (span.Prefixes net) (key.Net net)
prefixes_need net (key.Prefix of pid prefix) v h =
    rw (← one_name net of h) (among_first (key.Net net) (key.Pid net pid ∷ []))
prefixes_need net _ v h = cc

metrics_need : (net : List ℕ) → AreNeeded (span.Metrics net) (key.Net net)
metrics_need net (key.Metric of metric) v h = rw (← one_name net of h) (among_first (key.Net net) [])
metrics_need net _ v h = cc

-- the costs in a metric need the metric
costs_need : (net metric : List ℕ) → AreNeeded (span.CostsIn net metric) (key.Metric net metric)
unfolding key_cmp
costs_need net metric (key.Cost of other source destination) v h =
    let both = and_parts (same_name net of) (same_name metric other) h in
    rw (← one_name net of both.0, ← one_name metric other both.1)
    (among_first (key.Metric net metric) (key.Pid net source ∷ key.Pid net destination ∷ []))
costs_need net metric _ v h = cc

-- and its network
metric_needs : (net metric : List ℕ) (v : Value) → is_among (key.Net net) (needs (key.Metric net metric) v) ≡ true
metric_needs net metric v = among_first (key.Net net) []

-- ---- what each row passes

-- a test that each row of a span passes is passed by the value at a key of the span
passes_at : (test : Key × Value → Bool) (rows : Rows) (at : Key) (v : Value) → list_all test rows ≡ true
    → value_of rows at ≡ Some v → test (at, v) ≡ true
passes_at test [] at v h is = cc
passes_at test (row ∷ rows) at v h is = by (λ g f. passes_at test rows at v g f) (is_eq (key_cmp at row.0)) refl is
  where
    parts : (test row ≡ true) × (list_all test rows ≡ true)
    parts = and_parts (test row) (list_all test rows) h

    by : (list_all test rows ≡ true → value_of rows at ≡ Some v → test (at, v) ≡ true) → (b : Bool)
        → is_eq (key_cmp at row.0) ≡ b
        → cond b (Some row.1) (value_of rows at) ≡ Some v → test (at, v) ≡ true
    by more true e f =
        let one : row.1 ≡ v = cc in
        rw (one_key at row.0 e, ← one) parts.0
    by more false e f = more parts.1 f

span_passes : (test : Key × Value → Bool) (rows : Rows) (of : Span) (at : Key) (v : Value)
    → list_all test (rows_in rows of) ≡ true → is_in of at ≡ true
    → value_of rows at ≡ Some v → test (at, v) ≡ true
span_passes test rows of at v h inside is =
    passes_at test (rows_in rows of) at v h (value_of-rows_in rows of at ∙ rw inside is)

-- a test that all rows pass
all_pass : (test : Key × Value → Bool) → ((row : Key × Value) → test row ≡ true) → (rows : Rows)
    → list_all test rows ≡ true
all_pass test each [] = refl
all_pass test each (row ∷ rows) = and_from _ _ (each row) (all_pass test each rows)

-- a key that has a row has a value
pub record HasValue (rows : Rows) (at : Key) : Type 0 where
  pub v : Value
  pub is : value_of rows at ≡ Some v

pub has_value : (rows : Rows) (at : Key) → has_row rows at ≡ true → HasValue rows at
has_value rows at h = by (value_of rows at) refl h
  where
    by : (o : Option Value) → value_of rows at ≡ o → is_some o ≡ true → HasValue rows at
    by None e f = cc
    by (Some v) e f = record { v = v; is = e }

-- ---- within the numbers

-- each declared network fits
abbrev NetsFit : Rows → Type 0
NetsFit rows = list_all (row_fits rows) (rows_in rows span.Nets) ≡ true

-- a declared network fits
declared_fits : (rows : Rows) (net : List ℕ) → NetsFit rows → has_row rows (key.Net net) ≡ true
    → net_fits rows net ≡ true
declared_fits rows net fit h =
    let there : HasValue rows (key.Net net) = has_value rows (key.Net net) h in
    span_passes (row_fits rows) rows span.Nets (key.Net net) there.v fit refl there.is

-- the parts of a network that fits
record NetParts (rows : Rows) (net : List ℕ) : Type 0 where
  pids : count_in rows (span.Pids net) ≤ 1024
  prefixes : count_in rows (span.Prefixes net) ≤ 16384
  metrics : count_in rows (span.Metrics net) ≤ 8
  costs : list_all (metric_fits rows) (rows_in rows (span.Metrics net)) ≡ true

net_parts : (rows : Rows) (net : List ℕ) → net_fits rows net ≡ true → NetParts rows net
net_parts rows net h =
    let a = and_parts (nat_le (count_in rows (span.Pids net)) 1024) _ h in
    let b = and_parts (nat_le (count_in rows (span.Prefixes net)) 16384) _ a.1 in
    let c = and_parts (nat_le (count_in rows (span.Metrics net)) 8) _ b.1 in
    record {
      pids = leb-true (count_in rows (span.Pids net)) 1024 a.0;
      prefixes = leb-true (count_in rows (span.Prefixes net)) 16384 b.0;
      metrics = leb-true (count_in rows (span.Metrics net)) 8 c.0;
      costs = c.1;
    }

-- a span of a network has no more rows than it may: those of a declared network by what fits, those of any other none
of_net : (rows : Rows) (of : Span) (most : ℕ) (net : List ℕ) → AreGood rows → NetsFit rows → AreNeeded of (key.Net net)
    → (NetParts rows net → count_in rows of ≤ most) → count_in rows of ≤ most
of_net rows of most net good fit needed part = by (has_row rows (key.Net net)) refl
  where
    by : (b : Bool) → has_row rows (key.Net net) ≡ b → count_in rows of ≤ most
    by true e = part (net_parts rows net (declared_fits rows net fit e))
    by false e = omega (arith, none_in rows of (key.Net net) good needed e)

-- the costs in a metric are no more than they may be
of_metric : (rows : Rows) (net metric : List ℕ) → AreGood rows → NetsFit rows
    → count_in rows (span.CostsIn net metric) ≤ 262144
of_metric rows net metric good fit = by (has_row rows (key.Metric net metric)) refl
  where
    declared : HasValue rows (key.Metric net metric) → count_in rows (span.CostsIn net metric) ≤ 262144
    declared there =
        let up : has_row rows (key.Net net) ≡ true =
        need_has_row rows (key.Net net) (key.Metric net metric) there.v (sound_of_good rows good)
        there.is (metric_needs net metric there.v) in
        let parts : NetParts rows net = net_parts rows net (declared_fits rows net fit up) in
        leb-true (count_in rows (span.CostsIn net metric)) 262144
        (span_passes (metric_fits rows) rows (span.Metrics net) (key.Metric net metric) there.v
        parts.costs (same_name_itself net) there.is)

    by : (b : Bool) → has_row rows (key.Metric net metric) ≡ b → count_in rows (span.CostsIn net metric) ≤ 262144
    by true e = declared (has_value rows (key.Metric net metric) e)
    by false e = omega (
      arith,
      none_in rows (span.CostsIn net metric) (key.Metric net metric)
          good (costs_need net metric) e,
    )

-- good rows are within the numbers where each declared network fits
pub within_from : (rows : Rows) → AreGood rows → length rows ≤ 400000 → count_in rows span.Nets ≤ 8 → NetsFit rows
    → AreWithin rows
within_from rows good all nets fit = record { spans = spans; all = all }
  where
    spans : (of : Span) → IfSome (most_in of) (λ most. count_in rows of ≤ most)
    spans span.Nets = nets
    spans (span.Pids net) = of_net rows (span.Pids net) 1024 net good fit (pids_need net) (λ parts. parts.pids)
    spans (span.Prefixes net) = of_net rows (span.Prefixes net) 16384 net good fit (prefixes_need net)
        (λ parts. parts.prefixes)
    spans (span.Metrics net) = of_net rows (span.Metrics net) 8 net good fit (metrics_need net) (λ parts. parts.metrics)
    spans (span.CostsIn net metric) = of_metric rows net metric good fit
    spans _ = tt

-- and each declared network of rows within them fits
metric_is : (rows : Rows) → AreWithin rows → (row : Key × Value) → metric_fits rows row ≡ true
metric_is rows within (key.Metric net metric, v) =
    le-leb (count_in rows (span.CostsIn net metric)) 262144 (within.spans (span.CostsIn net metric))
metric_is rows within (_, v) = refl

net_is : (rows : Rows) (net : List ℕ) → AreWithin rows → net_fits rows net ≡ true
net_is rows net within =
    and_from _ _ (le-leb (count_in rows (span.Pids net)) 1024 (within.spans (span.Pids net)))
    (and_from _ _ (le-leb (count_in rows (span.Prefixes net)) 16384 (within.spans (span.Prefixes net)))
    (and_from _ _ (le-leb (count_in rows (span.Metrics net)) 8 (within.spans (span.Metrics net)))
    (all_pass (metric_fits rows) (metric_is rows within) (rows_in rows (span.Metrics net)))))

row_is : (rows : Rows) → AreWithin rows → (row : Key × Value) → row_fits rows row ≡ true
row_is rows within (key.Net net, v) = net_is rows net within
row_is rows within (_, v) = refl

-- so what is told of the declared networks decides, where rows and networks are few
pub within_told : (rows : Rows) (fit : Bool) → AreGood rows → length rows ≤ 400000 → count_in rows span.Nets ≤ 8
    → fit ≡ list_all (row_fits rows) (rows_in rows span.Nets) → Decides fit (AreWithin rows)
within_told rows fit good all nets is = (
  λ h. within_from rows good all nets (sym is ∙ h),
  λ within. is
      ∙ all_pass (row_fits rows) (row_is rows within) (rows_in rows span.Nets),
)

-- too many rows, or networks, are none that is within
pub many_rows : (rows : Rows) → 400000 < length rows → Decides false (AreWithin rows)
many_rows rows more = (λ h. absurd (both_ways false refl h), λ within. absurd (omega (arith, more, within.all)))

pub many_nets : (rows : Rows) → 8 < count_in rows span.Nets → Decides false (AreWithin rows)
many_nets rows more = (
  λ h. absurd (both_ways false refl h),
  λ within. let most : count_in rows span.Nets ≤ 8 = within.spans span.Nets in
      absurd (omega (arith, more, most)),
)

-- no room for the writes, or the rows decide
pub no_room : (rows : Rows) (writes : List Write) (past : Past) → (IsRoomFor writes past → false ≡ true)
    → Decides false (AreWithin rows × IsRoomFor writes past)
no_room rows writes past none = (λ h. absurd (both_ways false refl h), λ keeps. none keeps.1)

pub room_told : (rows : Rows) (writes : List Write) (past : Past) (fit : Bool) → IsRoomFor writes past
    → Decides fit (AreWithin rows)
    → Decides fit (AreWithin rows × IsRoomFor writes past)
room_told rows writes past fit room within = (λ h. (within.0 h, room), λ keeps. within.1 keeps.0)
