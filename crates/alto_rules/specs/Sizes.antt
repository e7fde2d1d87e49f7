-- How many rows there are after writes: all, and those of each span that a rule limits.
use Rattle.std.specs.Prelude.{◌≡◌, ◌+◌, ◌-◌, ℕ, Bool, true, false, nat_le, length, Option, Some, None}
use Rattle.std.specs.BTreeMap.{BTreeMap, Updates, get}
use Rattle.std.specs.Option.{unwrap_or}
use Rattle.std.specs.Ordering.{nat_cmp, ordering_then}
use Rattle.std.specs.declared.cmp.Ordering.{Ordering}
use Rattle.std.specs.declared.cmp.Ordering.TheVariants.{Equal}
use Rattle.alto_rows.specs.declared.key.Key.{Key}
use Rattle.alto_rows.specs.declared.key.Key.TheVariants as key
use Rattle.alto_rows.specs.declared.span.Span.{Span}
use Rattle.alto_rows.specs.declared.span.Span.TheVariants as span
use Rattle.alto_rows.specs.Order.{name_cmp}
use Rattle.alto_rows.specs.Rows.{Rows}
use Rattle.alto_rows.specs.Span.{count_in}
use Rattle.alto_rules.specs.declared.counted.Counted.{Counted}
use Rattle.alto_rules.specs.declared.counted.Counted.TheVariants as counted

-- the span of what is counted
abbrev pub span_of : Counted → Span
span_of counted.Nets = span.Nets
span_of (counted.Pids net) = span.Pids net
span_of (counted.Prefixes net) = span.Prefixes net
span_of (counted.Metrics net) = span.Metrics net
span_of (counted.Costs net metric) = span.CostsIn net metric

-- what a key counts for
abbrev pub counted_of : Key → Option Counted
counted_of (key.Net net) = Some counted.Nets
counted_of (key.Pid net pid) = Some (counted.Pids net)
counted_of (key.Prefix net pid prefix) = Some (counted.Prefixes net)
counted_of (key.Metric net metric) = Some (counted.Metrics net)
counted_of (key.Cost net metric source destination) = Some (counted.Costs net metric)
counted_of _ = None

-- there are as many as may be of what is counted, if anything is
abbrev pub is_full_of : Rows → Option Counted → ℕ → Bool
is_full_of rows None most = false
is_full_of rows (Some one) most = nat_le most (count_in rows (span_of one))

-- there are as many as may be of what a key counts for
abbrev pub is_full : Rows → Key → ℕ → Bool
is_full rows at most = is_full_of rows (counted_of at) most

-- the number of a kind of what is counted
abbrev pub counted_kind : Counted → ℕ
counted_kind counted.Nets = 1
counted_kind (counted.Pids net) = 2
counted_kind (counted.Prefixes net) = 3
counted_kind (counted.Metrics net) = 4
counted_kind (counted.Costs net metric) = 5

-- those of one kind by network, then by metric
abbrev pub counted_fields_cmp : Counted → Counted → Ordering
counted_fields_cmp (counted.Pids a) (counted.Pids b) = name_cmp a b
counted_fields_cmp (counted.Prefixes a) (counted.Prefixes b) = name_cmp a b
counted_fields_cmp (counted.Metrics a) (counted.Metrics b) = name_cmp a b
counted_fields_cmp (counted.Costs a m) (counted.Costs b n) = ordering_then (name_cmp a b) (name_cmp m n)
counted_fields_cmp _ _ = Equal

-- by kind, then by the fields
unfoldable pub counted_cmp : Counted → Counted → Ordering
counted_cmp a b = ordering_then (nat_cmp (counted_kind a) (counted_kind b)) (counted_fields_cmp a b)

-- a count once a row is there or not that was there or not
abbrev pub recounted : Bool → Bool → ℕ → ℕ
recounted true false n = n - 1
recounted false true n = n + 1
recounted _ _ n = n

-- how many rows of what is counted there are, where the counts differ from those of the rows before
abbrev pub count_from : Rows → BTreeMap Counted ℕ → Counted → ℕ
count_from rows counts one = unwrap_or (get counted_cmp counts one) (count_in rows (span_of one))

-- the number of all rows, and the counts that differ from those of the rows before
pub record AreSizes (rows later : Rows) (total : ℕ) (counts : BTreeMap Counted ℕ) : Type 0 where
  pub all : length later ≡ total
  pub each : (one : Counted) → count_in later (span_of one) ≡ count_from rows counts one

-- the counts after a write that counts for this, the row of whose key was there or not, and then is there or not
abbrev pub HasRecounted : Rows → Option Counted → Bool → Bool → BTreeMap Counted ℕ → BTreeMap Counted ℕ → Type 0
HasRecounted rows None had has earlier later = later ≡ earlier
HasRecounted rows (Some one) had has earlier later =
    Updates counted_cmp earlier later one (Some (recounted had has (count_from rows earlier one)))
