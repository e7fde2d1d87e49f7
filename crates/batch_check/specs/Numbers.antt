-- How many writes there may be, and which declared networks and metrics have no more rows than they may.
use Rattle.std.specs.Prelude.{ℕ, ◌+◌, ◌≤◌, ◌<◌, Bool, true, ◌&&◌, nat_le, List, length}
use Rattle.std.specs.List.{list_all}
use Rattle.alto_rows.specs.declared.key.Key.{Key}
use Rattle.alto_rows.specs.declared.key.Key.TheVariants as key
use Rattle.alto_rows.specs.declared.span.Span.TheVariants as span
use Rattle.alto_rows.specs.declared.value.Value.{Value}
use Rattle.alto_rows.specs.declared.write.Write.{Write}
use Rattle.alto_rows.specs.Rows.{Rows}
use Rattle.alto_rows.specs.Span.{count_in, rows_in}
use Rattle.alto_edits.specs.declared.rule.Past.{Past}

-- a batch has no more writes than it may, and it and its writes may be kept with those past the base
pub record IsRoomFor (writes : List Write) (past : Past) : Type 0 where
  pub few : length writes ≤ 16384
  pub batches : past.batches < 4096
  pub written : past.writes + length writes ≤ 524288

-- the metric that a row declares has no more costs than it may
abbrev pub metric_fits : Rows → Key × Value → Bool
metric_fits rows (key.Metric net metric, v) = nat_le (count_in rows (span.CostsIn net metric)) 262144
metric_fits rows _ = true

-- each metric of a network has
abbrev pub metrics_fit : Rows → List ℕ → Bool
metrics_fit rows net = list_all (metric_fits rows) (rows_in rows (span.Metrics net))

-- a network has no more PIDs, prefixes, metrics and costs than it may
abbrev pub net_fits : Rows → List ℕ → Bool
net_fits rows net =
    nat_le (count_in rows (span.Pids net)) 1024
    && (nat_le (count_in rows (span.Prefixes net)) 16384
    && (nat_le (count_in rows (span.Metrics net)) 8 && metrics_fit rows net))

-- the network that a row declares has no more than it may
abbrev pub row_fits : Rows → Key × Value → Bool
row_fits rows (key.Net net, v) = net_fits rows net
row_fits rows _ = true

-- each declared network has
abbrev pub nets_fit : Rows → Bool
nets_fit rows = list_all (row_fits rows) (rows_in rows span.Nets)
