-- What a batch makes of the range tables of a version.
use Rattle.std.specs.Prelude.{Bool, ℕ, List, Option, Some, None, map, if◌then◌else◌}
use Rattle.std.specs.List.{list_any}
use Rattle.alto_rows.specs.declared.span.Span.TheVariants as span
use Rattle.alto_rows.specs.declared.write.Write.{Write}
use Rattle.alto_rows.specs.Prefixes.{prefixes_in}
use Rattle.alto_rows.specs.Rows.{Rows}
use Rattle.alto_rows.specs.Span.{is_in}
use Rattle.alto_versions.specs.Front.{NetTable, table_in}
use Rattle.pid_prefix.specs.Longest.{Row}

-- whether a prefix of the network is among the keys of writes
abbrev pub writes_prefix : List ℕ → List Write → Bool
writes_prefix net writes = list_any (λ write. is_in (span.Prefixes net) write.key) writes

-- a network's prefixes after writes that led to these rows: those that it had, where the writes have none of its own
abbrev pub table_after : Option (List Row) → List ℕ → Rows → List Write → List Row
table_after (Some table) net rows writes = if writes_prefix net writes then prefixes_in rows net else table
table_after None net rows writes = prefixes_in rows net

-- the same of each of these networks, from the tables before
abbrev pub tables_after : List NetTable → List (List ℕ) → Rows → List Write → List NetTable
tables_after tables nets rows writes = map (λ net. (net, table_after (table_in tables net) net rows writes)) nets
