-- Keys that lie together in order: those of one kind whose first fields are given.
use Rattle.std.specs.Prelude.{ℕ, Bool, true, false, not, ◌&&◌, filter, length}
use Rattle.std.specs.declared.cmp.Ordering.{Ordering}
use Rattle.std.specs.declared.cmp.Ordering.TheVariants.{Equal}
use Rattle.std.specs.Ordering.{is_eq, is_gt, nat_cmp, ordering_then}
use Rattle.alto_rows.specs.declared.entity.Entity.{Entity}
use Rattle.alto_rows.specs.declared.key.Key.{Key}
use Rattle.alto_rows.specs.declared.key.Key.TheVariants as key
use Rattle.alto_rows.specs.declared.span.Span.{Span}
use Rattle.alto_rows.specs.declared.span.Span.TheVariants as span
use Rattle.alto_rows.specs.Order.{name_cmp, entity_cmp, kind_of, same_name}
use Rattle.alto_rows.specs.Rows.{Rows}

-- two entities are one
abbrev pub same_entity : Entity → Entity → Bool
same_entity a b = is_eq (entity_cmp a b)

-- a key is in a span
abbrev pub is_in : Span → Key → Bool
is_in span.Nets (key.Net net) = true
is_in (span.Pids net) (key.Pid of pid) = same_name net of
is_in (span.Prefixes net) (key.Prefix of pid prefix) = same_name net of
is_in (span.PrefixesOf net pid) (key.Prefix of owner prefix) = same_name net of && same_name pid owner
is_in (span.Metrics net) (key.Metric of metric) = same_name net of
is_in (span.Costs net) (key.Cost of metric source destination) = same_name net of
is_in (span.CostsIn net metric) (key.Cost of other source destination) = same_name net of && same_name metric other
is_in (span.CostsFrom net metric source) (key.Cost of other from destination) =
    same_name net of && (same_name metric other && same_name source from)
is_in (span.Props net) (key.Prop of entity name) = same_name net of
is_in (span.PropsOf net entity) (key.Prop of other name) = same_name net of && same_entity entity other
is_in (span.Anes net) (key.Ane of ane) = same_name net of
is_in (span.AneProps net) (key.AneProp of ane name) = same_name net of
is_in (span.AnePropsOf net ane) (key.AneProp of other name) = same_name net of && same_name ane other
is_in (span.Paths net) (key.Path of source destination) = same_name net of
is_in (span.PathsFrom net source) (key.Path of from destination) = same_name net of && same_name source from
is_in _ _ = false

-- the rows whose keys are in a span
abbrev pub rows_in : Rows → Span → Rows
rows_in rows span = filter (λ row. is_in span row.0) rows

-- how many keys of a span have rows
abbrev pub count_in : Rows → Span → ℕ
count_in rows span = length (rows_in rows span)

-- the number of the kind of keys that a span has
abbrev pub span_kind : Span → ℕ
span_kind span.Nets = 3
span_kind (span.Pids net) = 4
span_kind (span.Prefixes net) = 5
span_kind (span.PrefixesOf net pid) = 5
span_kind (span.Metrics net) = 6
span_kind (span.Costs net) = 7
span_kind (span.CostsIn net metric) = 7
span_kind (span.CostsFrom net metric source) = 7
span_kind (span.Props net) = 8
span_kind (span.PropsOf net entity) = 8
span_kind (span.Anes net) = 9
span_kind (span.AneProps net) = 10
span_kind (span.AnePropsOf net ane) = 10
span_kind (span.Paths net) = 11
span_kind (span.PathsFrom net source) = 11

-- where a span stands against the keys of its kind, by their first fields
abbrev pub span_fields_cmp : Span → Key → Ordering
span_fields_cmp (span.Pids net) (key.Pid of pid) = name_cmp net of
span_fields_cmp (span.Prefixes net) (key.Prefix of pid prefix) = name_cmp net of
span_fields_cmp (span.PrefixesOf net pid) (key.Prefix of owner prefix) =
    ordering_then (name_cmp net of) (name_cmp pid owner)
span_fields_cmp (span.Metrics net) (key.Metric of metric) = name_cmp net of
span_fields_cmp (span.Costs net) (key.Cost of metric source destination) = name_cmp net of
span_fields_cmp (span.CostsIn net metric) (key.Cost of other source destination) =
    ordering_then (name_cmp net of) (name_cmp metric other)
span_fields_cmp (span.CostsFrom net metric source) (key.Cost of other from destination) =
    ordering_then (name_cmp net of) (ordering_then (name_cmp metric other) (name_cmp source from))
span_fields_cmp (span.Props net) (key.Prop of entity name) = name_cmp net of
span_fields_cmp (span.PropsOf net entity) (key.Prop of other name) =
    ordering_then (name_cmp net of) (entity_cmp entity other)
span_fields_cmp (span.Anes net) (key.Ane of ane) = name_cmp net of
span_fields_cmp (span.AneProps net) (key.AneProp of ane name) = name_cmp net of
span_fields_cmp (span.AnePropsOf net ane) (key.AneProp of other name) =
    ordering_then (name_cmp net of) (name_cmp ane other)
span_fields_cmp (span.Paths net) (key.Path of source destination) = name_cmp net of
span_fields_cmp (span.PathsFrom net source) (key.Path of from destination) =
    ordering_then (name_cmp net of) (name_cmp source from)
span_fields_cmp _ _ = Equal

-- where a span stands against a key: before it, behind it, or, where the key is in it, as equal
unfoldable pub span_cmp : Span → Key → Ordering
span_cmp span at = ordering_then (nat_cmp (span_kind span) (kind_of at)) (span_fields_cmp span at)

-- the rows that aren't before a span
abbrev pub rows_from_span : Rows → Span → Rows
rows_from_span rows span = filter (λ row. not (is_gt (span_cmp span row.0))) rows
