-- The version rows that go with writes: each resource that they touch gets its next version.
use Rattle.std.specs.Prelude.{ℕ, ◌+◌, Bool, ◌||◌, List, Some, map, filter}
use Rattle.std.specs.List.{list_any}
use Rattle.alto_rows.specs.declared.key.Key.TheVariants as key
use Rattle.alto_rows.specs.declared.resource.Resource.{Resource}
use Rattle.alto_rows.specs.declared.resource.Resource.TheVariants as resource
use Rattle.alto_rows.specs.declared.value.Value.TheVariants as value
use Rattle.alto_rows.specs.declared.write.Write.{Write}
use Rattle.alto_rows.specs.Order.{net_of}
use Rattle.alto_rows.specs.Rows.{Rows, after}
use Rattle.alto_rows.specs.Touches.{touches}
use Rattle.alto_rows.specs.Versions.{resources_of, version_of}

-- some write changes the resource itself
abbrev pub is_written : List Write → Resource → Bool
is_written writes of = list_any (λ write. touches of write.key) writes

-- a batch with these writes touches the resource: it is written, or the network map that it names is
abbrev pub is_touched : List Write → Resource → Bool
is_touched writes of = is_written writes of || is_written writes (resource.Net (net_of of))

-- the write that gives a resource its next version
abbrev pub next_version : Rows → Resource → Write
next_version rows of = record { key = key.Seq of; value = Some (value.Num (version_of rows of + 1)) }

-- the version rows of a batch whose edits make these writes
abbrev pub sequence_writes : Rows → List Write → List Write
sequence_writes rows writes = map (next_version rows) (filter (is_touched writes) (resources_of (after rows writes)))
