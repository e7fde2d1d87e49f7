-- Which keys go with the key of a network, a PID or a metric, and in which spans they are.
use Rattle.std.specs.Prelude.{◌≡◌, ℕ, Bool, true, false, ◌&&◌, ◌||◌, List, [], ◌∷◌, filter}
use Rattle.std.specs.BTreeSet.{BTreeSet, contains}
use Rattle.std.specs.List.{list_any}
use Rattle.std.specs.Map.{keys_of}
use Rattle.std.specs.Ordering.{is_eq}
use Rattle.alto_rows.specs.declared.entity.Entity.{Entity}
use Rattle.alto_rows.specs.declared.entity.Entity.TheVariants as entity
use Rattle.alto_rows.specs.declared.key.Key.{Key}
use Rattle.alto_rows.specs.declared.key.Key.TheVariants as key
use Rattle.alto_rows.specs.declared.write.Write.{Write}
use Rattle.alto_rows.specs.declared.span.Span.{Span}
use Rattle.alto_rows.specs.declared.span.Span.TheVariants as span
use Rattle.alto_rows.specs.Order.{key_cmp, same_name}
use Rattle.alto_rows.specs.Rows.{Rows, has_row}
use Rattle.alto_rows.specs.Span.{rows_in}

-- a key that edits withdraw with all that names it
abbrev pub withdraws : Key → Bool
withdraws (key.Net net) = true
withdraws (key.Pid net pid) = true
withdraws (key.Metric net metric) = true
withdraws _ = false

-- a key is that of a network or of something in it, the versions aside
abbrev pub is_of : List ℕ → Key → Bool
is_of net (key.Net of) = same_name net of
is_of net (key.Pid of pid) = same_name net of
is_of net (key.Prefix of pid prefix) = same_name net of
is_of net (key.Metric of metric) = same_name net of
is_of net (key.Cost of metric source destination) = same_name net of
is_of net (key.Prop of entity name) = same_name net of
is_of net (key.Ane of ane) = same_name net of
is_of net (key.AneProp of ane name) = same_name net of
is_of net (key.Path of source destination) = same_name net of
is_of net _ = false

-- an entity is a PID
abbrev pub is_pid : List ℕ → Entity → Bool
is_pid pid (entity.Pid other) = same_name pid other
is_pid pid (entity.Block block) = false

-- a row of a key names what the key of a network, a PID or a metric declares: that is in keys alone, and in no value
abbrev pub names_key : Key → Key → Bool
names_key (key.Net net) at = is_of net at
names_key (key.Pid net pid) (key.Pid of other) = same_name net of && same_name pid other
names_key (key.Pid net pid) (key.Prefix of other prefix) = same_name net of && same_name pid other
names_key (key.Pid net pid) (key.Cost of metric source destination) =
    same_name net of && (same_name pid source || same_name pid destination)
names_key (key.Pid net pid) (key.Prop of entity name) = same_name net of && is_pid pid entity
names_key (key.Pid net pid) (key.Path of source destination) =
    same_name net of && (same_name pid source || same_name pid destination)
names_key (key.Metric net metric) (key.Metric of other) = same_name net of && same_name metric other
names_key (key.Metric net metric) (key.Cost of other source destination) = same_name net of && same_name metric other
names_key _ _ = false

-- a key has a row that names what a key declares
abbrev pub is_withdrawn : Rows → Key → Key → Bool
is_withdrawn rows declared at = names_key declared at && has_row rows at

-- some write is of the key
abbrev pub is_written_key : List Write → Key → Bool
is_written_key writes at = list_any (λ write. is_eq (key_cmp write.key at)) writes

-- some of these keys is the key
abbrev pub has_key : List Key → Key → Bool
has_key these at = list_any (λ one. is_eq (key_cmp one at)) these

-- the keys of a span that have rows and name what a key declares
abbrev pub named_in : Rows → Span → Key → List Key
named_in rows span declared = filter (names_key declared) (keys_of (rows_in rows span))

-- the spans that have all keys which can name what a key declares
abbrev pub spans_of : Key → List Span
spans_of (key.Net net) =
    span.Nets ∷ span.Pids net ∷ span.Prefixes net ∷ span.Metrics net ∷ span.Costs net ∷ span.Props net ∷ span.Anes net
    ∷ span.AneProps net ∷ span.Paths net ∷ []
spans_of (key.Pid net pid) =
    span.Pids net ∷ span.PrefixesOf net pid ∷ span.Costs net ∷ span.PropsOf net (entity.Pid pid) ∷ span.Paths net ∷ []
spans_of (key.Metric net metric) = span.Metrics net ∷ span.CostsIn net metric ∷ []
spans_of _ = []

-- the later set has what the earlier has, and of these keys those that pass a test
abbrev pub HasPicked : (Key → Bool) → (Key → Bool) → BTreeSet Key → BTreeSet Key → Type 0
HasPicked test these earlier later =
    (at : Key) → contains key_cmp later at ≡ (contains key_cmp earlier at || (test at && these at))
