-- The numbers that batches give resources (RFC 9569, section 3): the rows at a number, the keys between two, and the
-- graph.
use Rattle.std.specs.Prelude.{ℕ, ◌+◌, ◌-◌, max, Bool, not, ◌&&◌, ◌==◌, false, List, [], ◌∷◌, ◌++◌, fold, Option, Some}
use Rattle.std.specs.Prelude.{None, map, filter, take, drop, if◌then◌else◌}
use Rattle.std.specs.BTreeMap.{is_at}
use Rattle.std.specs.List.{list_any, filter_map, enumerate_from, position_or_len}
use Rattle.alto_rows.specs.declared.key.Key.{Key}
use Rattle.alto_rows.specs.declared.key.Key.TheVariants as key
use Rattle.alto_rows.specs.declared.resource.Resource.{Resource}
use Rattle.alto_rows.specs.declared.value.Value.{Value}
use Rattle.alto_rows.specs.declared.value.Value.TheVariants as value
use Rattle.alto_rows.specs.declared.write.Write.{Write}
use Rattle.alto_rows.specs.Accepted.{Accepted}
use Rattle.alto_rows.specs.Order.{key_cmp}
use Rattle.alto_rows.specs.Rows.{Rows}
use Rattle.alto_rows.specs.Touches.{touches}
use Rattle.alto_rows.specs.Versions.{is_declared, version_of, window_of}
use Rattle.tips_graph.specs.declared.status.EdgeStatus.{EdgeStatus}
use Rattle.tips_graph.specs.Edges as edges
use Rattle.tips_graph.specs.Graph.{Push, GraphData, graph_from}
use Rattle.tips_graph.specs.Keys.{key_set}
use Rattle.alto_book.specs.Book.{Book, state_at, rows_of, writes_in}

-- a value is this number
abbrev pub is_number : ℕ → Option Value → Bool
is_number number (Some (value.Num n)) = n == number
is_number number _ = false

-- a batch gives a resource this number: it writes the number as the resource's version
abbrev pub gives : Resource → ℕ → Accepted → Bool
gives of number batch =
    list_any (λ write. is_at (key_cmp (key.Seq of)) write.key && is_number number write.value) batch.writes

-- a batch gives a resource some number
abbrev pub renews : Resource → Accepted → Bool
renews of batch = list_any (λ write. is_at (key_cmp (key.Seq of)) write.key) batch.writes

-- how many batches past the base lead to a number of a resource: none where the base rows show it, and else those up to
-- the one that gives it
abbrev pub batches_to : Book → Resource → ℕ → ℕ
batches_to book of number =
    if version_of book.base of == number then 0 else position_or_len (gives of number) book.batches + 1

-- the rows at a number of a resource: those after the batch that gave it, or the base rows that show it
abbrev pub rows_at : Book → Resource → ℕ → Rows
rows_at book of number = state_at book (batches_to book of number)

-- the keys of writes that touch a resource, in their order
abbrev pub touching : Resource → List Write → List Key
touching of writes = filter (touches of) (map (λ write. write.key) writes)

-- the batches after the one that gave a resource the number i, or past the base that shows it, up to the one that gave
-- j
abbrev pub batches_between : Book → Resource → ℕ → ℕ → List Accepted
batches_between book of i j = drop (batches_to book of i) (take (batches_to book of j) book.batches)

-- the distinct keys that touch a resource and were written between two of its numbers, in the order of keys
abbrev pub keys_between : Book → Resource → ℕ → ℕ → List Key
keys_between book of i j = key_set (touching of (writes_in (batches_between book of i j)))

-- what a batch, by its number past the base, brings a resource: where it gives it a number, the rows after it and the
-- keys that it wrote
abbrev pub push_of : Book → Resource → ℕ × Accepted → Option Push
push_of book of (n, batch) =
    if renews of batch
    then Some (record { rows = state_at book n; keys = key_set (touching of batch.writes) })
    else None

-- what the base brings a resource: where it shows a number, its rows
abbrev pub base_push : Book → Resource → List Push
base_push book of = if version_of book.base of == 0 then [] else record { rows = book.base; keys = [] } ∷ []

-- what the base and the batches bring a resource, number by number
abbrev pub pushes_of : Book → Resource → List Push
pushes_of book of = base_push book of ++ filter_map (push_of book of) (enumerate_from 1 book.batches)

-- the number of the first of these
abbrev pub origin_of : Book → Resource → ℕ
origin_of book of = max 1 (version_of book.base of)

-- a batch, by its number past the base, declares a resource: it isn't declared before the batch, and is after it
abbrev pub declares : Book → Resource → ℕ × Accepted → Bool
declares book of (n, batch) = not (is_declared (state_at book (n - 1)) of) && is_declared (state_at book n) of

-- the number that the last batch that declares a resource gives it, 0 where none does
abbrev pub number_declared : Book → Resource → ℕ
number_declared book of =
    fold (λ _ numbered. version_of (state_at book numbered.0) of) 0
    (filter (declares book of) (enumerate_from 1 book.batches))

-- the lowest number that may be kept: the first, that of the base, or that with which the resource was last declared
abbrev pub floor_of : Book → Resource → ℕ
floor_of book of = max (origin_of book of) (number_declared book of)

-- the updates graph of a declared resource: its numbers from the lowest that may be kept
abbrev pub updates_graph : Book → Resource → GraphData
updates_graph book of =
    graph_from (window_of (rows_of book)) (floor_of book of - 1)
    (drop (floor_of book of - origin_of book of) (pushes_of book of))

-- the first number of a declared resource that is kept: the window reaches back from the last
abbrev pub first_kept : Book → Resource → ℕ
first_kept book of = max (floor_of book of) (version_of (rows_of book) of + 1 - window_of (rows_of book))

-- whether an edge between two numbers of a declared resource can be had
abbrev pub status_at : Book → Resource → ℕ → ℕ → EdgeStatus
status_at book of i j = edges.edge_status (first_kept book of) (version_of (rows_of book) of) i j

-- the edge of a declared resource that is recommended to a client, by the number that it holds
abbrev pub recommended : Book → Resource → Option ℕ → ℕ × ℕ
recommended book of held = edges.recommended_edge (first_kept book of) (version_of (rows_of book) of) held
