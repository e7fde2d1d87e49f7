-- A version that the desk hands out, and what it stands for.
use Rattle.std.specs.Prelude.{Option, ◌≡◌, ℕ, List, map}
use Rattle.alto_rows.specs.declared.resource.Resource.{Resource}
use Rattle.std.specs.BTreeMap.{is_at}
use Rattle.std.specs.Map.{lookup}
use Rattle.alto_rows.specs.Order.{resource_cmp, same_name}
use Rattle.alto_rows.specs.Prefixes.{prefixes_in}
use Rattle.alto_rows.specs.Rows.{Rows}
use Rattle.alto_rows.specs.Versions.{nets_of, resources_of}
use Rattle.pid_prefix.specs.Longest.{Row}
use Rattle.tips_graph.specs.Graph.{GraphData}
use Rattle.alto_book.specs.Book.{Book, number_of, rows_of}
use Rattle.alto_book.specs.Numbers.{updates_graph}

-- prefixes with their PIDs, under the name of their network
abbrev pub NetTable : Type 0
NetTable = List ℕ × List Row

-- a version: how many batches led to it, its rows, the updates graphs of resources, and the range tables of networks
pub record Version : Type 0 where
  pub n : ℕ
  pub rows : Rows
  pub graphs : List (Resource × GraphData)
  pub tables : List NetTable

-- the updates graphs of a book: that of each declared resource, in the order of resources
abbrev pub graphs_of : Book → List (Resource × GraphData)
graphs_of book = map (λ of. (of, updates_graph book of)) (resources_of (rows_of book))

-- each declared network with the list of its prefixes, in the order of the names of networks
abbrev pub tables_in : Rows → List NetTable
tables_in rows = map (λ net. (net, prefixes_in rows net)) (nets_of rows)

-- the range tables of a book: that of each declared network
abbrev pub tables_of : Book → List NetTable
tables_of book = tables_in (rows_of book)

-- a version is the book's, after all its batches
pub record StandsFor (version : Version) (book : Book) : Type 0 where
  pub number : version.n ≡ number_of book
  pub current : version.rows ≡ rows_of book
  pub graphs : version.graphs ≡ graphs_of book
  pub tables : version.tables ≡ tables_of book

-- the graph of a resource among these
abbrev pub graph_in : List (Resource × GraphData) → Resource → Option GraphData
graph_in graphs of = lookup (is_at (resource_cmp of)) graphs

-- the prefixes of a network among these
abbrev pub table_in : List NetTable → List ℕ → Option (List Row)
table_in tables net = lookup (same_name net) tables
