-- A version in the making: all of it but the range tables and the texts.
use Rattle.std.specs.Prelude.{◌≡◌, ℕ, List}
use Rattle.alto_rows.specs.declared.resource.Resource.{Resource}
use Rattle.alto_rows.specs.Rows.{Rows}
use Rattle.tips_graph.specs.Graph.{GraphData}
use Rattle.alto_book.specs.Book.{Book, number_of, rows_of}
use Rattle.alto_versions.specs.Front.{graphs_of}

-- how many batches led to it, its rows, and the updates graphs of resources
pub record CourseData : Type 0 where
  pub n : ℕ
  pub rows : Rows
  pub graphs : List (Resource × GraphData)

-- a course is the book's, after all its batches
pub record Follows (course : CourseData) (book : Book) : Type 0 where
  pub number : course.n ≡ number_of book
  pub current : course.rows ≡ rows_of book
  pub graphs : course.graphs ≡ graphs_of book
