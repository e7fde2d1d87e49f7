-- A new book is legal, and its rows are good.
use Rattle.std.proofs.Common.{◌≡◌, refl, arith}
use Rattle.std.proofs.lemmas.List.Elements.{All-from_recursion}
use Rattle.std.specs.Prelude.{ℕ, ◌≤◌, List, Some, IfSome, true}
use Rattle.std.specs.List.{AllByRecursion, IsDistinct}
use Rattle.std.specs.List.Sorted.{IsStrictlySortedBy}
use Rattle.alto_names.specs.Name.{IsEpoch}
use Rattle.alto_rows.specs.declared.key.Key.{Key}
use Rattle.alto_rows.specs.declared.key.Key.TheVariants as key
use Rattle.alto_rows.specs.declared.resource.Resource.{Resource}
use Rattle.alto_rows.specs.declared.resource.Resource.TheVariants as resource
use Rattle.alto_rows.specs.declared.span.Span.{Span}
use Rattle.alto_rows.specs.declared.span.Span.TheVariants as span
use Rattle.alto_rows.specs.declared.value.Value.{Value}
use Rattle.alto_rows.specs.Good.{Fits, needs, AreGood}
use Rattle.alto_rows.specs.Order.{key_cmp}
use Rattle.alto_rows.specs.Rows.{value_of, has_row}
use Rattle.alto_rows.specs.Span.{count_in}
use Rattle.alto_rows.specs.Versions.{is_declared, version_of}
use Rattle.alto_edits.specs.Limits.{most_in, AreWithin}
use Rattle.alto_book.specs.Book.{opening_rows, opening_book}
use Rattle.alto_book.specs.Legal.{IsLegal}

-- each row of a new book fits
fit_opening : (epoch : List ℕ) (window : ℕ) → IsEpoch epoch → 2 ≤ window → window ≤ 32
    → (at : Key) → IfSome (value_of (opening_rows epoch window) at) (Fits at)
unfolding key_cmp
fit_opening epoch window is low high key.Epoch = (tt, is)
fit_opening epoch window is low high key.Window = (tt, (low, high))
fit_opening epoch window is low high _ = tt

-- no row of a new book names another
declared_opening : (epoch : List ℕ) (window : ℕ) (at : Key) (v : Value)
    → value_of (opening_rows epoch window) at ≡ Some v
    → AllByRecursion (λ need. has_row (opening_rows epoch window) need ≡ true) (needs at v)
unfolding key_cmp
declared_opening epoch window key.Epoch v h = tt
declared_opening epoch window key.Window v h = tt
declared_opening epoch window _ v h = cc

-- no resource is declared in a new book
versions_opening : (epoch : List ℕ) (window : ℕ) (of : Resource) → is_declared (opening_rows epoch window) of ≡ true
    → has_row (opening_rows epoch window) (key.Seq of) ≡ true
unfolding key_cmp
versions_opening epoch window (resource.Net net) h = cc
versions_opening epoch window (resource.Cost net metric) h = cc
versions_opening epoch window (resource.Prop net) h = cc

-- the rows of a new book are good
pub good_opening : (epoch : List ℕ) (window : ℕ) → IsEpoch epoch → 2 ≤ window → window ≤ 32
    → AreGood (opening_rows epoch window)
unfolding key_cmp IsStrictlySortedBy
good_opening epoch window is low high = record {
  sorted = ((refl, tt), (tt, tt));
  fit = fit_opening epoch window is low high;
  epoch = refl;
  window = refl;
  declared = λ at v h. All-from_recursion (λ (need : Key). has_row (opening_rows epoch window) need ≡ true) (needs at v)
      (declared_opening epoch window at v h);
  one_pid = λ net first second prefix h g. cc;
  versions = versions_opening epoch window;
}

-- a new book has no rows that are counted
within_opening : (epoch : List ℕ) (window : ℕ) → AreWithin (opening_rows epoch window)
within_opening epoch window = record { spans = none; all = omega arith }
  where
    none : (of : Span) → IfSome (most_in of) (λ most. count_in (opening_rows epoch window) of ≤ most)
    none span.Nets = omega arith
    none (span.Pids net) = omega arith
    none (span.Prefixes net) = omega arith
    none (span.Metrics net) = omega arith
    none (span.CostsIn net metric) = omega arith
    none _ = tt

-- no resource has a version in a new book
version_of-opening : (epoch : List ℕ) (window : ℕ) (of : Resource) → version_of (opening_rows epoch window) of ≡ 0
unfolding key_cmp
version_of-opening epoch window of = refl

-- a new book is legal
pub legal_opening : (epoch : List ℕ) (window : ℕ) → IsEpoch epoch → 2 ≤ window → window ≤ 32
    → IsLegal (opening_book epoch window)
unfolding IsDistinct
legal_opening epoch window is low high = record {
  base = record {
    good = good_opening epoch window is low high;
    within = within_opening epoch window;
    versions = λ of. rw (version_of-opening epoch window of) (omega arith);
  };
  small = omega arith;
  each = λ n batch h. cc;
  ids = tt;
  moments = λ m n earlier later le h g. cc;
  batches = omega arith;
  writes = omega arith;
}
