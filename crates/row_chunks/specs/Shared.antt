-- What the key of a cost has in common with other keys, and how they are ordered by the rest.
use Rattle.std.specs.Prelude.{◌≡◌, Bool, true, false, not}
use Rattle.std.specs.List.{AllByRecursion}
use Rattle.std.specs.Ordering.{is_gt, is_lt, ordering_then}
use Rattle.std.specs.declared.cmp.Ordering.{Ordering}
use Rattle.alto_rows.specs.declared.key.Key.{Key}
use Rattle.alto_rows.specs.declared.key.Key.TheVariants as key
use Rattle.alto_rows.specs.declared.span.Span.TheVariants as span
use Rattle.alto_rows.specs.Order.{key_cmp, name_cmp}
use Rattle.alto_rows.specs.Rows.{Rows}
use Rattle.alto_rows.specs.Span.{is_in}
use Rattle.row_chunks.specs.declared.cut.Cut.{Cut}
use Rattle.row_chunks.specs.declared.cut.Cut.TheVariants.{Before, Behind, BeforeSpan, BehindSpan}
use Rattle.row_chunks.specs.declared.shared.Shared.{Shared}
use Rattle.row_chunks.specs.declared.shared.Shared.TheVariants.{Nothing, Metric, Source}
use Rattle.row_chunks.specs.Cut.{keeps}

-- a key has so much in common with another
abbrev pub shares : Key → Shared → Key → Bool
shares low Nothing at = true
shares (key.Cost net metric source destination) Metric at = is_in (span.CostsIn net metric) at
shares (key.Cost net metric source destination) Source at = is_in (span.CostsFrom net metric source) at
shares _ _ at = false

-- keys by what they don't have in common
abbrev pub order_of_rest : Key → Shared → Key → Ordering
order_of_rest low Nothing at = key_cmp low at
order_of_rest (key.Cost net metric source destination) Metric (key.Cost of other from to) =
    ordering_then (name_cmp source from) (name_cmp destination to)
order_of_rest (key.Cost net metric source destination) Source (key.Cost of other from to) = name_cmp destination to
order_of_rest low _ at = key_cmp low at

-- a key has so much in common with that of a cut
abbrev pub cut_shares : Cut → Shared → Key → Bool
cut_shares (Before low) shared at = shares low.now shared at
cut_shares (Behind low) shared at = shares low.now shared at
cut_shares (BeforeSpan span) shared at = true
cut_shares (BehindSpan span) shared at = true

-- the keys of all rows have so much in common with that of a cut
abbrev pub AllShare : Cut → Shared → Rows → Type 0
AllShare cut shared rows = AllByRecursion (λ row. cut_shares cut shared row.0 ≡ true) rows

-- a key is behind a cut, by what it doesn't have in common with it
abbrev pub keeps_in : Cut → Shared → Key → Bool
keeps_in (Before low) shared at = not (is_gt (order_of_rest low.now shared at))
keeps_in (Behind low) shared at = is_lt (order_of_rest low.now shared at)
keeps_in (BeforeSpan span) shared at = keeps (BeforeSpan span) at
keeps_in (BehindSpan span) shared at = keeps (BehindSpan span) at
