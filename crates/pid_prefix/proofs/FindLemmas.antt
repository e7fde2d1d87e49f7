-- What a table finds is the PID of the longest prefix.
use Rattle.std.proofs.Common.{◌≡◌, ℕ, ◌*◌, ◌^◌, ◌<◌, ◌≤◌, ap, sym, ◌∙◌, arith, subst, refl}
use Rattle.std.specs.Prelude.{List, length, map, Option, Some, None}
use Rattle.std.specs.List.Sorted.{IsNonDecreasingBy}
use Rattle.std.specs.Option.{option_map}
use Rattle.std.proofs.lemmas.List.{length-map}
use Rattle.std.proofs.lemmas.Option.{slice_get-get_or}
use Rattle.alto_addr.specs.declared.addr.Addr.{Addr}
use Rattle.alto_addr.specs.declared.addr.Addr.TheVariants as addr
use Rattle.alto_addr.specs.Bits.{HasBits}
use Rattle.pid_prefix.specs.declared.range.Range.{Range}
use Rattle.pid_prefix.specs.Longest.{Row, AreDistinct, IsLongest, longest_prefix}
use Rattle.pid_prefix.specs.PidRanges.{PidRange, pid_at, row_pid, with_pid}
use Rattle.pid_prefix.specs.Ranges.{AreRising, below, row_at}
use Rattle.pid_prefix.specs.Table.{AreNarrowed, IsLongestAt, pid_in}
use Rattle.pid_prefix.proofs.LongestLemmas.{longest_prefix_answers, one_longest}
use Rattle.pid_prefix.proofs.RangesLemmas.{length-below, pid_at-with_pids, rising_below, row_at-below, with_pids_rise}

-- ---- the ranges of one family

-- ranges that are kept don't fall
kept_rise : (limit : ℕ) (rows : List Row) (all : List Range) (kept : List PidRange) → AreRising all
    → kept ≡ map (with_pid rows) (below limit all) → IsNonDecreasingBy (λ range. range.0) kept
kept_rise limit rows all kept rising is =
    subst (IsNonDecreasingBy (λ range. range.0)) (sym is)
    (with_pids_rise rows (below limit all) (rising_below limit all rising))

-- they are no more than all
kept_count : (limit : ℕ) (rows : List Row) (all : List Range) (kept : List PidRange)
    → kept ≡ map (with_pid rows) (below limit all) → length kept ≤ length all
kept_count limit rows all kept is =
    omega (arith, ap length is, length-map (below limit all) (with_pid rows), length-below limit all)

-- they give a number below the limit the PID of the row that all give it
kept_pid : (limit : ℕ) (rows : List Row) (all : List Range) (kept : List PidRange) (number : ℕ) → number < limit
    → kept ≡ map (with_pid rows) (below limit all) → pid_at kept number ≡ row_pid rows (row_at all number)
kept_pid limit rows all kept number low is =
    ap (λ ranges. pid_at ranges number) is
    ∙ (pid_at-with_pids rows (below limit all) number ∙ ap (row_pid rows) (row_at-below limit number all low))

-- ---- the ranges of both

-- the ranges that a table keeps don't fall
pub narrowed_rise : (rows : List Row) (v4 v6 : List PidRange) → AreNarrowed rows v4 v6
    → IsNonDecreasingBy (λ range. range.0) v4 × IsNonDecreasingBy (λ range. range.0) v6
narrowed_rise rows v4 v6 table = (
  kept_rise (2 ^ 32) rows table.0 v4 table.2.v4.rising table.3,
  kept_rise (2 ^ 128) rows table.1 v6 table.2.v6.rising table.4,
)

-- and are two for each row at most
pub narrowed_count : (rows : List Row) (v4 v6 : List PidRange) → AreNarrowed rows v4 v6
    → (length v4 ≤ 2 * length rows) × (length v6 ≤ 2 * length rows)
narrowed_count rows v4 v6 table = (
  omega (arith, kept_count (2 ^ 32) rows table.0 v4 table.3, table.2.v4.count),
  omega (arith, kept_count (2 ^ 128) rows table.1 v6 table.4, table.2.v6.count),
)

-- the PID of the row at the place of the longest prefix
longest_pid : (rows : List Row) (a : Addr) (place : Option ℕ) → AreDistinct rows → IsLongestAt rows a place
    → row_pid rows place ≡ longest_prefix rows a
longest_pid rows a None distinct never =
    one_longest rows a None (longest_prefix rows a) distinct never (longest_prefix_answers rows a)
longest_pid rows a (Some place) distinct at =
    let found : IsLongest rows a (Some at.0.1) = (at.0, (place, at.1.0, sym at.1.1), refl, at.2, at.3) in
    ap (option_map (λ (row : Row). row.1)) (slice_get-get_or rows place at.0 at.1.0)
    ∙ (ap (λ (row : Row). Some row.1) (sym at.1.1)
    ∙ one_longest rows a (Some at.0.1) (longest_prefix rows a) distinct found (longest_prefix_answers rows a))

-- what the ranges of a table give an address
pub pid_found : (rows : List Row) (v4 v6 : List PidRange) (a : Addr) → AreNarrowed rows v4 v6 → HasBits a
    → pid_in v4 v6 a ≡ longest_prefix rows a
pid_found rows v4 v6 (addr.V4 number) table fits =
    kept_pid (2 ^ 32) rows table.0 v4 number fits table.3
    ∙ longest_pid rows (addr.V4 number) (row_at table.0 number) table.2.distinct
    (table.2.v4.longest number (omega (arith, fits)))
pid_found rows v4 v6 (addr.V6 number) table fits =
    kept_pid (2 ^ 128) rows table.1 v6 number fits table.4
    ∙ longest_pid rows (addr.V6 number) (row_at table.1 number) table.2.distinct (table.2.v6.longest number fits)
