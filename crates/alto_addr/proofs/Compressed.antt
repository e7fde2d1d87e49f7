-- What is written of groups has their longest run of zeros as `::`.
use Rattle.std.proofs.Common.{ℕ, List, refl, arith, lt-ltb, le-ltb}
use Rattle.std.proofs.NetLemmas.Texts.{IsZeroRun-longest_zero_run, longest_zero_run_first}
use Rattle.std.specs.Net.Text.{longest_zero_run, hex_groups_text}
use Rattle.alto_addr.specs.Text.{IsChosenRun, IsCompressed}

chosen : (groups : List ℕ) → IsChosenRun groups (longest_zero_run groups).0 (longest_zero_run groups).1
chosen groups = record {
  zeros = IsZeroRun-longest_zero_run groups;
  longest = λ other size run. (longest_zero_run_first groups other size run).0;
  first = λ other run. (longest_zero_run_first groups other (longest_zero_run groups).1 run).1 refl;
}

pub compressed : (groups : List ℕ) → IsCompressed (hex_groups_text groups) groups
unfolding hex_groups_text
compressed groups = record {
  start = (longest_zero_run groups).0;
  len = (longest_zero_run groups).1;
  run = chosen groups;
  elided = λ some. rw (lt-ltb 1 (longest_zero_run groups).1 some) refl;
  whole = λ few. rw (le-ltb 1 (longest_zero_run groups).1 (omega arith)) refl;
}
