-- What decides that rows are those of a base, and that a base keeps the rule.
use Rattle.std.proofs.Common.{◌≡◌, refl}
use Rattle.std.proofs.lemmas.Bool.{both_ways}
use Rattle.std.specs.Prelude.{ℕ, Bool, true, false, Decides, List, length}
use Rattle.std.specs.List.{list_any}
use Rattle.alto_rows.specs.Good.{AreGood}
use Rattle.alto_rows.specs.Rows.{Rows}
use Rattle.alto_edits.specs.Limits.{AreWithin}
use Rattle.batch_check.specs.Named.{AreDeclared}
use Rattle.batch_check.specs.Owners.{HaveOnePid}
use Rattle.base_code.specs.Bases.{KeptData}
use Rattle.base_check.specs.Fit.{AreFit}
use Rattle.base_check.specs.Numbered.{is_misnumbered}
use Rattle.base_check.specs.Rules.{KeepReceipts, KeepRows, KeepsRule}
use Rattle.base_check.proofs.NumberedLemmas.{none_from, numbered_from}

-- what a thing needs, and isn't so, refutes it
pub refuted : {Need Thing : Type 0} → (needed : Bool) → (Thing → Need) → Decides needed Need → needed ≡ false
    → Decides false Thing
refuted needed needs decides h =
    (λ e. absurd (both_ways false refl e), λ thing. absurd (both_ways needed h (decides.1 (needs thing))))

-- rows that fit are good where what they name is declared, each prefix has one PID, and none is misnumbered
pub good_from : (rows : Rows) (number : ℕ) → AreFit rows → AreDeclared rows → HaveOnePid rows
    → list_any (is_misnumbered rows number) rows ≡ false → AreGood rows
good_from rows number fit declared one_pid none = record {
  sorted = fit.sorted;
  fit = fit.fit;
  epoch = fit.epoch;
  window = fit.window;
  declared = declared;
  one_pid = one_pid;
  versions = (numbered_from rows number none).there;
}

-- a misnumbered row refutes a base
pub misnumbered : (rows : Rows) (number : ℕ) → list_any (is_misnumbered rows number) rows ≡ true
    → Decides false (KeepRows rows number)
misnumbered rows number h = (
  λ e. absurd (both_ways false refl e),
  λ keep. absurd (both_ways (list_any (is_misnumbered rows number) rows)
      (none_from rows number keep.good.sorted (record { there = keep.good.versions; low = keep.versions })) h),
)

-- good rows none of which is misnumbered are a base's where they are within the numbers
pub numbers_decide : (rows : Rows) (number : ℕ) (within : Bool) → AreGood rows
    → list_any (is_misnumbered rows number) rows ≡ false → Decides within (AreWithin rows)
    → Decides within (KeepRows rows number)
numbers_decide rows number within good none decides = (
  λ e. record { good = good; within = decides.0 e; versions = (numbered_from rows number none).low },
  λ keep. decides.1 keep.within,
)

-- receipts that a base can't have, or rows, break the rule
pub receipts_break : (rows : Rows) (receipts : List KeptData) (kept : Bool) → Decides kept (KeepReceipts receipts)
    → kept ≡ false → ¬ KeepsRule rows receipts
receipts_break rows receipts kept decides h keeps = absurd (both_ways kept h (decides.1 keeps.kept))

pub rows_break : (rows : Rows) (receipts : List KeptData) (base : Bool) → Decides base (KeepRows rows (length receipts))
    → base ≡ false → ¬ KeepsRule rows receipts
rows_break rows receipts base decides h keeps = absurd (both_ways base h (decides.1 keeps.base))
