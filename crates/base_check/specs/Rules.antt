-- The rule that a book's base keeps.
use Rattle.std.specs.Prelude.{◌≡◌, ℕ, ◌≤◌, List, length, map, Some, slice_get, ⊤}
use Rattle.std.specs.List.{IsDistinct}
use Rattle.alto_rows.specs.declared.resource.Resource.{Resource}
use Rattle.alto_rows.specs.Good.{AreGood}
use Rattle.alto_rows.specs.Order.{same_name}
use Rattle.alto_rows.specs.Rows.{Rows}
use Rattle.alto_rows.specs.Versions.{version_of}
use Rattle.alto_edits.specs.Limits.{AreWithin}
use Rattle.base_code.specs.Bases.{KeptData}
use Rattle.batch_check.specs.declared.rule.BookRule.TheVariants as rule
use Rattle.batch_check.specs.declared.rule.CheckFault.{CheckFault}
use Rattle.batch_check.specs.declared.rule.CheckFault.TheVariants.{Bad, Memory}

-- the ids of receipts, in order
abbrev pub ids_of : List KeptData → List (List ℕ)
ids_of receipts = map (λ kept. kept.id) receipts

-- no moment of a receipt is below one before it
abbrev pub NeverFall : List KeptData → Type 0
NeverFall receipts = (m n : ℕ) (earlier later : KeptData) → m ≤ n → slice_get receipts m ≡ Some earlier
    → slice_get receipts n ≡ Some later → earlier.moment ≤ later.moment

-- receipts that a base may have: no two have one id, and their moments never fall
pub record KeepReceipts (receipts : List KeptData) : Type 0 where
  pub ids : IsDistinct same_name (ids_of receipts)
  pub moments : NeverFall receipts

-- rows to which so many batches may have led: they are good and within the numbers, and no version is above that number
pub record KeepRows (rows : Rows) (number : ℕ) : Type 0 where
  pub good : AreGood rows
  pub within : AreWithin rows
  pub versions : (of : Resource) → version_of rows of ≤ number

-- a base of these rows keeps the rule, its receipts being those of the batches that led to it
pub record KeepsRule (rows : Rows) (receipts : List KeptData) : Type 0 where
  pub kept : KeepReceipts receipts
  pub base : KeepRows rows (length receipts)

-- why a base isn't taken over: it breaks the rule, or the memory couldn't be had
abbrev pub Explains : CheckFault → Rows → List KeptData → Type 0
Explains (Bad rule.B6) rows receipts = ¬ KeepsRule rows receipts
Explains (Bad _) rows receipts = ⊥
Explains Memory rows receipts = ⊤
