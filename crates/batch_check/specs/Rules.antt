-- The rules that a batch keeps on the rows before it, in their order, and the first that it breaks.
use Rattle.std.specs.Prelude.{◌≡◌, ◌+◌, ◌≤◌, ◌<◌, Bool, true, false, not, List, ◌++◌, length, filter, ⊤}
use Rattle.alto_rows.specs.declared.key.Key.{Key}
use Rattle.alto_rows.specs.declared.key.Key.TheVariants as key
use Rattle.alto_rows.specs.declared.write.Write.{Write}
use Rattle.alto_rows.specs.Good.{AreGood}
use Rattle.alto_rows.specs.Rows.{Rows, after}
use Rattle.alto_edits.specs.declared.rule.Past.{Past}
use Rattle.alto_edits.specs.Limits.{AreWithin}
use Rattle.alto_edits.specs.Versions.{sequence_writes}
use Rattle.batch_check.specs.declared.rule.BookRule.{BookRule}
use Rattle.batch_check.specs.declared.rule.BookRule.TheVariants as rule
use Rattle.batch_check.specs.declared.rule.CheckFault.{CheckFault}
use Rattle.batch_check.specs.declared.rule.CheckFault.TheVariants.{Bad, Memory}

-- the key of a version
abbrev pub is_version : Key → Bool
is_version (key.Seq of) = true
is_version _ = false

-- the writes that edits made, of those of a batch: all but the version rows
abbrev pub edits_in : List Write → List Write
edits_in writes = filter (λ write. not (is_version write.key)) writes

-- the version rows of a batch are exactly those of its other writes and stand behind them
abbrev pub KeepsVersions : Rows → List Write → Type 0
KeepsVersions rows writes = writes ≡ edits_in writes ++ sequence_writes rows (edits_in writes)

-- the rows after a batch are good
abbrev pub KeepsGood : Rows → List Write → Type 0
KeepsGood rows writes = AreGood (after rows writes)

-- the rows after a batch and its writes are within the numbers, and with it what is kept past the base
pub record KeepsNumbers (rows : Rows) (writes : List Write) (past : Past) : Type 0 where
  pub within : AreWithin (after rows writes)
  pub few : length writes ≤ 16384
  pub batches : past.batches < 4096
  pub written : past.writes + length writes ≤ 524288

-- a batch that keeps the rules, by what a book says of each of its batches
pub record KeepsRules (rows : Rows) (writes : List Write) (past : Past) : Type 0 where
  pub whole : KeepsVersions rows writes
  pub good : KeepsGood rows writes
  pub within : AreWithin (after rows writes)
  pub few : length writes ≤ 16384
  pub batches : past.batches < 4096
  pub written : past.writes + length writes ≤ 524288

-- a rule is the first of these that a batch breaks
abbrev pub Breaks : BookRule → Rows → List Write → Past → Type 0
Breaks rule.B3 rows writes past = ¬ KeepsVersions rows writes
Breaks rule.B4 rows writes past = KeepsVersions rows writes × ¬ KeepsGood rows writes
Breaks rule.B5 rows writes past = KeepsVersions rows writes × KeepsGood rows writes × ¬ KeepsNumbers rows writes past
Breaks _ rows writes past = ⊥

-- a fault that a rule explains is of the first rule that the batch breaks
abbrev pub Explains : CheckFault → Rows → List Write → Past → Type 0
Explains (Bad rule) rows writes past = Breaks rule rows writes past
Explains Memory rows writes past = ⊤
