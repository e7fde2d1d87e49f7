-- What a draft keeps beside its writes, so that no question to it goes over them.
use Rattle.std.specs.Prelude.{◌≡◌, Bool, true, ◌||◌, List, fold, Option, Some, None, IfSome}
use Rattle.std.specs.BTreeSet.{contains}
use Rattle.std.specs.Option.{unwrap_or}
use Rattle.alto_rows.specs.declared.key.Key.{Key}
use Rattle.alto_rows.specs.declared.resource.Resource.{Resource}
use Rattle.alto_rows.specs.declared.write.Write.{Write}
use Rattle.alto_rows.specs.Order.{resource_cmp}
use Rattle.alto_rows.specs.Rows.{Rows, AreSorted, IsRunOf, has_row, after, rows_from}
use Rattle.alto_rows.specs.Touches.{part_of, is_resource}
use Rattle.alto_rules.specs.declared.kept.Kept.{Kept}
use Rattle.alto_rules.specs.Draft.{HaveOneOwner}
use Rattle.alto_rules.specs.Index.{IsIndexed}
use Rattle.alto_rules.specs.Owners.{AreOwners, HasChanged, owner_left}
use Rattle.alto_rules.specs.Sizes.{AreSizes, HasRecounted, counted_of, recounted}
use Rattle.alto_rules.specs.Written.{Gains, told}

-- the key of the last write
abbrev pub last_key : List Write → Option Key
last_key writes = fold (λ _ write. Some write.key) None writes

-- each key that has a row among some has one among the rows
abbrev pub HasAll : Rows → Rows → Type 0
HasAll rows some = (at : Key) → has_row some at ≡ true → has_row rows at ≡ true

-- the rows are sorted and their prefixes in one PID each, and what is kept tells of the rows after the writes; the run
-- is one of the rows from the last written key on, and the rows of PIDs are some of them all
pub record IsDraft (rows : Rows) (writes : List Write) (kept : Kept) : Type 0 where
  pub sorted : AreSorted rows
  pub one_owner : HaveOneOwner rows
  pub indexed : IsIndexed rows writes kept.index.written kept.index.parts
  pub sized : AreSizes rows (after rows writes) kept.sizes.total kept.sizes.counts
  pub owned : AreOwners rows (after rows writes) kept.owners.of kept.owners.known
  pub run : IfSome (last_key writes) (λ last. IsRunOf (rows_from rows last) kept.run.now)
  pub pids : HasAll rows kept.pids.now

-- whether a key has a row, where this is kept of the writes
abbrev pub had_row : Rows → Kept → Key → Bool
had_row rows kept at = unwrap_or (told kept.index.written at) (has_row rows at)

-- what is kept after a write of a key, which then has a row or not
pub record HasKept (rows : Rows) (at : Key) (has : Bool) (before later : Kept) : Type 0 where
  pub written : Gains before.index.written later.index.written at has
  pub parts : (of : Resource) → contains resource_cmp later.index.parts of
      ≡ (contains resource_cmp before.index.parts of || is_resource (part_of at) of)
  pub total : later.sizes.total ≡ recounted (had_row rows before at) has before.sizes.total
  pub counts : HasRecounted rows (counted_of at) (had_row rows before at) has before.sizes.counts later.sizes.counts
  pub changed : HasChanged (owner_left at (had_row rows before at) has) before.owners.of later.owners.of
  pub known : later.owners.known ≡ before.owners.known
  pub run : IsRunOf (rows_from rows at) later.run.now
  pub pids : later.pids.now ≡ before.pids.now
