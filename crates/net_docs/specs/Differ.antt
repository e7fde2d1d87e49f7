-- Rows that differ, of what a resource is made of, by some keys alone.
use Rattle.std.specs.Prelude.{◌≡◌, List, true, false}
use Rattle.std.specs.BTreeMap.{is_at}
use Rattle.std.specs.List.{list_any}
use Rattle.alto_rows.specs.declared.key.Key.{Key}
use Rattle.alto_rows.specs.declared.key.Key.TheVariants as key
use Rattle.alto_rows.specs.declared.resource.Resource.{Resource}
use Rattle.alto_rows.specs.Good.{AreGood}
use Rattle.alto_rows.specs.Order.{key_cmp}
use Rattle.alto_rows.specs.Rows.{Rows, value_of}
use Rattle.alto_rows.specs.Touches.{touches}
use Rattle.alto_rows.specs.Versions.{is_declared}

-- good rows that declare a resource, and others, have one epoch, and of the keys that touch the resource only these may
-- differ
pub record DifferBy (keys : List Key) (rows others : Rows) (of : Resource) : Type 0 where
  pub good : AreGood rows
  pub good_behind : AreGood others
  pub epoch : value_of rows key.Epoch ≡ value_of others key.Epoch
  pub same : (at : Key) → touches of at ≡ true → list_any (is_at (key_cmp at)) keys ≡ false
      → value_of rows at ≡ value_of others at
  pub before : is_declared rows of ≡ true
  pub behind : is_declared others of ≡ true
