-- Which keys have rows after writes, and which resources the writes are part of.
use Rattle.std.specs.Prelude.{◌≡◌, Bool, List}
use Rattle.std.specs.BTreeSet.{BTreeSet, contains}
use Rattle.std.specs.List.{list_any}
use Rattle.std.specs.Option.{unwrap_or}
use Rattle.alto_rows.specs.declared.key.Key.{Key}
use Rattle.alto_rows.specs.declared.resource.Resource.{Resource}
use Rattle.alto_rows.specs.declared.write.Write.{Write}
use Rattle.alto_rows.specs.Order.{resource_cmp}
use Rattle.alto_rows.specs.Rows.{Rows, has_row, after}
use Rattle.alto_rows.specs.Touches.{part_of, is_resource}
use Rattle.alto_rules.specs.declared.written.Written.{Written}
use Rattle.alto_rules.specs.Written.{told}

-- some write is part of a resource
abbrev pub is_part : List Write → Resource → Bool
is_part writes of = list_any (λ write. is_resource (part_of write.key) of) writes

-- it is told which written keys have a row after the writes, and the set has the resources that these are part of
pub record IsIndexed (rows : Rows) (writes : List Write) (written : Written) (parts : BTreeSet Resource) : Type 0 where
  pub rows_at : (at : Key) → has_row (after rows writes) at ≡ unwrap_or (told written at) (has_row rows at)
  pub resources : (of : Resource) → contains resource_cmp parts of ≡ is_part writes of
