use Rattle.std.proofs.Common.{◌≡◌, ◌++◌}
use Rattle.std.specs.List.{AllByRecursion}
use Rattle.std.specs.List.Sorted.{IsStrictlySortedBy}
use Rattle.std.specs.Map.{keys_of}
use Rattle.std.specs.declared.cmp.Ordering.TheVariants.{Less}
use Rattle.shared_list.specs.Changed.{changed}
use Rattle.shared_list.specs.Order.{InOrder, name_cmp}
use Rattle.shared_list.proofs.list.SharedList.changed.Given as goal

-- what is there and what is left are in order, and after the changes that are left are the whole; those rise, and
-- what is there is before each
abbrev pub invariant-loop-change : goal.invariant-loop-change
invariant-loop-change g l =
    let name = g.T.Named.name in
    let changes = l.change-iterator.rest.items in
    record {
      whole : changed name (l.made ++ l.rest) changes ≡ changed name l.fn.self l.fn.changes.items;
      order : InOrder name (l.made ++ l.rest);
      rise : IsStrictlySortedBy name_cmp (keys_of changes);
      past : AllByRecursion (λ item. AllByRecursion (λ change. name_cmp (name item) change.0 ≡ Less) changes) l.made;
    }
