-- The set has the ids of the receipts so far, which are distinct.
use Rattle.std.proofs.Common.{take}
use Rattle.std.specs.List.{IsDistinct}
use Rattle.alto_rows.specs.Order.{same_name}
use Rattle.base_check.specs.Receipts.{HasIds}
use Rattle.base_check.specs.Rules.{ids_of}
use Rattle.base_check.proofs.receipts.are_distinct.Given as goal

abbrev pub invariant-loop-kept : goal.invariant-loop-kept
invariant-loop-kept l = record {
  has : HasIds (ids_of (take l.kept-index l.receipts)) l.ids;
  distinct : IsDistinct same_name (ids_of (take l.kept-index l.receipts));
}
