-- Whether the moments of the receipts that are left fall tells it of all.
use Rattle.std.proofs.Common.{◌≡◌, drop}
use Rattle.base_check.specs.Receipts.{never_fall}
use Rattle.base_check.proofs.receipts.never_fall.Given as goal

abbrev pub invariant-loop-kept : goal.invariant-loop-kept
invariant-loop-kept l = never_fall l.last (drop l.kept-index l.receipts) ≡ never_fall 0 l.receipts
