use Rattle.std.proofs.Common.{◌≡◌, take}
use Rattle.alto_desk.proofs.next_base.copies_of.Given as goal

abbrev pub invariant-loop-kept : goal.invariant-loop-kept
invariant-loop-kept l = l.copies.items ≡ take l.kept-index l.receipts
