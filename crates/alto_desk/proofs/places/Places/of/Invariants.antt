-- What is kept so far has its places.
use Rattle.std.proofs.Common.{◌+◌, length, map}
use Rattle.std.specs.Arc.{arc_value}
use Rattle.alto_desk.specs.Ledger.{kept_in}
use Rattle.alto_desk.proofs.PlaceLemmas.{ArePlacedTo}
use Rattle.alto_desk.proofs.places.Places.of.Given as goal

abbrev pub invariant-loop-before : goal.invariant-loop-before
invariant-loop-before l = ArePlacedTo l.before (kept_in l.receipts (map arc_value l.batches)) l.places

abbrev pub invariant-loop-before-2 : goal.invariant-loop-before-2
invariant-loop-before-2 l =
    ArePlacedTo (length l.receipts + l.before) (kept_in l.receipts (map arc_value l.batches)) l.places
