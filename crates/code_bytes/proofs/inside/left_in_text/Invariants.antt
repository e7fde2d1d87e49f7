-- Where the reader stands, the bytes stop it as they stop a reader of the whole text.
use Rattle.std.proofs.Common.{ℕ, List, length}
use Rattle.code_bytes.specs.Inside.{GoesOn}
use Rattle.code_bytes.specs.Pieces.{Texts}
use Rattle.code_bytes.specs.Stuck.{IsOutside, IsStuck}
use Rattle.code_bytes.proofs.inside.left_in_text.Given as goal

abbrev pub invariant-loop-byte : goal.invariant-loop-byte
invariant-loop-byte l = record {
  outside : IsOutside (GoesOn l.at) l.rest;
  lifts : (left : ℕ) → IsStuck (GoesOn l.at) l.rest left → IsStuck (Texts l.count) l.bytes left;
  some : List ℕ;
  goes_on : GoesOn l.at some;
}

abbrev pub decreases-loop-byte : goal.decreases-loop-byte
decreases-loop-byte l = length l.rest
