-- The receipts so far.
use Rattle.std.proofs.Common.{All}
use Rattle.code_bytes.proofs.GrammarLemmas.{HasRead}
use Rattle.base_code.specs.Bases.{IsKept}
use Rattle.base_code.specs.Parts.{Receipts}
use Rattle.base_code.specs.Pieces.{kept_bytes}
use Rattle.base_code.proofs.receipt.receipts_of.Given as goal

abbrev pub invariant-loop : goal.invariant-loop
invariant-loop l = record {
  kept : All IsKept l.receipts.items;
  read : HasRead kept_bytes Receipts l.count l.counter l.bytes l.receipts.items l.rest;
}
