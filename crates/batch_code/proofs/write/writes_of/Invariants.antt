-- The writes so far.
use Rattle.std.proofs.Common.{All}
use Rattle.code_bytes.proofs.GrammarLemmas.{HasRead}
use Rattle.batch_code.specs.Grammar.{Writes}
use Rattle.batch_code.specs.Spelling.{write_bytes}
use Rattle.batch_code.specs.Storable.{IsStored}
use Rattle.batch_code.proofs.write.writes_of.Given as goal

abbrev pub invariant-loop : goal.invariant-loop
invariant-loop l = record {
  stored : All IsStored l.writes.items;
  read : HasRead write_bytes Writes l.count l.counter l.bytes l.writes.items l.rest;
}
