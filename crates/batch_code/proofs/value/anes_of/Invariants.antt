-- The names so far.
use Rattle.std.proofs.Common.{All}
use Rattle.alto_names.specs.Name.{IsAneName}
use Rattle.code_bytes.specs.Pieces.{name}
use Rattle.code_bytes.proofs.GrammarLemmas.{HasRead}
use Rattle.batch_code.specs.Grammar.{AneNames}
use Rattle.batch_code.proofs.value.anes_of.Given as goal

abbrev pub invariant-loop : goal.invariant-loop
invariant-loop l = record {
  names : All IsAneName l.names.items;
  read : HasRead name AneNames l.count l.counter l.bytes l.names.items l.rest;
}
