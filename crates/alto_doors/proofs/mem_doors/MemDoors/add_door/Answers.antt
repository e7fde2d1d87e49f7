use Rattle.std.proofs.Common.{rules}
use Rattle.alto_doors.proofs.mem_doors.MemDoors.add_door.Goals as goal

pub returns-clause-added : goal.returns-clause-added
returns-clause-added g c = record {
  waiting = c.new-3.result;
  whole = search rules;
  at_side = search rules;
  at_address = search rules;
  gives = search rules;
  fails = search rules;
  first = search rules;
}
