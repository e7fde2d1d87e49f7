-- What the pieces so far hold.
use Rattle.std.proofs.Common.{◌≡◌, ◌++◌, map, take, vec_items}
use Rattle.base_code.specs.Faults.{IsBeginning, beginning_pieces}
use Rattle.base_code.proofs.decoding.read_behind.Given as goal

abbrev pub invariant-loop-index : goal.invariant-loop-index
invariant-loop-index l = record {
  begun : IsBeginning l.begun;
  pieces : beginning_pieces l.begun ≡ beginning_pieces l.fn.begun ++ map vec_items (take l.index l.rest);
}
