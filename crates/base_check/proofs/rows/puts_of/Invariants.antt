-- The puts so far and those of the rows that are left are all.
use Rattle.std.proofs.Common.{◌≡◌, ◌++◌, map}
use Rattle.base_code.specs.Bases.{write_of}
use Rattle.base_check.proofs.rows.puts_of.Given as goal

abbrev pub invariant-loop-row : goal.invariant-loop-row
invariant-loop-row l = l.puts.items ++ map write_of l.row-iterator.rest.items ≡ map write_of l.fn.rows.items
