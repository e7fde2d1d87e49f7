use Rattle.std.proofs.Common.{◌≡◌, []}
use Rattle.alto_directory.proofs.SetLemmas.{with_names}
use Rattle.alto_directory.proofs.lists.set_of.Given as goal

-- the names so far, with those that are left, are all
abbrev pub invariant-loop-name : goal.invariant-loop-name
invariant-loop-name l = with_names l.set.keys l.name-iterator.rest.items ≡ with_names [] l.fn.names.items
