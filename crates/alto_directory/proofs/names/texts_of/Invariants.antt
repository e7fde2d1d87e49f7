use Rattle.std.proofs.Common.{◌≡◌, ◌++◌}
use Rattle.alto_directory.proofs.names.texts_of.Given as goal

-- the names so far, and those that are left, are all
abbrev pub invariant-loop-name : goal.invariant-loop-name
invariant-loop-name l = l.texts.items ++ l.name-iterator ≡ l.fn.names.keys
