use Rattle.std.proofs.Common.{◌≡◌, map, drop, ◌++◌}
use Rattle.json_tree.specs.Tree.{data_of}
use Rattle.net_docs.specs.Prefixes.{texts_in_family}
use Rattle.net_docs.proofs.prefixes.texts_in_family.Given as goal

-- the texts that are there, and those of the prefixes that are left, are all
abbrev pub invariant-loop-prefix : goal.invariant-loop-prefix
invariant-loop-prefix l = map data_of l.texts.items ++ texts_in_family l.kind (drop l.prefix-index l.prefixes)
    ≡ texts_in_family l.kind l.prefixes
