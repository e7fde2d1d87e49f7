use Rattle.std.proofs.Common.{◌≡◌, drop}
use Rattle.net_docs.specs.NetworkMap.{is_empty}
use Rattle.net_docs.specs.Prefixes.{texts_in_family}
use Rattle.net_docs.proofs.writing.has_family.Given as goal

-- no prefix of the family was seen yet
abbrev pub invariant-loop-prefix : goal.invariant-loop-prefix
invariant-loop-prefix l = is_empty (texts_in_family l.kind (drop l.prefix-index l.prefixes))
    ≡ is_empty (texts_in_family l.kind l.prefixes)
