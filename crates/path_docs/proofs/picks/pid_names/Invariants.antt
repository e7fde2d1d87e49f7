use Rattle.std.proofs.Common.{◌≡◌, ◌++◌, drop, filter, map}
use Rattle.net_docs.specs.Ask.{is_pid_name}
use Rattle.path_docs.proofs.picks.pid_names.Given as goal

-- the names that are there, and those among the texts that are left, are all
abbrev pub invariant-loop-text : goal.invariant-loop-text
invariant-loop-text l =
    l.names.items ++ filter is_pid_name (map (λ text. text.now) (drop l.text-index l.texts))
    ≡ filter is_pid_name (map (λ text. text.now) l.texts)
