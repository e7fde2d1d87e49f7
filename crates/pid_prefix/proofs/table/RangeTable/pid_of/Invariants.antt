use Rattle.pid_prefix.proofs.table.RangeTable.pid_of.Given as goal

-- the blank names the ledger
abbrev pub ghosts-find_from : goal.ghosts-find_from
ghosts-find_from a = record { name = a.blank.name; parts = a.blank.parts }
