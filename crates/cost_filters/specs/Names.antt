-- Names in byte order, each once.
use Rattle.std.specs.Prelude.{List, [], Option, Some, None, IfSome}
use Rattle.std.specs.Cmp.Lexicographic.{slice_cmp}
use Rattle.std.specs.List.Sorted.{IsStrictlySortedBy}
use Rattle.std.specs.Ordering.{nat_cmp}
use Rattle.alto_rows.specs.Rows.{Rows}
use Rattle.alto_maps.specs.Places.{set_of}
use Rattle.alto_maps.specs.Shape.{Name}
use Rattle.net_docs.specs.declared.ask.Pick.{Pick}
use Rattle.net_docs.specs.declared.ask.Pick.TheVariants as pick
use Rattle.net_docs.specs.NetworkMap.{pids_of}

-- the names that are given, in byte order, each once
abbrev pub names_given : Pick → Option (List Name)
names_given pick.All = None
names_given (pick.Only names) = Some (set_of names)

-- the PIDs of a network, where no names are given
abbrev pub pids_unless_given : Rows → Name → Pick → List Name
pids_unless_given rows net pick.All = pids_of rows net
pids_unless_given rows net (pick.Only names) = []

-- the names that are given, in byte order, each once, else these
abbrev pub srcs_among : List Name → Pick → List Name
srcs_among pids pick.All = pids
srcs_among pids (pick.Only names) = set_of names

-- names that are given rise
abbrev pub AreSetIfAny : Option (List Name) → Type 0
AreSetIfAny given = IfSome given (IsStrictlySortedBy (slice_cmp nat_cmp))
