use Rattle.std.proofs.Common.{◌≡◌, ◌∙◌, Some, None}
use Rattle.std.specs.Prelude.{List, Option}
use Rattle.alto_rows.specs.Prefixes.{prefixes_in}
use Rattle.pid_prefix.specs.Longest.{Row}
use Rattle.alto_answers.proofs.SeenLemmas.{table_declared}
use Rattle.alto_answers.proofs.filters.table_of.Goals as goal

pub unreachable-requires : goal.unreachable-requires
unreachable-requires g c =
    let found = table_declared c.args.front.now.rows c.args.front.now.tables c.args.net.now c.requires.tables
    c.requires.declared in
    let none : None ≡ Some (prefixes_in c.args.front.now.rows c.args.net.now) =
    rw c.in-None.is at (c.table.ensures ∙ found) in
    cc

pub returns : goal.returns
returns g c =
    let found = table_declared c.args.front.now.rows c.args.front.now.tables c.args.net.now c.requires.tables
    c.requires.declared in
    let same : Some c.in-Some.table.now ≡ Some (prefixes_in c.args.front.now.rows c.args.net.now) =
    rw c.in-Some.is at (c.table.ensures ∙ found) in
    cc
