-- The last row is looked at.
use Rattle.std.proofs.Common.{◌≡◌, false, rules}
use Rattle.row_chunks.specs.Shared.{keeps_in}
use Rattle.row_chunks.proofs.SharedLemmas.{none_in}
use Rattle.row_chunks.proofs.chunk.is_used_up.Goals as goal

pub returns-in-Behind-Some : goal.returns-in-Behind-Some
returns-in-Behind-Some c = λ holds.
    let passed : keeps_in c.args.cut.now c.args.shared c.in-Behind-Some.row.now.0 ≡ false = search rules in
    none_in c.args.cut.now c.args.shared c.args.rows.now c.in-Behind-Some.row.now c.requires.sorted c.requires.shared
    (search rules) passed
