-- A batch's writes, or the first rule that its edits break.
use Rattle.std.specs.Prelude.{ℕ, ◌+◌, ◌||◌, nat_le, nat_lt, List, [], ◌∷◌, ◌++◌, length, Option, Some, None, Result, Ok}
use Rattle.std.specs.Prelude.{Err, if◌then◌else◌}
use Rattle.alto_rows.specs.declared.write.Write.{Write}
use Rattle.alto_rows.specs.Rows.{Rows, after}
use Rattle.alto_edits.specs.declared.edit.Edit.{Edit}
use Rattle.alto_edits.specs.declared.rule.Rule.{Rule}
use Rattle.alto_edits.specs.declared.rule.Rule.TheVariants as rule
use Rattle.alto_edits.specs.declared.rule.Past.{Past}
use Rattle.alto_edits.specs.declared.rule.CompileFault.{CompileFault}
use Rattle.alto_edits.specs.declared.rule.CompileFault.TheVariants.{Broken}
use Rattle.alto_edits.specs.Rules.{Check, broken_rule, first_broken}
use Rattle.alto_edits.specs.Writes.{writes_of}
use Rattle.alto_edits.specs.Versions.{sequence_writes}

-- writes before those that follow, unless these were refused
abbrev pub before : List Write → Result (List Write) CompileFault → Result (List Write) CompileFault
before writes (Ok more) = Ok (writes ++ more)
before writes (Err fault) = Err fault

-- the writes that go on as told, or the rule that stops them at a row
abbrev pub unless_broken : ℕ → Option Rule → Result (List Write) CompileFault → Result (List Write) CompileFault
unless_broken row None writes = writes
unless_broken row (Some broken) writes = Err (Broken row broken)

-- the writes of edits, the first of which has this number: each edit is made in the rows after those before it
abbrev pub edits_writes : Rows → ℕ → List Edit → Result (List Write) CompileFault
edits_writes rows row [] = Ok []
edits_writes rows row (edit ∷ edits) =
    unless_broken row (broken_rule rows edit)
    (before (writes_of rows edit) (edits_writes (after rows (writes_of rows edit)) (row + 1) edits))

-- the checks of a whole batch of writes, those of versions among them: the rows after it, its writes, and what is kept
-- with it
abbrev pub batch_checks : Rows → Past → List Write → List Check
batch_checks rows past writes =
    (rule.G16, nat_lt 400000 (length (after rows writes)))
    ∷ (rule.G17, nat_lt 16384 (length writes))
    ∷ (rule.G18, nat_le 4096 past.batches || nat_lt 524288 (past.writes + length writes))
    ∷ []

-- the first rule that a whole batch breaks
abbrev pub broken_by_batch : Rows → Past → List Write → Option Rule
broken_by_batch rows past writes = first_broken (batch_checks rows past writes)

-- the same writes with their version rows, unless the batch breaks a rule as a whole
abbrev pub whole_batch : Rows → Past → Result (List Write) CompileFault → Result (List Write) CompileFault
whole_batch rows past (Ok writes) =
    unless_broken 0 (broken_by_batch rows past (writes ++ sequence_writes rows writes))
    (Ok (writes ++ sequence_writes rows writes))
whole_batch rows past (Err fault) = Err fault

-- the writes of a batch of edits on the rows, or the first rule that is broken
abbrev pub compiled : Rows → List Edit → Past → Result (List Write) CompileFault
compiled rows edits past = whole_batch rows past (edits_writes rows 1 edits)
