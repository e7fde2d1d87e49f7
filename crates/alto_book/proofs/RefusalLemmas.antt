-- An import is refused for its own fault alone.
use Rattle.std.proofs.Common.{ℕ, ◌+◌, List, [], ◌∷◌, ◌++◌, Option, Some, None, Result, Ok, Err}
use Rattle.std.specs.Prelude.{Bool, true, false, IfErr, if◌then◌else◌}
use Rattle.alto_rows.specs.declared.write.Write.{Write}
use Rattle.alto_rows.specs.Order.{same_name}
use Rattle.alto_rows.specs.Rows.{Rows, after}
use Rattle.alto_edits.specs.declared.edit.Edit.{Edit}
use Rattle.alto_edits.specs.declared.rule.Rule.{Rule}
use Rattle.alto_edits.specs.declared.rule.Past.{Past}
use Rattle.alto_edits.specs.declared.rule.CompileFault.{CompileFault}
use Rattle.alto_edits.specs.Compiled.{before, unless_broken, edits_writes, broken_by_batch, whole_batch, compiled}
use Rattle.alto_edits.specs.Rules.{broken_rule}
use Rattle.alto_edits.specs.Writes.{writes_of}
use Rattle.alto_edits.specs.Versions.{sequence_writes}
use Rattle.alto_book.specs.declared.command.Receipt.{Receipt}
use Rattle.alto_book.specs.declared.fault.EditFault.TheVariants as fault
use Rattle.alto_book.specs.Acceptance.{known, past_of, answer_known, accept_new, accept_unless_known, accept}
use Rattle.alto_book.specs.Book.{Kept, all_kept, rows_of}
use Rattle.alto_book.specs.Faults.{edit_fault}
use Rattle.alto_book.specs.Laws.{IsOfImport, RefusalIsOfTheImport}

-- edits make writes, or are at fault themselves
abbrev AreAtFault : Result (List Write) CompileFault → Type 0
AreAtFault result = IfErr result (λ why. IsOfImport (edit_fault why))

stopped : (row : ℕ) (writes : List Write) (broken : Option Rule) (result : Result (List Write) CompileFault)
    → AreAtFault result
    → AreAtFault (unless_broken row broken (before writes result))
stopped row writes (Some rule) result h = tt
stopped row writes None (Ok more) h = tt
stopped row writes None (Err why) h = h

edits_stopped : (rows : Rows) (row : ℕ) (edits : List Edit) → AreAtFault (edits_writes rows row edits)
edits_stopped rows row [] = tt
edits_stopped rows row (edit ∷ edits) =
    stopped row (writes_of rows edit) (broken_rule rows edit)
    (edits_writes (after rows (writes_of rows edit)) (row + 1) edits)
    (edits_stopped (after rows (writes_of rows edit)) (row + 1) edits)

-- so does a whole batch of them
compiled_stopped : (rows : Rows) (edits : List Edit) (past : Past) → AreAtFault (compiled rows edits past)
compiled_stopped rows edits past = by (edits_writes rows 1 edits) (edits_stopped rows 1 edits)
  where
    by : (result : Result (List Write) CompileFault) → AreAtFault result → AreAtFault (whole_batch rows past result)
    by (Ok writes) h =
        stopped 0 [] (broken_by_batch rows past (writes ++ sequence_writes rows writes))
        (Ok (writes ++ sequence_writes rows writes)) tt
    by (Err why) h = h

-- an import is refused for its own fault alone
pub refused_for_itself : RefusalIsOfTheImport
unfolding accept
refused_for_itself book import moment = by (known (all_kept book) import.id)
  where
    told : (n : ℕ) (receipt : Receipt) (same : Bool)
        → IfErr (if same then Ok receipt else Err (fault.OtherBody n)) IsOfImport
    told n receipt true = tt
    told n receipt false = tt

    made : (result : Result (List Write) CompileFault) → AreAtFault result
        → IfErr (accept_new book import moment result).answer IsOfImport
    made (Ok writes) h = tt
    made (Err why) h = h

    answered : (numbered : ℕ × Kept) → IfErr (answer_known numbered import) IsOfImport
    answered (n, kept) = told n (record { n = n; moment = kept.moment }) (same_name kept.digest import.digest)

    by : (found : Option (ℕ × Kept)) → IfErr (accept_unless_known found book import moment).answer IsOfImport
    by (Some numbered) = answered numbered
    by None = made (compiled (rows_of book) import.edits (past_of book))
        (compiled_stopped (rows_of book) import.edits (past_of book))
