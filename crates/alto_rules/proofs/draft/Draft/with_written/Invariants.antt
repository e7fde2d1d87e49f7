-- What is there, with what is picked from the writes that are left, makes the whole.
use Rattle.std.proofs.Common.{◌≡◌, drop}
use Rattle.std.specs.Prelude.{◌&&◌, ◌||◌}
use Rattle.std.specs.BTreeSet.{contains}
use Rattle.alto_rows.specs.declared.key.Key.{Key}
use Rattle.alto_rows.specs.Order.{key_cmp}
use Rattle.alto_rules.specs.Draft.{drafted_rows}
use Rattle.alto_rules.specs.Withdrawal.{is_withdrawn, is_written_key}
use Rattle.alto_rules.proofs.draft.Draft.with_written.Given as goal

abbrev pub invariant-loop-write : goal.invariant-loop-write
invariant-loop-write g l = (at : Key)
    → (contains key_cmp l.all at || (is_withdrawn (drafted_rows l.self) l.declared at
    && is_written_key (drop l.write-index l.writes) at))
    ≡ (contains key_cmp l.fn.keys at
    || (is_withdrawn (drafted_rows l.self) l.declared at && is_written_key l.writes at))
