-- What is there, with what is picked from the keys that are left, makes the whole.
use Rattle.std.proofs.Common.{◌≡◌, drop}
use Rattle.std.specs.Prelude.{◌&&◌, ◌||◌}
use Rattle.std.specs.BTreeSet.{contains}
use Rattle.alto_rows.specs.declared.key.Key.{Key}
use Rattle.alto_rows.specs.Order.{key_cmp}
use Rattle.alto_rules.specs.Draft.{drafted_rows}
use Rattle.alto_rules.specs.Withdrawal.{has_key, is_withdrawn}
use Rattle.alto_rules.proofs.draft.Draft.with_keys.Given as goal

abbrev pub invariant-loop-key : goal.invariant-loop-key
invariant-loop-key g l = (at : Key)
    → (contains key_cmp l.all at || (is_withdrawn (drafted_rows l.self) l.declared at
    && has_key (drop l.key-index l.these) at))
    ≡ (contains key_cmp l.fn.keys at || (is_withdrawn (drafted_rows l.self) l.declared at && has_key l.these at))
