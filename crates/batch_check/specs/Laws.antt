-- What holds of the rules: the statements of the laws.
use Rattle.std.specs.Prelude.{◌≡◌, List, All}
use Rattle.alto_rows.specs.declared.write.Write.{Write}
use Rattle.alto_rows.specs.Rows.{Rows}
use Rattle.alto_rows.specs.Good.{AreGood}
use Rattle.alto_edits.specs.declared.rule.Past.{Past}
use Rattle.alto_edits.specs.Laws.{FitsBatch}
use Rattle.batch_check.specs.declared.rule.BookRule.{BookRule}
use Rattle.batch_check.specs.Rules.{KeepsRules, Breaks}

-- a batch that keeps the rules breaks none
abbrev pub KeptRulesAreNotBroken : Type 0
KeptRulesAreNotBroken = (rows : Rows) (writes : List Write) (past : Past) (rule : BookRule)
    → KeepsRules rows writes past → ¬ Breaks rule rows writes past

-- a batch of writes that fit, on good rows, keeps the rules where it breaks none
abbrev pub UnbrokenRulesAreKept : Type 0
UnbrokenRulesAreKept = (rows : Rows) (writes : List Write) (past : Past) → AreGood rows → All FitsBatch writes
    → ((rule : BookRule) → ¬ Breaks rule rows writes past) → KeepsRules rows writes past

-- a batch has at most one first broken rule
abbrev pub OneRuleIsBrokenFirst : Type 0
OneRuleIsBrokenFirst = (rows : Rows) (writes : List Write) (past : Past) (one other : BookRule)
    → Breaks one rows writes past → Breaks other rows writes past → one ≡ other
