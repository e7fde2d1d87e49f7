-- The laws of the rules, and which fault comes when.
use Rattle.std.proofs.Common.{refl}
use Rattle.std.specs.Prelude.{List}
use Rattle.alto_rows.specs.declared.write.Write.{Write}
use Rattle.alto_rows.specs.Rows.{Rows}
use Rattle.alto_edits.specs.declared.rule.Past.{Past}
use Rattle.batch_check.specs.declared.rule.BookRule.TheVariants as rule
use Rattle.batch_check.specs.Laws.{KeptRulesAreNotBroken, OneRuleIsBrokenFirst}
use Rattle.batch_check.specs.Rules.{KeepsRules, KeepsNumbers}

-- a batch that keeps the rules keeps the numbers
pub numbers_kept : (rows : Rows) (writes : List Write) (past : Past) → KeepsRules rows writes past
    → KeepsNumbers rows writes past
numbers_kept rows writes past keeps = record {
  within = keeps.within;
  few = keeps.few;
  batches = keeps.batches;
  written = keeps.written;
}

-- a batch that keeps the rules breaks none
pub kept_rules_are_not_broken : KeptRulesAreNotBroken
kept_rules_are_not_broken rows writes past rule.B3 keeps broken = broken keeps.whole
kept_rules_are_not_broken rows writes past rule.B4 keeps broken = broken.1 keeps.good
kept_rules_are_not_broken rows writes past rule.B5 keeps broken = broken.2 (numbers_kept rows writes past keeps)
kept_rules_are_not_broken rows writes past _ keeps broken = broken

-- a batch has at most one first broken rule
pub one_rule_is_broken_first : OneRuleIsBrokenFirst
one_rule_is_broken_first rows writes past rule.B3 rule.B3 a b = refl
one_rule_is_broken_first rows writes past rule.B3 rule.B4 a b = absurd (a b.0)
one_rule_is_broken_first rows writes past rule.B3 rule.B5 a b = absurd (a b.0)
one_rule_is_broken_first rows writes past rule.B4 rule.B3 a b = absurd (b a.0)
one_rule_is_broken_first rows writes past rule.B4 rule.B4 a b = refl
one_rule_is_broken_first rows writes past rule.B4 rule.B5 a b = absurd (a.1 b.1)
one_rule_is_broken_first rows writes past rule.B5 rule.B3 a b = absurd (b a.0)
one_rule_is_broken_first rows writes past rule.B5 rule.B4 a b = absurd (b.1 a.1)
one_rule_is_broken_first rows writes past rule.B5 rule.B5 a b = refl
one_rule_is_broken_first rows writes past rule.B1 other a b = absurd a
one_rule_is_broken_first rows writes past rule.B2 other a b = absurd a
one_rule_is_broken_first rows writes past rule.B6 other a b = absurd a
one_rule_is_broken_first rows writes past one rule.B1 a b = absurd b
one_rule_is_broken_first rows writes past one rule.B2 a b = absurd b
one_rule_is_broken_first rows writes past one rule.B6 a b = absurd b
