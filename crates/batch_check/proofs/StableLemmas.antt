-- A batch of which no rule is known to be broken keeps them: each can be decided.
use Rattle.std.proofs.Common.{◌≡◌, refl, ap, sym, ◌∙◌, arith, suc}
use Rattle.std.proofs.lemmas.Bool.{both_ways, leb-false, leb-true}
use Rattle.std.specs.Prelude.{ℕ, ◌+◌, ◌≤◌, ◌<◌, Bool, true, false, nat_le, Decides, List, length, All, Option, Some}
use Rattle.std.specs.Prelude.{None, IfSome, slice_index_or}
use Rattle.alto_rows.specs.declared.span.Span.{Span}
use Rattle.alto_rows.specs.declared.write.Write.{Write}
use Rattle.alto_rows.specs.Good.{AreGood, needs}
use Rattle.alto_rows.specs.Order.{same_name}
use Rattle.alto_rows.specs.Rows.{Rows, after, has_row}
use Rattle.alto_rows.specs.Span.{count_in}
use Rattle.alto_rows.proofs.TouchesLemmas.{one_name, same_name_itself}
use Rattle.alto_edits.specs.declared.rule.Past.{Past}
use Rattle.alto_edits.specs.Laws.{FitsBatch}
use Rattle.alto_edits.specs.Limits.{AreWithin, most_in}
use Rattle.alto_edits.specs.Versions.{sequence_writes}
use Rattle.batch_check.specs.declared.rule.BookRule.TheVariants as rule
use Rattle.batch_check.specs.Laws.{UnbrokenRulesAreKept}
use Rattle.batch_check.specs.Named.{AreDeclared}
use Rattle.batch_check.specs.Owners.{HaveOnePid}
use Rattle.batch_check.specs.Rules.{KeepsGood, KeepsNumbers, KeepsVersions, edits_in}
use Rattle.batch_check.specs.Touched.{ends_in}
use Rattle.batch_check.proofs.BatchLemmas.{good_after}
use Rattle.batch_check.proofs.EndLemmas.{ends_tell}

-- what isn't refuted holds, where a test decides it
decided : (b : Bool) (P : Type 0) → Decides b P → ¬ ¬ P → P
decided true P decides some = decides.0 refl
decided false P decides some = absurd (some (λ p. both_ways false refl (decides.1 p)))

-- as that a test passes
passes : (b : Bool) → ¬ ¬ (b ≡ true) → b ≡ true
passes b some = decided b (b ≡ true) (λ e. e, λ e. e) some

-- and that a number is no more than another
no_more : (a b : ℕ) → ¬ ¬ (a ≤ b) → a ≤ b
no_more a b some = by (nat_le a b) refl
  where
    by : (c : Bool) → nat_le a b ≡ c → a ≤ b
    by true e = leb-true a b e
    by false e =
        let more : b < a = leb-false a b e in
        absurd (some (λ less. absurd (omega (arith, less, more))))

-- that what rows name is declared
declared : (rows : Rows) → ¬ ¬ AreDeclared rows → AreDeclared rows
declared rows some at v is k d within =
    passes (has_row rows (slice_index_or (needs at v) k d)) (λ none. some (λ all. none (all at v is k d within)))

-- that a prefix is in one PID of a network at most
one_pid : (rows : Rows) → ¬ ¬ HaveOnePid rows → HaveOnePid rows
one_pid rows some net first second prefix f s =
    one_name first second
    (passes (same_name first second)
    (λ none. some (λ one. none (ap (λ (pid : List ℕ). same_name first pid) (sym (one net first second prefix f s))
    ∙ same_name_itself first))))

-- that rows are within the numbers
within : (rows : Rows) → ¬ ¬ AreWithin rows → AreWithin rows
within rows some = record {
  spans = λ of. by of (most_in of) refl;
  all = no_more (length rows) 400000 (λ none. some (λ all. none all.all));
}
  where
    told : (of : Span) (o : Option ℕ) → most_in of ≡ o → AreWithin rows → IfSome o (λ most. count_in rows of ≤ most)
    told of o e all = rw (← e) (all.spans of)

    by : (of : Span) (o : Option ℕ) → most_in of ≡ o → IfSome o (λ most. count_in rows of ≤ most)
    by of None e = tt
    by of (Some most) e = no_more (count_in rows of) most (λ none. some (λ all. none (told of (Some most) e all)))

-- that a batch keeps the numbers
numbers : (rows : Rows) (writes : List Write) (past : Past) → ¬ ¬ KeepsNumbers rows writes past
    → KeepsNumbers rows writes past
numbers rows writes past some = record {
  within = within (after rows writes) (λ none. some (λ keeps. none keeps.within));
  few = no_more (length writes) 16384 (λ none. some (λ keeps. none keeps.few));
  batches = no_more (suc past.batches) 4096 (λ none. some (λ keeps. none keeps.batches));
  written = no_more (past.writes + length writes) 524288 (λ none. some (λ keeps. none keeps.written));
}

-- that a batch keeps its versions
versions : (rows : Rows) (writes : List Write) → ¬ ¬ KeepsVersions rows writes → KeepsVersions rows writes
versions rows writes some =
    decided (ends_in writes (sequence_writes rows (edits_in writes))) (KeepsVersions rows writes)
    (ends_tell rows writes (sequence_writes rows (edits_in writes)) refl) some

-- that good rows are good after it
good : (rows : Rows) (writes : List Write) → AreGood rows → All FitsBatch writes → KeepsVersions rows writes
    → ¬ ¬ KeepsGood rows writes → KeepsGood rows writes
good rows writes were fit keeps some =
    good_after rows writes were fit keeps (declared (after rows writes) (λ none. some (λ are. none are.declared)))
    (one_pid (after rows writes) (λ none. some (λ are. none are.one_pid)))

-- so a batch that breaks no rule keeps them
pub unbroken_rules_are_kept : UnbrokenRulesAreKept
unbroken_rules_are_kept rows writes past were fit unbroken =
    let whole : KeepsVersions rows writes = versions rows writes (unbroken rule.B3) in
    let are : KeepsGood rows writes = good rows writes were fit whole (λ none. unbroken rule.B4 (whole, none)) in
    let keeps : KeepsNumbers rows writes past =
    numbers rows writes past (λ none. unbroken rule.B5 (whole, are, none)) in
    record {
      whole = whole;
      good = are;
      within = keeps.within;
      few = keeps.few;
      batches = keeps.batches;
      written = keeps.written;
    }
