-- What is kept gains the write.
use Rattle.std.proofs.Common.{◌≡◌, subst, sym}
use Rattle.std.specs.Prelude.{Bool, is_some, true}
use Rattle.alto_rules.specs.declared.kept.Kept.{Kept}
use Rattle.alto_rules.specs.Draft.{Drafted, GivesAlone, drafted_rows}
use Rattle.alto_rules.specs.Kept.{HasKept}
use Rattle.alto_rules.proofs.KeptLemmas.{draft_more}
use Rattle.alto_rules.proofs.draft.Draft.write.Goals as goal

pub invariant_of-result : goal.invariant_of-result
invariant_of-result g c =
    let same : c.deref_mut.result.now ≡ c.self.inside.kept.value = c.deref_mut.ensures.value in
    rw c.in_ok-push.ensures.items
    (draft_more (g.R.RowStore.rows c.self.inside.rows.now) c.self.inside.writes.items c.args.key c.args.value
    c.self.inside.kept.value c.add.new.self
    c.self.invariant
    (subst (λ (d : Drafted). is_some c.args.value ≡ true
    → GivesAlone (drafted_rows d) c.args.key) (sym c.self.view_is) c.requires.alone)
    (subst (λ (kept : Kept). HasKept (g.R.RowStore.rows c.self.inside.rows.now) c.args.key (is_some c.args.value) kept
    c.add.new.self) same
    (subst (λ (has : Bool). HasKept (g.R.RowStore.rows c.self.inside.rows.now) c.args.key has c.deref_mut.result.now
    c.add.new.self)
    c.is_some.ensures c.in_ok-add.ensures)))
