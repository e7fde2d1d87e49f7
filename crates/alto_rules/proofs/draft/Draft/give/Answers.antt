-- The prefix is taken, and then put.
use Rattle.std.proofs.Common.{ap, sym, subst, ◌∙◌}
use Rattle.std.proofs.lemmas.Result.{IfOk-weaker}
use Rattle.std.specs.Prelude.{[], ◌∷◌, Some}
use Rattle.alto_rows.specs.declared.key.Key.{Key}
use Rattle.alto_rows.specs.declared.key.Key.TheVariants as key
use Rattle.alto_rows.specs.declared.value.Value.TheVariants as value
use Rattle.alto_edits.specs.Writes.{taking, putting}
use Rattle.alto_rules.specs.Draft.{Drafted, GivesAlone, drafted_rows, writing, wrote}
use Rattle.alto_rules.proofs.DraftedLemmas.{wrote_twice}
use Rattle.alto_rules.proofs.draft.Draft.give.Goals as goal

pub write-requires : goal.write-requires
write-requires g c = record {
  alone = λ some. subst (λ (k : Key). GivesAlone (drafted_rows c.in_ok-draft.draft) k)
      (sym c.in_ok-key.ensures) c.in_ok-draft.ensures.alone;
}

pub returns : goal.returns
returns g c =
    IfOk-weaker c.write.result _ _
    (λ draft h. h
    ∙ (ap (λ (d : Drafted). wrote d (writing c.in_ok-key.key (Some value.Unit) ∷ [])) c.in_ok-draft.ensures.taken
    ∙ (ap (λ (k : Key). wrote (wrote c.args.self (taking (drafted_rows c.args.self) c.args.net.now c.args.pid.now
    c.args.prefix.now)) (writing k (Some value.Unit) ∷ []))
    c.in_ok-key.ensures
    ∙ wrote_twice c.args.self (taking (drafted_rows c.args.self) c.args.net.now c.args.pid.now c.args.prefix.now)
    (putting (key.Prefix c.args.net.now c.args.pid.now c.args.prefix.now) value.Unit ∷ []))))
    c.write.ensures
