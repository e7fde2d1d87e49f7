-- The owner's row is deleted, unless it is that of the PID itself.
use Rattle.std.proofs.Common.{ap, sym, ◌∙◌, subst}
use Rattle.std.proofs.lemmas.Result.{IfOk-weaker}
use Rattle.std.specs.Prelude.{List, [], ◌∷◌, Some, None}
use Rattle.alto_rows.specs.declared.key.Key.{Key}
use Rattle.alto_rows.specs.declared.key.Key.TheVariants as key
use Rattle.alto_rows.specs.declared.write.Write.{Write}
use Rattle.alto_rows.proofs.TouchesLemmas.{one_name}
use Rattle.alto_rows.proofs.WriteLemmas.{after-push}
use Rattle.alto_rules.specs.Draft.{Drafted, GivesAlone, drafted_rows, writing, wrote}
use Rattle.alto_rules.proofs.DraftedLemmas.{wrote_none}
use Rattle.alto_rules.proofs.TakeLemmas.{alone_taken, taking_none, taking_one}
use Rattle.alto_rules.proofs.draft.Draft.take_from.Goals as goal

pub returns-then-eq-clause-taken : goal.returns-then-eq-clause-taken
returns-then-eq-clause-taken g c =
    wrote_none c.args.self _
    (taking_none (drafted_rows c.args.self) c.args.net.now c.args.pid.now c.args.prefix.now (Some c.args.owner)
    c.requires.sorted c.requires.owner
    (λ other h. sym (one_name c.args.owner other h)
    ∙ one_name c.args.owner c.args.pid.now (sym c.eq.ensures ∙ c.if-eq.true)))

pub returns-clause-taken : goal.returns-clause-taken
returns-clause-taken g c =
    IfOk-weaker c.write.result _ _
    (λ draft h. h ∙ ap (λ (more : List Write). wrote c.args.self more)
    (ap (λ (k : Key). writing k None ∷ []) c.in_ok-key.ensures
    ∙ sym (taking_one (drafted_rows c.args.self) c.args.net.now c.args.pid.now c.args.owner c.args.prefix.now
    c.requires.sorted c.requires.owner
    (sym c.eq.ensures ∙ c.if-eq.false))))
    c.write.ensures

pub returns-clause-alone : goal.returns-clause-alone
returns-clause-alone g c =
    IfOk-weaker c.write.result _ _
    (λ draft h. subst (λ (d : Drafted). GivesAlone (drafted_rows d)
    (key.Prefix c.args.net.now c.args.pid.now c.args.prefix.now)) (sym h)
    (rw (after-push c.args.self.rows c.args.self.writes (writing c.in_ok-key.key None), c.in_ok-key.ensures)
    (alone_taken (drafted_rows c.args.self) c.args.net.now c.args.pid.now c.args.owner c.args.prefix.now
    c.requires.sorted c.requires.owner)))
    c.write.ensures
