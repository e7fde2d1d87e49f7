-- The edit has the one write.
use Rattle.std.proofs.Common.{◌≡◌, ap, sym, ◌∙◌, subst}
use Rattle.std.proofs.lemmas.Result.{IfOk-weaker}
use Rattle.std.specs.Prelude.{[], ◌∷◌, List, Option, is_some, true}
use Rattle.alto_rows.specs.declared.key.Key.{Key}
use Rattle.alto_rows.specs.declared.value.Value.{Value}
use Rattle.alto_rows.specs.declared.write.Write.{Write}
use Rattle.alto_rules.specs.Draft.{GivesAlone, drafted_rows, writing, wrote}
use Rattle.alto_rules.specs.Parts.{edit_key}
use Rattle.alto_rules.proofs.CompileLemmas.{one_alone, one_write}
use Rattle.alto_rules.proofs.draft.Draft.with_row.Goals as goal

pub write-requires : goal.write-requires
write-requires g c = record {
  alone = λ some. subst (λ (k : Key). GivesAlone (drafted_rows c.args.self) k) (sym c.in_ok-key.ensures)
      (one_alone (drafted_rows c.args.self) c.args.edit.now c.requires
      (subst (λ (v : Option Value). is_some v ≡ true) c.in_ok-value.ensures some));
}

pub returns : goal.returns
returns g c =
    IfOk-weaker c.write.result _ _
    (λ draft h. h ∙ ap (λ (more : List Write). wrote c.args.self more)
    (ap (λ (k : Key). writing k c.in_ok-value.value ∷ []) c.in_ok-key.ensures
    ∙ (ap (λ (v : Option Value). writing (edit_key c.args.edit.now) v ∷ []) c.in_ok-value.ensures
    ∙ sym (one_write (drafted_rows c.args.self) c.args.edit.now c.requires))))
    c.write.ensures
