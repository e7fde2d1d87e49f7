-- The origin of the cost that the last write puts, and that it is declared after an edit which breaks no rule.
use Rattle.std.proofs.Common.{◌≡◌, refl, sym, ◌∙◌, subst}
use Rattle.std.proofs.lemmas.Bool.{or_parts}
use Rattle.std.proofs.lemmas.List.Sums.{fold-append}
use Rattle.std.specs.Prelude.{true, List, [], ◌∷◌, ◌++◌, fold, map, filter, Option, Some, None, IfSome, is_some}
use Rattle.std.specs.List.{list_any}
use Rattle.alto_rows.specs.declared.key.Key.{Key}
use Rattle.alto_rows.specs.declared.key.Key.TheVariants as key
use Rattle.alto_rows.specs.declared.value.Value.{Value}
use Rattle.alto_rows.specs.declared.value.Value.TheVariants as value
use Rattle.alto_rows.specs.declared.write.Write.{Write}
use Rattle.alto_rows.specs.Rows.{Rows}
use Rattle.alto_rows.proofs.SoundLemmas.{has_row-kept}
use Rattle.alto_rows.proofs.WriteLemmas.{after-push}
use Rattle.alto_edits.specs.declared.edit.Edit.{Edit}
use Rattle.alto_edits.specs.declared.edit.Edit.TheVariants as edit
use Rattle.alto_edits.specs.Rules.{broken_rule, checks, lacks}
use Rattle.alto_edits.specs.Writes.{deleting, names, putting, taking, writes_of}
use Rattle.alto_edits.proofs.EditLemmas.{NoneBroken, not_lacking, unbroken}
use Rattle.alto_rules.specs.Draft.{Drafted, drafted_rows, writing, wrote}
use Rattle.alto_rules.specs.Origin.{IsDeclared, LastCostIsDeclared, Origin, last_origin, origin_put}
use Rattle.alto_rules.specs.Parts.{edit_key, edit_value}
use Rattle.alto_rules.proofs.DraftedLemmas.{wrote_none}

-- the origin after a write more
abbrev next_origin : Option Origin → Write → Option Origin
next_origin before write = origin_put write.value write.key

-- writes that end in one have its origin
last_origin-push : (writes more : List Write) (last : Write)
    → last_origin (writes ++ (more ++ last ∷ [])) ≡ origin_put last.value last.key
last_origin-push writes more last =
    fold-append next_origin None writes (more ++ last ∷ [])
    ∙ fold-append next_origin (last_origin writes) more (last ∷ [])

-- deletions put none, so neither does the last of them
deleted_none : (gone : Rows) → fold next_origin None (map (λ row. deleting row.0) gone) ≡ None
deleted_none [] = refl
deleted_none (row ∷ gone) = deleted_none gone

-- ---- an edit

-- deletions leave it declared
deletions_keep : (draft : Drafted) (gone : Rows) → LastCostIsDeclared draft
    → LastCostIsDeclared (wrote draft (map (λ row. deleting row.0) gone))
deletions_keep draft [] declared = subst LastCostIsDeclared (wrote_none draft [] refl) declared
deletions_keep draft (row ∷ gone) declared =
    rw (fold-append next_origin None draft.writes (map (λ row. deleting row.0) (row ∷ gone)), deleted_none gone) tt

-- so does a write that puts no cost
no_cost : (draft : Drafted) (at : Key) (v : Option Value) → origin_put v at ≡ None
    → LastCostIsDeclared (wrote draft (writing at v ∷ []))
no_cost draft at v none = rw (last_origin-push draft.writes [] (writing at v), none) tt

-- and an edit that breaks no rule
edit_keeps : (draft : Drafted) (of : Edit) → broken_rule (drafted_rows draft) of ≡ None → LastCostIsDeclared draft
    → LastCostIsDeclared (wrote draft (writes_of (drafted_rows draft) of))
edit_keeps draft (edit.NetDrop net) h declared =
    deletions_keep draft (filter (names (key.Net net)) (drafted_rows draft)) declared
edit_keeps draft (edit.PidDrop net pid) h declared =
    deletions_keep draft (filter (names (key.Pid net pid)) (drafted_rows draft)) declared
edit_keeps draft (edit.MetricDrop net metric) h declared =
    deletions_keep draft (filter (names (key.Metric net metric)) (drafted_rows draft)) declared
edit_keeps draft (edit.PrefixPut net pid prefix) h declared =
    rw (last_origin-push draft.writes (taking (drafted_rows draft) net pid prefix)
    (putting (key.Prefix net pid prefix) value.Unit)) tt
edit_keeps draft (edit.CostPut net metric source destination cost) h declared =
    let at = key.Cost net metric source destination in
    let rows = drafted_rows draft in
    let passed : NoneBroken (checks rows (edit.CostPut net metric source destination cost)) =
    unbroken rows (edit.CostPut net metric source destination cost) h in
    let pids =
    or_parts (lacks rows (key.Pid net source)) (list_any (λ pid. lacks rows (key.Pid net pid)) (destination ∷ []))
    passed.1.0 in
    let keeps = has_row-kept rows at (value.Num cost) in
    let put = putting at (value.Num cost) in
    rw (last_origin-push draft.writes [] put, after-push draft.rows draft.writes put) (
      keeps (key.Net net) (not_lacking rows (key.Net net) passed.0),
      keeps (key.Metric net metric) (not_lacking rows (key.Metric net metric) passed.1.1.0),
      keeps (key.Pid net source) (not_lacking rows (key.Pid net source) pids.0),
    )
edit_keeps draft of h declared = no_cost draft (edit_key of) (edit_value of) refl

-- the draft that an edit is made on is the same as the one before
pub last_cost_next : (first same later : Drafted) (of : Edit) → same ≡ first → broken_rule (drafted_rows same) of ≡ None
    → later ≡ wrote same (writes_of (drafted_rows same) of) → LastCostIsDeclared first → LastCostIsDeclared later
last_cost_next first same later of is unbroken more declared =
    subst LastCostIsDeclared (sym more) (edit_keeps same of unbroken (subst LastCostIsDeclared (sym is) declared))

-- ---- what is known of it

-- the last write's origin is declared where something is there that tells of it
pub declared_origin : {X : Type 0} (draft : Drafted) (origin : Origin) (found : Option X) → LastCostIsDeclared draft
    → IfSome found (λ _. last_origin draft.writes ≡ Some origin) → is_some found ≡ true
    → IsDeclared (drafted_rows draft) origin
declared_origin draft origin None declared is some = cc
declared_origin draft origin (Some x) declared is some =
    let last : last_origin draft.writes ≡ Some origin = is in
    rw last at declared
