-- Drafts with more writes.
use Rattle.std.proofs.Common.{◌≡◌, refl, ap, sym, ◌∙◌, append_assoc, subst}
use Rattle.std.proofs.lemmas.Bool.{both_ways}
use Rattle.std.specs.Prelude.{true, List, [], ◌∷◌, ◌++◌, map}
use Rattle.std.specs.List.{AllByRecursion}
use Rattle.alto_rows.specs.declared.key.Key.{Key}
use Rattle.alto_rows.specs.declared.resource.Resource.{Resource}
use Rattle.alto_rows.specs.Rows.{Rows, AreSorted}
use Rattle.alto_rows.proofs.WriteLemmas.{sorted_after}
use Rattle.alto_edits.specs.Versions.{next_version}
use Rattle.alto_rows.specs.declared.write.Write.{Write}
use Rattle.alto_rules.specs.Draft.{Drafted, drafted_rows, GivesAlone, gives_none, wrote}

append_none : (writes : List Write) → writes ++ [] ≡ writes
append_none [] = refl
append_none (write ∷ writes) = ap (λ (more : List Write). write ∷ more) (append_none writes)

-- a draft with these writes
abbrev with_writes : Drafted → List Write → Drafted
with_writes draft writes = record { rows = draft.rows; writes = writes }

-- with no more writes it is the same
pub wrote_none : (draft : Drafted) (more : List Write) → more ≡ [] → draft ≡ wrote draft more
wrote_none draft more none = ap (with_writes draft) (sym (append_none draft.writes)
    ∙ ap (λ (rest : List Write). draft.writes ++ rest) (sym none))

-- with more and then more it has both
pub wrote_twice : (draft : Drafted) (first second : List Write)
    → wrote (wrote draft first) second ≡ wrote draft (first ++ second)
wrote_twice draft first second = ap (with_writes draft) (append_assoc draft.writes first second)

-- a key that gives no prefix gives it alone
pub alone_none : (rows : Rows) (at : Key) → gives_none at ≡ true → GivesAlone rows at
alone_none rows at none net pid other prefix is h = absurd (both_ways (gives_none at) (ap gives_none is) none)

-- version rows give no prefix
pub versions_give_none : (rows : Rows) (ofs : List Resource)
    → AllByRecursion (λ write. gives_none write.key ≡ true) (map (next_version rows) ofs)
versions_give_none rows [] = tt
versions_give_none rows (of ∷ ofs) = (refl, versions_give_none rows ofs)

-- the rows of a draft stay sorted under its writes
pub sorted_drafted : (d e : Drafted) → d ≡ e → AreSorted d.rows → AreSorted (drafted_rows e)
sorted_drafted d e same s = subst (λ (x : Drafted). AreSorted (drafted_rows x)) same (sorted_after d.rows d.writes s)
