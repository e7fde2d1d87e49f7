-- The members that the rows of a walk bring, written one behind another.
use Rattle.std.proofs.Common.{◌≡◌, refl, ap, sym, ◌∙◌, append_assoc}
use Rattle.std.specs.Prelude.{List, [], ◌∷◌, ◌++◌, decimal}
use Rattle.std.specs.List.{filter_map, flat_map}
use Rattle.json.specs.Token.{Token, end_object, key, number}
use Rattle.json.specs.Tree.{members_tokens}
use Rattle.json.specs.Written.{Written}
use Rattle.serde_json.specs.Written.{members_outline}
use Rattle.alto_rows.specs.declared.key.Key.TheVariants.{Cost}
use Rattle.alto_rows.specs.declared.span.Span.TheVariants as span
use Rattle.alto_rows.specs.declared.value.Value.TheVariants.{Num}
use Rattle.alto_rows.specs.Good.{AreGood}
use Rattle.alto_rows.specs.Rows.{Rows}
use Rattle.alto_rows.specs.Span.{rows_in}
use Rattle.alto_maps.specs.Shape.{Name}
use Rattle.alto_maps.specs.Writing.{AddsMembers}
use Rattle.cost_docs.specs.Costs.{cost_given}
use Rattle.cost_docs.specs.Writing.{AddsTokens, member_tokens, members_from}
use Rattle.cost_docs.proofs.GatheredLemmas.{listed, members_listed}

-- what the rows bring
abbrev pub brought : Rows → List Token
brought rows = flat_map (λ row. member_tokens (cost_given row)) rows

-- the members that the costs of the rows list
abbrev members_of_rows : Rows → List Token
members_of_rows rows = members_tokens (members_outline (listed (filter_map cost_given rows)))

-- rows bring these
brought_listed : (rows : Rows) → brought rows ++ end_object ∷ [] ≡ members_of_rows rows
brought_listed [] = refl
brought_listed ((Cost net metric src dst, Num n) ∷ rows) =
    ap (λ ts. key dst ∷ number (decimal n) ∷ ts) (brought_listed rows)
brought_listed (_ ∷ rows) = brought_listed rows

-- and those of a source all members of its group
pub members_brought : (rows walk : Rows) (net metric src : Name) (old new : Written) → AreGood rows
    → walk ≡ rows_in rows (span.CostsFrom net metric src) → AddsTokens (brought walk) old new
    → AddsMembers (members_from rows net metric src) old new
members_brought rows walk net metric src old new good is added =
    record {
      tokens =
          ap (λ ts. ts ++ end_object ∷ []) added.added
          ∙ (append_assoc old.tokens (brought walk) (end_object ∷ [])
          ∙ ap (λ ts. old.tokens ++ ts) (brought_listed walk
          ∙ (ap members_of_rows is
          ∙ ap (λ ms. members_tokens (members_outline ms)) (sym (members_listed net metric rows src good)))));
      before = added.before;
    }
