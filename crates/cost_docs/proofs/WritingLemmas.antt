-- Costs that are written one behind another, between the beginnings and ends of their groups.
use Rattle.std.proofs.Common.{◌≡◌, refl, ap, sym, ◌∙◌, append_assoc}
use Rattle.std.specs.Prelude.{Bool, true, false, cond, List, [], ◌∷◌, ◌++◌, Option, Some, None}
use Rattle.json.specs.Token.{Token, end_object}
use Rattle.json.specs.Tree.{members_tokens}
use Rattle.json.specs.Written.{Written}
use Rattle.serde_json.specs.Written.{members_outline}
use Rattle.alto_rows.specs.declared.span.Span.TheVariants as span
use Rattle.alto_rows.specs.Good.{AreGood}
use Rattle.alto_rows.specs.Rows.{Rows}
use Rattle.alto_maps.specs.Shape.{Name, same_name}
use Rattle.alto_maps.specs.Writing.{AddsMembers}
use Rattle.cost_docs.specs.declared.costs.Cost.{Cost}
use Rattle.cost_docs.specs.Costs.{costs_within}
use Rattle.cost_docs.specs.Writing.{AddsTokens, cost_tokens, groups_of, tokens_left}
use Rattle.cost_docs.proofs.GatheredLemmas.{Gathered, as_members, gathered, groups_gathered, members_listed, with_cost}

-- groups as members, and their end
abbrev group_tokens : List Gathered → List Token
group_tokens groups = members_tokens (members_outline (as_members groups))

-- groups that are left where one is begun: the rest of it, if the first is of its source, else its end
abbrev groups_left : Option Name → List Gathered → List Token
groups_left None groups = group_tokens groups
groups_left (Some src) [] = end_object ∷ group_tokens []
groups_left (Some src) (group ∷ groups) =
    cond (same_name src group.0) (members_tokens (members_outline group.1) ++ group_tokens groups)
    (end_object ∷ group_tokens (group ∷ groups))

-- a cost that is written, before groups that are left
cost_before : (current : Option Name) (c : Cost) (groups : List Gathered)
    → cost_tokens current (Some c) ++ groups_left (Some c.source) groups ≡ groups_left current (with_cost c groups)
cost_before None c [] = refl
cost_before None c (group ∷ groups) = by (same_name c.source group.0) refl
  where
    by : (b : Bool) → same_name c.source group.0 ≡ b
        → cost_tokens None (Some c) ++ groups_left (Some c.source) (group ∷ groups)
        ≡ groups_left None (with_cost c (group ∷ groups))
    by true e = rw e refl
    by false e = rw e refl
cost_before (Some src) c [] = by (same_name src c.source) refl
  where
    by : (b : Bool) → same_name src c.source ≡ b
        → cost_tokens (Some src) (Some c) ++ groups_left (Some c.source) [] ≡ groups_left (Some src) (with_cost c [])
    by true e = rw e refl
    by false e = rw e refl
cost_before (Some src) c (group ∷ groups) = by (same_name src c.source) (same_name c.source group.0) refl refl
  where
    by : (a b : Bool) → same_name src c.source ≡ a → same_name c.source group.0 ≡ b
        → cost_tokens (Some src) (Some c) ++ groups_left (Some c.source) (group ∷ groups)
        ≡ groups_left (Some src) (with_cost c (group ∷ groups))
    by true true e f = rw (e, f) (rw e refl)
    by true false e f = rw (e, f) (rw e refl)
    by false true e f = rw (e, f) (rw e refl)
    by false false e f = rw (e, f) (rw e refl)

-- the costs that are left make the groups that are left
costs_make : (current : Option Name) (costs : List Cost)
    → tokens_left current costs ++ end_object ∷ [] ≡ groups_left current (gathered costs)
costs_make None [] = refl
costs_make (Some src) [] = refl
costs_make current (c ∷ costs) =
    append_assoc (cost_tokens current (Some c)) (tokens_left (Some c.source) costs) (end_object ∷ [])
    ∙ (ap (λ ts. cost_tokens current (Some c) ++ ts) (costs_make (Some c.source) costs)
    ∙ cost_before current c (gathered costs))

-- what costs of a metric are written as, are all groups
pub all_written : (net metric : Name) (rows : Rows) (costs : List Cost) (old new : Written)
    → AreGood rows → costs ≡ costs_within rows (span.CostsIn net metric)
    → AddsTokens (tokens_left None costs) old new → AddsMembers (groups_of rows net metric) old new
all_written net metric rows costs old new good are added =
    record {
      tokens =
          ap (λ ts. ts ++ end_object ∷ []) added.added
          ∙ (append_assoc old.tokens (tokens_left None costs) (end_object ∷ [])
          ∙ ap (λ ts. old.tokens ++ ts)
          (costs_make None costs
          ∙ ap (λ ms. members_tokens (members_outline ms))
          (ap (λ all. as_members (gathered all)) are ∙ sym (groups_gathered net metric rows good))));
      before = added.before;
    }
