-- What a pair brings where its source was turned to, and where it wasn't.
use Rattle.std.proofs.Common.{◌≡◌, ℕ, refl, ap, sym, ◌∙◌, append-nil}
use Rattle.std.specs.Prelude.{Bool, true, false, cond, [], ◌++◌, Option, Some, None, map, option_map}
use Rattle.std.specs.Prelude.{unwrap_or}
use Rattle.alto_rows.specs.Good.{AreGood}
use Rattle.alto_rows.specs.Rows.{Rows}
use Rattle.alto_maps.specs.OperationForm.{under}
use Rattle.alto_maps.specs.Shape.{Name, Face, same_name}
use Rattle.alto_maps.proofs.SetLemmas.{one}
use Rattle.alto_rows.specs.Costs.{cost_of}
use Rattle.cost_docs.specs.CostMap.{cost_face}
use Rattle.edge_text.specs.Operations.{Turned, are_both, both_standing, cost_gone, known_of, on_change, on_cost}
use Rattle.edge_text.specs.Operations.{on_pair, on_whole, turned_behind, turned_to}
use Rattle.edge_text.specs.Pairs.{Pair}
use Rattle.edge_text.proofs.ChangeLemmas.{change_is}

-- ---- a source that was turned to

-- of a group that stood and stands it is the operation on the pair alone, and of others nothing
pub on_known : (before after : Face) (turned : Turned) (src dst : Name) (b : Bool)
    → Some b ≡ option_map are_both (known_of turned src)
    → on_pair before after turned (Some (src, dst)) ≡ cond b (on_change before after (true, true) src dst) []
on_known before after turned src dst b known = by (known_of turned src) known
  where
    by : (k : Option (Bool × Bool)) → Some b ≡ option_map are_both k
        → turned_to k (on_whole after src (both_standing before after src))
        ++ on_change before after (unwrap_or k (both_standing before after src)) src dst
        ≡ cond b (on_change before after (true, true) src dst) []
    by None known = cc
    by (Some both) known = let is : b ≡ are_both both = cc in rw is refl

-- nothing is turned to
pub behind_known : (before after : Face) (turned : Turned) (src dst : Name) (b : Bool)
    → Some b ≡ option_map are_both (known_of turned src)
    → turned ≡ turned_behind before after turned (Some (src, dst))
behind_known before after None src dst b known = cc
behind_known before after (Some t) src dst b known = by (same_name t.0 src) refl known
  where
    by : (same : Bool) → same_name t.0 src ≡ same → Some b ≡ option_map are_both (cond same (Some t.1) None)
        → Some t ≡ turned_behind before after (Some t) (Some (src, dst))
    by true e known = rw e (ap (λ n. Some (n, t.1)) (one t.0 src e))
    by false e known = cc

-- ---- one that wasn't

pub none_known : (turned : Turned) (src : Name) → None ≡ option_map are_both (known_of turned src)
    → known_of turned src ≡ None
none_known turned src none = by (known_of turned src) none
  where
    by : (k : Option (Bool × Bool)) → None ≡ option_map are_both k → k ≡ None
    by None none = refl
    by (Some both) none = cc

pub on_unknown : (before after : Face) (turned : Turned) (src dst : Name) → known_of turned src ≡ None
    → on_pair before after turned (Some (src, dst)) ≡ on_whole after src (both_standing before after src)
    ++ on_change before after (both_standing before after src) src dst
on_unknown before after turned src dst none = rw none refl

pub behind_unknown : (before after : Face) (turned : Turned) (src dst : Name) → known_of turned src ≡ None
    → Some (src, both_standing before after src) ≡ turned_behind before after turned (Some (src, dst))
behind_unknown before after turned src dst none = rw none refl

-- ---- costs

-- a cost after tells all of the change
pub gone_alone : (dst : Name) (old new : Option ℕ) → on_cost dst (cost_gone old new) new ≡ on_cost dst old new
gone_alone dst old None = refl
gone_alone dst old (Some n) = refl

-- ---- a pair, as it is written

-- of a source that was turned to
pub more_is : (net metric src dst : Name) (before after : Rows) (turned : Turned) (pair : Option Pair)
    (old new : Option ℕ) → AreGood before → AreGood after
    → pair ≡ Some (src, dst) → Some true ≡ option_map are_both (known_of turned src)
    → old ≡ cost_of before net metric src dst → new ≡ cost_of after net metric src dst
    → on_pair (cost_face net metric before) (cost_face net metric after) turned pair
    ≡ map (under src) (on_cost dst (cost_gone old new) new)
more_is net metric src dst before after turned pair old new good good' is known e f =
    ap (on_pair (cost_face net metric before) (cost_face net metric after) turned) is
    ∙ (on_known (cost_face net metric before) (cost_face net metric after) turned src dst true known
    ∙ (change_is net metric src dst before after (true, true) old new good good' refl e f
    ∙ ap (map (under src)) (sym (gone_alone dst old new))))

pub nothing_is : (before after : Face) (turned : Turned) (src dst : Name) (pair : Option Pair) → pair ≡ Some (src, dst)
    → Some false ≡ option_map are_both (known_of turned src)
    → on_pair before after turned pair ≡ []
nothing_is before after turned src dst pair is known = ap (on_pair before after turned) is
    ∙ on_known before after turned src dst false known

-- of one that wasn't
pub first_is : (net metric src dst : Name) (before after : Rows) (turned : Turned) (pair : Option Pair)
    (old new : Option ℕ) → AreGood before → AreGood after
    → pair ≡ Some (src, dst) → None ≡ option_map are_both (known_of turned src)
    → old ≡ cost_of before net metric src dst → new ≡ cost_of after net metric src dst
    → are_both (both_standing (cost_face net metric before) (cost_face net metric after) src) ≡ true
    → on_pair (cost_face net metric before) (cost_face net metric after) turned pair
    ≡ on_whole (cost_face net metric after)
    src (both_standing (cost_face net metric before) (cost_face net metric after) src)
    ++ map (under src) (on_cost dst old new)
first_is net metric src dst before after turned pair old new good good' is none e f together =
    ap (on_pair (cost_face net metric before) (cost_face net metric after) turned) is
    ∙ (on_unknown (cost_face net metric before) (cost_face net metric after) turned src dst (none_known turned src none)
    ∙ ap (λ os. on_whole (cost_face net metric after)
    src (both_standing (cost_face net metric before) (cost_face net metric after) src) ++ os)
    (change_is net metric src dst before after (both_standing (cost_face net metric before) (cost_face net metric after)
    src) old new good good' together e f))

pub first_alone : (before after : Face) (turned : Turned) (src dst : Name) (pair : Option Pair) → pair ≡ Some (src, dst)
    → None ≡ option_map are_both (known_of turned src)
    → are_both (both_standing before after src) ≡ false
    → on_pair before after turned pair ≡ on_whole after src (both_standing before after src)
first_alone before after turned src dst pair is none apart =
    ap (on_pair before after turned) is ∙ (on_unknown before after turned src dst (none_known turned src none)
    ∙ rw apart (append-nil (on_whole after src (both_standing before after src))))
