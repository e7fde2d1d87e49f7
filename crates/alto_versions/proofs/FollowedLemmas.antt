-- Texts of numbers stay what the edges hold, under a push.
use Rattle.std.proofs.Common.{◌≡◌, ℕ, ◌-◌, ◌<◌, ◌∙◌, length, get_or, ap, sym, subst, arith}
use Rattle.std.proofs.lemmas.List.Elements.{All-drop, All-push}
use Rattle.std.proofs.Math.ListN.{get_or-map}
use Rattle.std.proofs.lemmas.List.{length-map}
use Rattle.std.specs.BTreeMap.{is_at}
use Rattle.std.specs.Prelude.{Bool, true, List, [], ◌∷◌, ◌++◌, All, map}
use Rattle.alto_rows.specs.declared.resource.Resource.{Resource}
use Rattle.alto_rows.specs.Good.{AreGood}
use Rattle.alto_rows.specs.Order.{resource_cmp}
use Rattle.alto_rows.proofs.OrderLemmas.{equal_tests, resource_cmp_exact}
use Rattle.edge_patch.specs.declared.form.PatchForm.{PatchForm}
use Rattle.tips_graph.specs.Graph.{GraphData, Push, with_push}
use Rattle.tips_graph.specs.Sound.{IsSound}
use Rattle.alto_versions.specs.Followed.{AreTextsAt, IsPatchText, NumberTexts, PatchTexts, text_in_form}
use Rattle.alto_versions.proofs.PushedLemmas.{rows_still, span_onward, span_still}

-- texts of a number that a graph has reached stay its texts
pub texts_still : (graph : GraphData) (push : Push) (of : Resource) (texts : NumberTexts) → IsSound graph
    → AreTextsAt graph of texts → AreTextsAt (with_push graph push) of texts
texts_still graph push of texts sound are = record {
  reached = omega (arith, are.reached);
  document = λ rows is. are.document rows (rows_still graph push texts.number rows sound are.reached is);
  patches = λ k d within. λ form before later keys from to span.
      let onward : (get_or texts.patches k d).from < texts.number =
      span_onward (with_push graph push) (get_or texts.patches k d).from texts.number keys span in
      are.patches k d within form before later keys
      (rows_still graph push (get_or texts.patches k d).from before sound (omega (arith, onward, are.reached)) from)
      (rows_still graph push texts.number later sound are.reached to)
      (span_still graph push (get_or texts.patches k d).from texts.number keys sound are.reached span);
}

pub all_still : (graph : GraphData) (push : Push) (of : Resource) (all : List NumberTexts) → IsSound graph
    → All (AreTextsAt graph of) all → All (AreTextsAt (with_push graph push) of) all
all_still graph push of all sound are = λ k d within. texts_still graph push of (get_or all k d) sound (are k d within)

-- the rows of a graph stay good as good ones are pushed
pub good_still : (graph : GraphData) (push : Push) → All (λ (p : Push). AreGood p.rows) graph.kept → AreGood push.rows
    → All (λ (p : Push). AreGood p.rows) (with_push graph push).kept
good_still graph push good more =
    All-drop (λ (p : Push). AreGood p.rows) (length (graph.kept ++ push ∷ []) - graph.window) (graph.kept ++ push ∷ [])
    (All-push (λ (p : Push). AreGood p.rows) graph.kept push good more)

-- a patch that is kept is that of its edge
pub patch_at : (graph : GraphData) (of : Resource) (texts : NumberTexts) (items : List PatchTexts) (k : ℕ)
    (patch : PatchTexts) (form : PatchForm)
    → AreTextsAt graph of texts → items ≡ texts.patches → k < length items → patch ≡ get_or items k patch
    → IsPatchText graph of form patch.from texts.number (text_in_form patch form)
patch_at graph of texts items k patch form are same within at =
    let here : patch ≡ get_or texts.patches k patch = at ∙ ap (λ (all : List PatchTexts). get_or all k patch) same in
    subst (λ (p : PatchTexts). IsPatchText graph of form p.from texts.number (text_in_form p form)) (sym here)
    (are.patches k patch (omega (arith, within, ap length same)) form)

-- texts that are kept with a graph are those of a number, for the resource that it is of
pub texts_found : {X : Type 0} (value : X
    → NumberTexts) (graph seen : GraphData) (own of : Resource) (kept items : List X) (k : ℕ) (item : X)
    → graph ≡ seen → (test : Bool) → test ≡ is_at (resource_cmp of) own → test ≡ true
    → All (AreTextsAt graph own) (map value kept)
    → items ≡ kept → k < length items → item ≡ get_or items k item → AreTextsAt seen of (value item)
texts_found {X = X} value graph seen own of kept items k item is test tells holds each same within at =
    let one : of ≡ own = resource_cmp_exact of own (equal_tests (resource_cmp of own) (sym tells ∙ holds)) in
    let here : value item ≡ get_or (map value kept) k (value item) =
    ap value at ∙ (ap (λ (all : List X). value (get_or all k item)) same ∙ sym (get_or-map value kept k item)) in
    let place : k < length (map value kept) = omega (arith, within, ap length same, length-map kept value) in
    subst (λ (g : GraphData). AreTextsAt g of (value item)) is
    (subst (λ (r : Resource). AreTextsAt graph r (value item)) (sym one)
    (subst (AreTextsAt graph own) (sym here) (each k (value item) place)))
