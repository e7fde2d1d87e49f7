-- What a push keeps is what the edges of the graph with it hold.
use Rattle.std.proofs.Common.{◌∷◌, [], Some, All, map, ap, sym, subst, ◌∙◌}
use Rattle.std.proofs.lemmas.List.{map-append}
use Rattle.std.proofs.lemmas.List.Elements.{All-push}
use Rattle.std.specs.Arc.{arc_value}
use Rattle.alto_versions.specs.Followed.{AreTextsAt}
use Rattle.alto_versions.proofs.FollowedLemmas.{all_still, good_still}
use Rattle.alto_versions.proofs.PushedLemmas.{rows_newest}
use Rattle.tips_graph.specs.Graph.{GraphData, Push}
use Rattle.tips_graph.specs.Keys.{key_set}
use Rattle.tips_graph.specs.Sound.{IsSound}
use Rattle.alto_versions.proofs.followed.Followed.push.Goals.{in-Some+in_ok-document+in_ok-newest+in_ok-new+in_ok-push}
use Rattle.alto_versions.proofs.followed.Followed.push.Goals.{in_default}
use Rattle.alto_versions.proofs.followed.Followed.push.Goals as goal

pub newest-requires-clause-last : goal.newest-requires-clause-last
newest-requires-clause-last g c =
    rw c.in_ok-graph.ensures (rows_newest c.self.inside.graph _ c.self.invariant.sound)
    ∙ ap Some (ap g.R.RowStore.rows (sym c.deref.ensures))

pub newest-requires-clause-kept : goal.newest-requires-clause-kept
newest-requires-clause-kept g c =
    rw c.in_ok-graph.ensures (good_still c.self.inside.graph _ c.self.invariant.good c.requires.good)

pub invariant_of-result : goal.invariant_of-result
invariant_of-result g c =
    let push : Push = record {
      rows = g.R.RowStore.rows (arc_value c.args.rows.now);
      keys = key_set c.args.keys.items;
    } in
    let of = c.args.of.now in
    let kept = map arc_value c.in_ok-texts.texts.items in
    let had : All (AreTextsAt c.self.inside.graph of) kept =
    subst (λ (graph : GraphData). All (AreTextsAt graph of) kept) (sym c.self.view_is) c.in_ok-texts.ensures in
    let still : All (AreTextsAt c.in_ok-graph.graph of) kept =
    rw c.in_ok-graph.ensures (all_still c.self.inside.graph push of kept c.self.invariant.sound had) in
    record {
      sound = subst IsSound c.graph.view_is c.graph.invariant.sound;
      good = rw c.in_ok-graph.ensures (good_still c.self.inside.graph push c.self.invariant.good c.requires.good);
      each =
          rw c.in_ok-copy_of.ensures
          (elim c.match-document.branch [
            | in-Some+in_ok-document+in_ok-newest+in_ok-new+in_ok-push w ↦
                rw (
                  w.texts-is,
                  w.in_ok-push.ensures.items,
                  map-append arc_value c.in_ok-texts.texts.items
                      (w.in_ok-new.field-0 ∷ []),
                )
                (All-push (AreTextsAt c.in_ok-graph.graph of) kept (arc_value w.in_ok-new.field-0) still
                (subst (AreTextsAt c.in_ok-graph.graph of) (sym w.in_ok-new.ensures.ok) w.in_ok-newest.ensures))
            | in_default w ↦ rw w.texts-is still
          ]);
    }
