use Rattle.std.proofs.Common.{◌≡◌, ◌∷◌, ◌∙◌, refl, ap, arith}
use Rattle.std.proofs.lemmas.List.{map-append}
use Rattle.alto_versions.specs.Graphs.{entries}
use Rattle.alto_versions.proofs.FoundKeyLemmas.{lists, touching_end, touching_step}
use Rattle.alto_versions.proofs.ResourceLemmas.{resources_declared}
use Rattle.alto_versions.proofs.TextLemmas.{text_step, text_told, texts_made}
use Rattle.alto_versions.proofs.texts.texts_after.Goals as goal

pub loop-of-init : goal.loop-of-init
loop-of-init g c =
    let all = c.into_iter-of-iterator.ensures.into_iter_gives.0 ∙ c.requires.resources in
    record {
      declared = rw all (resources_declared (g.R.RowStore.rows c.args.rows.now));
      whole = λ before led had. rw (c.new-after.ensures.items, all) refl;
      keys = rw (c.new-found.ensures.items, all) refl;
    }

pub loop-of-preserved : goal.loop-of-preserved
loop-of-preserved g c =
    let of = c.in-Some.of in
    let front : c.loop-of.of-iterator.rest.items ≡ of ∷ c.next.new.self.rest.items = c.in-Some.ensures.steps.0 in
    record {
      declared = (rw front at c.loop-of.invariant.declared).1;
      whole = λ before led had.
          let told = text_told before of (entries c.args.texts.now) _ had c.text_of-before.ensures in
          text_step _ (entries c.loop-of.after.items) _ c.loop-of.of-iterator.rest.items _ of _ front
          (ap entries c.in_ok-push.ensures.items ∙ map-append _ c.loop-of.after.items _)
          (c.in_ok-text.ensures before led told)
          (c.loop-of.invariant.whole before led had);
      keys =
          touching_step c.args.writes.now (lists c.loop-of.found.items) _ c.in_ok-keys.keys.items
          c.loop-of.of-iterator.rest.items _ of _ front
          (ap lists c.in_ok-push-2.ensures.items ∙ map-append _ c.loop-of.found.items _) c.in_ok-keys.ensures
          c.loop-of.invariant.keys;
    }

pub returns-clause-texts : goal.returns-clause-texts
returns-clause-texts g c = λ before led had.
    texts_made _ (entries c.loop-of.after.items) c.loop-of.of-iterator.rest.items c.requires.good
    (omega (arith, c.loop-of.of-iterator.rest.ok, c.in-None.ensures.steps.0)) (c.loop-of.invariant.whole before led had)

pub returns-clause-keys : goal.returns-clause-keys
returns-clause-keys g c =
    touching_end c.args.writes.now (lists c.loop-of.found.items) c.loop-of.of-iterator.rest.items _
    (omega (arith, c.loop-of.of-iterator.rest.ok, c.in-None.ensures.steps.0)) c.loop-of.invariant.keys
