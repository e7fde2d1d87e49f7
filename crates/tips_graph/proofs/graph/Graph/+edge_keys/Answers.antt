-- The keys of a single step are kept, and a longer edge has a middle, at which its halves meet.
use Rattle.std.proofs.Common.{◌-◌, ◌∙◌, ap, arith, Some}
use Rattle.tips_graph.proofs.HalfLemmas.{none_kept, middle_of, halves_of}
use Rattle.tips_graph.proofs.SpanLemmas.{no_gap, span_at}
use Rattle.tips_graph.proofs.graph.Graph.+edge_keys.Goals as goal

pub unreachable-requires : goal.unreachable-requires
unreachable-requires g t c =
    no_gap c.args.self.now c.args.i c.args.j c.in_default.ensures.sound.numbered (omega (arith, c.requires.version))
    c.requires.here c.in_default.ensures.step

pub returns-in-Some-list : goal.returns-in-Some-list
returns-in-Some-list g t c =
    span_at c.args.self.now c.args.i c.args.j c.in-Some.step.now c.in-Some-list.keys.now
    c.in-Some.ensures.sound.numbered (omega (arith, c.requires.version)) c.requires.here c.in-Some.ensures.lists
    c.in-Some-list.ensures

pub edge_keys-requires : goal.edge_keys-requires
edge_keys-requires g t c κs within =
    let at = middle_of c.args.self.now c.args.i c.args.j (omega (arith, c.requires.version)) c.requires.here
    (none_kept c.in-Some.step.now (c.args.j - c.args.i) c.in_default-list.ensures) in
    (omega (arith, at.further), (within, (c.requires.version, at.first)))

pub edge_keys-requires-2 : goal.edge_keys-requires-2
edge_keys-requires-2 g t c κs within =
    let at = middle_of c.args.self.now c.args.i c.args.j (omega (arith, c.requires.version)) c.requires.here
    (none_kept c.in-Some.step.now (c.args.j - c.args.i) c.in_default-list.ensures) in
    (omega (arith, at.onward, at.further), (within, (omega (arith, at.onward), at.second)))

pub returns : goal.returns
returns g t c =
    let at = middle_of c.args.self.now c.args.i c.args.j (omega (arith, c.requires.version)) c.requires.here
    (none_kept c.in-Some.step.now (c.args.j - c.args.i) c.in_default-list.ensures) in
    let halves =
    halves_of c.args.self.now c.args.i _ c.args.j c.deref.result.now c.deref-2.result.now
    (omega (arith, c.requires.version)) c.requires.here at
    (ap Some c.deref.ensures.value ∙ c.in_ok-older.ensures) (ap Some c.deref-2.ensures.value ∙ c.in_ok-newer.ensures) in
    halves.both c.in_ok-merged.field-0.items (c.in_ok-merged.ensures halves.older_set halves.newer_set)
