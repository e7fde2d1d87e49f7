-- The rows of the block lie between its first key and that of the next.
use Rattle.std.proofs.Common.{◌≡◌, ◌+◌, ◌<◌, length, rules}
use Rattle.std.specs.Prelude.{true}
use Rattle.row_chunks.specs.Shared.{cut_shares}
use Rattle.row_chunks.proofs.SharedLemmas.{first_shares, rows_share, rows_share_between}
use Rattle.row_chunks.proofs.blocks.shared_at.Goals as goal

pub shared-requires-clause-first : goal.shared-requires-clause-first
shared-requires-clause-first g c =
    let within : c.args.at < length c.args.slots.now = search rules in
    rw c.key.ensures
    (first_shares c.args.cut.now c.args.shared c.args.slots.now c.args.at c.in-Some.slot.now within
    c.in-Some.ensures.lookup.1 c.requires.begin c.requires.shared)

pub shared-requires-clause-last : goal.shared-requires-clause-last
shared-requires-clause-last g c =
    let within : c.args.at + 1 < length c.args.slots.now = search rules in
    rw c.key-in-Some-get.ensures
    (first_shares c.args.cut.now c.args.shared c.args.slots.now (c.args.at + 1) c.in-Some-get.next.now within
    c.in-Some-get.ensures.lookup.1 c.requires.begin c.requires.shared)

pub returns-in-Some-get : goal.returns-in-Some-get
returns-in-Some-get g c =
    let cut = c.args.cut.now in
    let slot = c.in-Some.slot.now in
    let next = c.in-Some-get.next.now in
    let within : c.args.at + 1 < length c.args.slots.now = search rules in
    let one : cut_shares cut c.shared.result slot.first ≡ true = rw c.key.ensures at c.shared.ensures.first in
    let other : cut_shares cut c.shared.result next.first ≡ true =
    rw c.key-in-Some-get.ensures at c.shared.ensures.last in
    rows_share_between cut c.shared.result c.args.slots.now c.args.at slot next within
    c.in-Some.ensures.lookup.1 c.in-Some-get.ensures.lookup.1 c.requires.begin c.requires.sorted one other

pub returns-in-None : goal.returns-in-None
returns-in-None g c = rows_share c.args.cut.now c.args.shared c.args.slots.now c.args.at c.requires.shared
