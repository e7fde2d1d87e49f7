-- What is seen at the place of the id tells.
use Rattle.std.proofs.Common.{map, sym, refl}
use Rattle.std.specs.Arc.{arc_value}
use Rattle.alto_desk.specs.Ledger.{kept_in}
use Rattle.alto_desk.proofs.PlaceLemmas.{known_seen, unknown_unplaced}
use Rattle.alto_desk.proofs.known.known.Goals as goal

pub returns-in_err-find : goal.returns-in_err-find
returns-in_err-find c =
    rw c.from_residual.ensures
    (sym (unknown_unplaced _ c.args.places.now c.args.id.now c.requires (sym c.in_err-find.ensures)))

pub returns : goal.returns
returns c =
    let id = c.args.id.now in
    known_seen (λ found. found.n) (λ found. record { id = id; digest = found.digest.now; moment = found.moment })
    c.known_at.result (kept_in c.args.receipts.now (map arc_value c.args.batches.now)) c.args.places.now id _ c.requires
    c.in_ok-find.ensures c.known_at.ensures.number c.known_at.ensures.kept c.known_at.ensures.other (λ found. refl)
