use Rattle.alto_book.proofs.StateLemmas.{good_rows}
use Rattle.alto_desk.proofs.opening.Opening.into_ledger.Goals as goal

pub into_front-requires : goal.into_front-requires
into_front-requires g c =
    record { good = rw c.self.invariant.follows.current (good_rows _ c.self.invariant.legal) }

pub invariant_of-result : goal.invariant_of-result
invariant_of-result g c = record {
  legal = c.self.invariant.legal;
  placed = c.self.invariant.placed;
  counted = c.self.invariant.counted;
  stands = rw c.in_ok-new.ensures.ok (c.in_ok-into_front.ensures _ c.self.invariant.follows);
}
