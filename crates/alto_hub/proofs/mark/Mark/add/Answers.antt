use Rattle.std.proofs.Common.{◌≡◌, length, ap, sym, ◌∙◌}
use Rattle.alto_hub.proofs.AddLemmas.{adds_moves}
use Rattle.alto_hub.proofs.mark.Mark.add.Goals as goal

pub compare_exchange-found-requires : goal.compare_exchange-found-requires
compare_exchange-found-requires g c =
    let h = c.requires.head in
    let e = c.again-seen.ensures in
    let pen = c.no_pen-pen.ensures in
    let named : c.self.inside.seen.book ≡ c.args.self.now.name = ap (λ r. r.name) c.self.view_is in
    let book : c.again-seen.result.book ≡ c.args.head.now.book = ap (λ s. s.book) e
    ∙ (named ∙ sym (ap (λ w. w.book) h)) in (
      ap (λ w. w.tracked) h,
      book,
      pen.0 ∙ book,
      c.requires.free.0 ∙ sym (ap (λ s. s.names) e ∙ c.self.invariant.1),
      rw (ap (λ w. w.key) h, pen.1, c.requires.free.1)
          (adds_moves c.again-seen.result.log c.args.ask.ask c.self.inside.number (ap (λ s. length s.log) e
          ∙ sym c.self.invariant.0)),
    )
