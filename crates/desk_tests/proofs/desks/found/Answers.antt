use Rattle.std.proofs.Common.{◌≡◌, rules, sym, subst}
use Rattle.alto_rows.specs.Good.{AreGood}
use Rattle.alto_book.specs.Book.{rows_of}
use Rattle.alto_book.proofs.StateLemmas.{good_rows}
use Rattle.desk_tests.proofs.desks.found.Goals as goal

pub find_resource-requires : goal.find_resource-requires
find_resource-requires c =
    let rows : c.deref-2.result.now ≡ rows_of c.args.desk.now.ledger.book = search rules in
    subst AreGood (sym rows) (good_rows _ c.front.ensures.legal)
