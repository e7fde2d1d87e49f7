use Rattle.std.proofs.Common.{sym, subst}
use Rattle.batch_code.specs.Storable.{IsStored}
use Rattle.base_code.specs.Bases.{write_of}
use Rattle.base_code.proofs.RowLemmas.{rows_more}
use Rattle.base_code.proofs.encoding.encode_rows.Goals as goal

pub push_row-requires : goal.push_row-requires
push_row-requires c =
    subst (λ row. IsStored (write_of row)) (sym c.row-item.is) (c.requires.stored c.loop-row.row-index c.row-item.result
    c.loop-row-test.true)

pub loop-row-preserved : goal.loop-row-preserved
loop-row-preserved c =
    rows_more c.loop-row.out.items c.push_row.new.out.items c.extend_from_slice.new.self.items c.args.rows.now
    c.loop-row.row-index c.row-item.result c.loop-row-test.true c.row-item.is
    c.loop-row.invariant c.in_ok-push_row.ensures
