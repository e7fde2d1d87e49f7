use Rattle.std.proofs.Common.{rules, Bool, List, ap, ◌∙◌, not, filter}
use Rattle.std.proofs.lemmas.Fn.{filter_same}
use Rattle.alto_keeper.specs.Stored.{RowData, StoredData, is_taken_in}
use Rattle.alto_keeper.proofs.stored.Stored.rebase.Goals as goal

abbrev with_rows : List RowData → List RowData → StoredData
with_rows base rows = record { base = base; rows = rows }

pub returns : goal.returns
returns c =
    let stays : RowData → Bool = λ row. not (is_taken_in c.args.upto row) in
    ap (with_rows c.args.base.items) (filter_same _ stays _ (λ x b q h. search rules) _ _ c.retain.ensures.filtered)
    ∙ ap (λ stored. with_rows c.args.base.items (filter stays stored.rows)) c.self.view_is
