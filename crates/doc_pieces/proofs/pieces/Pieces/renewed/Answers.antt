use Rattle.std.proofs.Common.{ap, ◌∙◌}
use Rattle.std.proofs.lemmas.Result.{IfOk-weaker}
use Rattle.doc_pieces.specs.Pieces.{Pieces}
use Rattle.doc_pieces.proofs.RenewedLemmas.{pieces_renewed}
use Rattle.doc_pieces.proofs.pieces.Pieces.renewed.Goals as goal

pub returns : goal.returns
returns g c =
    IfOk-weaker c.framed.result _ _
    (λ pieces is earlier had differ.
    is
    ∙ pieces_renewed g.M.MapSource.shape earlier (g.M.MapSource.face c.args.source.now) c.args.places.now
    c.args.self.now _ _ had differ
    (ap (λ (pieces : Pieces). pieces.groups) c.self.view_is)
    (rw (← c.requires) c.in_ok-groups.ensures.groups))
    c.framed.ensures
