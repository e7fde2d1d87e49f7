-- Both forms lead from document to document.
use Rattle.std.specs.Prelude.{map}
use Rattle.alto_maps.proofs.MergeLemmas.{merge_leads_on}
use Rattle.alto_maps.proofs.OperationLemmas.{operations_lead_on}
use Rattle.edge_patch.specs.Documents.{face_of, place_of, shape_of}
use Rattle.edge_patch.specs.Laws.{StepsLeadOn, OperationsLeadOn}
use Rattle.edge_patch.proofs.KindLemmas.{differ_at}

pub step_leads_on : StepsLeadOn
step_leads_on of before later keys differ =
    merge_leads_on (shape_of of) (face_of of before) (face_of of later) (map (place_of of) keys)
    (differ_at of before later keys differ)

pub step_operates : OperationsLeadOn
step_operates of before later keys differ =
    operations_lead_on (shape_of of) (face_of of before) (face_of of later) (map (place_of of) keys)
    (differ_at of before later keys differ)
