-- The import and the moment, and then the writes.
use Rattle.std.proofs.Common.{◌≡◌, ℕ, List, ◌∷◌, ◌++◌, length, ap, ◌∙◌, append_assoc}
use Rattle.std.specs.List.{flat_map}
use Rattle.alto_rows.specs.declared.write.Write.{Write}
use Rattle.code_bytes.specs.Pieces.{name, number}
use Rattle.batch_code.specs.Spelling.{batch_bytes, write_bytes}
use Rattle.batch_code.proofs.encoding.encode.Goals as goal

abbrev list_bytes : List Write → List ℕ
list_bytes writes = number 4 (length writes) ++ flat_map write_bytes writes

abbrev import_bytes : List ℕ → List ℕ → ℕ → List ℕ
import_bytes id digest moment = 0x42 ∷ 0x01 ∷ (name id ++ (digest ++ number 8 moment))

joined : (id digest : List ℕ) (moment : ℕ) (writes : List Write)
    → import_bytes id digest moment ++ list_bytes writes
    ≡ batch_bytes (record { id = id; digest = digest; moment = moment; writes = writes })
joined id digest moment writes =
    ap (λ t. 0x42 ∷ 0x01 ∷ t) (append_assoc (name id) (digest ++ number 8 moment) (list_bytes writes)
    ∙ ap (λ t. name id ++ t) (append_assoc digest (number 8 moment) (list_bytes writes)))

pub returns : goal.returns
returns c =
    let id = c.batch.inside.id in
    let digest = c.batch.inside.digest in
    let moment = c.batch.inside.moment in
    let writes = c.deref.result.now in
    c.in_ok-push_list.ensures
    ∙ ap (λ t. t ++ list_bytes writes) (c.in_ok-push_import.ensures
    ∙ ap (λ t. t ++ import_bytes id digest moment) c.new-out.ensures.items)
    ∙ joined id digest moment writes
    ∙ ap (λ w. batch_bytes (record { id = id; digest = digest; moment = moment; writes = w })) c.deref.ensures.value
    ∙ ap batch_bytes c.batch.view_is
