-- The text of the document of a PID: no byte of a PID is escaped.
use Rattle.std.proofs.Common.{◌≡◌, ℕ, List, [], ◌∷◌, ◌++◌, Some, None, Ok, codes, refl, ap, sym, ◌∙◌, append_assoc}
use Rattle.std.specs.List.{flat_map}
use Rattle.json.specs.Print.{escape_byte}
use Rattle.json_tree.specs.Document.{with_member}
use Rattle.serde_json.specs.Written.{compact_text}
use Rattle.alto_names.specs.Name.{is_pid_byte, named}
use Rattle.cost_docs.proofs.PidLemmas.{pid_plain}
use Rattle.doc_pieces.proofs.PlainLemmas.{plain_text}
use Rattle.alto_answers.specs.Lookup.{pid_document}

-- the text of a PID's document
pub pid_written : (bytes pid : List ℕ) → bytes ≡ pid → named is_pid_byte 64 pid ≡ Ok pid
    → 123 ∷ 34 ∷ (codes "pid" ++ (34 ∷ 58 ∷ 34 ∷ (bytes ++ 34 ∷ 125 ∷ []))) ≡ compact_text (pid_document (Some pid))
unfolding escape_byte with_member
pid_written bytes pid same is =
    let text : flat_map escape_byte pid ≡ pid = plain_text pid (pid_plain pid is) in
    ap (λ (xs : List ℕ). 123 ∷ 34 ∷ (codes "pid" ++ (34 ∷ 58 ∷ 34 ∷ (xs ++ 34 ∷ 125 ∷ [])))) same
    ∙ ap (λ (xs : List ℕ). 123 ∷ 34 ∷ (codes "pid" ++ (34 ∷ 58 ∷ 34 ∷ xs)))
    (sym (append_assoc pid (34 ∷ []) (125 ∷ [])))
    ∙ ap (λ (xs : List ℕ). 123 ∷ 34 ∷ (codes "pid" ++ (34 ∷ 58 ∷ 34 ∷ ((xs ++ 34 ∷ []) ++ 125 ∷ [])))) (sym text)

-- the text of the document that tells that there is none
pub null_written : codes "{" ++ (34 ∷ (codes "pid" ++ (34 ∷ 58 ∷ codes "null}"))) ≡ compact_text (pid_document None)
unfolding escape_byte with_member
null_written = refl
