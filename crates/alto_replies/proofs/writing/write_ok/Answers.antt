-- The first lines of a reply with the status 200 are two texts with the media type and the length behind them.
use Rattle.std.proofs.Common.{◌≡◌, ◌∙◌, ℕ, List, ◌++◌, codes, decimal, refl, ap, append_assoc}
use Rattle.std.proofs.lemmas.Result.{on_ok_weaker}
use Rattle.std.specs.Fmt.{digits}
use Rattle.httparse.specs.Ascii.{crlf_bytes}
use Rattle.alto_replies.specs.Reply.{status_line, type_field, length_field}
use Rattle.alto_replies.proofs.writing.write_ok.Goals as goal

ok_line : List ℕ
ok_line = codes "HTTP/1.1 200 OK" ++ crlf_bytes

status_line-ok : status_line 200 ≡ ok_line
unfolding status_line digits ok_line
status_line-ok = refl

regroup : (old status name media end length number : List ℕ)
    → (old ++ ((status ++ name) ++ media)) ++ (((end ++ length) ++ number) ++ end)
    ≡ old ++ ((status ++ ((name ++ media) ++ end)) ++ ((length ++ number) ++ end))
regroup old status name media end length number = simp append_assoc refl

fields : (old media : List ℕ) (size : ℕ)
    → old ++ ((ok_line ++ ((codes "Content-Type: " ++ media) ++ crlf_bytes))
    ++ ((codes "Content-Length: " ++ decimal size) ++ crlf_bytes))
    ≡ old ++ ((status_line 200 ++ type_field media) ++ length_field size)
unfolding type_field length_field
fields old media size = rw status_line-ok refl

first_lines : (old middle new media : List ℕ) (size : ℕ)
    → middle ≡ old ++ ((ok_line ++ codes "Content-Type: ") ++ media)
    → new ≡ middle ++ (((crlf_bytes ++ codes "Content-Length: ") ++ decimal size) ++ crlf_bytes)
    → new ≡ old ++ ((status_line 200 ++ type_field media) ++ length_field size)
first_lines old middle new media size begun ended =
    let joined : new ≡ (old ++ ((ok_line ++ codes "Content-Type: ") ++ media))
    ++ (((crlf_bytes ++ codes "Content-Length: ") ++ decimal size) ++ crlf_bytes) =
    ended ∙ ap (λ xs. xs ++ (((crlf_bytes ++ codes "Content-Length: ") ++ decimal size) ++ crlf_bytes)) begun in
    joined ∙ regroup old ok_line (codes "Content-Type: ") media crlf_bytes (codes "Content-Length: ") (decimal size)
    ∙ fields old media size

pub returns : goal.returns
unfolding ok_line
returns c =
    on_ok_weaker c.write_number.result
    (first_lines _ _ _ c.args.media_type.now c.args.size c.in_ok-write_texts.ensures)
    c.write_number.ensures
