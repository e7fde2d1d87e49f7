-- The errors of ALTO, by which an ask is told that its body is at fault (RFC 7285, section 8.5).
use Rattle.std.specs.Prelude.{ℕ, List, [], ◌∷◌, ◌++◌, Option, Some, None, Result, Ok, Err, codes}
use Rattle.serde_json.specs.Data.{Data, string}
use Rattle.serde_json.specs.Written.{compact_text}
use Rattle.json_tree.specs.Document.{object_of}
use Rattle.alto_asks.specs.declared.fault.AskCode.{AskCode}
use Rattle.alto_asks.specs.Asks.{code_text}
use Rattle.alto_asks.specs.declared.fault.AskFault.{AskFault}
use Rattle.alto_asks.specs.declared.fault.AskFault.TheVariants as fault
use Rattle.alto_replies.specs.Reply.{ReplyData}
use Rattle.alto_replies.specs.Replies.{status_alone}

-- the media type of an error (section 8.5.1)
abbrev pub error_type : List ℕ
error_type = codes "application/alto-error+json"

-- the member that tells a text, where there is one
abbrev pub told : List ℕ → Option (List ℕ) → List (List ℕ × Data)
told name None = []
told name (Some text) = (name, string text) ∷ []

-- what an error tells: its code, and the field and the value that are at fault, where there are some
abbrev pub error_meta : AskCode → Option (List ℕ) → Option (List ℕ) → Data
error_meta code field value =
    object_of ((codes "code", string (code_text code)) ∷ (told (codes "field") field ++ told (codes "value") value))

-- the reply that tells an error
abbrev pub alto_error : AskCode → Option (List ℕ) → Option (List ℕ) → ReplyData
alto_error code field value = record {
  status = 400;
  content_type = error_type;
  allow = None;
  body = compact_text (object_of ((codes "meta", error_meta code field value) ∷ []));
}

-- what an ask is answered whose body is at fault; out of memory has no reply of its own
abbrev pub ask_error : AskFault → ReplyData
ask_error (fault.Bad code field value) = alto_error code field value
ask_error fault.Memory = status_alone 503

-- what an ask is answered: its reply, or its error
abbrev pub reply_or_error : Result ReplyData AskFault → ReplyData
reply_or_error (Ok reply) = reply
reply_or_error (Err why) = ask_error why
