-- Which PID of a network an address belongs to.
use Rattle.std.specs.Prelude.{◌≡◌, ℕ, List, [], ◌∷◌, Option, Some, None, Result, Ok, Err, if◌then◌else◌, codes}
use Rattle.serde_json.specs.Data.{Data, null, string}
use Rattle.json_tree.specs.Document.{object_of}
use Rattle.alto_addr.specs.declared.addr.Addr.{Addr}
use Rattle.alto_names.specs.declared.label.NameFault.{NameFault}
use Rattle.alto_names.specs.Name.{named, is_net_byte}
use Rattle.alto_rows.specs.declared.key.Key.TheVariants as key
use Rattle.alto_rows.specs.Entities.{WritesTypedAddr}
use Rattle.alto_rows.specs.Prefixes.{prefixes_in}
use Rattle.alto_rows.specs.Rows.{Rows, has_row}
use Rattle.pid_prefix.specs.Longest.{Row, longest_prefix}
use Rattle.alto_http.specs.declared.request.Verb.{Verb}
use Rattle.alto_http.specs.declared.request.Verb.TheVariants as verb
use Rattle.alto_replies.specs.Replies.{document_reply, json_type, not_found, wrong_method}
use Rattle.alto_replies.specs.Reply.{ReplyData}
use Rattle.alto_answers.specs.declared.outcome.Answer.{Answer}
use Rattle.alto_answers.specs.declared.outcome.Answer.TheVariants as answer

-- the address that a text writes behind its type, or nothing where it writes none
abbrev pub ReadsAddr : List ℕ → Option Addr → Type 0
ReadsAddr text (Some addr) = WritesTypedAddr text addr
ReadsAddr text None = (addr : Addr) → WritesTypedAddr text addr → ⊥

-- the prefixes of the network that a text names, if it is declared
abbrev pub prefixes_named : Rows → Result (List ℕ) NameFault → Option (List Row)
prefixes_named rows (Err fault) = None
prefixes_named rows (Ok net) = if has_row rows (key.Net net) then Some (prefixes_in rows net) else None

-- a PID, or null where there is none
abbrev pub pid_value : Option (List ℕ) → Data
pid_value (Some pid) = string pid
pid_value None = null

-- a PID as a document
abbrev pub pid_document : Option (List ℕ) → Data
pid_document pid = object_of ((codes "pid", pid_value pid) ∷ [])

-- the PID whose prefix that holds the address is the longest, where there are prefixes and an address
abbrev pub lookup_reply : Option (List Row) → Option Addr → ReplyData
lookup_reply (Some prefixes) (Some addr) = document_reply json_type (pid_document (longest_prefix prefixes addr))
lookup_reply _ _ = not_found (codes "resource")

-- `/lookup/{net}/{address}`: the PID of an address in a network
abbrev pub LookupAnswer : Verb → Rows → List ℕ → List ℕ → Answer → Type 0
LookupAnswer verb.Get rows net text given = (addr : Option Addr) × ReadsAddr text addr
    × (given ≡ answer.Reply (lookup_reply (prefixes_named rows (named is_net_byte 24 net)) addr))
LookupAnswer verb.Post rows net text given = given ≡ answer.Reply (wrong_method verb.Get)
LookupAnswer verb.Other rows net text given = given ≡ answer.Reply (wrong_method verb.Get)
