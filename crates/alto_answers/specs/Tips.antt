-- Opening the view of a resource (RFC 9569, section 6).
use Rattle.std.specs.Prelude.{ℕ, List, Option, option_map, if◌then◌else◌, codes}
use Rattle.alto_rows.specs.Ids.{resource_named}
use Rattle.alto_rows.specs.Versions.{epoch_of}
use Rattle.alto_book.specs.Book.{Book, rows_of}
use Rattle.alto_book.specs.Numbers.{updates_graph}
use Rattle.alto_http.specs.declared.request.Verb.{Verb}
use Rattle.alto_http.specs.declared.request.Verb.TheVariants as verb
use Rattle.tips_graph.specs.Graph.{GraphData}
use Rattle.alto_answers.specs.declared.outcome.Answer.{Answer}
use Rattle.alto_answers.specs.declared.outcome.Answer.TheVariants as answer
use Rattle.alto_answers.specs.Forms.{has_type}
use Rattle.alto_answers.specs.Opening.{opening_reply}
use Rattle.alto_replies.specs.Replies.{status_alone, wrong_method}

-- the media type of an ask to open a view (section 6.1)
abbrev pub ask_type : List ℕ
ask_type = codes "application/alto-tipsparams+json"

-- the updates graph of the resource that a text names, if it names one
abbrev pub graph_named : Book → List ℕ → Option GraphData
graph_named book text = option_map (updates_graph book) (resource_named (rows_of book) text)

-- `/tips`: the view of a resource
abbrev pub tips_answer : Verb → Option (List ℕ) → Book → Option (List ℕ) → List ℕ → Answer
tips_answer verb.Post content_type book host body =
    if has_type ask_type content_type
    then answer.Reply (opening_reply (epoch_of (rows_of book)) (graph_named book) host body)
    else answer.Reply (status_alone 415)
tips_answer verb.Get content_type book host body = answer.Reply (wrong_method verb.Post)
tips_answer verb.Other content_type book host body = answer.Reply (wrong_method verb.Post)
