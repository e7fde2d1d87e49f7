use Rattle.std.proofs.Common.{◌∙◌, ap, sym, subst}
use Rattle.alto_names.specs.Name.{named, is_net_byte}
use Rattle.alto_book.specs.Book.{rows_of}
use Rattle.alto_answers.specs.Lookup.{ReadsAddr, prefixes_named}
use Rattle.alto_answers.specs.Target.{segment}
use Rattle.alto_answers.proofs.LookupLemmas.{looked_up, table_of_text}
use Rattle.alto_answers.proofs.lookup.lookup.Goals as goal

pub returns-in_ok-lookup_reply-in-Get-clause-answer : goal.returns-in_ok-lookup_reply-in-Get-clause-answer
returns-in_ok-lookup_reply-in-Get-clause-answer g c = λ book stands.
    rw c.in-Get.is
    (looked_up (rows_of book) (segment c.args.path.now 2) (segment c.args.path.now 3) _ c.read_addr.result _
    (sym (ap (λ n. prefixes_named (rows_of book) (named is_net_byte 24 n)) (c.deref.ensures.value
    ∙ c.in_ok-net-in-Get.ensures.first))
    ∙ table_of_text (λ table. table.now) c.table_named-table.result c.args.front.now book _ stands
    c.table_named-table.ensures.table c.table_named-table.ensures.name)
    (subst (λ t. ReadsAddr t c.read_addr.result) (c.deref-in-Get.ensures.value ∙ c.in_ok-net-in-Get.ensures.second)
    c.read_addr.ensures)
    c.in_ok-lookup_reply-in-Get.ensures.reply)
