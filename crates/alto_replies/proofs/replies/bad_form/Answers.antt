use Rattle.alto_replies.proofs.replies.bad_form.Goals as goal

pub returns-clause-reply : goal.returns-clause-reply
returns-clause-reply c =
    rw (
      c.in_ok-put_number-3.ensures,
      c.in_ok-put_number-2.ensures,
      c.in_ok-put_number.ensures,
      c.new-members.ensures,
      c.from.ensures,
    )
    at c.refusal.ensures
