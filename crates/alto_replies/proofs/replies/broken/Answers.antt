use Rattle.alto_replies.proofs.replies.broken.Goals as goal

pub returns-clause-reply : goal.returns-clause-reply
returns-clause-reply c =
    rw (
      c.in_ok-put_number-2.ensures,
      c.in_ok-put.ensures.ok,
      c.in_ok-put_number.ensures,
      c.new-members.ensures,
      c.from_name.ensures,
      c.new-name.ensures,
      c.in_ok-to_string.ensures.ok,
    )
    at c.refusal.ensures
