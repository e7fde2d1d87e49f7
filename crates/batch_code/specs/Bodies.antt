-- A batch from its id and what is behind that.
use Rattle.std.specs.Prelude.{ℕ, List}
use Rattle.alto_rows.specs.Accepted.{Accepted}
use Rattle.batch_code.specs.declared.batch.Body.{Body}

-- the batch of this id
abbrev pub accepted : List ℕ → Body → Accepted
accepted id body = record { id = id; digest = body.digest; moment = body.moment; writes = body.writes.items }
