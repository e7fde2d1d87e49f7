use Rattle.std.proofs.Common.{inl}
use Rattle.alto_rows.proofs.EntityLemmas.{block_is, block_none, whole_block}
use Rattle.alto_rows.proofs.entities.read_block.Goals as goal

pub returns-in-Ok : goal.returns-in-Ok
returns-in-Ok c =
    block_is c.args.text.now c.whole.result
    (whole_block c.args.text.now c.in-Ok.addr c.whole.result c.in-Ok.ensures.ok c.whole.ensures.addr
    c.whole.ensures.len)

pub returns-in-Ok-read_prefix : goal.returns-in-Ok-read_prefix
returns-in-Ok-read_prefix c = block_is c.args.text.now c.in-Ok-read_prefix.block (inl c.in-Ok-read_prefix.ensures.ok)

pub returns-in-Err-read_prefix : goal.returns-in-Err-read_prefix
returns-in-Err-read_prefix c =
    block_none c.args.text.now c.in-Err.field-0 c.in-Err-read_prefix.field-0 c.in-Err.ensures.err
    c.in-Err-read_prefix.ensures.err
