use Rattle.batch_code.proofs.encoding.push_writes.Goals as goal

pub push_write-requires : goal.push_write-requires
push_write-requires c = rw c.write-item.is (c.requires c.loop-write.write-index _ c.loop-write-test.true)
