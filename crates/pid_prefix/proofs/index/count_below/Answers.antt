use Rattle.std.proofs.Common.{◌≡◌, ℕ, rules}
use Rattle.std.proofs.lemmas.Bool.{ltb-false, ltb-true}
use Rattle.std.proofs.lemmas.List.Sorted.{IsPartitionPoint-from_clause, IsPartitionedBy-ltb}
use Rattle.std.specs.Prelude.{nat_lt}
use Rattle.pid_prefix.specs.Index.{bucket_of}
use Rattle.pid_prefix.proofs.IndexLemmas.{buckets_of_rising}
use Rattle.pid_prefix.proofs.index.count_below.Goals as goal

pub returns : goal.returns
returns g c rising =
    let value = g.N.Number.value in
    let numbers = c.args.numbers.now in
    let shift = c.args.shift in
    let least = c.args.least in
    let bucket = c.args.bucket in
    let point = IsPartitionPoint-from_clause (λ number. nat_lt (bucket_of shift least (value number)) bucket)
    numbers c.partition_point.result c.partition_point.ensures.partitioned
    (IsPartitionedBy-ltb (λ number. bucket_of shift least (value number)) numbers bucket
    (buckets_of_rising value numbers shift least rising))
    (λ a r f k. search rules) in (
      (
        λ k d from to. ltb-true _ bucket (point.0 k d from to),
        λ k d from to. ltb-false _ bucket (point.1 k d from to),
      ),
      c.partition_point.ensures.bound,
    )
