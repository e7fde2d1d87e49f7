use Rattle.std.proofs.Common.{◌≡◌, ◌∙◌, ◌+◌, ◌<◌, List, ap, arith, get_or, length, subst, sym, ℕ}
use Rattle.pid_prefix.specs.Index.{EndsIn, IndexData, IsIndexOf, bucket_of}
use Rattle.pid_prefix.proofs.IndexLemmas.{ends_by_index}
use Rattle.pid_prefix.proofs.index.Index.part.Goals as goal

pub returns : goal.returns
returns g c numbers long counts =
    let value = g.N.Number.value in
    let index : IndexData = record {
      shift = c.self.inside.shift;
      least = c.self.inside.least;
      below = c.self.inside.below.items;
    } in
    let low = c.in-Some.ensures.lookup in
    let high = c.in-Some-get.ensures.lookup in
    let below = c.deref.ensures.value in
    let next : c.saturating_add.result ≡ c.bucket_of-bucket.result + 1 =
    omega (arith, c.saturating_add.ensures, low.3.0, c.deref.ensures.len) in
    subst (EndsIn value numbers c.args.sought.now c.in-Some.low.now) (sym c.saturating_sub.ensures)
    (ends_by_index value numbers index c.args.sought.now c.bucket_of-bucket.result c.saturating_add.result
    c.in-Some.low.now c.in-Some-get.high.now (subst (IsIndexOf value numbers) (sym c.self.view_is) counts)
    (c.bucket_of-bucket.ensures ∙ ap (bucket_of index.shift index.least) c.number.ensures) next
    (omega (arith, low.3.0, ap length below))
    (low.1 ∙ ap (λ (all : List ℕ). get_or all c.bucket_of-bucket.result c.in-Some.low.now) below)
    (omega (arith, high.3.0, ap length c.deref-2.ensures.value))
    (high.1 ∙ ap (λ (all : List ℕ). get_or all c.saturating_add.result c.in-Some-get.high.now) c.deref-2.ensures.value))
