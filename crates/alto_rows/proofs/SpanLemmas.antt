-- Spans are intervals of the order of keys: along rising keys a span stands first behind them, then round them, then
-- before them.
use Rattle.std.proofs.Common.{◌≡◌, ℕ, refl}
use Rattle.std.proofs.lemmas.Cmp.{nat_cmp_total}
use Rattle.std.proofs.lemmas.Map.Lookups.{CmpEqualImpliesEq, exact_unsigned}
use Rattle.std.specs.Prelude.{List}
use Rattle.std.specs.Cmp.{IsTotalOrder}
use Rattle.std.specs.Cmp.Lexicographic.{nat_list_cmp_total}
use Rattle.std.specs.Ordering.{is_eq, nat_cmp, ordering_then}
use Rattle.std.specs.declared.cmp.Ordering.{Ordering}
use Rattle.std.specs.declared.cmp.Ordering.TheVariants.{Less, Equal, Greater}
use Rattle.alto_addr.specs.Order.{prefix_cmp}
use Rattle.alto_rows.specs.declared.entity.Entity.{Entity}
use Rattle.alto_rows.specs.declared.key.Key.{Key}
use Rattle.alto_rows.specs.declared.key.Key.TheVariants as key
use Rattle.alto_rows.specs.declared.span.Span.{Span}
use Rattle.alto_rows.specs.declared.span.Span.TheVariants as span
use Rattle.alto_rows.specs.Order.{name_cmp, entity_cmp, kind_of, fields_cmp, key_cmp}
use Rattle.alto_rows.specs.Span.{is_in, span_cmp, span_kind, span_fields_cmp}
use Rattle.alto_rows.proofs.OrderLemmas.{name_cmp_exact, entity_cmp_exact, entity_cmp_total}
use Rattle.alto_rows.proofs.TouchesLemmas.{both_ties, same_name_ties}

-- ---- a key is in a span where the span ties with it

-- a key is in a span where the span ties with it
pub in_span : (s : Span) (at : Key) → is_in s at ≡ is_eq (span_cmp s at)
unfolding span_cmp
in_span span.Nets (key.Net of) = refl
in_span (span.Pids net) (key.Pid of pid) = same_name_ties net of
in_span (span.Prefixes net) (key.Prefix of pid prefix) = same_name_ties net of
in_span (span.PrefixesOf net pid) (key.Prefix of owner prefix) =
    rw (both_ties (name_cmp net of) (name_cmp pid owner), same_name_ties net of, same_name_ties pid owner) refl
in_span (span.Metrics net) (key.Metric of metric) = same_name_ties net of
in_span (span.Costs net) (key.Cost of metric source destination) = same_name_ties net of
in_span (span.CostsIn net metric) (key.Cost of other source destination) =
    rw (both_ties (name_cmp net of) (name_cmp metric other), same_name_ties net of, same_name_ties metric other) refl
in_span (span.CostsFrom net metric source) (key.Cost of other from destination) =
    rw (
      both_ties (name_cmp net of) (ordering_then (name_cmp metric other) (name_cmp source from)),
      both_ties (name_cmp metric other) (name_cmp source from),
      same_name_ties net of,
      same_name_ties metric other,
      same_name_ties source from,
    ) refl
in_span (span.Props net) (key.Prop of entity name) = same_name_ties net of
in_span (span.PropsOf net entity) (key.Prop of other name) =
    rw (both_ties (name_cmp net of) (entity_cmp entity other), same_name_ties net of) refl
in_span (span.Anes net) (key.Ane of ane) = same_name_ties net of
in_span (span.AneProps net) (key.AneProp of ane name) = same_name_ties net of
in_span (span.AnePropsOf net ane) (key.AneProp of other name) =
    rw (both_ties (name_cmp net of) (name_cmp ane other), same_name_ties net of, same_name_ties ane other) refl
in_span (span.Paths net) (key.Path of source destination) = same_name_ties net of
in_span (span.PathsFrom net source) (key.Path of from destination) =
    rw (both_ties (name_cmp net of) (name_cmp source from), same_name_ties net of, same_name_ties source from) refl
in_span _ _ = refl

-- ---- along rising keys the comparison falls

-- a comparison with a later key isn't above that with an earlier one
pub record Falls (earlier later : Ordering) : Type 0 where
  pub less : earlier ≡ Less → later ≡ Less
  pub greater : later ≡ Greater → earlier ≡ Greater

-- it falls where it stays
falls_stays : (o : Ordering) → Falls o o
falls_stays o = record { less = λ e. e; greater = λ e. e }

-- it falls by a first field, where it falls by what follows in keys that share that field
falls_by : {A : Type 0} (c : A → A → Ordering) → IsTotalOrder c → CmpEqualImpliesEq c
    → (x y z : A) (rest earlier later : Ordering)
    → ordering_then (c y z) rest ≡ Less → (rest ≡ Less → Falls earlier later)
    → Falls (ordering_then (c x y) earlier) (ordering_then (c x z) later)
falls_by c total exact x y z rest earlier later less inner = by (c y z) (c x y) refl refl
  where
    by : (o p : Ordering) → c y z ≡ o → c x y ≡ p → Falls (ordering_then (c x y) earlier) (ordering_then (c x z) later)
    by Less Less e f = let after : c x z ≡ Less = total.trans x y z f e in rw (f, after) (falls_stays Less)
    by Less Equal e f =
        let same : x ≡ y = exact x y f in
        let after : c x z ≡ Less = rw same e in
        rw after (record { less = λ _. refl; greater = λ g. cc })
    by Less Greater e f = rw f (record { less = λ l. cc; greater = λ _. refl })
    by Equal p e f =
        let same : y ≡ z = exact y z e in
        let after : c x z ≡ p = rw (← same) f in
        let below : rest ≡ Less = rw e at less in
        rw (f, after) (falls_then p (inner below))
      where
        falls_then : (p : Ordering) → Falls earlier later → Falls (ordering_then p earlier) (ordering_then p later)
        falls_then Less h = falls_stays Less
        falls_then Equal h = h
        falls_then Greater h = falls_stays Greater
    by Greater p e f = cc

-- nothing after a comparison leaves it
then_equal : (o : Ordering) → ordering_then o Equal ≡ o
then_equal Less = refl
then_equal Equal = refl
then_equal Greater = refl

-- by names, and then by what follows
falls_by_name : (x y z : List ℕ) (rest earlier later : Ordering) → ordering_then (name_cmp y z) rest ≡ Less
    → (rest ≡ Less → Falls earlier later)
    → Falls (ordering_then (name_cmp x y) earlier) (ordering_then (name_cmp x z) later)
falls_by_name = falls_by name_cmp nat_list_cmp_total name_cmp_exact

-- by names alone
falls_at_name : (x y z : List ℕ) (rest : Ordering) → ordering_then (name_cmp y z) rest ≡ Less
    → Falls (name_cmp x y) (name_cmp x z)
falls_at_name x y z rest less =
    let both : Falls (ordering_then (name_cmp x y) Equal) (ordering_then (name_cmp x z) Equal) =
    falls_by_name x y z rest Equal Equal less (λ _. falls_stays Equal) in
    rw (then_equal (name_cmp x y), then_equal (name_cmp x z)) at both

-- by entities alone
falls_at_entity : (x y z : Entity) (rest : Ordering) → ordering_then (entity_cmp y z) rest ≡ Less
    → Falls (entity_cmp x y) (entity_cmp x z)
falls_at_entity x y z rest less =
    let both : Falls (ordering_then (entity_cmp x y) Equal) (ordering_then (entity_cmp x z) Equal) =
    falls_by entity_cmp entity_cmp_total entity_cmp_exact x y z rest Equal Equal less (λ _. falls_stays Equal) in
    rw (then_equal (entity_cmp x y), then_equal (entity_cmp x z)) at both

-- along rising keys of one kind the comparison of the first fields falls
fields_fall : (a b : Key) → fields_cmp a b ≡ Less → (s : Span) → Falls (span_fields_cmp s a) (span_fields_cmp s b)
fields_fall (key.Net a) (key.Net b) less = by
  where
    by : (s : Span) → Falls (span_fields_cmp s (key.Net a)) (span_fields_cmp s (key.Net b))
    by span.Nets = falls_stays Equal
    by _ = falls_stays Equal
fields_fall (key.Pid a p) (key.Pid b q) less = by
  where
    by : (s : Span) → Falls (span_fields_cmp s (key.Pid a p)) (span_fields_cmp s (key.Pid b q))
    by (span.Pids net) = falls_at_name net a b (name_cmp p q) less
    by _ = falls_stays Equal
fields_fall (key.Prefix a p x) (key.Prefix b q y) less = by
  where
    by : (s : Span) → Falls (span_fields_cmp s (key.Prefix a p x)) (span_fields_cmp s (key.Prefix b q y))
    by (span.Prefixes net) = falls_at_name net a b _ less
    by (span.PrefixesOf net pid) = falls_by_name net a b _ _ _ less (falls_at_name pid p q (prefix_cmp x y))
    by _ = falls_stays Equal
fields_fall (key.Metric a m) (key.Metric b n) less = by
  where
    by : (s : Span) → Falls (span_fields_cmp s (key.Metric a m)) (span_fields_cmp s (key.Metric b n))
    by (span.Metrics net) = falls_at_name net a b (name_cmp m n) less
    by _ = falls_stays Equal
fields_fall (key.Cost a m c d) (key.Cost b n t e) less = by
  where
    by : (s : Span) → Falls (span_fields_cmp s (key.Cost a m c d)) (span_fields_cmp s (key.Cost b n t e))
    by (span.Costs net) = falls_at_name net a b _ less
    by (span.CostsIn net metric) = falls_by_name net a b _ _ _ less (falls_at_name metric m n _)
    by (span.CostsFrom net metric source) =
        falls_by_name net a b _ _ _ less
        (λ more. falls_by_name metric m n _ _ _ more (falls_at_name source c t (name_cmp d e)))
    by _ = falls_stays Equal
fields_fall (key.Prop a x p) (key.Prop b y q) less = by
  where
    by : (s : Span) → Falls (span_fields_cmp s (key.Prop a x p)) (span_fields_cmp s (key.Prop b y q))
    by (span.Props net) = falls_at_name net a b _ less
    by (span.PropsOf net entity) = falls_by_name net a b _ _ _ less (falls_at_entity entity x y (name_cmp p q))
    by _ = falls_stays Equal
fields_fall (key.Ane a x) (key.Ane b y) less = by
  where
    by : (s : Span) → Falls (span_fields_cmp s (key.Ane a x)) (span_fields_cmp s (key.Ane b y))
    by (span.Anes net) = falls_at_name net a b (name_cmp x y) less
    by _ = falls_stays Equal
fields_fall (key.AneProp a x p) (key.AneProp b y q) less = by
  where
    by : (s : Span) → Falls (span_fields_cmp s (key.AneProp a x p)) (span_fields_cmp s (key.AneProp b y q))
    by (span.AneProps net) = falls_at_name net a b _ less
    by (span.AnePropsOf net ane) = falls_by_name net a b _ _ _ less (falls_at_name ane x y (name_cmp p q))
    by _ = falls_stays Equal
fields_fall (key.Path a c d) (key.Path b t e) less = by
  where
    by : (s : Span) → Falls (span_fields_cmp s (key.Path a c d)) (span_fields_cmp s (key.Path b t e))
    by (span.Paths net) = falls_at_name net a b _ less
    by (span.PathsFrom net source) = falls_by_name net a b _ _ _ less (falls_at_name source c t (name_cmp d e))
    by _ = falls_stays Equal
fields_fall (key.Seq a) (key.Seq b) less = by
  where
    by : (s : Span) → Falls (span_fields_cmp s (key.Seq a)) (span_fields_cmp s (key.Seq b))
    by span.Nets = falls_stays Equal
    by _ = falls_stays Equal
fields_fall _ _ less = λ s. cc

-- along rising keys the comparison with a span falls
pub span_falls : (s : Span) (a b : Key) → key_cmp a b ≡ Less → Falls (span_cmp s a) (span_cmp s b)
unfolding span_cmp key_cmp
span_falls s a b less =
    falls_by nat_cmp nat_cmp_total exact_unsigned (span_kind s) (kind_of a) (kind_of b) (fields_cmp a b)
    (span_fields_cmp s a) (span_fields_cmp s b) less (λ fields. fields_fall a b fields s)
