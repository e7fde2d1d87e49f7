-- The pairs of keys that rise stand by source, then by destination.
use Rattle.std.proofs.Common.{◌≡◌, refl, ◌∙◌, sym}
use Rattle.std.proofs.lemmas.Cmp.{nat_list_cmp_total, tied_itself}
use Rattle.std.specs.Prelude.{Bool, true, false, List, [], ◌∷◌}
use Rattle.std.specs.List.{AllByRecursion}
use Rattle.std.specs.List.Sorted.{IsStrictlySortedBy}
use Rattle.std.specs.Ordering.{is_gt, ordering_then}
use Rattle.std.specs.declared.cmp.Ordering.{Ordering}
use Rattle.std.specs.declared.cmp.Ordering.TheVariants.{Less, Equal, Greater}
use Rattle.alto_rows.specs.declared.key.Key.{Key}
use Rattle.alto_rows.specs.declared.key.Key.TheVariants as key
use Rattle.alto_rows.specs.Order.{key_cmp, name_cmp, same_name}
use Rattle.alto_rows.proofs.TouchesLemmas.{one_name}
use Rattle.alto_maps.specs.Shape.{Name}
use Rattle.edge_text.specs.Pairs.{Pair, pairs_of}

-- pairs by source, then by destination
abbrev pub pair_cmp : Pair → Pair → Ordering
pair_cmp p q = ordering_then (name_cmp p.0 q.0) (name_cmp p.1 q.1)

-- all these pairs are behind one
abbrev pub AreBehind : Pair → List Pair → Type 0
AreBehind p pairs = AllByRecursion (λ q. pair_cmp p q ≡ Less) pairs

-- each pair is before those that follow it
abbrev pub Stand : List Pair → Type 0
Stand [] = Unit {0}
Stand (p ∷ pairs) = AreBehind p pairs × Stand pairs

-- ---- the pairs of keys

-- the keys of two costs in a metric stand as their pairs
by_pair : (net metric src from dst to : Name)
    → key_cmp (key.Cost net metric src dst) (key.Cost net metric from to) ≡ pair_cmp (src, dst) (from, to)
unfolding key_cmp
by_pair net metric src from dst to = rw (tied_itself nat_list_cmp_total net, tied_itself nat_list_cmp_total metric) refl

behind : (net metric src dst : Name) (keys : List Key)
    → AllByRecursion (λ at. key_cmp (key.Cost net metric src dst) at ≡ Less) keys
    → AreBehind (src, dst) (pairs_of net metric keys)
behind net metric src dst [] past = tt
behind net metric src dst (key.Cost of kind from to ∷ keys) past =
    by (same_name net of) (same_name metric kind) refl refl (behind net metric src dst keys past.1)
  where
    by : (a b : Bool) → same_name net of ≡ a → same_name metric kind ≡ b
        → AreBehind (src, dst) (pairs_of net metric keys)
        → AreBehind (src, dst) (pairs_of net metric (key.Cost of kind from to ∷ keys))
    by true true e f below =
        let less : key_cmp (key.Cost net metric src dst) (key.Cost net metric from to) ≡ Less =
        rw (← one_name net of e, ← one_name metric kind f) at past.0 in
        rw (e, f) (sym (by_pair net metric src from dst to) ∙ less, below)
    by true false e f below = rw (e, f) below
    by false b e f below = rw e below
behind net metric src dst (_ ∷ keys) past = behind net metric src dst keys past.1

pub pairs_stand : (net metric : Name) (keys : List Key) → IsStrictlySortedBy key_cmp keys
    → Stand (pairs_of net metric keys)
unfolding IsStrictlySortedBy
pairs_stand net metric [] rising = tt
pairs_stand net metric (key.Cost of kind from to ∷ keys) rising =
    by (same_name net of) (same_name metric kind) refl refl (pairs_stand net metric keys rising.1)
  where
    by : (a b : Bool) → same_name net of ≡ a → same_name metric kind ≡ b → Stand (pairs_of net metric keys)
        → Stand (pairs_of net metric (key.Cost of kind from to ∷ keys))
    by true true e f below =
        let past : AllByRecursion (λ at. key_cmp (key.Cost net metric from to) at ≡ Less) keys =
        rw (← one_name net of e, ← one_name metric kind f) at rising.0 in
        rw (e, f) (behind net metric from to keys past, below)
    by true false e f below = rw (e, f) below
    by false b e f below = rw e below
pairs_stand net metric (_ ∷ keys) rising = pairs_stand net metric keys rising.1

-- ---- what pairs that stand so have

-- no source is before that of an earlier pair
pub source_from : (p q : Pair) → pair_cmp p q ≡ Less → is_gt (name_cmp p.0 q.0) ≡ false
source_from p q less = by (name_cmp p.0 q.0) refl less
  where
    by : (o : Ordering) → name_cmp p.0 q.0 ≡ o → ordering_then (name_cmp p.0 q.0) (name_cmp p.1 q.1) ≡ Less
        → is_gt (name_cmp p.0 q.0) ≡ false
    by Less e h = rw e refl
    by Equal e h = rw e refl
    by Greater e h = let both : ordering_then Greater (name_cmp p.1 q.1) ≡ Less = rw e at h in cc

-- of one source the destinations are above
pub destination_above : (src dst to : Name) → pair_cmp (src, dst) (src, to) ≡ Less → name_cmp dst to ≡ Less
destination_above src dst to less = rw (tied_itself nat_list_cmp_total src) at less
