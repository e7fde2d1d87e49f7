-- What a draft keeps stays true under a write.
use Rattle.std.proofs.Common.{◌≡◌, sym}
use Rattle.std.proofs.lemmas.List.Sums.{fold-append}
use Rattle.std.specs.Prelude.{true, List, [], ◌∷◌, ◌++◌, Option, Some, None, is_some}
use Rattle.alto_rows.specs.declared.key.Key.{Key}
use Rattle.alto_rows.specs.declared.value.Value.{Value}
use Rattle.alto_rows.specs.declared.write.Write.{Write}
use Rattle.alto_rows.specs.Rows.{Rows, after}
use Rattle.alto_rows.proofs.WriteLemmas.{after-push, sorted_after}
use Rattle.alto_rules.specs.declared.kept.Kept.{Kept}
use Rattle.alto_rules.specs.Draft.{GivesAlone, writing}
use Rattle.alto_rules.specs.Kept.{HasKept, IsDraft, had_row, last_key}
use Rattle.alto_rules.proofs.IndexLemmas.{indexed_more}
use Rattle.alto_rules.proofs.OwnerLemmas.{owners_more}
use Rattle.alto_rules.proofs.SizeLemmas.{sizes_more}

-- writes that end in one have its key last
last_key-push : (writes : List Write) (last : Write) → last_key (writes ++ last ∷ []) ≡ Some last.key
last_key-push writes last = fold-append (λ (_ : Option Key) (write : Write). Some write.key) None writes (last ∷ [])

pub draft_more : (rows : Rows) (writes : List Write) (at : Key) (v : Option Value) (kept later : Kept)
    → IsDraft rows writes kept → (is_some v ≡ true → GivesAlone (after rows writes) at)
    → HasKept rows at (is_some v) kept later → IsDraft rows (writes ++ writing at v ∷ []) later
draft_more rows writes at v kept later old alone more = record {
  sorted = old.sorted;
  one_owner = old.one_owner;
  indexed =
      indexed_more rows writes at v kept.index.written later.index.written kept.index.parts later.index.parts old.sorted
      old.indexed more.written more.parts;
  run = rw (last_key-push writes (writing at v)) more.run;
  pids = rw more.pids old.pids;
  sized =
      rw (after-push rows writes (writing at v))
      (sizes_more rows (after rows writes) at v (had_row rows kept at) kept.sizes.total later.sizes.total
      kept.sizes.counts later.sizes.counts
      (sorted_after rows writes old.sorted) (sym (old.indexed.rows_at at)) old.sized more.total more.counts);
  owned =
      rw (after-push rows writes (writing at v), more.known)
      (owners_more rows (after rows writes) at v (had_row rows kept at) kept.owners.of later.owners.of
      kept.owners.known old.one_owner
      (sorted_after rows writes old.sorted) (sym (old.indexed.rows_at at)) alone old.owned more.changed);
}
