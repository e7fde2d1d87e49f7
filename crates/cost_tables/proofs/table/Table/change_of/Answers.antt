-- Whether its costs are overwritten or read, they are those of the rows.
use Rattle.std.proofs.Common.{ℕ, List, ◌++◌, ◌∙◌, ap, inl, subst, sym, IfOk, Result, Ok, Err}
use Rattle.std.specs.Prelude.{IfSome, Option, Some, None}
use Rattle.std.specs.List.{AllByRecursion}
use Rattle.cost_tables.specs.Lists.{HasNumber, IsNumberedBehind, Listed}
use Rattle.cost_tables.specs.Renewed.{put}
use Rattle.cost_tables.specs.Tables.{Name, cost_to}
use Rattle.cost_tables.proofs.FromLemmas.{cost_to-costs_from}
use Rattle.cost_tables.proofs.ListLemmas.{all_left, shared_or_new}
use Rattle.cost_tables.proofs.table.Table.change_of.Goals as goal
use Rattle.shared_list.specs.Changed.{Change}

-- what follows of a change
if_made : {E : Type 0} (P Q : Change (Name × Listed) → Type 0) → ((x : Change (Name × Listed)) → P x → Q x)
    → (r : Result (Change (Name × Listed)) E) → IfOk r P → IfOk r Q
if_made P Q give (Ok x) holds = give x holds
if_made P Q give (Err e) holds = tt

-- and of its source
if_put : (P Q : Name × Listed → Type 0) → ((x : Name × Listed) → P x → Q x) → (item : Option (Name × Listed))
    → IfSome item P → IfSome item Q
if_put P Q give None holds = tt
if_put P Q give (Some x) holds = give x holds

pub returns-in-Some-clause-list : goal.returns-in-Some-clause-list
returns-in-Some-clause-list g c =
    let sources = c.args.self.now ++ put c.args.changes.now in
    let shared : (names_of : ℕ → List Name) (next : ℕ)
    → AllByRecursion (λ from. HasNumber names_of next from.1) c.args.self.now
    → HasNumber names_of next c.in-Some.from.1 =
    rw c.in-Some.is at c.in_ok-from.ensures.list in
    subst (λ (change : Change (Name × Listed)). IfSome change.1 (λ from. IsNumberedBehind sources c.args.number from.1))
    (sym c.new.ensures)
    (λ names_of each. inl (shared names_of c.args.number (all_left _ c.args.self.now (put c.args.changes.now) each)))

pub returns-clause-costs : goal.returns-clause-costs
returns-clause-costs g c =
    let rows = g.R.RowStore.rows c.args.rows.now in
    let net = c.args.net.now in
    let metric = c.args.metric.now in
    let src = c.args.source.now in
    if_made _ _
    (λ change told before came dst.
    ap (λ costs. cost_to costs dst) told ∙ cost_to-costs_from rows net metric src dst c.requires)
    c.change_read.result c.change_read.ensures.costs

pub returns-clause-list : goal.returns-clause-list
returns-clause-list g c =
    let sources = c.args.self.now ++ put c.args.changes.now in
    if_made _ _
    (λ change shared.
    if_put _ _ (λ from own. shared_or_new c.args.number sources from.1 c.like-like.result c.like-like.ensures own)
    change.1 shared) c.change_read.result c.change_read.ensures.list
