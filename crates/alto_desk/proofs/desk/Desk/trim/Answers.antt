-- The keeper's base is that of the trimmed book; a base that stays leaves the book.
use Rattle.std.proofs.Common.{ℤ, w64, map, ap, sym, ◌∙◌, subst, arith, rules}
use Rattle.std.proofs.lemmas.Int.{to_z-of_z}
use Rattle.std.specs.Prelude.{vec_items}
use Rattle.alto_desk.specs.Records.{Backs}
use Rattle.alto_keeper.specs.Stored.{IsKeptOrRebased, LeavesFrom, LeavesOnly, StoredData, rebased}
use Rattle.alto_book.specs.Legal.{IsLegal}
use Rattle.alto_desk.proofs.CrashLemmas.{safe_rebased, safe_unless_rebased}
use Rattle.alto_desk.proofs.TrimLemmas.{backs_trimmed, trim_of}
use Rattle.alto_desk.proofs.desk.Desk.trim.Goals as goal

pub returns-clause-trimmed : goal.returns-clause-trimmed
returns-clause-trimmed g c =
    c.in_ok-ledger.ensures.book
    ∙ trim_of c.args.self.now.ledger.book c.args.keep c.taken_in-count.result c.taken_in-count.ensures.number

pub returns-clause-kept : goal.returns-clause-kept
returns-clause-kept g c = λ clean backed.
    let book = c.args.self.now.ledger.book in
    subst (Backs (g.K.Keeper.holds c.rebase.new.self)) (sym c.in_ok-ledger.ensures.book)
    (backs_trimmed _ _ book c.taken_in-count.result c.number_behind-number.result _
    c.front-version.ensures.legal (omega arith)
    c.taken_in-count.ensures.within c.number_behind-number.ensures.number
    (ap (map vec_items) c.deref.ensures.value ∙ c.in_ok-ledger.ensures.pieces)
    (λ stored held.
    subst (λ (upto : ℤ). g.K.Keeper.holds c.rebase.new.self (rebased (map vec_items c.deref.result.now) upto stored))
    (to_z-of_z w64 c.row_number.result (search rules) ∙ c.row_number.ensures.number)
    (c.in_ok-rebase.ensures.rebased clean stored held))
    backed)

pub returns-clause-safe : goal.returns-clause-safe
returns-clause-safe g c = λ faithful safe.
    let book = c.args.self.now.ledger.book in
    safe_rebased g.K.Keeper c.args.self.now.keeper c.rebase.new.self book _ (returns-clause-kept g c)
    c.in_ok-rebase.ensures.clean safe c.taken_in-count.result c.number_behind-number.result _
    c.front-version.ensures.legal (omega arith)
    c.taken_in-count.ensures.within c.number_behind-number.ensures.number
    (ap (map vec_items) c.deref.ensures.value ∙ c.in_ok-ledger.ensures.pieces) c.in_ok-ledger.ensures.book
    c.front-next.ensures.legal
    (subst (λ (upto : ℤ). g.K.Keeper.is_clean c.args.self.now.keeper
    × ((stored : StoredData) → g.K.Keeper.holds c.args.self.now.keeper stored
    → g.K.Keeper.is_clean c.rebase.new.self
    × LeavesOnly (g.K.Keeper.may_leave c.rebase.new.self) (rebased (map vec_items c.deref.result.now) upto stored)))
    (to_z-of_z w64 c.row_number.result (search rules) ∙ c.row_number.ensures.number)
    (c.in_ok-rebase.ensures.settled faithful))

pub returns-in_err-rebase-clause-safe : goal.returns-in_err-rebase-clause-safe
returns-in_err-rebase-clause-safe g c = λ faithful safe.
    let book = c.args.self.now.ledger.book in
    safe_unless_rebased g.K.Keeper c.args.self.now.keeper c.rebase.new.self book c.front-version.ensures.legal
    c.in_err-rebase.ensures.clean c.in_err-rebase.ensures.refused safe
    c.taken_in-count.result c.number_behind-number.result _ (omega arith)
    c.taken_in-count.ensures.within c.number_behind-number.ensures.number
    (ap (map vec_items) c.deref.ensures.value ∙ c.in_ok-ledger.ensures.pieces)
    (subst IsLegal c.in_ok-ledger.ensures.book c.front-next.ensures.legal)
    (subst (λ (upto : ℤ). LeavesFrom (g.K.Keeper.may_leave c.args.self.now.keeper)
    (g.K.Keeper.holds c.args.self.now.keeper) (g.K.Keeper.is_clean c.args.self.now.keeper)
    (IsKeptOrRebased (map vec_items c.deref.result.now) upto) (g.K.Keeper.may_leave c.rebase.new.self))
    (to_z-of_z w64 c.row_number.result (search rules) ∙ c.row_number.ensures.number)
    (c.in_err-rebase.ensures.left faithful))
