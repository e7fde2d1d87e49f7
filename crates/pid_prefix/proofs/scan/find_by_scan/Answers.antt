use Rattle.std.proofs.Common.{rules, ◌≡◌, ◌≤◌, Some, List, ℕ, option_copied, length, ap, sym, ◌∙◌, take, Option}
use Rattle.std.proofs.lemmas.List.{take_all}
use Rattle.std.specs.Option.{option_map}
use Rattle.alto_addr.specs.declared.addr.Addr.{Addr}
use Rattle.pid_prefix.specs.Longest.{Row, IsHeldBy, longer, longest_prefix, holding}
use Rattle.pid_prefix.proofs.LongestLemmas.{longest, longest-held, longest-passed}
use Rattle.pid_prefix.proofs.scan.find_by_scan.Goals as goal
use Rattle.pid_prefix.proofs.scan.find_by_scan.Goals.{then-holds, else-holds}

pub loop-row-preserved : goal.loop-row-preserved
loop-row-preserved c =
    let rows = c.args.prefixes.now in
    let row = c.row-item.result in
    elim c.if-holds.branch [
      | then-holds w ↦
          let held : IsHeldBy c.args.addr.now row = search rules in
          ap option_copied w.longest-is ∙ (ap (λ (r : Row). Some r) (w.longer.ensures
          ∙ ap (λ best. longer best row) c.loop-row.invariant)
          ∙ longest-held rows c.args.addr.now c.loop-row.row-index row c.loop-row-test.true c.row-item.is held)
      | else-holds w ↦
          let passed : IsHeldBy c.args.addr.now row → ⊥ = search rules in
          ap option_copied w.longest-is ∙ (c.loop-row.invariant
          ∙ longest-passed rows c.args.addr.now c.loop-row.row-index row c.loop-row-test.true c.row-item.is passed)
    ]

-- the longest of all rows that hold the address
scanned : (rows : List Row) (addr : Addr) (i : ℕ) (best : Option Row) → length rows ≤ i
    → best ≡ longest (holding (take i rows) addr)
    → option_map (λ row. row.1) best ≡ longest_prefix rows addr
unfolding longest_prefix
scanned rows addr i best past e =
    ap (option_map (λ row. row.1)) (e ∙ ap (λ all. longest (holding all addr)) (take_all i rows past))

pub returns-in_err-row : goal.returns-in_err-row
returns-in_err-row c =
    ap option_copied c.from_residual.ensures
    ∙ (ap (λ o. option_map (λ row. row.1) (option_copied o)) (sym c.in_err-row.was)
    ∙ scanned c.args.prefixes.now c.args.addr.now c.loop-row.row-index (option_copied c.loop-row.longest)
    c.loop-row-test.false c.loop-row.invariant)

pub returns : goal.returns
returns c =
    ap (λ o. option_map (λ row. row.1) (option_copied o)) (sym c.in_ok-row.was)
    ∙ scanned c.args.prefixes.now c.args.addr.now c.loop-row.row-index (option_copied c.loop-row.longest)
    c.loop-row-test.false c.loop-row.invariant
