use Rattle.std.proofs.Common.{◌≡◌, ◌-◌, ◌==◌, if◌then◌else◌, ap, ◌∙◌, sym, arith}
use Rattle.alto_book.specs.Book.{opening_book}
use Rattle.alto_drill.specs.Draws.{state_after}
use Rattle.alto_drill.specs.Imports.{drill_book}
use Rattle.alto_drill.proofs.BookLemmas.{drill_book-none, drill_goes_on, next_start, state_after-none}
use Rattle.alto_drill.proofs.EditLemmas.{import_fits}
use Rattle.alto_drill.proofs.desk.drilled_desk.Goals as goal

pub loop-k-init : goal.loop-k-init
loop-k-init g c = record {
  state = c.new-draws.ensures ∙ state_after-none c.args.number;
  book = c.in_ok-desk.ensures ∙ ap (λ epoch. opening_book epoch 8) c.in_ok-epoch.ensures
      ∙ sym (drill_book-none c.args.number);
}

pub accept-requires : goal.accept-requires
accept-requires g c = import_fits _ c.loop-k.draws.state c.loop-k.k (omega arith) c.in_ok-command.ensures.import

pub loop-k-preserved : goal.loop-k-preserved
loop-k-preserved g c = record {
  state =
      c.in_ok-command.ensures.state
      ∙ ap (λ x. if c.loop-k.k == 1 then x else state_after x 6) c.loop-k.invariant.state
      ∙ next_start c.args.number c.loop-k.k (omega arith);
  book = drill_goes_on c.args.number c.loop-k.k c.loop-k.draws.state _ _ _ (omega arith) c.loop-k.invariant.state
      c.loop-k.invariant.book c.in_ok-command.ensures.import
      c.in_ok-accept.ensures;
}

pub returns : goal.returns
returns g c =
    let last : c.loop-k.k - 1 ≡ c.args.batches = omega arith in
    c.loop-k.invariant.book ∙ ap (drill_book c.args.number) last
