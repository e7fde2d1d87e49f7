use Rattle.std.proofs.Common.{◌≡◌, ◌+◌, ◌-◌, ◌++◌, ◌∙◌, ap, length, take, slice_range, arith}
use Rattle.std.specs.Vec.{with_items}
use Rattle.std.proofs.lemmas.List.{with_items_is}
use Rattle.alto_http.proofs.Ranges.{refilled}
use Rattle.alto_http.proofs.intake.Intake.fill.Goals as goal

pub returns-clause-ahead : goal.returns-clause-ahead
returns-clause-ahead g c =
    let i = c.self.inside in
    let k = c.in_ok-count.count in
    let kept = i.end - i.start in
    let moved = c.move_to_front.new.buffer in
    let read = c.read_behind.new.buffer in
    let moved_long : length moved ≡ i.buffer.len =
    omega (arith, c.deref_mut.ensures.len, c.move_to_front.auto.buffer) in
    let read_long : length read ≡ i.buffer.len = omega (arith, c.deref_mut-2.ensures.len, c.read_behind.auto.buffer) in
    let same : c.deref_mut-2.result.now ≡ moved = c.deref_mut-2.ensures.value
    ∙ with_items_is i.buffer moved moved_long in
    let front : take kept read ≡ take kept moved = c.read_behind.ensures.front ∙ ap (take kept) same in
    let first : take kept moved ≡ slice_range i.buffer.items i.start i.end =
    c.move_to_front.ensures ∙ ap (λ xs. slice_range xs i.start i.end) c.deref_mut.ensures.value in
    record {
      piece = slice_range read kept (kept + k);
      behind = ap (λ xs. slice_range xs 0 (kept + k)) (with_items_is (with_items i.buffer moved) read read_long)
          ∙ refilled i.buffer.items moved read i.start i.end k first front
          ∙ ap (λ xs. xs ++ slice_range read kept (kept + k)) c.self.view_is;
      given = c.in_ok-count.ensures.given;
    }
