-- One name after another.
use Rattle.std.proofs.Common.{◌≡◌, ◌++◌, ◌∷◌, []}
use Rattle.std.proofs.lemmas.List.Elements.{All-push}
use Rattle.std.proofs.lemmas.Result.{err_from_is_err_and}
use Rattle.alto_names.specs.Name.{IsAneName, is_pid_byte}
use Rattle.code_bytes.specs.Pieces.{name}
use Rattle.code_bytes.proofs.GrammarLemmas.{read_more, read_stops}
use Rattle.batch_code.specs.Grammar.{AneNames}
use Rattle.batch_code.proofs.KeyLemmas.{ane_grammar, is_text}
use Rattle.batch_code.proofs.value.anes_of.Goals as goal

pub returns-in_err-ane-clause-stops : goal.returns-in_err-ane-clause-stops
returns-in_err-ane-clause-stops c =
    let p = err_from_is_err_and c.from_residual.result c.from_residual.ensures.1 in
    rw (p.1, p.2) (read_stops name AneNames c.args.count c.loop.counter c.args.bytes.now c.loop.names.items
    c.loop.rest.now c.in_err-ane.field-0.0 ane_grammar c.loop-test.true
    c.in_err-ane.ensures.stops c.loop.invariant.read)

pub loop-preserved : goal.loop-preserved
loop-preserved c =
    let items : c.push.new.self.items ≡ c.loop.names.items ++ (c.in_ok-ane.ane ∷ []) = c.in_ok-push.ensures.items in
    rw items (record {
      names = All-push IsAneName c.loop.names.items c.in_ok-ane.ane c.loop.invariant.names c.in_ok-ane.ensures.ok.0;
      read = read_more name AneNames c.args.count c.loop.counter c.args.bytes.now c.loop.names.items c.loop.rest.now
          c.in_ok-ane.ane c.in_ok-ane.after.now ane_grammar
          c.loop-test.true (is_text is_pid_byte 32 c.in_ok-ane.ane c.in_ok-ane.ensures.ok.0) c.in_ok-ane.ensures.ok.1
          c.loop.invariant.read;
    })
