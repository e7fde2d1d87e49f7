use Rattle.std.proofs.Common.{◌≡◌, ◌++◌, arith, sym, ap, length, length-append}
use Rattle.std.proofs.lemmas.List.{take-append-drop}
use Rattle.code_bytes.proofs.NameLemmas.{are_letters, bad_letter}
use Rattle.code_bytes.proofs.name.letters.Goals as goal

pub returns-in-Some-clause-stops : goal.returns-in-Some-clause-stops
returns-in-Some-clause-stops g c =
    let split : c.args.bytes.now ≡ c.split_at.result.0.now ++ c.split_at.result.1.now =
    rw (c.split_at.ensures.front, c.split_at.ensures.back) (sym (take-append-drop c.args.count c.args.bytes.now)) in
    bad_letter g.K.Kind.alphabet g.K.Kind.LEAST c.args.bytes.now c.split_at.result.0.now c.split_at.result.1.now
    c.args.count c.in-Some.place _ g.met.K.Kind.has_least
    (omega (arith, c.split_at.ensures.front_len)) split c.in-Some.ensures.place
    (omega (
      arith,
      c.in-Some.ensures.within,
      ap length split,
      length-append c.split_at.result.0.now
          c.split_at.result.1.now,
    ))

pub returns-in-None-clause-ok : goal.returns-in-None-clause-ok
returns-in-None-clause-ok g c = (
  are_letters g.K.Kind.alphabet c.args.count c.split_at.result.0.now c.split_at.ensures.front_len
      c.in-None.ensures.place,
  rw (c.split_at.ensures.front, c.split_at.ensures.back) (sym (take-append-drop c.args.count c.args.bytes.now)),
)
