use Rattle.std.proofs.Common.{arith}
use Rattle.std.proofs.lemmas.Str.Pattern.{strip_prefix_char}
use Rattle.json_tree.proofs.pointer.reading.unescaped.Goals as goal

pub returns-in-None : goal.returns-in-None
returns-in-None c =
    record {
      no_tilde = rw c.in_default.is at (strip_prefix_char 48 c.args.text.now c.strip_prefix.result
          c.strip_prefix.ensures.cases (omega arith));
      no_slash = rw c.in-None.is at (strip_prefix_char 49 c.args.text.now c.strip_prefix-2.result
          c.strip_prefix-2.ensures.cases (omega arith));
    }
