use Rattle.std.proofs.Common.{refl}
use Rattle.clap.proofs.OnLiterals.{clap_on_literals}
use Rattle.alto_words.proofs.worked_lines.numbers_are_digits_in_a_range.Goals as goal

pub returns : goal.returns
unfolding clap_on_literals
returns c = record {
  zeros = refl;
  least = refl;
  greatest = refl;
  none_kept = refl;
  most_kept = refl;
  no_digit = refl;
  eleven_digits = refl;
  sign = refl;
  letter = refl;
  turns = refl;
  narrow = refl;
  wide = refl;
  past_32_bits = refl;
  no_workers = refl;
  many_workers = refl;
  no_batches = refl;
  many_batches = refl;
  number_past_32_bits = refl;
  no_window = refl;
  more_kept = refl;
}
