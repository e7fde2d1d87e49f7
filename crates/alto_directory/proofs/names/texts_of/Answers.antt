use Rattle.std.proofs.Common.{◌≡◌, refl}
use Rattle.alto_directory.proofs.names.texts_of.Goals as goal

pub loop-name-init : goal.loop-name-init
loop-name-init c =
    let all : c.into_iter-name-iterator.result ≡ c.args.names.keys =
    c.into_iter-name-iterator.ensures.into_iter_gives.0 in
    rw (c.in_ok-texts.ensures.items, all) refl
