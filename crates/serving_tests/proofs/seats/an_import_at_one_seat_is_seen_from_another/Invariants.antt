use Rattle.alto_desk.specs.Records.{Backs}
use Rattle.alto_keeper.specs.contracts.mem_keeper.MemKeeperKeeper.TheImpl as kept
use Rattle.serving_tests.proofs.seats.an_import_at_one_seat_is_seen_from_another.Given as goal

-- the history that was just begun, over the desk's book, with the records as they are
abbrev pub ghosts-seen_from_another : goal.ghosts-seen_from_another
ghosts-seen_from_another g a =
    record {
      name = a.history;
      opening = a.desk.ledger.book;
      was_clean = Unit {0};
      backed = Backs (kept.ghosts.holds a.desk.keeper) a.desk.ledger.book;
    }
