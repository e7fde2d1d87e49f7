use Rattle.alto_desk.specs.Records.{Backs}
use Rattle.alto_service.proofs.serving.serve_desk.Given as goal

-- the history that was just begun, over the book of the desk and its records as they are
abbrev pub ghosts-serve_doors : goal.ghosts-serve_doors
ghosts-serve_doors g a = record {
  name = a.history;
  opening = a.desk.ledger.book;
  was_clean = g.K.Keeper.is_clean a.desk.keeper;
  backed = Backs (g.K.Keeper.holds a.desk.keeper) a.desk.ledger.book;
}
