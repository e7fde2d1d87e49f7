use Rattle.std.proofs.Common.{rules}
use Rattle.std.proofs.lemmas.Result.{on_ok_weaker}
use Rattle.alto_maps.proofs.WritingLemmas.{section_first, section_alone, meta_first}
use Rattle.alto_maps.proofs.writing.write_members.Goals as goal

pub returns-in_ok-write_section-in-Less : goal.returns-in_ok-write_section-in-Less
returns-in_ok-write_section-in-Less g c =
    on_ok_weaker c.write_meta.result (section_first _ _ _ _ _ _ (search rules) c.in_ok-write_section-in-Less.ensures)
    c.write_meta.ensures

pub returns-in-Equal : goal.returns-in-Equal
returns-in-Equal g c = on_ok_weaker c.write_section-in-Equal.result (section_alone _ _ _ _ _ (search rules))
    c.write_section-in-Equal.ensures

pub returns-in_ok-write_meta-in-Greater : goal.returns-in_ok-write_meta-in-Greater
returns-in_ok-write_meta-in-Greater g c =
    on_ok_weaker c.write_section-in-Greater.result
    (meta_first _ _ _ _ _ _ (search rules) c.in_ok-write_meta-in-Greater.ensures) c.write_section-in-Greater.ensures
