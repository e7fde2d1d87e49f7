use Rattle.std.proofs.Common.{◌∙◌, sym, subst}
use Rattle.alto_versions.proofs.PrefixLemmas.{prefixes_distinct}
use Rattle.alto_versions.proofs.tables.built.Goals as goal
use Rattle.pid_prefix.specs.Longest.{AreDistinct}

pub build-requires : goal.build-requires
build-requires g c =
    subst AreDistinct (sym (c.deref.ensures.value ∙ c.in_ok-prefixes.ensures))
    (prefixes_distinct (g.R.RowStore.rows c.args.rows.now) c.args.net.now c.requires)
