use Rattle.std.proofs.Common.{sym, ap, ◌∙◌}
use Rattle.name_lookup.specs.View.{numbers, reading_view}
use Rattle.name_lookup.proofs.Tables.{more-settling}
use Rattle.name_sites.specs.View.{source_of}
use Rattle.name_lookup.proofs.headers.Headers.read_header.Goals as goal

pub returns-in-Supers-clause-settling : goal.returns-in-Supers-clause-settling
returns-in-Supers-clause-settling c = more-settling (source_of c.args.sites.now) c.args.self.now c.settle.new.self c.args.class.0 (numbers c.in-Supers.supers.items) c.requires.library c.requires.settling c.settle.ensures.whole
    (sym c.in_ok-read.ensures ∙ ap reading_view c.in-Supers.is) c.settle.ensures.here c.settle.ensures.others
