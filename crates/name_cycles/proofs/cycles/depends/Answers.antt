use Rattle.std.specs.Prelude.{◌≡◌, ◌↔◌, IsTrue}
use Rattle.std.proofs.lemmas.Result.{IfOk-weaker}
use Rattle.je_scopes.specs.Settled as specs
use Rattle.scope_laws.specs.Ways.{Leads}
use Rattle.name_sites.specs.View.{source_of}
use Rattle.name_cycles.specs.Graph.{depends_on}
use Rattle.name_cycles.proofs.Graphs.{leading_depends, leads_within}
use Rattle.name_cycles.proofs.cycles.depends.Goals as goal

pub leads-requires : goal.leads-requires
leads-requires c = record { within = leads_within (source_of c.args.sites.now) c.args.graph.now c.requires.library c.requires.fits }

pub returns : goal.returns
returns c = IfOk-weaker c.leads.result (λ b. IsTrue b ↔ Leads (depends_on c.args.graph.now) c.args.class.0 c.args.other.0) (λ b. b ≡ specs.depends (source_of c.args.sites.now) c.args.class.0 c.args.other.0)
    (λ b h. leading_depends (source_of c.args.sites.now) c.args.graph.now c.requires.fits c.args.class.0 c.args.other.0 b h) c.leads.ensures
