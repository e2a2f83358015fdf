use Rattle.std.proofs.Common.{map, sym, subst}
use Rattle.je_ast.specs.View.{unit_view}
use Rattle.je_scopes.specs.Laws.{HasLibrary}
use Rattle.je_names.proofs.declaring.declare.Goals as goal

pub settle-requires : goal.settle-requires
settle-requires c = subst HasLibrary (sym c.in_ok-sites.ensures) (c.dependence_is_decided.ensures.library c.args.names.now (map unit_view c.args.units.now))

pub judge-requires-clause-library : goal.judge-requires-clause-library
judge-requires-clause-library c = subst HasLibrary (sym c.in_ok-sites.ensures) (c.dependence_is_decided.ensures.library c.args.names.now (map unit_view c.args.units.now))
