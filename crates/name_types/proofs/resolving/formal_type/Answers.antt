use Rattle.std.proofs.Common.{sym, ap, ◌∙◌}
use Rattle.je_ast.specs.Types.{type_view}
use Rattle.je_scopes.specs.SourceTypes.{source_type}
use Rattle.name_sites.specs.View.{source_of}
use Rattle.name_lookup.specs.View.{known_of, part_view}
use Rattle.name_types.specs.View.{base_shown}
use Rattle.name_types.proofs.Limits.{with_more}
use Rattle.name_types.proofs.Views.{rolled_is, type_is}
use Rattle.name_types.proofs.resolving.formal_type.Goals as goal

pub returns : goal.returns
returns c = rolled_is _ ∙ ap (base_shown c.in_ok-declared.declared.base) c.added_dims.ensures
    ∙ with_more c.in_ok-declared.declared.base (source_type (source_of c.args.sites.now) (known_of c.args.headers.now) c.args.place.class.0 (part_view c.args.place.part) (type_view c.args.formal.now.ty)) c.args.formal.now.dims c.in_ok-declared.declared.dims
    (sym (type_is c.in_ok-declared.declared) ∙ c.in_ok-declared.ensures)
