use Rattle.std.proofs.Common.{◌≡◌, ◌+◌, min, sym, ap, ◌∙◌, arith}
use Rattle.je_ast.specs.Types.{type_view}
use Rattle.je_scopes.specs.Scope.{Known}
use Rattle.je_scopes.specs.SourceTypes.{source_type, with_dims}
use Rattle.name_lookup.specs.View.{known_of, part_view}
use Rattle.name_types.specs.View.{base_shown, in_limit}
use Rattle.name_types.proofs.Limits.{with_more}
use Rattle.name_types.proofs.Views.{rolled_is, type_is}
use Rattle.type_faults.specs.Program.{source_in}
use Rattle.declarations.proofs.fields.field_type.Goals as goal

pub returns : goal.returns
returns c =
    let sum : c.min.result ≡ min 255 (c.in_ok-declared.declared.dims + c.args.dims) = omega (arith, c.min.ensures, c.saturating_add.ensures) in
    rolled_is _ ∙ ap (base_shown c.in_ok-declared.declared.base) sum
    ∙ with_more c.in_ok-declared.declared.base (source_type (source_in c.args.program.now) (known_of c.args.program.now.headers.now) c.args.place.class.0 (part_view c.args.place.part) (type_view c.args.ty.now)) c.args.dims c.in_ok-declared.declared.dims
    (sym (type_is c.in_ok-declared.declared) ∙ c.in_ok-declared.ensures)
    ∙ ap (λ (k : Known). in_limit (with_dims (source_type (source_in c.args.program.now) k c.args.place.class.0 (part_view c.args.place.part) (type_view c.args.ty.now)) c.args.dims)) (sym c.args.program.now.settled)
