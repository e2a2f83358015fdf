use Rattle.std.proofs.Common.{◌≤◌, List, length, map, ap, ◌∙◌, arith}
use Rattle.std.proofs.lemmas.List.{take_all}
use Rattle.je_ast.specs.declared.ty_name.TyName.{TyName}
use Rattle.je_ast.specs.Types.{type_view, type_views_of, name_view}
use Rattle.je_scopes.specs.Scope.{meaning}
use Rattle.je_scopes.specs.SourceTypes.{count, source_type, source_types, types_named}
use Rattle.name_sites.specs.View.{source_of}
use Rattle.name_lookup.specs.View.{known_of, look_view, part_view}
use Rattle.name_types.specs.View.{all_in_limit, in_limit, plain_shown}
use Rattle.name_types.proofs.Bases.{plain_base}
use Rattle.name_types.proofs.Named.{primitive_node, class_node, primitive_plain, primitive_shown, class_shown, all_named, count_of_views}
use Rattle.name_types.proofs.Views.{rolled_is}
use Rattle.name_types.proofs.resolving.+resolving.Goals as goal

pub source_type_here-returns-in-Primitive : goal.source_type_here-returns-in-Primitive
source_type_here-returns-in-Primitive t c = rolled_is _
    ∙ primitive_shown (source_of c.args.sites.now) (known_of c.args.headers.now) c.args.place.class.0 (part_view c.args.place.part) _ c.added_dims.result c.in-Primitive.dims c.in-Primitive.primitive c.in-Primitive.span _ c.added_dims.ensures
    (plain_base c.base_of.result c.added_dims.result ∙ ap (λ b. plain_shown b c.added_dims.result) c.base_of.ensures ∙ primitive_plain c.in-Primitive.primitive c.added_dims.result)
    (primitive_node c.args.ty.now c.in-Primitive.primitive c.in-Primitive.dims c.in-Primitive.span c.in-Primitive.is)

pub source_type_here-returns-in_ok-meant-in-Class : goal.source_type_here-returns-in_ok-meant-in-Class
source_type_here-returns-in_ok-meant-in-Class t c = rolled_is _
    ∙ class_shown (source_of c.args.sites.now) (known_of c.args.headers.now) c.args.place.class.0 (part_view c.args.place.part) c.base_for.result c.added_dims-in-Class.result (length c.in_ok-types-in-Class.types.items) c.in-Class.dims
    (look_view c.in_ok-meant-in-Class.meant.look) (name_view c.in-Class.name) (type_views_of c.in-Class.args.items) c.in-Class.span _ c.added_dims-in-Class.ensures
    (c.in_ok-meant-in-Class.ensures.look ∙ ap (meaning (source_of c.args.sites.now) (known_of c.args.headers.now) c.args.place.class.0 (part_view c.args.place.part)) c.as_slice.ensures.value)
    (c.in_ok-types-in-Class.ensures.count ∙ ap (λ (ts : List TyName). count (type_views_of ts)) c.deref.ensures.value)
    (c.base_for.ensures (types_named (source_of c.args.sites.now) (known_of c.args.headers.now) c.args.place.class.0 (part_view c.args.place.part) (type_views_of c.in-Class.args.items)) c.in-Class.dims
    (c.in_ok-types-in-Class.ensures.types ∙ ap (λ (ts : List TyName). all_in_limit (types_named (source_of c.args.sites.now) (known_of c.args.headers.now) c.args.place.class.0 (part_view c.args.place.part) (type_views_of ts))) c.deref.ensures.value))
    (class_node c.args.ty.now c.in-Class.name c.in-Class.args c.in-Class.dims c.in-Class.span c.in-Class.is)

pub types_named-returns-clause-types : goal.types_named-returns-clause-types
types_named-returns-clause-types t c =
    let l : length c.args.args.now ≤ c.loop-arg.arg-index = c.loop-arg-test.false in
    ap source_types (c.loop-arg.invariant.types ∙ ap (map (λ a. in_limit (source_type (source_of c.args.sites.now) (known_of c.args.headers.now) c.args.place.class.0 (part_view c.args.place.part) (type_view a)))) (take_all c.loop-arg.arg-index c.args.args.now l))
    ∙ all_named (source_of c.args.sites.now) (known_of c.args.headers.now) c.args.place.class.0 (part_view c.args.place.part) c.args.args.now

pub types_named-returns-clause-count : goal.types_named-returns-clause-count
types_named-returns-clause-count t c = omega (arith, c.loop-arg.invariant.count, c.loop-arg-test.false, c.loop-arg.auto.arg-index-end, count_of_views c.args.args.now)
