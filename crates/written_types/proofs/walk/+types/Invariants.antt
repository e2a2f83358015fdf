use Rattle.std.proofs.Common.{◌≡◌, drop}
use Rattle.je_ast.specs.Types.{type_views_of}
use Rattle.source_subtypes.specs.View.{heads_of}
use Rattle.header_typing.specs.WrittenTypes.{all_well_written}
use Rattle.written_types.specs.Meaning.{means}
use Rattle.written_types.proofs.walk.+types.Given as goal

abbrev pub invariant-judge_types-loop-ty : goal.invariant-judge_types-loop-ty
invariant-judge_types-loop-ty l =
    all_well_written (heads_of l.all.heads.now) (means l.all l.place) (type_views_of l.types)
    ≡ all_well_written (heads_of l.all.heads.now) (means l.all l.place) (type_views_of (drop l.ty-index l.types))
