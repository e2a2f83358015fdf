use Rattle.std.proofs.Common.{◌+◌, List, [], ◌∷◌, ◌++◌, None, drop, map, sym, ap, ◌∙◌, append_assoc, arith}
use Rattle.std.specs.Prelude.{Option, option_map}
use Rattle.std.proofs.lemmas.List.{map-append}
use Rattle.je_core.specs.Core.{Core}
use Rattle.je_core.specs.View.{view}
use Rattle.type_decl.specs.way.Walks.{no_constant}
use Rattle.type_decl.proofs.Nones.{none_more}
use Rattle.type_decl.proofs.enums.no_constants.Goals as goal

pub loop-constant-preserved : goal.loop-constant-preserved
loop-constant-preserved c =
    let rest : List (Option Core) = map (no_constant c.args.walk) (drop (c.loop-constant.constant-index + 1) c.args.constants.now) in
    ap (λ (all : List (Option Core)). all ++ rest) (ap (map (option_map view)) c.in_ok-push.ensures.items ∙ map-append (option_map view) c.loop-constant.all.items (None ∷ []))
    ∙ append_assoc (map (option_map view) c.loop-constant.all.items) (None ∷ []) rest
    ∙ ap (λ (more : List (Option Core)). map (option_map view) c.loop-constant.all.items ++ more) (sym (none_more c.args.walk c.args.constants.now c.loop-constant.constant-index (omega arith)))
    ∙ c.loop-constant.invariant
