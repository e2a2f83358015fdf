use Rattle.std.proofs.Common.{List, map, sym, ap, ◌∙◌}
use Rattle.je_scopes.specs.SourceTypes.{SourceType, SourceTypes, of_class, source_types}
use Rattle.name_types.specs.declared.types.SrcTy.{SrcTy}
use Rattle.name_types.specs.View.{all_shown, shown}
use Rattle.name_types.proofs.Bases.{plain_base, made_base}
use Rattle.name_types.proofs.Views.{rolled_is}
use Rattle.source_types.specs.Substitution.{substituted}
use Rattle.source_subtypes.proofs.Equal.{plain-shape, made-shape, variable-shape}
use Rattle.source_subtypes.proofs.Putting.{plain-stays, all-put}
use Rattle.source_subtypes.proofs.substitution.+substitution.Goals as goal

pub substituted_base-returns-in-Plain : goal.substituted_base-returns-in-Plain
substituted_base-returns-in-Plain t c = rolled_is _ ∙ plain_base c.in-Plain.plain c.args.dims
    ∙ plain-stays c.args.arguments.class.0 (all_shown c.args.arguments.types.now) c.in-Plain.plain c.args.dims
    ∙ ap (substituted c.args.arguments.class.0 (all_shown c.args.arguments.types.now)) (sym (plain-shape c.args.base.now c.in-Plain.plain c.args.dims c.in-Plain.is))

pub substituted_base-returns-in_ok-all_substituted-in-Made : goal.substituted_base-returns-in_ok-all_substituted-in-Made
substituted_base-returns-in_ok-all_substituted-in-Made t c = rolled_is _ ∙ made_base c.in-Made.of c.in_ok-all_substituted-in-Made.field-0 c.args.dims
    ∙ ap (λ (ts : List SourceType). of_class c.in-Made.of.0 (source_types ts) c.args.dims)
    (c.in_ok-all_substituted-in-Made.ensures ∙ ap (λ (ts : List SrcTy). map (substituted c.args.arguments.class.0 (all_shown c.args.arguments.types.now)) (map shown ts)) c.deref.ensures.value)
    ∙ ap (λ (us : SourceTypes). of_class c.in-Made.of.0 us c.args.dims) (all-put c.args.arguments.class.0 (all_shown c.args.arguments.types.now) (map shown c.in-Made.types.items))
    ∙ ap (substituted c.args.arguments.class.0 (all_shown c.args.arguments.types.now)) (sym (made-shape c.args.base.now c.in-Made.of c.in-Made.types c.args.dims c.in-Made.is))

pub substituted_base-returns-in_ok-put-in-Var : goal.substituted_base-returns-in_ok-put-in-Var
substituted_base-returns-in_ok-put-in-Var t c = c.in_ok-put-in-Var.ensures
    ∙ ap (substituted c.args.arguments.class.0 (all_shown c.args.arguments.types.now)) (sym (variable-shape c.args.base.now c.in-Var.of c.in-Var.at c.args.dims c.in-Var.is))
