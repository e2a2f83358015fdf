use Rattle.std.proofs.Common.{◌≡◌, List, ap, sym, ◌∙◌, subst}
use Rattle.std.specs.Prelude.{IfOk, Some}
use Rattle.je_scopes.specs.SourceTypes.{SourceType, of_class}
use Rattle.name_types.specs.declared.types.SrcTy.{SrcTy}
use Rattle.name_types.specs.View.{all_shown, shown}
use Rattle.name_typing.specs.Fields.{put_in}
use Rattle.source_subtypes.proofs.Equal.{plain-shape, made-shape}
use Rattle.body_places.proofs.seen.put_in_base.Goals as goal

pub returns-in-Plain : goal.returns-in-Plain
returns-in-Plain c = subst (λ (u : SourceType). IfOk c.put_in_plain.result (λ t. shown t ≡ put_in (Some u) (shown c.args.ty.now)))
    (sym (plain-shape c.args.of.now c.in-Plain.plain c.args.dims c.in-Plain.is)) c.put_in_plain.ensures

pub returns-in-Made : goal.returns-in-Made
returns-in-Made c = subst (λ (u : SourceType). IfOk c.substituted.result (λ t. shown t ≡ put_in (Some u) (shown c.args.ty.now)))
    (ap (λ (ts : List SrcTy). of_class c.in-Made.class.0 (all_shown ts) c.args.dims) c.deref.ensures.value
    ∙ sym (made-shape c.args.of.now c.in-Made.class c.in-Made.types c.args.dims c.in-Made.is))
    c.substituted.ensures
