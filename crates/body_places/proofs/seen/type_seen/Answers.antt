use Rattle.std.proofs.Common.{◌≡◌, List, map, ap, ◌∙◌, subst}
use Rattle.std.specs.Prelude.{IfOk, Option}
use Rattle.je_scopes.specs.SourceTypes.{SourceType}
use Rattle.name_types.specs.declared.types.SrcTy.{SrcTy}
use Rattle.name_types.specs.View.{shown}
use Rattle.name_typing.specs.Fields.{only_of_class, put_in}
use Rattle.source_subtypes.specs.View.{heads_of}
use Rattle.body_places.proofs.OneList.{only_above}
use Rattle.body_places.proofs.seen.type_seen.Goals as goal

pub returns-in-Some : goal.returns-in-Some
returns-in-Some c = subst (λ (o : Option SourceType). IfOk c.put_in.result (λ t. shown t ≡ put_in o (shown c.args.field.now.ty)))
    (c.in-Some.ensures ∙ ap (λ (ts : List SrcTy). only_of_class c.args.class.0 (map shown ts)) c.deref.ensures.value
    ∙ only_above (heads_of c.args.heads.now) (shown c.args.ty.now) (map shown c.in_ok-above.above.items) c.args.class.0 c.in_ok-above.ensures)
    c.put_in.ensures

pub returns : goal.returns
returns c = subst (λ (o : Option SourceType). IfOk c.copied.result (λ t. shown t ≡ put_in o (shown c.args.field.now.ty)))
    (c.in-None.ensures ∙ ap (λ (ts : List SrcTy). only_of_class c.args.class.0 (map shown ts)) c.deref.ensures.value
    ∙ only_above (heads_of c.args.heads.now) (shown c.args.ty.now) (map shown c.in_ok-above.above.items) c.args.class.0 c.in_ok-above.ensures)
    c.copied.ensures
