use Rattle.std.proofs.Common.{◌≡◌, List, map, ap, sym, ◌∙◌, subst}
use Rattle.std.specs.Prelude.{IfOk}
use Rattle.je_scopes.specs.SourceTypes.{SourceType, of_class}
use Rattle.name_types.specs.declared.types.SrcTy.{SrcTy}
use Rattle.name_types.specs.View.{all_shown, shown}
use Rattle.source_types.specs.Supertypes.{directly_above}
use Rattle.source_subtypes.specs.View.{heads_of}
use Rattle.source_subtypes.proofs.Equal.{plain-shape, made-shape, variable-shape}
use Rattle.body_places.proofs.above.above_base.Goals as goal

pub returns-in-Plain : goal.returns-in-Plain
returns-in-Plain c = subst (λ (u : SourceType). IfOk c.above_plain.result (λ ts. map shown ts.items ≡ directly_above (heads_of c.args.heads.now) u))
    (sym (plain-shape c.args.base.now c.in-Plain.plain 0 c.in-Plain.is)) c.above_plain.ensures

pub returns-in-Made : goal.returns-in-Made
returns-in-Made c = subst (λ (u : SourceType). IfOk c.above_class.result (λ ts. map shown ts.items ≡ directly_above (heads_of c.args.heads.now) u))
    (ap (λ (ts : List SrcTy). of_class c.in-Made.class.0 (all_shown ts) 0) c.deref.ensures.value ∙ sym (made-shape c.args.base.now c.in-Made.class c.in-Made.types 0 c.in-Made.is))
    c.above_class.ensures

pub returns-in-Var : goal.returns-in-Var
returns-in-Var c = subst (λ (u : SourceType). IfOk c.above_variable.result (λ ts. map shown ts.items ≡ directly_above (heads_of c.args.heads.now) u))
    (sym (variable-shape c.args.base.now c.in-Var.class c.in-Var.at 0 c.in-Var.is)) c.above_variable.ensures
