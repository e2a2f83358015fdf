use Rattle.std.proofs.Common.{◌≡◌, List, map, ap, ◌∙◌, subst}
use Rattle.std.specs.Prelude.{OnOk}
use Rattle.je_scopes.specs.SourceTypes.{SourceType, of_class}
use Rattle.name_types.specs.declared.types.SrcTy.{SrcTy}
use Rattle.name_types.specs.View.{all_shown, shown}
use Rattle.source_types.specs.Supertypes.{directly_above}
use Rattle.source_types.specs.way.Reaching.{with_types}
use Rattle.source_subtypes.specs.View.{heads_of}
use Rattle.source_subtypes.proofs.Climbing.{array-none, plain-flat, made-flat, variable-flat}
use Rattle.source_subtypes.proofs.above.add_above.Goals as goal

pub returns-then-here-ne0 : goal.returns-then-here-ne0
returns-then-here-ne0 c = ap (with_types (map shown c.args.met.now.items)) (array-none (heads_of c.args.heads.now) c.args.here.now c.if-here-ne0.true)

pub returns-in-Plain : goal.returns-in-Plain
returns-in-Plain c = subst (λ (u : SourceType). OnOk c.add_above_base.result (map shown c.add_above_base.new.met.items ≡ with_types (map shown c.args.met.now.items) (directly_above (heads_of c.args.heads.now) u)))
    (plain-flat c.args.here.now c.in-Plain.base c.in-Plain.is c.if-here-ne0.false) c.add_above_base.ensures

pub returns-in-Made : goal.returns-in-Made
returns-in-Made c = subst (λ (u : SourceType). OnOk c.add_supers.result (map shown c.add_supers.new.met.items ≡ with_types (map shown c.args.met.now.items) (directly_above (heads_of c.args.heads.now) u)))
    (ap (λ (ts : List SrcTy). of_class c.in-Made.class.0 (all_shown ts) 0) c.deref.ensures.value ∙ made-flat c.args.here.now c.in-Made.class c.in-Made.args c.in-Made.is c.if-here-ne0.false) c.add_supers.ensures

pub returns-in-Var : goal.returns-in-Var
returns-in-Var c = subst (λ (u : SourceType). OnOk c.add_bound.result (map shown c.add_bound.new.met.items ≡ with_types (map shown c.args.met.now.items) (directly_above (heads_of c.args.heads.now) u)))
    (variable-flat c.args.here.now c.in-Var.class c.in-Var.at c.in-Var.is c.if-here-ne0.false) c.add_bound.ensures
