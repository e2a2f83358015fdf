use Rattle.std.proofs.Common.{List, ◌++◌, subst, ◌∙◌, ap}
use Rattle.std.specs.List.{Contains, list_any}
use Rattle.std.proofs.lemmas.Result.{on_ok_weaker}
use Rattle.je_core.specs.declared.types.ClassId.{ClassId}
use Rattle.je_ast.specs.Types.{type_view}
use Rattle.je_scopes.specs.Faults.{Fault, cycle, of_type, where_so}
use Rattle.je_scopes.specs.Scope.{header}
use Rattle.je_base.specs.declared.span.Span.{Span}
use Rattle.name_lookup.specs.View.{known_of, numbers}
use Rattle.name_faults.specs.View.{Adds}
use Rattle.name_faults.proofs.Left.{adds_both}
use Rattle.type_faults.specs.Program.{source_in}
use Rattle.name_judge.proofs.Back.{head_depends, head_faults, leads}
use Rattle.name_judge.proofs.heads.judge_head.Goals as goal

pub lead_back-requires-clause-named : goal.lead_back-requires-clause-named
lead_back-requires-clause-named c = λ d q. head_depends (source_in c.args.program.now) c.args.class.0 (known_of c.args.program.now.headers.now) (type_view c.args.head.now) (numbers c.in_ok-meant.meant.named.items)
    c.args.program.now.settled c.requires.named c.in_ok-meant.ensures.named d (subst (λ (cs : List ClassId). Contains (numbers cs) d) c.as_slice.ensures.value q)

pub returns : goal.returns
returns c =
    on_ok_weaker c.judge_type.result
    (λ t. subst (λ (fs : List Fault). Adds c.args.faults.now c.judge_type.new.faults fs)
    (ap (λ (s : Span). where_so c.in_ok-back.back (cycle s) ++ of_type (source_in c.args.program.now) c.args.class.0 header (type_view c.args.head.now)) c.name_span.ensures
    ∙ head_faults (source_in c.args.program.now) c.args.class.0 (known_of c.args.program.now.headers.now) (type_view c.args.head.now) (numbers c.in_ok-meant.meant.named.items) c.in_ok-back.back
    c.args.program.now.settled c.in_ok-meant.ensures.named
    (c.in_ok-back.ensures ∙ ap (λ (cs : List ClassId). list_any (leads (source_in c.args.program.now) c.args.class.0) (numbers cs)) c.as_slice.ensures.value))
    (adds_both _ _ c.add_where.ensures t))
    c.judge_type.ensures
