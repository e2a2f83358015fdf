-- Loops whose parts are walked.
use Rattle.std.proofs.Common.{◌≡◌, List, [], ap, sym, ◌∙◌}
use Rattle.std.specs.Prelude.{ℕ, ◌+◌, Bool, None, Option}
use Rattle.je_base.specs.declared.span.Span.{Span}
use Rattle.je_core.specs.Core.{Core, CoreStmt}
use Rattle.je_ast.specs.declared.name.Identifier.{Identifier}
use Rattle.je_ast.specs.Spans.{span_of}
use Rattle.je_ast.specs.Trees.{Expression, Expressions, ForInitializer, MaybeExpression, Statement}
use Rattle.je_ast.specs.Types.{TypeName}
use Rattle.je_fitting.specs.Statements.{Targets, in_loop}
use Rattle.je_scopes.specs.SourceTypes.{SourceType}
use Rattle.je_typing.specs.Judged.{gives}
use Rattle.je_typing.specs.Typed.{TypedNode}
use Rattle.je_typing.proofs.Walks.{bind_gives}
use Rattle.body_types.specs.BodyTypes.{body_type}
use Rattle.body_typing.specs.FinalVariables.{Scope}
use Rattle.statement_steps.specs.Conditions.{do_loop, loop_statement}
use Rattle.body_typing.specs.Bodies.{Done, Progress, alone, behind, local_of, next_number, one, with_local, with_number}
use Rattle.body_typing.specs.Statements.{behind_if, condition_or, condition_span, for_code, for_each_judged, for_start, steps, valued, with_element, with_hidden}
use Rattle.statement_forms.specs.declared.walk.Walk.{Walk}
use Rattle.statement_forms.specs.Seen.{known_of, program_of, returning_of}
use Rattle.type_statements.specs.way.Written.{a_do_while, a_for, a_for_each, a_while, statement_by}
use Rattle.type_statements.proofs.Forms.{stands_alone}

module _ (w : Walk) (j inner : Targets) (label : Option Identifier) (s : Scope) (pr : Progress) (word : Span) (inside : inner ≡ in_loop j) where
  pub while_is : (c : Expression) (at : Span) (t : TypedNode) (p : Progress) (b : Statement) (d whole : Done) (u : Scope) (nodes : List Core) (body code : CoreStmt) →
      valued (program_of w) (known_of w) (returning_of w) s c ≡ gives t → p ≡ behind (program_of w) s c pr → at ≡ span_of c →
      statement_by w inner None s p b ≡ gives d → u ≡ s → nodes ≡ [] → body ≡ alone d → loop_statement word at t nodes body ≡ gives code →
      whole ≡ one code u d.progress → statement_by w j label s pr (a_while word c b) ≡ gives whole
  while_is c at t p b d whole u nodes body code asked met written e l n a g f =
      bind_gives (valued (program_of w) (known_of w) (returning_of w) s c) _ t asked
      ∙ bind_gives (statement_by w (in_loop j) None s (behind (program_of w) s c pr) b) _ d
      ((λ i. statement_by w (sym inside i) None s (sym met i) b) ∙ e)
      ∙ bind_gives (loop_statement word (span_of c) t [] (alone d)) _ code ((λ i. loop_statement word (sym written i) t (sym n i) (sym a i)) ∙ g)
      ∙ stands_alone code s u d.progress whole l f

  pub do_while_is : (b : Statement) (c : Expression) (at : Span) (t : TypedNode) (p : Progress) (d whole : Done) (u : Scope) (body code : CoreStmt) →
      statement_by w inner None s pr b ≡ gives d → u ≡ s → valued (program_of w) (known_of w) (returning_of w) u c ≡ gives t →
      p ≡ behind (program_of w) u c d.progress → at ≡ span_of c → body ≡ alone d → do_loop word at body t ≡ gives code → whole ≡ one code u p →
      statement_by w j label s pr (a_do_while word b c) ≡ gives whole
  do_while_is b c at t p d whole u body code e l asked met written a g f =
      bind_gives (statement_by w (in_loop j) None s pr b) _ d (ap (λ (k : Targets). statement_by w k None s pr b) (sym inside) ∙ e)
      ∙ bind_gives (valued (program_of w) (known_of w) (returning_of w) s c) _ t
      (ap (λ (x : Scope). valued (program_of w) (known_of w) (returning_of w) x c) (sym l) ∙ asked)
      ∙ bind_gives (do_loop word (span_of c) (alone d) t) _ code ((λ i. do_loop word (sym written i) (sym a i) t) ∙ g)
      ∙ ap (λ (q : Progress). gives (one code s q)) (ap (λ (x : Scope). behind (program_of w) x c d.progress) (sym l) ∙ sym met)
      ∙ stands_alone code s u p whole l f

  pub for_is : (start : ForInitializer) (c : MaybeExpression) (es : Expressions) (b : Statement) (first d whole : Done) (t : TypedNode) (p q : Progress)
      (nodes : List Core) (at : Span) (u : Scope) (body turn code : CoreStmt) →
      for_start (program_of w) (known_of w) (returning_of w) s pr start ≡ gives first →
      condition_or (program_of w) (known_of w) (returning_of w) first.scope word c ≡ gives t →
      p ≡ behind_if (program_of w) (known_of w) (returning_of w) first.scope c first.progress →
      steps (program_of w) (known_of w) (returning_of w) first.scope p es ≡ gives (record { items = nodes; progress = q }) →
      statement_by w inner None first.scope q b ≡ gives d → u ≡ s → at ≡ condition_span (program_of w) (known_of w) (returning_of w) word c → body ≡ alone d →
      loop_statement word at t nodes body ≡ gives turn → code ≡ for_code (program_of w) (known_of w) (returning_of w) label word first turn →
      whole ≡ one code u d.progress → statement_by w j label s pr (a_for word start c es b) ≡ gives whole
  for_is start c es b first d whole t p q nodes at u body turn code begun asked met stepped e l written a g k f =
      bind_gives (for_start (program_of w) (known_of w) (returning_of w) s pr start) _ first begun
      ∙ bind_gives (condition_or (program_of w) (known_of w) (returning_of w) first.scope word c) _ t asked
      ∙ bind_gives (steps (program_of w) (known_of w) (returning_of w) first.scope
      (behind_if (program_of w) (known_of w) (returning_of w) first.scope c first.progress) es) _ (record { items = nodes; progress = q })
      (ap (λ (x : Progress). steps (program_of w) (known_of w) (returning_of w) first.scope x es) (sym met) ∙ stepped)
      ∙ bind_gives (statement_by w (in_loop j) None first.scope q b) _ d (ap (λ (x : Targets). statement_by w x None first.scope q b) (sym inside) ∙ e)
      ∙ bind_gives (loop_statement word (condition_span (program_of w) (known_of w) (returning_of w) word c) t nodes (alone d)) _ turn
      ((λ i. loop_statement word (sym written i) t nodes (sym a i)) ∙ g)
      ∙ ap (λ (x : CoreStmt). gives (one x s d.progress)) (sym k)
      ∙ stands_alone code s u d.progress whole l f

-- the body of a `for` over an array, at a place that is seen as it is
pub element_place : (w : Walk) (j inner : Targets) (s : Scope) (pr : Progress) (is_final : Bool) (id : Identifier) (e : Expression) (b : Statement) (of : SourceType)
    (n : ℕ) (array : TypedNode) (p q : Progress) (x : Scope) → n ≡ next_number pr → p ≡ behind (program_of w) s e pr →
    x ≡ with_local is_final (local_of id.name of is_final (n + 2) None) s →
    q ≡ with_number (program_of w).heads id.name of is_final id.span (with_hidden (program_of w) (known_of w) (returning_of w) (span_of e) array p) →
    inner ≡ in_loop j →
    statement_by w (in_loop j) None (with_element (program_of w) (known_of w) (returning_of w) s pr is_final of id)
    (with_number (program_of w).heads id.name of is_final id.span
    (with_hidden (program_of w) (known_of w) (returning_of w) (span_of e) array (behind (program_of w) s e pr))) b
    ≡ statement_by w inner None x q b
element_place w j inner s pr is_final id e b of n array p q x number met there so_far inside =
    (λ i. statement_by w (sym inside i) None (with_local is_final (local_of id.name of is_final (sym number i + 2) None) s)
    (with_number (program_of w).heads id.name of is_final id.span
    (with_hidden (program_of w) (known_of w) (returning_of w) (span_of e) array (sym met i))) b)
    ∙ (λ i. statement_by w inner None (sym there i) (sym so_far i) b)

pub for_each_is : (w : Walk) (j inner : Targets) (label : Option Identifier) (s : Scope) (pr : Progress) (word : Span) → inner ≡ in_loop j →
    (is_final : Bool) (t : TypeName) (id : Identifier) (e : Expression) (b : Statement) (of : SourceType) (n : ℕ) (array : TypedNode)
    (p q : Progress) (x u : Scope) (d whole : Done) (body code : CoreStmt) →
    body_type (program_of w) s.place.here t ≡ gives of → n ≡ next_number pr → valued (program_of w) (known_of w) (returning_of w) s e ≡ gives array →
    p ≡ behind (program_of w) s e pr → x ≡ with_local is_final (local_of id.name of is_final (n + 2) None) s →
    q ≡ with_number (program_of w).heads id.name of is_final id.span (with_hidden (program_of w) (known_of w) (returning_of w) (span_of e) array p) →
    statement_by w inner None x q b ≡ gives d → u ≡ s → body ≡ alone d →
    for_each_judged (program_of w) (known_of w) (returning_of w) u label word e array n of id body ≡ gives code → whole ≡ one code u d.progress →
    statement_by w j label s pr (a_for_each word is_final t id e b) ≡ gives whole
for_each_is w j inner label s pr word inside is_final t id e b of n array p q x u d whole body code typed number asked met there so_far walked l a g f =
    bind_gives (body_type (program_of w) s.place.here t) _ of typed
    ∙ bind_gives (valued (program_of w) (known_of w) (returning_of w) s e) _ array asked
    ∙ bind_gives (statement_by w (in_loop j) None (with_element (program_of w) (known_of w) (returning_of w) s pr is_final of id)
    (with_number (program_of w).heads id.name of is_final id.span
    (with_hidden (program_of w) (known_of w) (returning_of w) (span_of e) array (behind (program_of w) s e pr))) b) _ d
    (element_place w j inner s pr is_final id e b of n array p q x number met there so_far inside ∙ walked)
    ∙ bind_gives (for_each_judged (program_of w) (known_of w) (returning_of w) s label word e array (next_number pr) of id (alone d)) _ code
    ((λ i. for_each_judged (program_of w) (known_of w) (returning_of w) (sym l i) label word e array (sym number i) of id (sym a i)) ∙ g)
    ∙ stands_alone code s u d.progress whole l f
