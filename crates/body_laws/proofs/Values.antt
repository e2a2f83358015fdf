-- Expressions in a body, whose values fit, where what is met in them is there.
use Rattle.std.proofs.Common.{◌≡◌, ℕ, ◌≤◌, List, Option}
use Rattle.std.specs.Prelude.{Bool, true, false}
use Rattle.je_base.specs.declared.span.Span.{Span}
use Rattle.je_core.specs.Core.{Core, CoreProgram}
use Rattle.je_ast.specs.Trees.{Expression}
use Rattle.je_fitting.specs.Expressions.{Body, Fits}
use Rattle.je_fitting.specs.Statements as core
use Rattle.je_fitting.specs.Statements.{Targets}
use Rattle.je_scopes.specs.SourceTypes.{SourceType}
use Rattle.source_types.specs.Subtypes.{dims_of}
use Rattle.plain_programs.specs.Nodes.{every}
use Rattle.je_typing.specs.Conversions.{assigned}
use Rattle.je_typing.specs.Judged.{Judged, faulty, gives}
use Rattle.je_typing.specs.Typed.{TypedNode, is_void}
use Rattle.name_typing.specs.Program.{Constant, LocalVariable, Program}
use Rattle.body_typing.specs.Bodies.{Met, Progress, behind, met_in_expression, performed, with_local}
use Rattle.body_typing.specs.Expressions.{Known, expression, initial, read, value}
use Rattle.body_typing.specs.FinalVariables.{Scope}
use Rattle.typing_laws.specs.Fitting.{Gives, stands_once, with_texts}
use Rattle.typing_laws.specs.Passing.{PassesAs}
use Rattle.typing_laws.proofs.Assigned.{assigned_values_pass}
use Rattle.fitting_laws.specs.Methods.{HasMethods}
use Rattle.fitting_laws.specs.Represented.{Represents}
use Rattle.fitting_laws.specs.Sound.{IsSound}
use Rattle.fitting_laws.specs.Values.{IsValue}
use Rattle.fitting_laws.proofs.Sound.{type-dims}
use Rattle.fitting_laws.proofs.Walk.{expressions_fit, used-value}
use Rattle.body_laws.specs.Bodies.{BodyStands, IsAmong, IsInBody, but_constant, same}
use Rattle.body_laws.specs.Fitting.{StatementFitsAs}
use Rattle.body_laws.specs.Written.{IsWritten}
use Rattle.body_laws.proofs.Grows.{Knows, met-there}
use Rattle.body_laws.proofs.Mentions.{expression-stands}

-- what holds of what is given where something else is known
pub under : {A : Type 0} (H : Type 0) (P : A → Type 0) (j : Judged A) → (H → Gives P j) → Gives (λ a. H → P a) j
under H P (gives a) f = f
under H P (faulty fault) f = tt

pub performed-fits : (q : CoreProgram) (body : Body) (j : Targets) (start : Span) (n : Core) → ((texts : List (List ℕ)) → every (stands_once texts) n ≡ true → Fits (with_texts q texts) body n) → StatementFitsAs q body j (performed start n)
performed-fits q body j start n f texts h = core.perform (f texts h)

module _ (p : Program) (k : Known) (q : CoreProgram) (body : Body) (first : Scope) (met : List Met) (represents : Represents p q) (has : HasMethods p q) (known : BodyStands p k q body first met) where
  abbrev pub InBody : Scope → Type 0
  InBody s = IsInBody p k q body first s

  -- a value that is used
  abbrev pub Used : TypedNode → Type 0
  Used t = IsValue q body p.heads t × (is_void t.type ≡ false)

  pub read-fits : (s : Scope) (e : Expression) (pr : Progress) → IsWritten e → Gives (λ t. Knows body met (behind p s e pr) × InBody s → IsValue q body p.heads t) (expression p k s read e)
  read-fits s e pr lengths = under (Knows body met (behind p s e pr) × InBody s) (IsValue q body p.heads) (expression p k s read e)
      (λ h. expressions_fit p k q body s represents has h.1.stands read e tt (expression-stands p k q body first met known s s e same h.1 lengths (met-there (met_in_expression p s e) pr h.0)))

  pub valued-fits : (s : Scope) (e : Expression) (pr : Progress) → IsWritten e → Gives (λ t. Knows body met (behind p s e pr) × InBody s → Used t) (value (expression p k s read e))
  valued-fits s e pr lengths = under (Knows body met (behind p s e pr) × InBody s) Used (value (expression p k s read e))
      (λ h. used-value p k q body s represents has h.1.stands (expression p k s read e)
      (expressions_fit p k q body s represents has h.1.stands read e tt (expression-stands p k q body first met known s s e same h.1 lengths (met-there (met_in_expression p s e) pr h.0))))

  -- the initializer of a local, which is in scope in it, and may be a constant behind it
  abbrev pub Begins : Bool → LocalVariable → Scope → Expression → SourceType → Type 0
  Begins is_given v s e t = (c : Option Constant) × IsAmong (met_in_expression p (with_local is_given (record v { constant = c }) s) e) met × InBody (with_local is_given v s) × IsSound q p.heads 255 t

  pub initial-fits : (s : Scope) (e : Expression) (t : SourceType) (is_given : Bool) (v : LocalVariable) → IsWritten e → Gives (λ u. Begins is_given v s e t → Used u) (value (expression p k (with_local is_given v s) (initial t) e))
  initial-fits s e t is_given v lengths = under (Begins is_given v s e t) Used (value (expression p k (with_local is_given v s) (initial t) e))
      (λ h. used-value p k q body (with_local is_given v s) represents has h.2.stands (expression p k (with_local is_given v s) (initial t) e)
      (expressions_fit p k q body (with_local is_given v s) represents has h.2.stands (initial t) e h.3 (expression-stands p k q body first met known (with_local is_given (record v { constant = h.0 }) s) (with_local is_given v s) e (but_constant s is_given v h.0) h.2 lengths h.1)))

  pub passes : (t : SourceType) (span : Span) (from : TypedNode) → Gives (λ n. IsValue q body p.heads from × (dims_of t ≤ 255) → PassesAs q body p.heads t n) (assigned p.heads t span from)
  passes t span from = under (IsValue q body p.heads from × (dims_of t ≤ 255)) (PassesAs q body p.heads t) (assigned p.heads t span from)
      (λ h. assigned_values_pass q body p.heads t span from represents.heads (type-dims q p.heads h.0.type) h.1 h.0.fits)
