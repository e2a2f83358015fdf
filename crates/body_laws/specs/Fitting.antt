-- When what a body comes to fits.
use Rattle.std.specs.Prelude.{◌≡◌, ℕ, ◌<◌, ◌≤◌, true, List, [], ◌∷◌, length, Some, slice_get}
use Rattle.std.specs.List.{All}
use Rattle.je_core.specs.declared.types.Ty.{Ty}
use Rattle.je_core.specs.Core.{CoreProgram, CoreStmt}
use Rattle.je_fitting.specs.Expressions.{Body}
use Rattle.je_fitting.specs.Statements.{StatementFits, Targets}
use Rattle.je_fitting.specs.Types.{is_variable_type}
use Rattle.plain_programs.specs.Nodes.{every_expression}
use Rattle.name_typing.specs.Program.{Program}
use Rattle.body_typing.specs.Bodies.{Done}
use Rattle.body_typing.specs.Expressions.{Known}
use Rattle.body_typing.specs.FinalVariables.{Scope}
use Rattle.typing_laws.specs.Fitting.{stands_once, with_texts}
use Rattle.body_laws.specs.Bodies.{IsInBody}

module _ (program : CoreProgram) (body : Body) where
  -- the statement fits, whatever constant strings the program will have, among which its own stand once
  abbrev pub StatementFitsAs : Targets → CoreStmt → Type 0
  StatementFitsAs j c = (texts : List (List ℕ)) → every_expression (stands_once texts) c ≡ true →
      StatementFits (with_texts program texts) body j c

  pub data EachFits : Targets → List CoreStmt → Type 0 where
    none_fits : {j : Targets} → EachFits j []
    one_fits : {j : Targets} {c : CoreStmt} {cs : List CoreStmt} → StatementFitsAs j c → EachFits j cs →
        EachFits j (c ∷ cs)

-- the locals of a body from one number on, before another one, have types of variables (JLS 4.3)
abbrev pub AreTyped : CoreProgram → Body → ℕ → ℕ → Type 0
AreTyped program body from to = (n : ℕ) (t : Ty) → from ≤ n → n < to → slice_get body.locals n ≡ Some t →
    is_variable_type program t ≡ true

-- its code fits, its locals are there, and the scope behind it stands
pub record DoneFits (p : Program) (k : Known) (program : CoreProgram) (body : Body) (first : Scope) (j : Targets)
    (d : Done) : Type 0 where
  pub code : EachFits program body j d.code
  pub numbers : All (λ n. n < length body.locals) d.numbers
  pub scope : IsInBody p k program body first d.scope
