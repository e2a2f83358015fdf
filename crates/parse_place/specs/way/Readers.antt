-- What is called reads type declarations.
use Rattle.std.specs.Prelude.{◌≡◌, List, Option, Result, IfOk}
use denote.Ref.{Bor}
use Rattle.je_base.specs.declared.memory.Memory.{Memory}
use Rattle.je_token.specs.declared.token.Token.{Token}
use Rattle.je_ast.specs.declared.decl.Decl.{Decl}
use Rattle.je_ast.specs.View.{declaration_view}
use Rattle.parse_types.specs.declared.found.Found.{Found}
use Rattle.parse_types.specs.way.Views.{seen}
use Rattle.parse_laws.specs.way.Knot.{declaration_at}
use Rattle.parse_below.specs.declared.settings.Setting.{Setting}

-- a type declaration
abbrev pub ReadsDeclarations : Setting → (Bor (List Token) → Result (Option (Found Decl)) Memory → Type 0) → Type 0
ReadsDeclarations s post = (tokens : Bor (List Token)) (r : Result (Option (Found Decl)) Memory) → post tokens r →
    IfOk r (λ o. seen declaration_view o ≡ declaration_at s.names.now s.texts.now s.below tokens.now)
