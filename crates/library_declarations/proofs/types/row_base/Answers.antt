use Rattle.std.proofs.Common.{sym, ap, ◌∙◌}
use Rattle.je_core.specs.declared.types.Base.TheVariants as base
use Rattle.je_core.specs.declared.types.ClassId.{ClassId}
use Rattle.je_scopes.specs.SourceTypes.{of_class, no_source_types}
use Rattle.je_table.specs.declared.types.RowBase.{RowBase}
use Rattle.name_types.proofs.Bases.{plain_base, variable_base}
use Rattle.library_declarations.specs.Library.{array_declared}
use Rattle.library_declarations.proofs.types.row_base.Goals as goal

pub returns-in-Void : goal.returns-in-Void
returns-in-Void c = λ n. plain_base base.Void n ∙ ap (λ (k : RowBase). array_declared c.args.class.0 k n) (sym c.in-Void.is)

pub returns-in-Boolean : goal.returns-in-Boolean
returns-in-Boolean c = λ n. plain_base base.Bool n ∙ ap (λ (k : RowBase). array_declared c.args.class.0 k n) (sym c.in-Boolean.is)

pub returns-in-Char : goal.returns-in-Char
returns-in-Char c = λ n. plain_base base.Char n ∙ ap (λ (k : RowBase). array_declared c.args.class.0 k n) (sym c.in-Char.is)

pub returns-in-Int : goal.returns-in-Int
returns-in-Int c = λ n. plain_base base.Int n ∙ ap (λ (k : RowBase). array_declared c.args.class.0 k n) (sym c.in-Int.is)

pub returns-in-Long : goal.returns-in-Long
returns-in-Long c = λ n. plain_base base.Long n ∙ ap (λ (k : RowBase). array_declared c.args.class.0 k n) (sym c.in-Long.is)

pub returns-in-Class : goal.returns-in-Class
returns-in-Class c = λ n. plain_base (base.Class c.class_id.result) n
    ∙ ap (λ (k : ClassId). of_class k.0 no_source_types n) c.class_id.ensures
    ∙ ap (λ (k : RowBase). array_declared c.args.class.0 k n) (sym c.in-Class.is)

pub returns-in-Parameter : goal.returns-in-Parameter
returns-in-Parameter c = λ n. variable_base c.args.class 0 n ∙ ap (λ (k : RowBase). array_declared c.args.class.0 k n) (sym c.in-Parameter.is)
