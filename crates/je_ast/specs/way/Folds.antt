-- The folds of the parts that stand in lists of the trees. Contracts see these parts open, by the views of their parts.
use Rattle.je_ast.specs.declared.stmt.Label.{Label, fold-Label}
use Rattle.je_ast.specs.declared.stmt.Block.{Block, fold-Block}
use Rattle.je_ast.specs.declared.stmt.Catch.{Catch, fold-Catch}
use Rattle.je_ast.specs.declared.stmt.Group.{Group, fold-Group}
use Rattle.je_ast.specs.declared.stmt.Var.{Var, fold-Var}
use Rattle.je_ast.specs.Trees.{Expression, Statement, ForInitializer, Member, ConstructorInvocation, Declaration}
use Rattle.je_ast.specs.Parts.{BlockPart, VariablePart, LabelPart, GroupPart, CatchPart}
use Rattle.je_ast.specs.View.{same, layer, statement_layer, for_initializer_layer, label_layer, block_layer, variable_layer, group_layer, catch_layer, member_layer, constructor_invocation_layer, declaration_layer}

unfoldable pub label_fold : Label → LabelPart
label_fold x = fold-Label ConstructorInvocation Declaration Member Expression ForInitializer LabelPart Statement BlockPart CatchPart GroupPart VariablePart (constructor_invocation_layer same) (declaration_layer same) (member_layer same) (layer same) (for_initializer_layer same) (label_layer (λ e. e)) (statement_layer same) (block_layer same) (catch_layer same) (group_layer same) (variable_layer same) x

unfoldable pub block_fold : Block → BlockPart
block_fold x = fold-Block ConstructorInvocation Declaration Member Expression ForInitializer LabelPart Statement BlockPart CatchPart GroupPart VariablePart (constructor_invocation_layer same) (declaration_layer same) (member_layer same) (layer same) (for_initializer_layer same) (label_layer (λ e. e)) (statement_layer same) (block_layer same) (catch_layer same) (group_layer same) (variable_layer same) x

unfoldable pub catch_fold : Catch → CatchPart
catch_fold x = fold-Catch ConstructorInvocation Declaration Member Expression ForInitializer LabelPart Statement BlockPart CatchPart GroupPart VariablePart (constructor_invocation_layer same) (declaration_layer same) (member_layer same) (layer same) (for_initializer_layer same) (label_layer (λ e. e)) (statement_layer same) (block_layer same) (catch_layer same) (group_layer same) (variable_layer same) x

unfoldable pub group_fold : Group → GroupPart
group_fold x = fold-Group ConstructorInvocation Declaration Member Expression ForInitializer LabelPart Statement BlockPart CatchPart GroupPart VariablePart (constructor_invocation_layer same) (declaration_layer same) (member_layer same) (layer same) (for_initializer_layer same) (label_layer (λ e. e)) (statement_layer same) (block_layer same) (catch_layer same) (group_layer same) (variable_layer same) x

unfoldable pub variable_fold : Var → VariablePart
variable_fold x = fold-Var ConstructorInvocation Declaration Member Expression ForInitializer LabelPart Statement BlockPart CatchPart GroupPart VariablePart (constructor_invocation_layer same) (declaration_layer same) (member_layer same) (layer same) (for_initializer_layer same) (label_layer (λ e. e)) (statement_layer same) (block_layer same) (catch_layer same) (group_layer same) (variable_layer same) x
