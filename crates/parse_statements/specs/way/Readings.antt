-- The reading functions over what reads the height below, in a setting.
use Rattle.std.specs.Prelude.{ℕ, List, Option, Some, None}
use Rattle.je_base.specs.declared.span.Span.{Span}
use Rattle.je_token.specs.declared.symbol.Symbol.{Symbol}
use Rattle.je_token.specs.declared.token.Token.{Token}
use Rattle.je_ast.specs.declared.name.Identifier.{Identifier}
use Rattle.je_ast.specs.Trees.{Expressions, MaybeExpression, Statement, Statements, ForInitializer, Variables, Groups, Labels, Catches}
use Rattle.parse_laws.specs.way.Tokens.{Read, with, identifier_at}
use Rattle.parse_laws.specs.way.Below.{BlockTree}
use Rattle.parse_laws.specs.way.Lists.{VariableTree}
use Rattle.parse_laws.specs.way.Expressions.{Closed}
use Rattle.parse_laws.specs.way.Statements.{CatchTree, LabelTree, GroupTree, label_before}
use Rattle.parse_laws.specs.way.Statements as reading
use Rattle.parse_below.specs.declared.settings.Setting.{Setting}
use Rattle.parse_below.specs.way.Readings.{below_at}
use Rattle.parse_branches.specs.way.Readings.{labelled_at}

abbrev pub variable_at : Setting → List Token → Read VariableTree
variable_at s ts = reading.variable_at s.below (below_at s) ts

abbrev pub variables_at : Setting → List Token → Read Variables
variables_at s ts = reading.variables_at s.below (below_at s) ts

abbrev pub block_statements_at : Setting → List Token → Closed Statements
block_statements_at s ts = reading.block_statements_at s.below (below_at s) ts

abbrev pub block_layer : Setting → List Token → Read BlockTree
block_layer s ts = reading.block_layer s.below (below_at s) ts

abbrev pub inner_block_at : Setting → List Token → Read Statement
inner_block_at s ts = reading.inner_block_at s.below (below_at s) ts

abbrev pub break_at : Setting → Span → List Token → Read Statement
break_at s w ts = reading.break_at s.below (below_at s) w ts

abbrev pub continue_at : Setting → Span → List Token → Read Statement
continue_at s w ts = reading.continue_at s.below (below_at s) w ts

abbrev pub return_at : Setting → Span → List Token → Read Statement
return_at s w ts = reading.return_at s.below (below_at s) w ts

abbrev pub throw_at : Setting → Span → List Token → Read Statement
throw_at s w ts = reading.throw_at s.below (below_at s) w ts

abbrev pub expression_statement_at : Setting → List Token → Read Statement
expression_statement_at s ts = reading.expression_statement_at s.below (below_at s) ts

abbrev pub steps_before_at : Setting → Symbol → List Token → Read Expressions
steps_before_at s end ts = reading.steps_before_at s.below (below_at s) end ts

abbrev pub start_locals_at : Setting → List Token → Read ForInitializer
start_locals_at s ts = reading.start_locals_at s.below (below_at s) ts

abbrev pub start_at : Setting → List Token → Read ForInitializer
start_at s ts = reading.start_at s.below (below_at s) ts

abbrev pub ended_condition_at : Setting → List Token → Read MaybeExpression
ended_condition_at s ts = reading.ended_condition_at s.below (below_at s) ts

abbrev pub plain_for_at : Setting → Span → List Token → Read Statement
plain_for_at s w ts = reading.plain_for_at s.below (below_at s) w ts

abbrev pub for_each_at : Setting → Span → List Token → Read Statement
for_each_at s w ts = reading.for_each_at s.below (below_at s) w ts

abbrev pub for_at : Setting → Span → List Token → Read Statement
for_at s w ts = reading.for_at s.below (below_at s) w ts

abbrev pub switch_label_at : Setting → List Token → Read LabelTree
switch_label_at s ts = reading.switch_label_at s.below (below_at s) ts

abbrev pub labels_at : Setting → ℕ → List LabelTree → List Token → Read Labels
labels_at s n front ts = reading.labels_at s.below (below_at s) n front ts

abbrev pub group_statements_at : Setting → ℕ → List Statement → List Token → Read Statements
group_statements_at s n front ts = reading.group_statements_at s.below (below_at s) n front ts

abbrev pub group_at : Setting → List Token → Read GroupTree
group_at s ts = reading.group_at s.below (below_at s) ts

abbrev pub groups_at : Setting → ℕ → List GroupTree → List Token → Closed Groups
groups_at s n front ts = reading.groups_at s.below (below_at s) n front ts

abbrev pub switch_at : Setting → Span → List Token → Read Statement
switch_at s w ts = reading.switch_at s.below (below_at s) w ts

abbrev pub catch_at : Setting → List Token → Read CatchTree
catch_at s ts = reading.catch_at s.below (below_at s) ts

abbrev pub catches_at : Setting → ℕ → List CatchTree → Span → List Token → Catches × Span × List Token
catches_at setting n front s ts = reading.catches_at setting.below (below_at setting) n front s ts

abbrev pub finally_at : Setting → List Token → Read BlockTree
finally_at s ts = reading.finally_at s.below (below_at s) ts

abbrev pub try_at : Setting → Span → List Token → Read Statement
try_at s w ts = reading.try_at s.below (below_at s) w ts

abbrev pub statement_layer : Setting → List Token → Read Statement
statement_layer s ts = reading.statement_layer s.below (below_at s) ts

abbrev pub local_at : Setting → List Token → Read Statement
local_at s ts = reading.local_at s.below (below_at s) ts

-- a labelled statement, or an expression as a statement
abbrev pub label_or_step_at : Setting → List Token → Read Statement
label_or_step_at s ts = with (label_before ts) (λ x. labelled_at s x.0 x.1) (expression_statement_at s ts)

-- [id]
abbrev pub label_at : List Token → Option Identifier × List Token
label_at ts = with (identifier_at ts) (λ x. (Some x.0, x.1)) (None, ts)
