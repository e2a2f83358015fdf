-- What the functions give, without where it lies in memory.
use Rattle.std.specs.Prelude.{Option, option_map}
use Rattle.je_grammar.specs.Place as grammar
use Rattle.parse_laws.specs.way.Place as reading
use Rattle.parse_place.specs.declared.contexts.Context.{Context}
use Rattle.parse_place.specs.declared.contexts.Context.TheVariants as context
use Rattle.parse_place.specs.declared.contexts.Step.{Step}

abbrev pub context_view : Context → grammar.Context
context_view context.Imports = grammar.imports
context_view context.Declarations = grammar.declarations
context_view context.Members = grammar.members
context_view context.ConstructorBody = grammar.constructor_body
context_view context.Statements = grammar.statements

abbrev pub seen_step : Option Step → reading.Step
seen_step o = option_map (λ y. (context_view y.context, y.rest.now)) o
