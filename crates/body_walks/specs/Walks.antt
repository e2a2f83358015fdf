-- What contracts see of what bodies are judged by.
use Rattle.name_typing.specs.Program.{Program}
use Rattle.class_heads.specs.View.{classes_of}
use Rattle.source_subtypes.specs.View.{heads_of}
use Rattle.call_steps.specs.TableView.{HasMethods}
use Rattle.body_typing.specs.Expressions.{Known}
use Rattle.body_places.specs.View.{program_seen}
use Rattle.core_making.specs.Known.{known_seen}
use Rattle.body_walks.specs.declared.bodies.Bodies.{Bodies}

abbrev pub program_in : Bodies → Program
program_in b = program_seen b.calls.program

abbrev pub known_in : Bodies → Known
known_in b = known_seen (program_in b) b.known

-- its table holds of each class the methods that the class has
abbrev pub HasAllMethods : Bodies → Type 0
HasAllMethods b = HasMethods (heads_of b.calls.program.heads.now) (classes_of b.calls.program.classes) b.calls.methods.now
