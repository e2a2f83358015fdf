use Rattle.std.proofs.Common.{◌≡◌, ℕ, drop, length, map, ap, sym, ◌∙◌}
use Rattle.declarations.specs.View.{field_shown}
use Rattle.name_typing.specs.Fields.{fields_of}
use Rattle.member_forms.specs.Bodies.{program_in}
use Rattle.class_typing.specs.Programs.{classes, with_hidden}
use Rattle.type_decl.specs.way.Seen.{captured_of}
use Rattle.type_decl.proofs.Making.{behind_hidden, written_behind}
use Rattle.type_decl.proofs.code_walk.written_fields.Goals as goal

pub returns : goal.returns
returns c =
    behind_hidden field_shown c.fields_of-fields.result.now c.count_of.result c.min-hidden.result c.min-hidden.ensures
    ∙ ap (drop c.count_of.result) c.fields_of-fields.ensures
    ∙ ap (λ ds. drop c.count_of.result (fields_of ds c.args.class.0)) c.requires.classes_are
    ∙ ap (λ (n : ℕ). drop n (fields_of (with_hidden (program_in c.args.whole.now.walk.bodies).source (captured_of c.args.whole.now.walk) 0 (classes (program_in c.args.whole.now.walk.bodies).source)) c.args.class.0)) (c.count_of.ensures ∙ ap (λ f. f c.args.class.0) c.requires.hidden_is)
    ∙ written_behind (program_in c.args.whole.now.walk.bodies).source (captured_of c.args.whole.now.walk) (program_in c.args.whole.now.walk.bodies) c.args.class.0
    (classes (program_in c.args.whole.now.walk.bodies).source) c.args.class.0
